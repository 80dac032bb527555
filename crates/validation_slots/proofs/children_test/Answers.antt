-- `validation_slots::children_test` meets its contract. Assumes nothing.
use mathlib.Core.Path.{sym, ◌∙◌}
use Prim.Native.Nat.{◌+◌, ◌^◌, ◌<◌}
use native.Mathlib.Omega.{arith}
use borrow.Author.Rules.{rules}
use Rattle.children.specs.Marks.{slot_count, mark_count}
use Rattle.children.proofs.Marks.{next-smaller}
use Rattle.verdict.proofs.Steps.{below_none, below_more, thrown_early}
use Rattle.validation_slots.proofs.Children.{child-slot, turn_on, turn_at, turn_end, none_above, some-above}
use Rattle.validation_slots.proofs.children_test.Goals as goal

pub loop-next-init : goal.loop-next-init
loop-next-init c = turn_on slot_count _ _ _ _ 0 (omega arith) (below_none _) c.next-next.ensures

pub child_test-requires : goal.child_test-requires
child_test-requires c = (c.loop-next.invariant.1 c.in-Some.k c.in-Some.is).0

pub returns-in_err-child_test : goal.returns-in_err-child_test
returns-in_err-child_test c =
    let l = c.loop-next in
    let k = c.in-Some.k in
    let a = l.invariant.1 k c.in-Some.is in
    thrown_early _ k mark_count c.from_residual.ensures.1 (let h = a.0 in omega arith) (turn_at slot_count _ _ _ _ k l.invariant c.in-Some.is)
    (child-slot slot_count _ _ _ _ k a.0 a.1 ∙ sym c.child_test.ensures ∙ c.in_err-child_test.was)

pub overflow_add-k : goal.overflow_add-k
overflow_add-k c = let h = (c.loop-next.invariant.1 c.in-Some.k c.in-Some.is).0 in omega arith

pub loop-next-smaller : goal.loop-next-smaller
loop-next-smaller c = next-smaller slot_count _ _ (c.loop-next.invariant.1 c.in-Some.k c.in-Some.is).0 c.in-Some.is c.next-next-in-Some.ensures

pub loop-next-preserved : goal.loop-next-preserved
loop-next-preserved c =
    let l = c.loop-next in
    let k = c.in-Some.k in
    let a = l.invariant.1 k c.in-Some.is in
    turn_on slot_count _ _ _ _ (k + 1) (let h = a.0 in omega arith)
    (below_more _ k (turn_at slot_count _ _ _ _ k l.invariant c.in-Some.is) (child-slot slot_count _ _ _ _ k a.0 a.1 ∙ sym c.child_test.ensures ∙ c.in_ok-child_test.was))
    c.next-next-in-Some.ensures

pub returns-then-has_mark_above : goal.returns-then-has_mark_above
returns-then-has_mark_above c =
    let word : c.args.m < 2 ^ mark_count = search rules in
    sym (some-above slot_count _ _ _ _ (omega arith) word (sym c.has_mark_above.ensures ∙ c.if-has_mark_above.true) (turn_end slot_count _ _ _ _ c.loop-next.invariant c.in_default.is))

pub returns : goal.returns
returns c =
    sym (none_above slot_count _ _ _ _ (sym c.has_mark_above.ensures ∙ c.if-has_mark_above.false) (turn_end slot_count _ _ _ _ c.loop-next.invariant c.in_default.is))
