-- `validation_trees::detect_invalid_subtree` meets its contract. Assumes nothing.
use mathlib.Core.Path.{refl, sym, ap, ◌∙◌}
use Prim.Native.Nat.{◌+◌}
use native.Mathlib.Omega.{arith}
use Rattle.children.specs.Marks.{slot_count}
use Rattle.children.proofs.Marks.{next-smaller}
use Rattle.forest.specs.Search.{each}
use Rattle.error.proofs.Exits.{passed_on}
use Rattle.validation_trees.specs.Summary.{told}
use Rattle.validation_trees.proofs.Searches.{told_seen, is_seen, each-one, each_flaw, turn_on, turn_at, turn_end, entered, mark_in}
use Rattle.validation_trees.proofs.+detect_invalid_subtree.Goals as goal

pub loop-next-init : goal.loop-next-init
unfolding each
loop-next-init t c =
    turn_on _ _ _ slot_count _ 0 _ (mark_in c.args.l.now c.args.slot c.requires) (omega arith) refl c.next-next.ensures

pub detect_invalid_subtree-requires : goal.detect_invalid_subtree-requires
detect_invalid_subtree-requires t c =
    let d = c.decreases in
    let nz = c.if-depth-eq0.false in
    (omega arith, (c.loop-next.invariant.1 c.in-Some.k c.in-Some.is).0)

pub returns-in_err-met : goal.returns-in_err-met
returns-in_err-met t c =
    let a = c.args in
    let l = c.loop-next in
    let k = c.in-Some.k in
    let b = l.invariant.1 k c.in-Some.is in
    passed_on _ c.from_residual.ensures.1
    ∙ sym (ap told (entered a.l.now a.kind a.depth a.seen a.slot _ c.requires c.if-depth-eq0.false c.has_child.ensures c.if-has_child.false c.has_child-2.ensures c.if-not-has_child.false c.has_child-3.ensures c.new.ensures c.if-new-kind.false c.with-met.ensures)
    ∙ each_flaw _ _ _ k slot_count l.met _ _ b.0 (turn_at _ _ _ k l.invariant c.in-Some.is) b.1 refl (sym c.detect_invalid_subtree.ensures ∙ c.in_err-met.was))

pub overflow_add-k : goal.overflow_add-k
overflow_add-k t c = let h = (c.loop-next.invariant.1 c.in-Some.k c.in-Some.is).0 in omega arith

pub loop-next-smaller : goal.loop-next-smaller
loop-next-smaller t c = next-smaller slot_count _ _ (c.loop-next.invariant.1 c.in-Some.k c.in-Some.is).0 c.in-Some.is c.next-next-in-Some.ensures

pub loop-next-preserved : goal.loop-next-preserved
loop-next-preserved t c =
    let l = c.loop-next in
    let k = c.in-Some.k in
    let b = l.invariant.1 k c.in-Some.is in
    turn_on _ _ _ slot_count _ (k + 1) _ (mark_in c.args.l.now c.args.slot c.requires) (let h = b.0 in omega arith)
    (each-one _ _ _ k l.met _ (turn_at _ _ _ k l.invariant c.in-Some.is) b.1 (told_seen _ _ (sym c.detect_invalid_subtree.ensures ∙ c.in_ok-met.was)))
    c.next-next-in-Some.ensures

pub returns : goal.returns
returns t c =
    let a = c.args in
    is_seen _ _ (entered a.l.now a.kind a.depth a.seen a.slot _ c.requires c.if-depth-eq0.false c.has_child.ensures c.if-has_child.false c.has_child-2.ensures c.if-not-has_child.false c.has_child-3.ensures c.new.ensures c.if-new-kind.false c.with-met.ensures
    ∙ turn_end _ _ _ c.loop-next.invariant c.in_default.is)
