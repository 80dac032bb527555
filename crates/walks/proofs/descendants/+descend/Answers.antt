-- `walks::descendants::descend` meets its contract. Both loops keep that the marks found, with what is left to walk, are the whole walk's answer. The measure of
-- the calls is the depth. Assumes nothing.
use mathlib.Core.Path.{sym, ap, ◌∙◌}
use native.Mathlib.Omega.{arith}
use Rattle.error.specs.declared.DpeErrorCode.TheVariants.{InvalidHandle}
use Rattle.error.proofs.Exits.{passed_on}
use Rattle.children.specs.Marks.{slot_count}
use Rattle.forest.specs.Walk.{ok, both}
use Rattle.forest.specs.Told.{told_of}
use Rattle.context.proofs.States.{live_told}
use Rattle.walks.proofs.Down.{on_path, off_path, told-marks, walk_spent, walk_inactive}
use Rattle.walks.proofs.Rest.{turn_refused, turn_on, turn_last, slot-alone, turn-first}
use Rattle.children.proofs.Marks.{seen, next-some}
use Rattle.walks.proofs.descendants.+descend.Goals as goal

pub returns-then-is_inactive : goal.returns-then-is_inactive
unfolding told_of
returns-then-is_inactive g t c =
    let l = c.loop-left in
    sym (ap (told_of InvalidHandle) (sym l.invariant.2 ∙ ap (both (ok l.found)) (walk_inactive _ _ _ _ _ _ c.loop-left-test.true
    (live_told c.state_at.ensures c.is_inactive.ensures c.if-is_inactive.true))))

pub returns-in_default : goal.returns-in_default
unfolding told_of
returns-in_default g t c =
    let l = c.loop-left in
    sym (ap (told_of InvalidHandle) (slot-alone slot_count l.left _ _ l.down l.at _ _ l.found _ l.invariant.2 c.loop-left-test.true (live_told c.state_at.ensures c.is_inactive.ensures c.if-is_inactive.false)
    c.with-down.ensures c.children_at-kids.ensures c.add_children-found.ensures c.next.ensures c.in_default.is))

pub loop-after-init : goal.loop-after-init
loop-after-init g t c =
    let l = c.loop-left in
    let e = c.in-Some.is in
    turn-first slot_count l.left _ _ l.down l.at _ _ l.found _ l.invariant.2 c.loop-left-test.true (live_told c.state_at.ensures c.is_inactive.ensures c.if-is_inactive.false)
    c.with-down.ensures c.children_at-kids.ensures c.add_children-found.ensures c.next.ensures _ e

pub returns-then-has_child : goal.returns-then-has_child
unfolding told_of
returns-then-has_child g t c =
    let i = c.loop-after.invariant in
    sym (turn_refused InvalidHandle i (ap (told_of InvalidHandle) (on_path _ _ _ _ _ _ (seen slot_count _ _ i.below c.has_child.ensures c.if-has_child.true))))

pub returns-in_err-m : goal.returns-in_err-m
returns-in_err-m g t c =
    let i = c.loop-after.invariant in
    passed_on _ c.from_residual.ensures.1
    ∙ sym (turn_refused InvalidHandle i (ap (told_of InvalidHandle) (off_path _ _ _ _ _ _ (seen slot_count _ _ i.below c.has_child.ensures c.if-has_child.false)) ∙ sym c.in_err-m.ensures))

pub loop-after-smaller : goal.loop-after-smaller
loop-after-smaller g t c =
    let h = next-some _ _ _ _ c.next-in-loop-after.ensures c.in-Some-next.is in
    omega arith

pub loop-after-preserved : goal.loop-after-preserved
loop-after-preserved g t c =
    let i = c.loop-after.invariant in
    let off = off_path _ _ _ _ _ _ (seen slot_count _ _ i.below c.has_child.ensures c.if-has_child.false) in
    turn_on i (off ∙ told-marks InvalidHandle _ _ (sym c.in_ok-m.ensures)) c.add_children-found-in-Some-next.ensures c.next-in-loop-after.ensures c.in-Some-next.is

pub returns-then-has_child-2 : goal.returns-then-has_child-2
unfolding told_of
returns-then-has_child-2 g t c =
    let i = c.loop-after.invariant in
    sym (ap (told_of InvalidHandle) (sym (turn_last i c.next-in-loop-after.ensures c.in_default-next.is)
    ∙ ap (both (ok c.loop-after.found)) (on_path _ _ _ _ _ _ (seen slot_count _ _ i.below c.has_child-in-loop-left.ensures c.if-has_child-2.true))))

pub loop-left-preserved : goal.loop-left-preserved
loop-left-preserved g t c =
    let i = c.loop-after.invariant in
    let h = c.loop-left.invariant.0 in (
      omega arith,
      i.below,
      sym (ap (both (ok c.loop-after.found)) (off_path _ _ _ _ _ _ (seen slot_count _ _ i.below c.has_child-in-loop-left.ensures c.if-has_child-2.false)))
          ∙ turn_last i c.next-in-loop-after.ensures c.in_default-next.is,
    )

pub returns : goal.returns
unfolding told_of
returns g t c = let l = c.loop-left in sym (ap (told_of InvalidHandle) (sym l.invariant.2 ∙ ap (both (ok l.found)) (walk_spent _ _ _ _ _ _ c.loop-left-test.false)))
