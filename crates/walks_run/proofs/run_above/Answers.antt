-- `walks_run::run_above` meets its contract. Assumes nothing.
use mathlib.Core.Path.{◌≡◌, sym, ap, ◌∙◌}
use Prim.Native.Nat.{◌<◌, ◌-◌}
use native.Mathlib.Omega.{arith}
use Rattle.children.specs.Marks.{slot_count, with, count_below}
use Rattle.context.specs.Context.{slot_of}
use Rattle.links.specs.Summary.{retired_at, parent_at, kids_at}
use Rattle.forest.specs.Told.{told_of}
use Rattle.walks_run.specs.Run.{run_from}
use Rattle.walks_run.proofs.Up.{climb-top, climb_out, climb-ends, climb_goes, climb_spent, climb_moved, single_yes, single-other, single_many, retired_told}
use Rattle.walks_run.proofs.run_above.Goals as goal

pub returns-then-p : goal.returns-then-p
unfolding told_of run_from
returns-then-p g c =
    let l = c.loop-d in
    let i = c.from-i.ensures in
    sym (ap (told_of _) (l.invariant.1 ∙ climb-top slot_count _ _ (slot_count - l.d) (omega arith) _ l.p (omega arith) c.if-p.true))

pub returns-then-i-ge-MAX_HANDLES : goal.returns-then-i-ge-MAX_HANDLES
unfolding told_of run_from
returns-then-i-ge-MAX_HANDLES g c =
    let l = c.loop-d in
    let i = c.from-i.ensures in
    sym (ap (told_of _) (l.invariant.1 ∙ climb_out slot_count _ _ (slot_count - l.d) (omega arith) _ l.p (omega arith) c.if-p.false))

pub returns-then-not-is_retired : goal.returns-then-not-is_retired
unfolding told_of run_from
returns-then-not-is_retired g c =
    let l = c.loop-d in
    let a = c.args in
    let s = slot_of (g.T.Slots.state a.t.now).contexts in
    let i = c.from-i.ensures in
    let h : l.p < slot_count = omega arith in
    let off = retired_told s i c.state_at.ensures c.is_retired.ensures c.if-not-is_retired.true in
    sym (ap (told_of _) (l.invariant.1 ∙ climb-ends slot_count _ _ (slot_count - l.d) (omega arith) _ l.p h (single-other slot_count (retired_at s) (kids_at s) l.p off)))

pub returns-then-count-ne1 : goal.returns-then-count-ne1
unfolding told_of run_from
returns-then-count-ne1 g c =
    let l = c.loop-d in
    let a = c.args in
    let s = slot_of (g.T.Slots.state a.t.now).contexts in
    let i = c.from-i.ensures in
    let h : l.p < slot_count = omega arith in
    let on = retired_told s i c.state_at.ensures c.is_retired.ensures c.if-not-is_retired.false in
    let kids = c.children_at.ensures ∙ ap (kids_at s) i in
    let many : count_below slot_count (kids_at s l.p) ≡ 1 → ⊥ = λ z. c.if-count-ne1.true (c.count.ensures ∙ ap (count_below slot_count) kids ∙ z) in
    sym (ap (told_of _) (l.invariant.1 ∙ climb-ends slot_count _ _ (slot_count - l.d) (omega arith) _ l.p h (single_many slot_count (retired_at s) (kids_at s) l.p on many)))

pub loop-d-preserved : goal.loop-d-preserved
loop-d-preserved g c =
    let l = c.loop-d in
    let a = c.args in
    let s = slot_of (g.T.Slots.state a.t.now).contexts in
    let i = c.from-i.ensures in
    let h : l.p < slot_count = omega arith in
    let on = retired_told s i c.state_at.ensures c.is_retired.ensures c.if-not-is_retired.false in
    let kids = c.children_at.ensures ∙ ap (kids_at s) i in
    let one = ap (count_below slot_count) (sym kids) ∙ sym c.count.ensures ∙ c.if-count-ne1.false in (
      omega arith,
      l.invariant.1 ∙ climb_goes slot_count _ _ (slot_count - l.d) (omega arith) _ l.p h (single_yes slot_count (retired_at s) (kids_at s) l.p on one)
          ∙ climb_moved slot_count _ _ (omega arith) (ap (with l.taken) (sym i) ∙ sym c.with-taken.ensures) (ap (parent_at s) (sym i) ∙ sym c.parent_at-p.ensures),
    )

pub returns : goal.returns
unfolding told_of run_from
returns g c =
    let l = c.loop-d in
    sym (ap (told_of _) (l.invariant.1 ∙ climb_spent slot_count _ _ (slot_count - l.d) _ _ (omega arith)))
