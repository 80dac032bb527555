-- `walks_path::root_to_leaf` meets its contract. Assumes nothing.
use mathlib.Core.Path.{refl, sym, ap, ◌∙◌}
use Prim.Native.Nat.{ℕ, ◌-◌, ◌+◌}
use native.Mathlib.Numerals.{add-one}
use native.Mathlib.Omega.{arith}
use Rattle.error.proofs.Exits.{passed_on}
use Rattle.children.specs.Below.{list_of}
use Rattle.children.specs.Marks.{slot_count}
use Rattle.context.specs.Context.{slot_of}
use Rattle.links.specs.Summary.{live_at, parent_at, steps_up}
use Rattle.walks_path.specs.Path.{length_from}
use Rattle.walks_path.proofs.Steps.{length_on, parent_from, met_more, turned, path_refused, path_full, path-laid}
use Rattle.walks_path.proofs.root_to_leaf.Goals as goal

pub loop-j-init : goal.loop-j-init
unfolding steps_up list_of
loop-j-init g c = (omega arith, refl, refl, refl)

pub returns-in_err-p : goal.returns-in_err-p
returns-in_err-p g c =
    let l = c.loop-j in
    passed_on _ c.from_residual.ensures.1 ∙ sym (path_refused _ _ _ _ (slot_count - l.j) l.j l.x l.invariant.1 _ (sym c.in_err-p.ensures))

pub overflow_cast-slots : goal.overflow_cast-slots
overflow_cast-slots g c =
    let h = (parent_from _ _ _ c.loop-j.x _ (sym c.in_ok-p.ensures)).0 in
    omega arith

pub returns-then-p-from : goal.returns-then-p-from
returns-then-p-from g c =
    let l = c.loop-j in
    let i = l.invariant in
    path-laid _ _ _ _ (slot_count - l.j) l.j l.x i.1 _ _ (omega arith) (sym c.in_ok-p.ensures) (c.if-p-from.true ∙ c.from.ensures)
    (turned _ slot_count (l.j + 1) _ _ (omega arith) (met_more _ slot_count l.j _ l.slots (omega arith) i.2 i.3) c.reverse.ensures.after)

pub loop-j-preserved : goal.loop-j-preserved
unfolding steps_up
loop-j-preserved g c =
    let l = c.loop-j in
    let i = l.invariant in
    let s = slot_of (g.T.Slots.state c.args.t.now).contexts in
    let up : ℕ → ℕ = λ j. steps_up (parent_at s) j c.args.slot in
    let p = c.in_ok-p.p in
    let q = sym c.in_ok-p.ensures in (
      omega arith,
      ap (λ (x : ℕ). length_from slot_count (live_at s) (parent_at s) x (l.j + 1) p) (omega arith)
          ∙ sym (length_on _ _ _ l.x (slot_count - l.j) l.j _ (omega arith) q (λ z. c.if-p-from.false (z ∙ sym c.from.ensures))) ∙ i.1,
      sym (parent_from slot_count (live_at s) (parent_at s) l.x p q).1 ∙ ap (parent_at s) i.2 ∙ sym (ap up (add-one l.j)),
      met_more up slot_count l.j _ l.slots (omega arith) i.2 i.3,
    )

pub returns-in_err-parent_of : goal.returns-in_err-parent_of
returns-in_err-parent_of g c =
    let l = c.loop-j in
    passed_on _ c.from_residual-in_err-parent_of.ensures.1 ∙ sym (path_refused _ _ _ _ (slot_count - l.j) l.j l.x l.invariant.1 _ (sym c.in_err-parent_of.ensures))

pub returns : goal.returns
returns g c = let l = c.loop-j in sym (path_full _ _ _ _ (slot_count - l.j) l.j l.x l.invariant.1 _ (omega arith) (sym c.in_ok-parent_of.ensures))
