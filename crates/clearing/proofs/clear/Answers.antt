-- `clearing::clear` meets its contract. Assumes nothing.
use mathlib.Core.Path.{◌≡◌, refl, ap, ◌∙◌}
use native.Mathlib.Omega.{arith}
use Rattle.children.specs.Below.{list_of}
use Rattle.children.specs.Marks.{slot_count}
use Rattle.context.specs.Context.{slot_of}
use Rattle.table.specs.State.{with_contexts}
use Rattle.clearing.specs.Clearing.{cleared_slot, cleared_by}
use Rattle.clearing.proofs.Clearing.{mix_end, slot_step}
use Rattle.clearing.proofs.clear.Goals as goal

pub loop-i-init : goal.loop-i-init
unfolding list_of
loop-i-init g c = (omega arith, c.requires, refl)

pub loop-i-preserved : goal.loop-i-preserved
loop-i-preserved g c =
    let l = c.loop-i in
    let t = g.T.Slots.state c.args.t.now in
    let n = g.met.T.SlotsMut.all_slots c.args.t.now c.requires in
    (omega arith, c.clear_slot.ensures.reads, c.clear_slot.ensures.state ∙ slot_step (cleared_slot c.args.set) t (g.T.Slots.state l.t) l.i _ (omega (arith, n)) l.invariant.2 refl)

pub returns-clause-state : goal.returns-clause-state
unfolding cleared_by
returns-clause-state g c =
    let l = c.loop-i in
    let t = g.T.Slots.state c.args.t.now in
    let n = g.met.T.SlotsMut.all_slots c.args.t.now c.requires in
    let e : l.i ≡ slot_count = omega arith in
    l.invariant.2 ∙ ap (with_contexts t) (mix_end (cleared_slot c.args.set) l.i t.contexts (omega (arith, n))
    ∙ ap (list_of (λ j. cleared_slot c.args.set j (slot_of t.contexts j))) e)
