-- `destroy_context::destroy_slot_on` meets its contract. Assumes nothing.
use mathlib.Core.Path.{sym}
use Rattle.error.proofs.Exits.{passed_on}
use Rattle.slots.proofs.Ends.{refusal}
use Rattle.destroy_context.proofs.Calls.{slot_refused}
use Rattle.destroy_context.proofs.destroy_slot_on.Goals as goal

pub returns-in_err-set : goal.returns-in_err-set
returns-in_err-set g c =
    let t = g.T.Slots.state c.args.t.now in
    refusal g.T.Slots.state g.T.SlotsMut.Reads c.args.t.now _ (passed_on _ c.from_residual.ensures.1) (slot_refused t c.args.slot _ (sym c.in_err-set.ensures)) c.requires
