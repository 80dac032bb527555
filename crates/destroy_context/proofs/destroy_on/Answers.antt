-- `destroy_context::destroy_on` meets its contract. Assumes nothing.
use mathlib.Core.Path.{sym}
use Rattle.error.proofs.Exits.{passed_on}
use Rattle.slots.proofs.Ends.{refusal}
use Rattle.destroy_context.proofs.Calls.{not_found}
use Rattle.destroy_context.proofs.destroy_on.Goals as goal

pub returns-in_err-slot : goal.returns-in_err-slot
returns-in_err-slot g c =
    let a = c.args in
    let t = g.T.Slots.state a.t.now in
    refusal g.T.Slots.state g.T.SlotsMut.Reads a.t.now _ (passed_on _ c.from_residual.ensures.1) (not_found t a.handle a.locality _ (sym c.in_err-slot.ensures)) c.requires
