-- `rotate_context::rotate_on` meets its contract. Assumes nothing.
use mathlib.Core.Path.{refl, sym, ap, ◌∙◌}
use Rattle.error.proofs.Exits.{passed_on}
use Rattle.children.specs.Marks.{slot_count}
use Rattle.context.specs.Context.{slot_of}
use Rattle.table.specs.State.{handed_of}
use Rattle.slots.proofs.Ends.{refusal, success}
use Rattle.lookup.proofs.Lookup.{found_iff}
use Rattle.rotate_context.proofs.Rotate.{tested, no-support, by_lookup, told_handle, kept_handle}
use Rattle.rotate_context.proofs.rotate_on.Goals as goal

pub returns-then-not-has_bit : goal.returns-then-not-has_bit
returns-then-not-has_bit g c =
    let a = c.args in
    let t = g.T.Slots.state a.t.now in
    let s = tested t c.support.ensures c.has_bit.ensures c.if-not-has_bit.true in
    refusal g.T.Slots.state g.T.SlotsMut.Reads a.t.now _ refl (no-support t a.handle a.locality a.flags a.candidates.now s) c.requires

pub returns-in_err-i : goal.returns-in_err-i
returns-in_err-i g c =
    let a = c.args in
    let t = g.T.Slots.state a.t.now in
    let s = tested t c.support.ensures c.has_bit.ensures c.if-not-has_bit.false in
    refusal g.T.Slots.state g.T.SlotsMut.Reads a.t.now _ (passed_on _ c.from_residual.ensures.1)
    (by_lookup t a.handle a.locality a.flags a.candidates.now s _ (sym c.in_err-i.ensures)) c.requires

pub returns-in_err-fresh : goal.returns-in_err-fresh
returns-in_err-fresh g c =
    let a = c.args in
    let t = g.T.Slots.state a.t.now in
    let s = tested t c.support.ensures c.has_bit.ensures c.if-not-has_bit.false in
    refusal g.T.Slots.state g.T.SlotsMut.Reads a.t.now _ (passed_on _ c.from_residual-in_err-fresh.ensures.1)
    (by_lookup t a.handle a.locality a.flags a.candidates.now s _ (sym c.in_ok-i.ensures) ∙ kept_handle t a.locality a.flags _ a.candidates.now _ c.in_err-fresh.ensures) c.requires

pub put_handle-requires : goal.put_handle-requires
put_handle-requires g c =
    let a = c.args in
    (c.requires, ((found_iff slot_count (slot_of (g.T.Slots.state a.t.now).contexts) a.handle a.locality _).0 (sym c.in_ok-i.ensures)).below)

pub returns : goal.returns
returns g c =
    let a = c.args in
    let t = g.T.Slots.state a.t.now in
    let s = tested t c.support.ensures c.has_bit.ensures c.if-not-has_bit.false in
    let e =
    by_lookup t a.handle a.locality a.flags a.candidates.now s _ (sym c.in_ok-i.ensures)
    ∙ told_handle t a.locality a.flags _ a.candidates.now _ c.in_ok-fresh.ensures in
    success g.T.Slots.state g.T.SlotsMut.Reads a.t.now _ _ (e ∙ ap (λ u. handed_of u c.in_ok-fresh.fresh) (sym c.put_handle.ensures.state)) c.put_handle.ensures.reads
