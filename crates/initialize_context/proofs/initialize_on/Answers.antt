-- `initialize_context::initialize_on` meets its contract. Assumes nothing.
use mathlib.Core.Path.{refl, sym, ◌∙◌}
use Rattle.error.proofs.Exits.{passed_on}
use Rattle.children.specs.Marks.{slot_count}
use Rattle.context.specs.Context.{slot_of}
use Rattle.slots.proofs.Ends.{refusal, same}
use Rattle.initialize_context.proofs.Initialize.{tested, free-is, not-supported, both_bits, by-slot, default-slot, simulation-slot}
use Rattle.initialize_context.proofs.initialize_on.Goals as goal

pub returns-then-not_supported : goal.returns-then-not_supported
returns-then-not_supported g c =
    let a = c.args in
    let t = g.T.Slots.state a.t.now in
    let s = tested t a.flags c.support.ensures c.has_initialized.ensures c.not_supported.ensures c.if-not_supported.true in
    refusal g.T.Slots.state g.T.SlotsMut.Reads a.t.now _ refl (not-supported t a.flags a.locality a.candidates.now s) c.requires

pub returns-then-both_or_neither : goal.returns-then-both_or_neither
returns-then-both_or_neither g c =
    let a = c.args in
    let t = g.T.Slots.state a.t.now in
    let s = tested t a.flags c.support.ensures c.has_initialized.ensures c.not_supported.ensures c.if-not_supported.false in
    let b = sym c.both_or_neither.ensures ∙ c.if-both_or_neither.true in
    refusal g.T.Slots.state g.T.SlotsMut.Reads a.t.now _ refl (both_bits t a.flags a.locality a.candidates.now s b) c.requires

pub returns-in_err-i : goal.returns-in_err-i
returns-in_err-i g c =
    let a = c.args in
    let t = g.T.Slots.state a.t.now in
    let s = tested t a.flags c.support.ensures c.has_initialized.ensures c.not_supported.ensures c.if-not_supported.false in
    let b = sym c.both_or_neither.ensures ∙ c.if-both_or_neither.false in
    refusal g.T.Slots.state g.T.SlotsMut.Reads a.t.now _ (passed_on _ c.from_residual.ensures.1)
    (by-slot t a.flags a.locality a.candidates.now s b _ (sym c.in_err-i.ensures)) c.requires

pub initialize_default-requires : goal.initialize_default-requires
initialize_default-requires g c = (c.requires, (free-is slot_count (slot_of (g.T.Slots.state c.args.t.now).contexts) _ (sym c.in_ok-i.ensures)).below)

pub returns-then-has_bit : goal.returns-then-has_bit
returns-then-has_bit g c =
    let a = c.args in
    let t = g.T.Slots.state a.t.now in
    let s = tested t a.flags c.support.ensures c.has_initialized.ensures c.not_supported.ensures c.if-not_supported.false in
    let b = sym c.both_or_neither.ensures ∙ c.if-both_or_neither.false in
    same g.T.Slots.state g.T.SlotsMut.Reads a.t.now _ c.initialize_default.ensures
    (sym (default-slot t a.flags a.locality a.candidates.now s b _ (sym c.in_ok-i.ensures) (sym c.has_bit.ensures ∙ c.if-has_bit.true)))

pub initialize_simulation-requires : goal.initialize_simulation-requires
initialize_simulation-requires g c = (c.requires, (free-is slot_count (slot_of (g.T.Slots.state c.args.t.now).contexts) _ (sym c.in_ok-i.ensures)).below)

pub returns : goal.returns
returns g c =
    let a = c.args in
    let t = g.T.Slots.state a.t.now in
    let s = tested t a.flags c.support.ensures c.has_initialized.ensures c.not_supported.ensures c.if-not_supported.false in
    let b = sym c.both_or_neither.ensures ∙ c.if-both_or_neither.false in
    same g.T.Slots.state g.T.SlotsMut.Reads a.t.now _ c.initialize_simulation.ensures
    (sym (simulation-slot t a.flags a.locality a.candidates.now s b _ (sym c.in_ok-i.ensures) (sym c.has_bit.ensures ∙ c.if-has_bit.false)))
