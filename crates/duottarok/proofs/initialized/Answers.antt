-- `duottarok::initialized` meets its contract. Assumes nothing.
use mathlib.Core.Path.{sym, ap, ◌∙◌}
use native.Mathlib.Omega.{arith}
use Rattle.table.specs.declared.state.State.{State}
use Rattle.image.specs.State.{readable_of}
use Rattle.image.proofs.Reading.{readable-size}
use Rattle.initialize_context.specs.Initialize.{initialized_of}
use Rattle.duottarok.proofs.Exports.{lent_whole, lent_value, lent_image}
use Rattle.duottarok.proofs.initialized.Goals as goal

pub unwrap-table-requires : goal.unwrap-table-requires
unwrap-table-requires c =
    let n = readable-size c.args.image.now (sym c.in_ok-readable.ensures) in
    c.first_chunk_mut.ensures.variant.1 (omega arith)

pub initialize_on-requires : goal.initialize_on-requires
initialize_on-requires c =
    let q = sym c.in_ok-readable.ensures in
    ap readable_of (lent_whole c.args.image.now _ q (rw c.unwrap-table.ensures at c.first_chunk_mut.ensures.cases)) ∙ q

pub returns-clause-value : goal.returns-clause-value
returns-clause-value c =
    let l = c.args.image.now in
    let q = sym c.in_ok-readable.ensures in
    lent_value (λ (t : State). initialized_of t c.args.flags c.args.locality c.args.candidates.now) l c.unwrap-table.result.now c.initialize_on.new.t q (lent_whole l _ q (rw c.unwrap-table.ensures at c.first_chunk_mut.ensures.cases)) c.initialize_on.ensures

pub returns-clause-image_after : goal.returns-clause-image_after
returns-clause-image_after c =
    let l = c.args.image.now in
    let q = sym c.in_ok-readable.ensures in
    lent_image (λ (t : State). initialized_of t c.args.flags c.args.locality c.args.candidates.now) l c.unwrap-table.result.now c.initialize_on.new.t q (lent_whole l _ q (rw c.unwrap-table.ensures at c.first_chunk_mut.ensures.cases)) c.initialize_on.ensures c.type_inv.image
