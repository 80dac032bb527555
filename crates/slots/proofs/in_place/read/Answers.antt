-- `slots::in_place::read` meets its contract. Assumes nothing.
use mathlib.Core.Path.{sym, ◌∙◌}
use native.Mathlib.Omega.{arith}
use lib.Seq.{take_all}
use Rattle.image.specs.State.{state_size}
use Rattle.image.proofs.Reading.{readable-size}
use Rattle.slots.proofs.in_place.read.Goals as goal

pub unwrap-requires : goal.unwrap-requires
unwrap-requires c =
    let n = readable-size c.args.image.now (sym c.in_ok-readable.ensures) in
    c.first_chunk.ensures.variant.1 (omega arith)

pub returns : goal.returns
returns c =
    let l = c.args.image.now in
    let n = readable-size l (sym c.in_ok-readable.ensures) in
    let first = rw c.unwrap.ensures at c.first_chunk.ensures.cases in
    (first.same ∙ take_all state_size l (omega arith), sym c.in_ok-readable.ensures)
