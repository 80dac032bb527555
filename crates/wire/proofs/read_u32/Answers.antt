-- `wire::read_u32` meets its contract. Assumes nothing.
use mathlib.Core.Path.{ap, ◌∙◌}
use Rattle.std.proofs.Common.{rules}
use Rattle.std.specs.Int.{w32}
use Rattle.wire.specs.Le.{le}
use Rattle.wire.proofs.Le.{le_std}
use Rattle.wire.proofs.read_u32.Goals as goal

pub returns : goal.returns
returns c = c.from_le_bytes.ensures ∙ le_std w32 c.read_array.result (search rules) ∙ ap le c.read_array.ensures
