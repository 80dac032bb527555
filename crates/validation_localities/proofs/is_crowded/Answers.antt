-- `validation_localities::is_crowded` meets its contract. Assumes nothing.
use mathlib.Core.Path.{sym, ◌∙◌}
use native.Mathlib.Omega.{arith}
use Rattle.children.specs.Marks.{slot_count}
use Rattle.children.proofs.Below.{some_of}
use Rattle.validation_localities.proofs.is_crowded.Goals as goal

pub returns-then-crowds : goal.returns-then-crowds
returns-then-crowds c =
    sym (some_of _ slot_count c.loop-i.i (omega arith) (sym c.crowds.ensures ∙ c.if-crowds.true))
