-- `validation_localities::first_fault` meets its contract. Assumes nothing.
use mathlib.Core.Path.{sym, ◌∙◌}
use Rattle.children.specs.Marks.{slot_count}
use Rattle.verdict.specs.Tests.{localities_test}
use Rattle.verdict.proofs.Steps.{thrown_early}
use Rattle.validation_localities.proofs.first_fault.Goals as goal

pub returns-in_err-locality_test : goal.returns-in_err-locality_test
unfolding localities_test
returns-in_err-locality_test c =
    let l = c.loop-j in
    thrown_early _ l.j slot_count c.from_residual.ensures.1 c.loop-j-test.true l.invariant.1 (sym c.locality_test.ensures ∙ c.in_err-locality_test.was)
