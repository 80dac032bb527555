-- `validation_localities::localities_test` meets its contract. Assumes nothing.
use mathlib.Core.Path.{sym, ◌∙◌}
use Rattle.children.specs.Marks.{slot_count, marked}
use Rattle.links.specs.Summary.{number_in}
use Rattle.verdict.proofs.Localities.{lone_valid}
use Rattle.validation_localities.proofs.Counts.{lone_of}
use Rattle.validation_localities.proofs.localities_test.Goals as goal

pub returns-then-not-is_crowded : goal.returns-then-not-is_crowded
returns-then-not-is_crowded c =
    let a = c.args in
    sym (lone_valid slot_count _ _ _ (lone_of slot_count (number_in a.p.now.localities) (marked a.p.now.defaults) (marked a.p.now.others) (sym c.is_crowded.ensures ∙ c.if-not-is_crowded.true)))
