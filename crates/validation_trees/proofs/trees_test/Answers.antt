-- `validation_trees::trees_test` meets its contract. Assumes nothing.
use mathlib.Core.Path.{sym, ◌∙◌}
use Rattle.error.proofs.Exits.{passed_on}
use Rattle.validation_trees.proofs.Searches.{told_seen, found_flaw, found_seen}
use Rattle.validation_trees.proofs.trees_test.Goals as goal

pub returns-in_err-seen : goal.returns-in_err-seen
returns-in_err-seen c = passed_on _ c.from_residual.ensures.1 ∙ found_flaw _ _ _ (sym c.search_roots.ensures ∙ c.in_err-seen.was)

pub returns : goal.returns
returns c = c.last_tests.ensures ∙ found_seen _ _ _ (told_seen _ _ (sym c.search_roots.ensures ∙ c.in_ok-seen.was))
