-- `validation_trees::search_roots` meets its contract. Assumes nothing.
use mathlib.Core.Path.{refl, sym, ◌∙◌}
use Rattle.children.specs.Marks.{slot_count}
use Rattle.forest.specs.Search.{search_roots}
use Rattle.error.proofs.Exits.{passed_on}
use Rattle.validation_trees.proofs.Searches.{roots_flaw}
use Rattle.validation_trees.proofs.search_roots.Goals as goal

pub returns-in_err-seen : goal.returns-in_err-seen
unfolding search_roots
returns-in_err-seen c =
    let l = c.loop-i in
    passed_on _ c.from_residual.ensures.1
    ∙ sym (roots_flaw _ _ l.i slot_count l.seen _ _ c.loop-i-test.true l.invariant.1 refl (sym c.root_step.ensures ∙ c.in_err-seen.was))
