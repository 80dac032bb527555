use mathlib.Core.Path.{◌≡◌}
use Prim.Native.Nat.{◌≤◌}
use Rattle.children.specs.Marks.{slot_count}
use Rattle.forest.specs.Search.{fine}
use Rattle.validation_trees.specs.Summary.{kind_in, table_by}
use Rattle.validation_trees.proofs.Searches.{Roots}
use Rattle.validation_trees.proofs.search_roots.Given as goal

abbrev pub invariant-loop-i : goal.invariant-loop-i
invariant-loop-i v = (v.i ≤ slot_count) × (Roots (table_by v.l) (kind_in v.l.simulations) v.i ≡ fine v.seen)
