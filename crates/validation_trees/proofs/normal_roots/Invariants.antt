use mathlib.Core.Path.{◌≡◌}
use Prim.Native.Nat.{◌≤◌}
use Rattle.children.specs.Below.{count}
use Rattle.children.specs.Marks.{slot_count}
use Rattle.forest.specs.Search.{normal_root}
use Rattle.validation_trees.specs.Summary.{kind_in, table_by}
use Rattle.validation_trees.proofs.normal_roots.Given as goal

abbrev pub invariant-loop-i : goal.invariant-loop-i
invariant-loop-i v = (v.i ≤ slot_count) × (v.found ≡ count (normal_root (table_by v.l) (kind_in v.l.simulations)) v.i)
