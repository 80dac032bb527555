use Rattle.std.specs.Prelude.{unwrap_or}
use Prim.Native.Nat.{◌-◌}
use Rattle.children.specs.Marks.{slot_count}
use Rattle.forest.specs.Search.{visit}
use Rattle.validation_trees.specs.Summary.{kind_in, table_by}
use Rattle.validation_trees.proofs.Searches.{Turn}
use Rattle.validation_trees.proofs.+detect_invalid_subtree.Given as goal

abbrev pub decreases-detect_invalid_subtree : goal.decreases-detect_invalid_subtree
decreases-detect_invalid_subtree v = v.depth

abbrev pub invariant-loop-next : goal.invariant-loop-next
invariant-loop-next v =
    Turn (visit slot_count (table_by v.l) (kind_in v.l.simulations) v.kind (v.depth - 1)) ((table_by v.l).mark v.slot) v.initial.met slot_count v.met v.next

abbrev pub decreases-loop-next : goal.decreases-loop-next
decreases-loop-next v = slot_count - unwrap_or v.next slot_count
