use Rattle.std.specs.Prelude.{unwrap_or}
use Prim.Native.Nat.{◌-◌}
use Rattle.children.specs.Marks.{slot_count, marked}
use Rattle.links.specs.Summary.{number_in}
use Rattle.validation_slots.proofs.Children.{Turn}
use Rattle.validation_slots.proofs.children_test.Given as goal

abbrev pub invariant-loop-next : goal.invariant-loop-next
invariant-loop-next v = Turn slot_count (marked v.l.live) (number_in v.l.parents) v.i v.m v.next

abbrev pub decreases-loop-next : goal.decreases-loop-next
decreases-loop-next v = slot_count - unwrap_or v.next slot_count
