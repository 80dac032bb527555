use Prim.Native.Nat.{◌≤◌}
use mathlib.Core.Path.{◌≡◌}
use Rattle.children.specs.Marks.{slot_count}
use lib.ListN.{length, take}
use Rattle.children.specs.Below.{list_of}
use Rattle.image.specs.State.{slot_in}
use Rattle.image_table.proofs.read_contexts.Given as goal

abbrev pub invariant-loop-i : goal.invariant-loop-i
invariant-loop-i l = (l.i ≤ slot_count) × (length l.contexts ≡ slot_count) × (take l.i l.contexts ≡ list_of (slot_in l.image) l.i)
