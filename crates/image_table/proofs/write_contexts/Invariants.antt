use Prim.Native.Nat.{◌≤◌}
use mathlib.Core.Path.{◌≡◌}
use Rattle.children.specs.Marks.{slot_count}
use lib.ListN.{length, take}
use Rattle.wire.specs.Le.{put}
use Rattle.image.specs.State.{contexts_at, state_size, encode_slots}
use Rattle.image_table.proofs.write_contexts.Given as goal

abbrev pub invariant-loop-i : goal.invariant-loop-i
invariant-loop-i l = (l.i ≤ slot_count) × (length l.out ≡ state_size) × (l.out ≡ put contexts_at (encode_slots (take l.i l.state.contexts)) l.initial.out)
