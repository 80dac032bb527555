-- An image's table has all its slots.
use mathlib.Core.List.{List}
use mathlib.Core.Path.{◌≡◌}
use Prim.Native.Nat.{ℕ}
use lib.ListN.{length}
use Rattle.error.specs.Numbers.{done}
use Rattle.children.specs.Marks.{slot_count}
use Rattle.children.proofs.Below.{length-list_of}
use Rattle.image.specs.State.{slot_in, decode_state, readable_of}

pub table_slots : (l : List ℕ) → readable_of l ≡ done → length (decode_state l).contexts ≡ slot_count
unfolding decode_state
table_slots l r = length-list_of (slot_in l) slot_count
