-- What a lent image holds after it was written. Assumes nothing.
use mathlib.Core.List.{List}
use mathlib.Core.Path.{◌≡◌}
use Prim.Native.Nat.{ℕ}
use Rattle.error.specs.Numbers.{done}
use Rattle.table.specs.declared.state.State.{State}
use Rattle.image.specs.State.{decode_state, readable_of}
use Rattle.image.proofs.InPlace.{ImageOf}

-- what the laws of writing in place say
pub holds : (l l' : List ℕ) (t : State) → l ≡ l' → ImageOf l' t → (readable_of l ≡ done) × (decode_state l ≡ t)
holds l l' t e o = rw e (o.reads, o.table)
