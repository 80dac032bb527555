-- Laws of the bytes of a type and of a state. Assumes nothing.
use mathlib.Core.Path.{◌≡◌, refl}
use Prim.Native.Nat.{ℕ, zero, suc, ◌<◌}
use native.Mathlib.Omega.{arith}
use lib.Dec.{eqb}
use Rattle.context.specs.declared.ContextState.{ContextState}
use Rattle.context.specs.declared.ContextState.TheVariants.{Inactive, Active, Retired}
use Rattle.context.specs.Context.{same_state}
use Rattle.context.specs.declared.ContextType.{ContextType}
use Rattle.context.specs.declared.ContextType.TheVariants.{Normal, Simulation}
use Rattle.image_context.specs.Context.{state_of, state_byte, type_of, type_byte}

pub type_rest : (b : ℕ) → (b ≡ 0 → ⊥) → Simulation ≡ type_of b
unfolding type_of
type_rest zero h = absurd (h refl)
type_rest (suc b) h = refl

pub state_rest : (b : ℕ) → (b ≡ 0 → ⊥) → (b ≡ 1 → ⊥) → Retired ≡ state_of b
unfolding state_of
state_rest zero h k = absurd (h refl)
state_rest (suc zero) h k = absurd (k refl)
state_rest (suc (suc b)) h k = refl

pub type_byte_lem : (b : ℕ) → b < 2 → type_byte (type_of b) ≡ b
unfolding type_of
type_byte_lem zero h = refl
type_byte_lem (suc zero) h = refl
type_byte_lem (suc (suc b)) h = absurd (omega arith)

pub state_byte_lem : (b : ℕ) → b < 3 → state_byte (state_of b) ≡ b
unfolding state_of
state_byte_lem zero h = refl
state_byte_lem (suc zero) h = refl
state_byte_lem (suc (suc zero)) h = refl
state_byte_lem (suc (suc (suc b))) h = absurd (omega arith)

-- two bytes that are states say the same one just where they are equal
pub same_byte : (a b : ℕ) → a < 3 → b < 3 → same_state (state_of a) (state_of b) ≡ eqb b a
unfolding state_of
same_byte zero zero h k = refl
same_byte zero (suc zero) h k = refl
same_byte zero (suc (suc zero)) h k = refl
same_byte zero (suc (suc (suc b))) h k = absurd (omega arith)
same_byte (suc zero) zero h k = refl
same_byte (suc zero) (suc zero) h k = refl
same_byte (suc zero) (suc (suc zero)) h k = refl
same_byte (suc zero) (suc (suc (suc b))) h k = absurd (omega arith)
same_byte (suc (suc zero)) zero h k = refl
same_byte (suc (suc zero)) (suc zero) h k = refl
same_byte (suc (suc zero)) (suc (suc zero)) h k = refl
same_byte (suc (suc zero)) (suc (suc (suc b))) h k = absurd (omega arith)
same_byte (suc (suc (suc a))) b h k = absurd (omega arith)

pub byte_type : (t : ContextType) → (type_of (type_byte t) ≡ t) × (type_byte t < 2)
unfolding type_of
byte_type Normal = (refl, omega arith)
byte_type Simulation = (refl, omega arith)

pub byte_state : (s : ContextState) → (state_of (state_byte s) ≡ s) × (state_byte s < 3)
unfolding state_of
byte_state Inactive = (refl, omega arith)
byte_state Active = (refl, omega arith)
byte_state Retired = (refl, omega arith)
