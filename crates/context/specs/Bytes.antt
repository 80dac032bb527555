-- Boolean bytes, and the size of a measurement. Assumes nothing: these are definitions.
use Rattle.std.specs.Prelude.{Bool, cond, not, ℕ, eqb}

abbrev pub tci_size : ℕ
tci_size = 48

-- a boolean byte is true when it is not 0, and is set to 0 or 1
abbrev pub is_on : ℕ → Bool
is_on b = not (eqb b 0)

abbrev pub byte_of : Bool → ℕ
byte_of b = cond b 1 0
