-- Little-endian numbers as lists of bytes, and a part of a list. Assumes nothing: these are definitions.
use Rattle.std.specs.Prelude.{ℕ, zero, suc, ◌+◌, ◌*◌, ◌/◌, ◌%◌, ◌<◌, List, [], ◌∷◌, ◌++◌, length, take, drop, get_or}

-- the n bytes of l from `at` on
abbrev pub part : ℕ → ℕ → List ℕ → List ℕ
part at n l = take n (drop at l)

-- l with the bytes v from `at` on
unfoldable pub put : ℕ → List ℕ → List ℕ → List ℕ
put at v l = take at l ++ v ++ drop (at + length v) l

-- the number whose little-endian bytes these are
unfoldable pub le : List ℕ → ℕ
le [] = 0
le (b ∷ bs) = b + 256 * le bs

-- the n lowest little-endian bytes of x
unfoldable pub le_bytes : ℕ → ℕ → List ℕ
le_bytes zero x = []
le_bytes (suc n) x = x % 256 ∷ le_bytes n (x / 256)

-- every element of l is a byte
pub record Bytes (l : List ℕ) : Type 0 where
  pub each : (i : ℕ) → get_or l i 0 < 256
