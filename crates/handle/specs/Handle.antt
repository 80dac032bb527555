-- Handles, and when two runs of bytes are the same. Assumes nothing: these are definitions.
use Rattle.std.specs.Prelude.{Bool, true, false, ◌&&◌, List, [], ◌∷◌, ℕ, eqb, replicate}

abbrev pub handle_size : ℕ
handle_size = 16

-- two runs of bytes are equal
unfoldable pub same_bytes : List ℕ → List ℕ → Bool
same_bytes [] [] = true
same_bytes [] (y ∷ ys) = false
same_bytes (x ∷ xs) [] = false
same_bytes (x ∷ xs) (y ∷ ys) = eqb x y && same_bytes xs ys

-- the handle of a default context, and that of a cleared one
abbrev pub default_handle : List ℕ
default_handle = replicate handle_size 0

abbrev pub invalid_handle : List ℕ
invalid_handle = replicate handle_size 0xff

abbrev pub is_default : List ℕ → Bool
is_default h = same_bytes h default_handle
