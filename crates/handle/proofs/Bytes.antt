-- How the test of two runs of bytes goes on. Assumes nothing.
use mathlib.Core.Bool.{Bool, ◌&&◌}
use mathlib.Core.List.{List, [], ◌∷◌}
use mathlib.Core.Path.{◌≡◌, sym, ap, ◌∙◌}
use Prim.Native.Nat.{ℕ, zero, suc, ◌+◌, ◌<◌}
use native.Mathlib.Nat.{le_of_suc-le-suc, not-suc-le-zero}
use native.Mathlib.Numerals.{add-one}
use lib.Dec.{eqb}
use lib.ListN.{length, take, get_or}
use Rattle.std.proofs.Math.Bool.{and-true, and_assoc}
use Rattle.handle.specs.Handle.{same_bytes}

same-suc : (a b : List ℕ) (i : ℕ) → i < length a → i < length b
    → same_bytes (take (suc i) a) (take (suc i) b) ≡ (same_bytes (take i a) (take i b) && eqb (get_or a i 0) (get_or b i 0))
unfolding same_bytes
same-suc [] b i ha hb = absurd (not-suc-le-zero ha)
same-suc (x ∷ a) [] i ha hb = absurd (not-suc-le-zero hb)
same-suc (x ∷ a) (y ∷ b) zero ha hb = and-true (eqb x y)
same-suc (x ∷ a) (y ∷ b) (suc i) ha hb =
    ap (λ (r : Bool). eqb x y && r) (same-suc a b i (le_of_suc-le-suc ha) (le_of_suc-le-suc hb)) ∙ sym (and_assoc (eqb x y) _ _)

-- one byte more
pub same_next : (a b : List ℕ) (i : ℕ) → i < length a → i < length b
    → same_bytes (take (i + 1) a) (take (i + 1) b) ≡ (same_bytes (take i a) (take i b) && eqb (get_or a i 0) (get_or b i 0))
same_next a b i ha hb = ap (λ (k : ℕ). same_bytes (take k a) (take k b)) (add-one i) ∙ same-suc a b i ha hb
