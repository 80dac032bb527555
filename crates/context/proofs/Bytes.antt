-- The test of two runs of bytes is equality. Assumes nothing.
use mathlib.Core.Bool.{true}
use mathlib.Core.List.{List, [], ◌∷◌}
use mathlib.Core.Logic.{◌↔◌}
use mathlib.Core.Path.{◌≡◌, refl, ap, ap₂, ◌∙◌}
use Prim.Native.Nat.{ℕ}
use lib.Dec.{eqb}
use Rattle.children.proofs.Cases.{clash, and-true, eqb-true, true-eqb}
use Rattle.handle.specs.Handle.{same_bytes}

same_refl : (a : List ℕ) → same_bytes a a ≡ true
unfolding same_bytes
same_refl [] = refl
same_refl (x ∷ xs) = rw (true-eqb x x refl) (same_refl xs)

same-eq : (a b : List ℕ) → same_bytes a b ≡ true → a ≡ b
unfolding same_bytes
same-eq [] [] e = refl
same-eq [] (y ∷ ys) e = clash e refl
same-eq (x ∷ xs) [] e = clash e refl
same-eq (x ∷ xs) (y ∷ ys) e =
    let h = and-true (eqb x y) (same_bytes xs ys) e in
    ap₂ ◌∷◌ (eqb-true x y h.0) (same-eq xs ys h.1)

-- the test is equality
pub same_iff : (a b : List ℕ) → (same_bytes a b ≡ true) ↔ (a ≡ b)
same_iff a b = (same-eq a b, λ e. ap (λ (x : List ℕ). same_bytes x b) e ∙ same_refl b)
