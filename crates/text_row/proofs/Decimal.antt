-- Decimal text: what the library's `decimal` puts is the definition's, and how long it is at most. Assumes nothing.
use Prim.Native.Nat.{ℕ, zero, suc, ◌+◌, ◌*◌, ◌/◌, ◌%◌, ◌^◌, ◌-◌, ◌≤◌, ◌<◌}
use mathlib.Core.Path.{◌≡◌, sym, ap, ◌∙◌}
use mathlib.Core.List.{List, [], ◌∷◌, ◌++◌}
use mathlib.Core.Logic.{inl, inr}
use native.Mathlib.Nat.{pow-succ', pow-le-pow_right}
use native.Mathlib.Omega.{arith}
use lib.ListN.{length, length-append, take}
use lib.Dec.{ltb}
use borrow.Author.Tests.{lt-ltb, le-ltb, ltb-true, ltb-false}
use Rattle.io.specs.Counts.{IsPrefixLen}
use Rattle.io.specs.Digits.{hex_digit_ascii, last_digits, IsDigitCount}
use Rattle.children.proofs.Cases.{two}
use Rattle.text_row.specs.Row.{digits_most, decimal_from, decimal_of}

glyph_digit : (d : ℕ) → d < 10 → hex_digit_ascii d ≡ 48 + d
glyph_digit d h = rw (lt-ltb d 10 h)

from_one : (f n : ℕ) → n < 10 → decimal_from (suc f) n ≡ (48 + n) ∷ []
unfolding decimal_from
from_one f n h = rw (lt-ltb n 10 h)

from_more : (f n : ℕ) → 10 ≤ n → decimal_from (suc f) n ≡ decimal_from f (n / 10) ++ ((48 + n % 10) ∷ [])
unfolding decimal_from
from_more f n h = rw (le-ltb n 10 h)

positive : (k : ℕ) → 0 < 10 ^ k
positive zero = omega arith
positive (suc k) = omega (arith, pow-succ' 10 k, positive k)

-- the fewest digits of n are its decimal text, whatever the room
digits_from : (k f n : ℕ) → k ≤ f → n < 10 ^ suc k → (1 < suc k → 10 ^ k ≤ n) → last_digits 10 (suc k) n ≡ decimal_from (suc f) n
digits_from zero f n r u l =
    let e : n % 10 ≡ n = omega arith in
    rw (glyph_digit (n % 10) (omega arith), e) (sym (from_one f n (omega arith)))
digits_from (suc k) zero n r u l = absurd (omega arith)
digits_from (suc k) (suc f) n r u l =
    let p : 10 ^ suc (suc k) ≡ 10 * 10 ^ suc k = pow-succ' 10 (suc k) in
    let p' : 10 ^ suc k ≡ 10 * 10 ^ k = pow-succ' 10 k in
    let b : 10 ^ suc k ≤ n = l (omega arith) in
    let z : 0 < 10 ^ k = positive k in
    let ih = digits_from k f (n / 10) (omega arith) (omega arith) (λ _. omega arith) in
    ap (λ (x : List ℕ). x ++ (hex_digit_ascii (n % 10) ∷ [])) ih
    ∙ ap (λ (x : ℕ). decimal_from (suc f) (n / 10) ++ (x ∷ [])) (glyph_digit (n % 10) (omega arith))
    ∙ sym (from_more (suc f) n (omega arith))

-- a number of 32 bits has at most ten digits
few : (k n : ℕ) → n < 2 ^ 32 → (1 < suc k → 10 ^ k ≤ n) → suc k ≤ digits_most
few k n u l = elim (two (ltb k digits_most)) [
  | inl e ↦ ltb-true k digits_most e
  | inr e ↦ absurd (omega (arith, l (omega (arith, ltb-false k digits_most e)), pow-le-pow_right {n = 10} (omega arith) {i = digits_most} {j = k} (ltb-false k digits_most e)))
]

decimal-is : (n r : ℕ) → n < 2 ^ 32 → IsDigitCount 10 1 n r → last_digits 10 r n ≡ decimal_of n
unfolding decimal_of
decimal-is n zero u h = absurd (omega (arith, h.0))
decimal-is n (suc k) u h =
    let e : suc k - 1 ≡ k = omega arith in
    let l : 1 < suc k → 10 ^ k ≤ n = λ w. rw e at (h.2 w) in
    digits_from k 9 n (omega (arith, few k n u l)) h.1 l

-- the text is no longer than its room
from_short : (f n : ℕ) → length (decimal_from f n) ≤ f
unfolding decimal_from
from_short zero n = omega arith
from_short (suc f) n = elim (two (ltb n 10)) [
  | inl e ↦ rw (from_one f n (ltb-true n 10 e)) (omega arith)
  | inr e ↦ rw (from_more f n (ltb-false n 10 e)) (omega (arith, length-append (decimal_from f (n / 10)) ((48 + n % 10) ∷ []), from_short f (n / 10)))
]

-- what the library's `decimal` ensures gives the text, and that it is short
pub decimal-put : (n r : ℕ) (xs : List ℕ) → n < 2 ^ 32 → IsPrefixLen r xs × (IsDigitCount 10 1 n r × (take r xs ≡ last_digits 10 r n))
    → (take r xs ≡ decimal_of n) × (r ≤ digits_most)
unfolding decimal_of
decimal-put n r xs u h =
    let d : take r xs ≡ decimal_of n = h.1.1 ∙ decimal-is n r u h.1.0 in
    (d, omega (arith, h.0.1 ∙ ap length d, from_short digits_most n))
