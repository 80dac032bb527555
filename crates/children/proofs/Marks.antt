-- The laws of marks, for any slot below 64 and any number of slots up to 64. Assumes nothing.
use Rattle.std.specs.Prelude.{Option, Some, None, unwrap_or}
use Rattle.std.proofs.lemmas.Option.{cond_some, none-some}
use mathlib.Core.Bool.{Bool, true, false, not, cond, ◌&&◌, ◌||◌, or_assoc, or-false}
use mathlib.Core.Path.{◌≡◌, refl, sym, ap, ◌∙◌, subst}
use mathlib.Core.Logic.{◌⊎◌, inl, inr}
use Prim.Native.Nat.{ℕ, zero, suc, ◌+◌, ◌-◌, ◌*◌, ◌/◌, ◌%◌, ◌^◌, ◌≤◌, ◌<◌, suc-le-suc}
use native.Mathlib.Nat.{zero-div, mod-lt, pow-suc, pow-succ', le_of_suc-le-suc, not-suc-le-zero, zero-lt-suc, div-add-mod', div-lt_iff_lt-mul, div-div-eq-div-mul, div-eq_of_lt, mul-div_cancel, lt_of_lt_of_le, zero-mul, one-mul, zero-add}
use native.Mathlib.Numerals.{add-one, one-add}
use native.Mathlib.Decide.{ℕ_discrete}
use native.Mathlib.Omega.{arith}
use lib.Arith.{lt-one}
use lib.Bits.{bit_and, bit_or, or_shr, or_mod, and_shr, and_mod, or_lt, and_le_l, and_high}
use lib.Count.{count_trailing_zeros, under, ones, ones_in, ones_cat}
use lib.Dec.{eqb, ltb, eqb-zero-suc, eqb-suc-zero, eqb-suc-suc}
use lib.Pow.{pow_pos, pow-lt, pow_mono, shr-shr, mod-pow-add, mod-mod-pow, field}
use borrow.Author.Tests.{eq-eqb, ne_eqb, lt-ltb, le-ltb}
use Rattle.children.specs.Below.{count, lowest_from}
use Rattle.children.specs.Marks.{mark_count, marked, has_below, with, joined, without, count_below, next_below, next_of}
use Rattle.children.proofs.Cases.{two, true-eqb, ltb-true, ltb-false}
use Rattle.children.proofs.Below.{count-le, count-put, low_ge, low-le, low_passes}

two_pos : zero < 2
two_pos = zero-lt-suc 1

-- ---- one digit

no-two : {p : ℕ} → suc (suc p) < 2 → ⊥
no-two h = not-suc-le-zero (le_of_suc-le-suc (le_of_suc-le-suc h))

bit-or : (p q : ℕ) → p < 2 → q < 2 → eqb (bit_or p q) 1 ≡ (eqb p 1 || eqb q 1)
bit-or zero zero hp hq = refl
bit-or zero (suc zero) hp hq = refl
bit-or (suc zero) zero hp hq = refl
bit-or (suc zero) (suc zero) hp hq = refl
bit-or zero (suc (suc q)) hp hq = absurd (no-two hq)
bit-or (suc zero) (suc (suc q)) hp hq = absurd (no-two hq)
bit-or (suc (suc p)) q hp hq = absurd (no-two hp)

bit-and : (p q : ℕ) → p < 2 → q < 2 → eqb (bit_and p q) 1 ≡ (eqb p 1 && eqb q 1)
bit-and zero zero hp hq = refl
bit-and zero (suc zero) hp hq = refl
bit-and (suc zero) zero hp hq = refl
bit-and (suc zero) (suc zero) hp hq = refl
bit-and zero (suc (suc q)) hp hq = absurd (no-two hq)
bit-and (suc zero) (suc (suc q)) hp hq = absurd (no-two hq)
bit-and (suc (suc p)) q hp hq = absurd (no-two hp)

bit_not : (p : ℕ) → p < 2 → eqb (1 - p) 1 ≡ not (eqb p 1)
bit_not zero hp = refl
bit_not (suc zero) hp = refl
bit_not (suc (suc p)) hp = absurd (no-two hp)

same_bit : (p q : ℕ) → p < 2 → q < 2 → eqb p 1 ≡ eqb q 1 → p ≡ q
same_bit zero zero hp hq e = refl
same_bit zero (suc zero) hp hq e = let z : ◌≡◌ {A = Bool} false true = e in cc
same_bit (suc zero) zero hp hq e = let z : ◌≡◌ {A = Bool} true false = e in cc
same_bit (suc zero) (suc zero) hp hq e = refl
same_bit zero (suc (suc q)) hp hq e = absurd (no-two hq)
same_bit (suc zero) (suc (suc q)) hp hq e = absurd (no-two hq)
same_bit (suc (suc p)) q hp hq e = absurd (no-two hp)

-- ---- a slot up is half the word

half_shr : (m k : ℕ) → m / 2 / 2 ^ k ≡ m / 2 ^ suc k
half_shr m k = shr-shr m 1 k ∙ ap (λ (j : ℕ). m / 2 ^ j) (one-add k)

pub marked-suc : (m k : ℕ) → marked m (suc k) ≡ marked (m / 2) k
unfolding marked
marked-suc m k = ap (λ (x : ℕ). eqb (x % 2) 1) (sym (half_shr m k))

pub marked_none : (k : ℕ) → marked 0 k ≡ false
unfolding marked
marked_none k = ap (λ (x : ℕ). eqb (x % 2) 1) (zero-div (2 ^ k))

half_lt : (m n : ℕ) → m < 2 ^ suc n → m / 2 < 2 ^ n
half_lt m n h = (div-lt_iff_lt-mul two_pos).1 (subst (λ (x : ℕ). m < x) (pow-suc 2 n) h)

-- ---- the marks of a result

pub marked-joined : (a b k : ℕ) → marked (joined a b) k ≡ (marked a k || marked b k)
unfolding marked
marked-joined a b k =
    ap (λ (x : ℕ). eqb (x % 2) 1) (or_shr a b k)
    ∙ ap (λ (x : ℕ). eqb x 1) (or_mod (a / 2 ^ k) (b / 2 ^ k) 1)
    ∙ bit-or (a / 2 ^ k % 2) (b / 2 ^ k % 2) (mod-lt (a / 2 ^ k) two_pos) (mod-lt (b / 2 ^ k) two_pos)

marked-and : (a b k : ℕ) → marked (bit_and a b) k ≡ (marked a k && marked b k)
unfolding marked
marked-and a b k =
    ap (λ (x : ℕ). eqb (x % 2) 1) (and_shr a b k)
    ∙ ap (λ (x : ℕ). eqb x 1) (and_mod (a / 2 ^ k) (b / 2 ^ k) 1)
    ∙ bit-and (a / 2 ^ k % 2) (b / 2 ^ k % 2) (mod-lt (a / 2 ^ k) two_pos) (mod-lt (b / 2 ^ k) two_pos)

-- one mark alone
pub marked-one : (k j : ℕ) → marked (2 ^ k) j ≡ eqb j k
unfolding marked
marked-one zero zero = refl
marked-one zero (suc j) = marked-suc 1 j ∙ marked_none j ∙ sym (eqb-suc-zero j)
marked-one (suc k) zero =
    ap (λ (x : ℕ). eqb (x / 1 % 2) 1) (pow-suc 2 k) ∙ ap (λ (x : ℕ). eqb x 1) (let e : 2 ^ k * 2 / 1 % 2 ≡ 0 = omega arith in e) ∙ sym (eqb-zero-suc k)
marked-one (suc k) (suc j) =
    marked-suc (2 ^ suc k) j
    ∙ ap (λ (x : ℕ). marked x j) (ap (λ (x : ℕ). x / 2) (pow-suc 2 k) ∙ mul-div_cancel (2 ^ k) two_pos)
    ∙ marked-one k j ∙ sym (eqb-suc-suc j k)

pub marked-with : (m k j : ℕ) → marked (with m k) j ≡ (marked m j || eqb j k)
marked-with m k j = marked-joined m (2 ^ k) j ∙ ap (λ (x : Bool). marked m j || x) (marked-one k j)

-- the complement at w bits
marked-not : (w b k : ℕ) → b < 2 ^ w → k < w → marked (2 ^ w - 1 - b) k ≡ not (marked b k)
unfolding marked
marked-not zero b k hb hk = absurd (not-suc-le-zero hk)
marked-not (suc w) b zero hb hk =
    let h : b < 2 ^ w * 2 = subst (λ (x : ℕ). b < x) (pow-suc 2 w) hb in
    ap (λ (x : ℕ). eqb ((x - 1 - b) / 1 % 2) 1) (pow-suc 2 w)
    ∙ ap (λ (x : ℕ). eqb x 1) (let e : (2 ^ w * 2 - 1 - b) / 1 % 2 ≡ 1 - b / 1 % 2 = omega arith in e)
    ∙ bit_not (b / 1 % 2) (mod-lt (b / 1) two_pos)
marked-not (suc w) b (suc k) hb hk =
    let h : b < 2 ^ w * 2 = subst (λ (x : ℕ). b < x) (pow-suc 2 w) hb in
    marked-suc (2 ^ suc w - 1 - b) k
    ∙ ap (λ (x : ℕ). marked ((x - 1 - b) / 2) k) (pow-suc 2 w)
    ∙ ap (λ (x : ℕ). marked x k) (let e : (2 ^ w * 2 - 1 - b) / 2 ≡ 2 ^ w - 1 - b / 2 = omega arith in e)
    ∙ marked-not w (b / 2) k (half_lt b w hb) (le_of_suc-le-suc hk)
    ∙ ap not (sym (marked-suc b k))

-- a word cut to w bits has the same marks below w
marked_cut : (w m k : ℕ) → k < w → marked (m % 2 ^ w) k ≡ marked m k
unfolding marked
marked_cut w m k h =
    let j = w - suc k in
    let e : suc j + k ≡ w = omega arith in
    ap (λ (x : ℕ). eqb (m % 2 ^ x / 2 ^ k % 2) 1) (sym e) ∙ ap (λ (x : ℕ). eqb (x % 2) 1) (field m (suc j) k)
    ∙ ap (λ (x : ℕ). eqb (m / 2 ^ k % 2 ^ x % 2) 1) (sym (add-one j)) ∙ ap (λ (x : ℕ). eqb x 1) (mod-mod-pow (m / 2 ^ k) j 1)

pub marked-without : (a b k : ℕ) → k < mark_count → marked (without a b) k ≡ (marked a k && not (marked b k))
marked-without a b k h =
    marked-and a (2 ^ mark_count - 1 - b % 2 ^ mark_count) k
    ∙ ap (λ (x : Bool). marked a k && x) (marked-not mark_count (b % 2 ^ mark_count) k (mod-lt b (pow_pos mark_count)) h ∙ ap not (marked_cut mark_count b k h))

-- ---- results are words, and words are determined by their marks

pub joined_word : (n a b : ℕ) → a < 2 ^ n → b < 2 ^ n → joined a b < 2 ^ n
joined_word n a b ha hb = or_lt n a b ha hb

pub with-word : (n m k : ℕ) → m < 2 ^ n → k < n → with m k < 2 ^ n
with-word n m k hm hk = or_lt n m (2 ^ k) hm (pow-lt hk)

pub without-word : (n a b : ℕ) → a < 2 ^ n → without a b < 2 ^ n
without-word n a b ha = let h = and_le_l a (2 ^ mark_count - 1 - b % 2 ^ mark_count) in omega arith

pub same-marks : (n a b : ℕ) → a < 2 ^ n → b < 2 ^ n → ((k : ℕ) → k < n → marked a k ≡ marked b k) → a ≡ b
unfolding marked
same-marks zero a b ha hb f = lt-one ha ∙ sym (lt-one hb)
same-marks (suc n) a b ha hb f =
    let low : a % 2 ≡ b % 2 = same_bit (a % 2) (b % 2) (mod-lt a two_pos) (mod-lt b two_pos)
    (ap (λ (x : ℕ). eqb (x % 2) 1) (let e : a ≡ a / 1 = omega arith in e) ∙ f zero (zero-lt-suc n) ∙ ap (λ (x : ℕ). eqb (x % 2) 1) (let e : b / 1 ≡ b = omega arith in e)) in
    let high : a / 2 ≡ b / 2 = same-marks n (a / 2) (b / 2) (half_lt a n ha) (half_lt b n hb)
    (λ k h. sym (marked-suc a k) ∙ f (suc k) (suc-le-suc h) ∙ marked-suc b k) in
    omega (arith, div-add-mod' a 2, div-add-mod' b 2)

-- marks joined twice are the same, whichever two come first
below_power : (n : ℕ) → n < 2 ^ n
below_power zero = zero-lt-suc 0
below_power (suc n) = let h = below_power n in let e = pow-suc 2 n in omega arith

pub joined_assoc : (a b c : ℕ) → joined (joined a b) c ≡ joined a (joined b c)
joined_assoc a b c =
    let n = a + b + c in
    let ha : a < 2 ^ n = lt_of_lt_of_le (below_power a) (pow_mono (omega arith)) in
    let hb : b < 2 ^ n = lt_of_lt_of_le (below_power b) (pow_mono (omega arith)) in
    let hc : c < 2 ^ n = lt_of_lt_of_le (below_power c) (pow_mono (omega arith)) in
    same-marks n (joined (joined a b) c) (joined a (joined b c))
    (joined_word n (joined a b) c (joined_word n a b ha hb) hc) (joined_word n a (joined b c) ha (joined_word n b c hb hc))
    (λ k h. marked-joined (joined a b) c k ∙ ap (λ (x : Bool). x || marked c k) (marked-joined a b k) ∙ or_assoc (marked a k) (marked b k) (marked c k)
    ∙ sym (marked-joined a (joined b c) k ∙ ap (λ (x : Bool). marked a k || x) (marked-joined b c k)))

-- a word has no mark from its width up
pub marked-high : (n m k : ℕ) → m < 2 ^ n → n ≤ k → marked m k ≡ false
unfolding marked
marked-high n m k h l = rw (div-eq_of_lt (lt_of_lt_of_le h (pow_mono l)))

-- a word with no mark is 0
pub no-marks : (n m : ℕ) → m < 2 ^ n → ((k : ℕ) → k < n → marked m k ≡ false) → m ≡ 0
no-marks n m h f = same-marks n m 0 h (pow_pos n) (λ k l. f k l ∙ sym (marked_none k))

pub marked-with_own : (m k : ℕ) → marked (with m k) k ≡ true
marked-with_own m k = marked-with m k k ∙ rw (true-eqb k k refl) (or_on (marked m k))
  where
    or_on : (b : Bool) → (b || true) ≡ true
    or_on true = refl
    or_on false = refl

pub marked-with-other : (m k j : ℕ) → (j ≡ k → ⊥) → marked (with m k) j ≡ marked m j
marked-with-other m k j ne = marked-with m k j ∙ rw (ne_eqb j k ne) (or-false (marked m j))

-- ---- below a number of slots

pub has-is : (n m k : ℕ) → k < n → has_below n m k ≡ marked m k
unfolding has_below
has-is n m k h = ap (λ (x : Bool). x && marked m k) (lt-ltb k n h)

pub has-not : (n m k : ℕ) → n ≤ k → has_below n m k ≡ false
unfolding has_below
has-not n m k h = ap (λ (x : Bool). x && marked m k) (le-ltb k n h)

-- a mark below n that `has_child` answered for
pub seen : (n m k : ℕ) {r b : Bool} → k < n → r ≡ has_below n m k → r ≡ b → marked m k ≡ b
seen n m k h e f = sym (has-is n m k h) ∙ sym e ∙ f

pub count-with : (n m k : ℕ) → k < n → marked m k ≡ false → count_below n (with m k) ≡ suc (count_below n m)
count-with n m k h u =
    count-put (marked m) (marked (with m k)) k u (marked-with_own m k) (λ i ne. sym (marked-with-other m k i ne)) n h

-- where a slot below n is not marked, fewer than n are
pub count_short : (n m k : ℕ) → k < n → marked m k ≡ false → count_below n m < n
count_short n m k h u = omega (arith, count-with n m k h u, count-le (marked (with m k)) n)

pub count_empty : (n : ℕ) → count_below n 0 ≡ 0
unfolding count
count_empty zero = refl
count_empty (suc n) = rw (marked_none n) (count_empty n)

-- ---- the count of a word's bits

bit-of : (m k : ℕ) → ((m / 2 ^ k % 2 ≡ 1) × (marked m k ≡ true)) ⊎ ((m / 2 ^ k % 2 ≡ 0) × (marked m k ≡ false))
unfolding marked
bit-of m k = elim (ℕ_discrete (m / 2 ^ k % 2) 1) [ yes e ↦ inl (e, eq-eqb _ _ e) | no ne ↦ inr (omega arith, ne_eqb _ _ ne) ]

-- one digit more
ones-suc : (n m : ℕ) → ones (m % 2 ^ suc n) ≡ ones (m / 2 ^ n % 2) + ones (m % 2 ^ n)
ones-suc n m =
    ap (λ (k : ℕ). ones (m % 2 ^ k)) (sym (one-add n)) ∙ ap ones (mod-pow-add m 1 n)
    ∙ ones_cat n (m / 2 ^ n % 2) (m % 2 ^ n) (mod-lt m (pow_pos n))

pub count_ones : (n m : ℕ) → count_below n m ≡ ones (m % 2 ^ n)
unfolding count ones ones_in
count_ones zero m = let e : m % 2 ^ 0 ≡ 0 = omega arith in sym (ap ones e)
count_ones (suc n) m =
    let ih = count_ones n m in
    elim (bit-of m n) [
      | inl e ↦ rw e.1 (ap suc ih ∙ sym (ones-suc n m ∙ rw e.0 (one-add (ones (m % 2 ^ n)))))
      | inr e ↦ rw e.1 (ih ∙ sym (ones-suc n m ∙ rw e.0 (zero-add (ones (m % 2 ^ n)))))
    ]

-- ---- the next mark is found by a count of trailing zeros

halved : (m k : ℕ) → m / 2 ^ k / 2 ≡ m / 2 ^ suc k
halved m k = div-div-eq-div-mul m (2 ^ k) 2 ∙ ap (λ (x : ℕ). m / x) (sym (pow-suc 2 k))

zeros_even : (d m k : ℕ) → m / 2 ^ k % 2 ≡ 0 → count_trailing_zeros (suc d) (m / 2 ^ k) ≡ suc (count_trailing_zeros d (m / 2 ^ suc k))
unfolding count_trailing_zeros
zeros_even d m k e = ap (λ (r : ℕ). under r (count_trailing_zeros d (m / 2 ^ k / 2))) e ∙ ap (λ (x : ℕ). suc (count_trailing_zeros d x)) (halved m k)

zeros_odd : (d m k : ℕ) → m / 2 ^ k % 2 ≡ 1 → count_trailing_zeros (suc d) (m / 2 ^ k) ≡ 0
unfolding count_trailing_zeros
zeros_odd d m k e = ap (λ (r : ℕ). under r (count_trailing_zeros d (m / 2 ^ k / 2))) e

pub next_in : (g d m k : ℕ) → g ≤ d → k + count_trailing_zeros d (m / 2 ^ k) < k + g → k + count_trailing_zeros d (m / 2 ^ k) ≡ lowest_from (marked m) g k
unfolding lowest_from
next_in zero d m k h l = absurd (omega arith)
next_in (suc g) zero m k h l = absurd (omega arith)
next_in (suc g) (suc d) m k h l = elim (bit-of m k) [
  | inl e ↦ let z = zeros_odd d m k e.0 in rw e.1 (omega arith)
  | inr e ↦
      let z = zeros_even d m k e.0 in
      let r = next_in g d m (suc k) (omega arith) (omega arith) in
      rw e.1 (omega arith)
]

pub next_out : (g d m k : ℕ) → g ≤ d → k + g ≤ k + count_trailing_zeros d (m / 2 ^ k) → k + g ≡ lowest_from (marked m) g k
unfolding lowest_from
next_out zero d m k h l = omega arith
next_out (suc g) zero m k h l = absurd (omega arith)
next_out (suc g) (suc d) m k h l = elim (bit-of m k) [
  | inl e ↦ let z = zeros_odd d m k e.0 in absurd (omega arith)
  | inr e ↦
      let z = zeros_even d m k e.0 in
      let r = next_out g d m (suc k) (omega arith) (omega arith) in
      rw e.1 (omega arith)
]

-- the next mark is the lowest at k or above it, and one below n
pub next-some : (n m k r : ℕ) {o : Option ℕ} → o ≡ next_of n m k → o ≡ Some r → (r ≡ next_below n m k) × (k ≤ r) × (r < n) × (marked m r ≡ true)
unfolding next_of
next-some n m k r q e =
    let low = next_below n m k in
    let ge = low_ge (marked m) (n - k) k in
    let p = cond_some (ltb low n) low r (sym q ∙ e) in
    let s = sym p.1 in
    let l = ltb-true low n p.0 in
    (s, omega arith, omega arith, ap (marked m) s ∙ low_passes (marked m) (n - k) k (omega arith))

-- where there is none, there is none below n
pub next-none : (n m k : ℕ) {o : Option ℕ} → o ≡ next_of n m k → o ≡ None → n ≤ next_below n m k
unfolding next_of
next-none n m k q e = elim (two (ltb (next_below n m k) n)) [
  | inl b ↦ absurd (none-some _ (sym (sym q ∙ e) ∙ ap (λ (x : Bool). cond x (Some (next_below n m k)) None) b))
  | inr b ↦ ltb-false _ n b
]

-- with n for none, it is the lowest
pub next-low : (n m k : ℕ) {o : Option ℕ} → k ≤ n → o ≡ next_of n m k → unwrap_or o n ≡ next_below n m k
unfolding next_of
next-low n m k h q =
    let low = next_below n m k in
    let le = low-le (marked m) (n - k) k in
    ap (λ (x : Option ℕ). unwrap_or x n) q
    ∙ elim (two (ltb low n)) [
      | inl b ↦ rw b
      | inr b ↦ let g = ltb-false low n b in rw b (omega arith)
    ]

-- so from mark to mark there is less left
pub next-smaller : (n m k : ℕ) {o p : Option ℕ} → k < n → o ≡ Some k → p ≡ next_of n m (k + 1) → n - unwrap_or p n < n - unwrap_or o n
next-smaller n m k h e q =
    let s = ap (λ (x : Option ℕ). unwrap_or x n) e in
    let t = next-low n m (k + 1) (omega arith) q in
    let ge = low_ge (marked m) (n - (k + 1)) (k + 1) in
    omega arith

-- ---- a mask of one bit tests it

times : (x m : ℕ) → x < 2 → 0 < m → not (eqb (x * m) 0) ≡ eqb x 1
times zero m lt pos = rw (zero-mul m)
times (suc zero) m lt pos = let n : eqb m 0 ≡ false = ne_eqb m 0 (λ e. omega arith) in rw (one-mul m, n)
times (suc (suc x)) m lt pos = absurd (omega arith)

pub mask-bit : (k n : ℕ) → not (eqb (bit_and n (2 ^ k)) 0) ≡ marked n k
unfolding marked
mask-bit k n =
    let p : 2 ^ (1 + k) ≡ 2 * 2 ^ k = ap (λ (j : ℕ). 2 ^ j) (omega arith) ∙ pow-succ' 2 k in
    let m : 2 ^ (1 + k) - 2 ^ k ≡ 2 ^ k = omega arith in
    let a : bit_and n (2 ^ k) ≡ (n / 2 ^ k % 2) * 2 ^ k = rw m at (and_high n 1 k) in
    rw a (times (n / 2 ^ k % 2) (2 ^ k) (mod-lt (n / 2 ^ k) (omega arith)) (pow_pos k))
