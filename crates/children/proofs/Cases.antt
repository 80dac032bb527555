-- Cases on a Bool, on two numbers, and on the numbers below a limit. Assumes nothing.
use mathlib.Core.Path.{◌≡◌, refl}
use mathlib.Core.Logic.{◌⊎◌, inl, inr, ⊎_elim}
use mathlib.Core.Bool.{Bool, true, false, not, ◌&&◌, ◌||◌}
use lib.Dec.{T, eqb, leb, ltb, lt→ltb, eqb→eq, eqb_refl, leb→le}
use Prim.Native.Nat.{ℕ, zero, suc, ◌≤◌, ◌<◌}
use native.Mathlib.Decide.{ℕ_discrete, dec_lt}
use native.Mathlib.Omega.{arith}

pub two : (b : Bool) → (b ≡ true) ⊎ (b ≡ false)
two true = inl refl
two false = inr refl

pub clash : {A : Type 0} {b : Bool} → b ≡ true → b ≡ false → A
clash {A} {b} p q = absurd (let z : ◌≡◌ {A = ℕ} 0 1 = cc in omega arith)

-- a sum taken apart, the sum first, so that each side's type is known where its answer stands
pub cases : {A B C : Type 0} → A ⊎ B → (A → C) → (B → C) → C
cases s f g = ⊎_elim f g s

pub order : (a b : ℕ) → (a < b) ⊎ (a ≡ b) ⊎ (b < a)
order a b = elim (ℕ_discrete a b) [ yes e ↦ inr (inl e) | no ne ↦ elim (dec_lt a b) [ yes l ↦ inl l | no nl ↦ inr (inr (omega arith)) ] ]

-- is there an i below k with P i?
pub find : {P : ℕ → Type 0} → ((i : ℕ) → Dec (P i)) → (k : ℕ) → ((i : ℕ) × (i < k) × P i) ⊎ ((i : ℕ) → i < k → ¬ P i)
find d zero = inr (λ i h p. omega arith)
find {P} d (suc k) = go (find d k) (d k)
  where
    go : ((i : ℕ) × (i < k) × P i) ⊎ ((i : ℕ) → i < k → ¬ P i) → Dec (P k) → ((i : ℕ) × (i < suc k) × P i) ⊎ ((i : ℕ) → i < suc k → ¬ P i)
    go (inl f) q = inl (f.0, omega arith, f.2)
    go (inr none) (yes p) = inl (k, omega arith, p)
    go (inr none) (no np) = inr (λ i h p. elim (ℕ_discrete i k) [ yes e ↦ np (rw e at p) | no ne ↦ none i (omega arith) p ])

-- ---- Bool

pub and-true : (a b : Bool) → a && b ≡ true → (a ≡ true) × (b ≡ true)
and-true true b e = (refl, e)
and-true false b e = clash e refl

pub and_both : {a b : Bool} → a ≡ true → b ≡ true → (a && b) ≡ true
and_both p q = rw (p, q)

pub and_left : {a : Bool} (b : Bool) → a ≡ false → (a && b) ≡ false
and_left b p = rw p

pub and_right : (a : Bool) {b : Bool} → b ≡ false → (a && b) ≡ false
and_right true p = p
and_right false p = refl

pub or_cases : (a b : Bool) → (a || b) ≡ true → (a ≡ true) ⊎ (b ≡ true)
or_cases true b e = inl refl
or_cases false b e = inr e

pub or_right : (a b : Bool) → b ≡ true → (a || b) ≡ true
or_right true b e = refl
or_right false b e = e

pub or_left : {a : Bool} (b : Bool) → a ≡ true → (a || b) ≡ true
or_left b p = rw p

pub or_none : {a b : Bool} → a ≡ false → b ≡ false → (a || b) ≡ false
or_none p q = rw (p, q)

pub not-true : (b : Bool) → not b ≡ true → b ≡ false
not-true true e = clash e refl
not-true false e = refl

pub not-false : (b : Bool) → not b ≡ false → b ≡ true
not-false true e = refl
not-false false e = clash refl e

-- ---- tests on numbers

pub of_T : (b : Bool) → T b → b ≡ true
of_T true h = refl
of_T false h = absurd h

pub eqb-true : (m n : ℕ) → eqb m n ≡ true → m ≡ n
eqb-true m n e = eqb→eq m n (rw e tt)

pub true-eqb : (m n : ℕ) → m ≡ n → eqb m n ≡ true
true-eqb m n e = of_T (eqb m n) (rw e (eqb_refl n))

pub leb-true : (m n : ℕ) → leb m n ≡ true → m ≤ n
leb-true m n e = leb→le m n (rw e tt)

pub ltb-true : (m n : ℕ) → ltb m n ≡ true → m < n
ltb-true m n e = leb-true (suc m) n e

pub ltb-false : (a b : ℕ) → ltb a b ≡ false → b ≤ a
ltb-false a b e = elim (dec_lt a b) [ yes l ↦ clash (of_T (ltb a b) (lt→ltb a b l)) e | no nl ↦ omega arith ]
