-- The pigeonhole. Assumes nothing.
use mathlib.Core.Path.{◌≡◌, refl}
use mathlib.Core.Logic.{◌⊎◌, inl, inr, ◌≢◌}
use Prim.Native.Nat.{ℕ, zero, suc, ◌+◌, ◌-◌, ◌≤◌, ◌<◌, min}
use native.Mathlib.Decide.{ℕ_discrete, dec_lt}
use native.Mathlib.Omega.{arith}
use Rattle.children.proofs.Cases.{find}

-- n + 1 numbers below n are not all different
pub record Twice (f : ℕ → ℕ) (n : ℕ) : Type 0 where
  pub lo : ℕ
  pub gap : ℕ
  pub inside : lo + suc gap ≤ n
  pub same : f lo ≡ f (lo + suc gap)

-- x, or v where x is n
swap : (n v x : ℕ) → Dec (x ≡ n) → ℕ
swap n v x (yes e) = v
swap n v x (no ne) = x

swapped : (n v x : ℕ) (d : Dec (x ≡ n)) → ((x ≡ n) × (swap n v x d ≡ v)) ⊎ ((x ≢ n) × (swap n v x d ≡ x))
unfolding swap
swapped n v x (yes e) = inl (e, refl)
swapped n v x (no ne) = inr (ne, refl)

module _ (n : ℕ) (f : ℕ → ℕ) (h : (i : ℕ) → i ≤ suc n → f i < suc n) where
  -- f, with n moved to where f's last value was
  g : ℕ → ℕ
  g i = swap n (f (suc n)) (f i) (ℕ_discrete (f i) n)

  at : (i : ℕ) → ((f i ≡ n) × (g i ≡ f (suc n))) ⊎ ((f i ≢ n) × (g i ≡ f i))
  unfolding g
  at i = swapped n (f (suc n)) (f i) (ℕ_discrete (f i) n)

  New : Type 0
  New = (i : ℕ) → i < suc n → f i ≢ f (suc n)

  low : New → (i : ℕ) → i ≤ n → g i < n
  unfolding New
  low none i l =
      let a = h i (omega arith) in
      let b = h (suc n) (omega arith) in
      let c = none i (omega arith) in
      elim (at i) [ inl e ↦ omega arith | inr e ↦ omega arith ]

  back : New → Twice g n → Twice f (suc n)
  unfolding New
  back none r =
      let a = none r.lo (omega arith) in
      let b = none (r.lo + suc r.gap) (omega arith) in
      record {
        lo = r.lo;
        gap = r.gap;
        inside = omega arith;
        same = elim (at r.lo) [
          | inl e ↦ elim (at (r.lo + suc r.gap)) [ inl e' ↦ cc | inr e' ↦ omega arith ]
          | inr e ↦ elim (at (r.lo + suc r.gap)) [ inl e' ↦ omega arith | inr e' ↦ cc ]
        ];
      }

  step : ((g : ℕ → ℕ) → ((i : ℕ) → i ≤ n → g i < n) → Twice g n) → Twice f (suc n)
  unfolding New
  step ih = elim (find (λ i. ℕ_discrete (f i) (f (suc n))) (suc n)) [
    | inl r ↦
        let e : r.0 + suc (n - r.0) ≡ suc n = omega arith in
        record { lo = r.0; gap = n - r.0; inside = omega arith; same = rw e r.2 }
    | inr none ↦ back none (ih g (low none))
  ]

pub pigeon : (n : ℕ) (f : ℕ → ℕ) → ((i : ℕ) → i ≤ n → f i < n) → Twice f n
pigeon zero f h = absurd (let k = h 0 (omega arith) in omega arith)
pigeon (suc n) f h = step n f h (pigeon n)

-- so there are at most n things that take places below n, each its own
module _ (n g : ℕ) (R : ℕ → ℕ → Type 0) (f : (k : ℕ) → k ≤ g → (c : ℕ) × (c < n) × R k c) where
  place : ℕ → ℕ
  place k = (f (min k g) (omega arith)).0

  placed : (k : ℕ) → (place k < n) × R (min k g) (place k)
  unfolding place
  placed k = ((f (min k g) (omega arith)).1, (f (min k g) (omega arith)).2)

  pub distinct : ((k j c : ℕ) → R k c → R j c → k ≡ j) → g < n
  distinct u = elim (dec_lt g n) [
    | yes l ↦ l
    | no nl ↦
        let w : Twice place n = pigeon n place (λ i l. (placed i).0) in
        let e = u (min w.lo g) (min (w.lo + suc w.gap) g) _ (rw w.same at (placed w.lo).1) (placed (w.lo + suc w.gap)).1 in
        absurd (omega arith)
  ]
