-- Walks of which more fuel changes no answer: what fuel a slot needs, and how much is enough. Assumes nothing.
use mathlib.Core.Path.{◌≡◌, refl, sym, ◌∙◌}
use mathlib.Core.Logic.{◌⊎◌, inl, inr, ◌≢◌, ◌↔◌}
use Prim.Native.Nat.{ℕ, zero, suc, ◌+◌, ◌≤◌, ◌<◌}
use native.Mathlib.Decide.{le_ind}
use native.Mathlib.Omega.{arith}
use Rattle.children.proofs.Cases.{order}
use Rattle.forest.specs.Walk.{Answer, loops, bad, ok}

-- ---- answers

pub bad-ok : {a : Answer} {w : ℕ} → a ≡ bad → a ≢ ok w
bad-ok {a} {w} p q = let z : ◌≡◌ {A = ℕ} 0 1 = cc in omega arith

pub loops-ok : {a : Answer} {w : ℕ} → a ≡ loops → a ≢ ok w
loops-ok {a} {w} p q = let z : ◌≡◌ {A = ℕ} 0 1 = cc in omega arith

pub bad-loops : {a : Answer} → a ≡ bad → a ≢ loops
bad-loops {a} p q = let z : ◌≡◌ {A = ℕ} 0 1 = cc in omega arith

pub looped : (a : Answer) → (a ≡ loops) ⊎ (a ≢ loops)
looped loops = inl refl
looped bad = inr (λ e. bad-loops refl e)
looped (ok x) = inr (λ e. loops-ok e refl)

-- ---- the fuel that s needs in the walk w: g is too little, and one more is enough

abbrev pub Rank : (ℕ → ℕ → Answer) → ℕ → ℕ → Type 0
Rank w g s = (w g s ≡ loops) × (w (suc g) s ≢ loops)

module _ (w : ℕ → ℕ → Answer) (spent : (s : ℕ) → w 0 s ≡ loops) (same : (f s : ℕ) → w f s ≢ loops → w (suc f) s ≡ w f s) where
  same-le : (f g s : ℕ) → f ≤ g → w f s ≢ loops → w g s ≡ w f s
  same-le f g s l h = le_ind {n = f} (λ k. w k s ≡ w f s) refl (λ k l e. same k s (λ z. h (sym e ∙ z)) ∙ e) g l

  pub rank-one : (g h s : ℕ) → Rank w g s → Rank w h s → g ≡ h
  rank-one g h s a b = elim (order g h) [
    | inl l ↦ absurd (a.1 (sym (same-le (suc g) h s l a.1) ∙ b.0))
    | inr o ↦ elim o [ inl e ↦ e | inr l ↦ absurd (b.1 (sym (same-le (suc h) g s l b.1) ∙ a.0)) ]
  ]

  rank : (f s : ℕ) → w f s ≢ loops → (g : ℕ) × (g < f) × Rank w g s
  rank zero s h = absurd (h (spent s))
  rank (suc f) s h = elim (looped (w f s)) [
    | inl e ↦ (f, omega arith, (e, h))
    | inr k ↦ let r = rank f s k in (r.0, omega arith, r.2)
  ]

  -- where s needs n at most, n is as good as any
  module _ (n s : ℕ) (bounded : (g : ℕ) → Rank w g s → g < n) where
    pub enough-at : (f : ℕ) → w f s ≢ loops → w n s ≡ w f s
    enough-at f e =
        let r = rank f s e in
        let b = bounded r.0 r.2 in
        same-le (suc r.0) n s b r.2.1 ∙ sym (same-le (suc r.0) f s r.1 r.2.1)

    pub never-at : (w n s ≡ loops) ↔ ((f : ℕ) → w f s ≡ loops)
    never-at = (
      λ e f. elim (looped (w f s)) [ inl q ↦ q | inr k ↦ absurd (k (sym (enough-at f k) ∙ e)) ],
      λ a. a n,
    )

    pub more-at : (e : ℕ) → w (n + e) s ≡ w n s
    more-at e = elim (looped (w (n + e) s)) [
      | inr k ↦ sym (enough-at (n + e) k)
      | inl q ↦ elim (looped (w n s)) [ inl z ↦ q ∙ sym z | inr k ↦ same-le n (n + e) s (omega arith) k ]
    ]
