-- The climb, for any table, linked or not. From the parent of a slot that is in no run, a depth of n is as good as any: it answers `loops` at depth n
-- just where it does so at every depth. Assumes nothing.
use mathlib.Core.Path.{◌≡◌, refl, sym, ◌∙◌}
use mathlib.Core.Logic.{◌⊎◌, inl, inr, ◌≢◌, ◌↔◌}
use mathlib.Core.Bool.{Bool, true, false}
use Prim.Native.Nat.{ℕ, zero, suc, ◌+◌, ◌≤◌, ◌<◌}
use native.Mathlib.Decide.{ℕ_discrete}
use native.Mathlib.Omega.{arith}
use lib.Dec.{eqb, ltb}
use Rattle.children.specs.Marks.{with}
use Rattle.children.proofs.Cases.{two, clash, eqb-true, true-eqb, ltb-true, ltb-false}
use Rattle.context.specs.Context.{no_parent}
use Rattle.forest.specs.Walk.{Answer, loops, bad, ok}
use Rattle.forest.specs.Run.{climb}
use Rattle.forest.proofs.Pigeon.{distinct}
use Rattle.forest.proofs.Fuel.{bad-loops, loops-ok, Rank, rank-one, enough-at, never-at, more-at}

module _ (n : ℕ) (passes : ℕ → Bool) (parent : ℕ → ℕ) where
  -- a step of the climb: it ends, it leaves the table, or it takes p and goes on
  pub data Step (p : ℕ) : Type 0 where
    ends : (p ≡ no_parent) ⊎ (p < n) → (p < n → passes p ≡ false) → ((f a : ℕ) → climb n passes parent (suc f) a p ≡ ok a) → Step p
    outside : n ≤ p → p ≢ no_parent → ((f a : ℕ) → climb n passes parent (suc f) a p ≡ bad) → Step p
    goes : p < n → passes p ≡ true → ((f a : ℕ) → climb n passes parent (suc f) a p ≡ climb n passes parent f (with a p) (parent p)) → Step p

  pub step : (p : ℕ) → Step p
  unfolding climb
  step p = elim (two (ltb p n)) [
    | inl b ↦ elim (two (passes p)) [
      | inl e ↦ goes (ltb-true p n b) e (λ f a. rw (b, e))
      | inr e ↦ ends (inr (ltb-true p n b)) (λ h. e) (λ f a. rw (b, e))
    ]
    | inr b ↦
        let h = ltb-false p n b in
        elim (two (eqb p no_parent)) [
          | inl e ↦ ends (inl (eqb-true p no_parent e)) (λ k. absurd (omega arith)) (λ f a. rw (b, e))
          | inr e ↦ outside h (λ q. clash (true-eqb p no_parent q) e) (λ f a. rw (b, e))
        ]
  ]

  -- whether it loops does not turn on what was taken
  any : (f a b p : ℕ) → climb n passes parent f a p ≡ loops → climb n passes parent f b p ≡ loops
  unfolding climb
  any zero a b p e = refl
  any (suc f) a b p e = elim (step p) [
    | ends y z k ↦ absurd (loops-ok e (k f a))
    | outside h ne k ↦ absurd (bad-loops (k f a) e)
    | goes h s k ↦ k f b ∙ any f (with a p) (with b p) (parent p) (sym (k f a) ∙ e)
  ]

  -- one more depth changes no answer
  deeper : (f a p : ℕ) → climb n passes parent f a p ≢ loops → climb n passes parent (suc f) a p ≡ climb n passes parent f a p
  unfolding climb
  deeper zero a p h = absurd (h refl)
  deeper (suc f) a p h = elim (step p) [
    | ends y z k ↦ k (suc f) a ∙ sym (k f a)
    | outside o ne k ↦ k (suc f) a ∙ sym (k f a)
    | goes o s k ↦ k (suc f) a ∙ deeper f (with a p) (parent p) (λ z. h (k f a ∙ z)) ∙ sym (k f a)
  ]

  module _ (a : ℕ) where
    rise : ℕ → ℕ → Answer
    rise f p = climb n passes parent f a p

    same : (f p : ℕ) → rise f p ≢ loops → rise (suc f) p ≡ rise f p
    unfolding rise
    same f p h = deeper f a p h

    spent : (p : ℕ) → rise 0 p ≡ loops
    unfolding rise climb
    spent p = refl

    -- above a slot of rank g + 1, which is taken, stands one of rank g
    lower : (g p : ℕ) → Rank rise (suc g) p → (p < n) × (passes p ≡ true) × Rank rise g (parent p)
    unfolding rise
    lower g p r = elim (step p) [
      | ends y z k ↦ absurd (loops-ok r.0 (k g a))
      | outside h ne k ↦ absurd (bad-loops (k g a) r.0)
      | goes h s k ↦ (
        h,
        s,
        (any g (with a p) a (parent p) (sym (k g a) ∙ r.0), λ z. r.1 (k (suc g) a ∙ any (suc g) a (with a p) (parent p) z)),
      )
    ]

    pick : (g p : ℕ) → Rank rise (suc g) p → (k : ℕ) → k ≤ g → (c : ℕ) × (c < n) × (passes c ≡ true) × Rank rise (suc k) c
    pick zero p r k l = let e : k ≡ 0 = omega arith in (p, (lower zero p r).0, (lower zero p r).1, rw e r)
    pick (suc g) p r k l = elim (ℕ_discrete k (suc g)) [
      | yes e ↦ (p, (lower (suc g) p r).0, (lower (suc g) p r).1, rw e r)
      | no ne ↦ pick g (parent p) (lower (suc g) p r).2 k (omega arith)
    ]

    -- s is a slot, and in no run
    module _ (s : ℕ) (h : s < n) (off : passes s ≡ false) where
      abbrev Place : ℕ → ℕ → ℕ → Type 0
      Place g k c = ((c ≡ s) × (k ≡ suc g)) ⊎ ((passes c ≡ true) × Rank rise (suc k) c)

      bounded : (p g : ℕ) → Rank rise g p → g < n
      bounded p zero r = omega arith
      bounded p (suc g) r = distinct n (suc g) (Place g)
          (λ k l. elim (ℕ_discrete k (suc g)) [
            | yes e ↦ (s, h, inl (refl, e))
            | no ne ↦ let c = pick g p r k (omega arith) in (c.0, c.1, inr (c.2, c.3))
          ])
          one
        where
          one : (k j c : ℕ) → Place g k c → Place g j c → k ≡ j
          one k j c (inl x) (inl y) = x.1 ∙ sym y.1
          one k j c (inl x) (inr y) = clash y.0 (rw x.0 off)
          one k j c (inr x) (inl y) = clash x.0 (rw y.0 off)
          one k j c (inr x) (inr y) = let e = rank-one rise spent same (suc k) (suc j) c x.1 y.1 in omega arith

      -- an answer at some depth is the answer at depth n
      pub enough-up : (f p : ℕ) → climb n passes parent f a p ≢ loops → climb n passes parent n a p ≡ climb n passes parent f a p
      unfolding rise
      enough-up f p e = enough-at rise spent same n p (bounded p) f e

      -- `loops` at depth n: at every depth
      pub loops_iff_never-up : (p : ℕ) → (climb n passes parent n a p ≡ loops) ↔ ((f : ℕ) → climb n passes parent f a p ≡ loops)
      unfolding rise
      loops_iff_never-up p = never-at rise spent same n p (bounded p)

      -- a depth of n is never used up
      pub climb_enough : (e p : ℕ) → climb n passes parent (n + e) a p ≡ climb n passes parent n a p
      unfolding rise
      climb_enough e p = more-at rise spent same n p (bounded p) e

-- climbs that are told the same of every slot below n answer the same; the parent is asked of a slot that passes only
module _ (n : ℕ) (passes passes' : ℕ → Bool) (parent parent' : ℕ → ℕ) (same : (i : ℕ) → i < n → passes i ≡ passes' i)
    (above : (i : ℕ) → i < n → passes i ≡ true → parent i ≡ parent' i) where
  pub climb_same : (f a p : ℕ) → climb n passes parent f a p ≡ climb n passes' parent' f a p
  unfolding climb
  climb_same zero a p = refl
  climb_same (suc f) a p = elim (two (ltb p n)) [
    | inr b ↦ rw b
    | inl b ↦
        let h = ltb-true p n b in
        elim (two (passes p)) [
          | inr e ↦ rw (b, e, sym (same p h) ∙ e)
          | inl e ↦ rw (b, e, sym (same p h) ∙ e, above p h e) (climb_same f (with a p) (parent' p))
        ]
  ]
