-- The walk down, for any table, linked or not. A depth of n is as good as any: the walk answers `loops` at depth n just where the walk with no
-- bound would not return, and the path that it keeps changes no answer. Assumes nothing.
use mathlib.Core.Path.{◌≡◌, refl, sym, ap, ◌∙◌}
use mathlib.Core.Logic.{◌⊎◌, inl, inr, ◌≢◌, ◌↔◌}
use mathlib.Core.Bool.{Bool, true, false, cond}
use Prim.Native.Nat.{ℕ, zero, suc, ◌+◌, ◌≤◌, ◌<◌}
use native.Mathlib.Decide.{ℕ_discrete}
use native.Mathlib.Omega.{arith}
use Rattle.children.specs.Marks.{marked, with}
use Rattle.children.proofs.Cases.{two, clash}
use Rattle.children.proofs.Marks.{marked_none}
use Rattle.forest.specs.Walk.{Answer, loops, bad, ok, both, over, walk_down, rust_down}
use Rattle.forest.proofs.Pigeon.{distinct}
use Rattle.forest.proofs.Words.{put_cases}
use Rattle.forest.proofs.Fuel.{bad-loops, loops-ok, looped, Rank, rank-one, enough-at, never-at, more-at}

-- ---- one answer after the other

-- rec' answers as rec does, where that answers
abbrev Extends : (ℕ → Answer) → (ℕ → Answer) → Type 0
Extends rec rec' = (i : ℕ) → rec i ≢ loops → rec' i ≡ rec i

both-loops : (a b : Answer) → both a b ≢ loops → a ≢ loops
both-loops a b h e = h (rw e)

both_same : (a b b' : Answer) → both a b ≢ loops → (b ≢ loops → b' ≡ b) → both a b' ≡ both a b
both_same loops b b' h f = refl
both_same bad b b' h f = refl
both_same (ok x) b b' h f = rw (f (λ e. h (rw e)))

both_cases : (a b : Answer) → both a b ≡ loops → (a ≡ loops) ⊎ ((x : ℕ) × (a ≡ ok x) × (b ≡ loops))
both_cases loops b e = inl refl
both_cases bad b e = absurd (bad-loops refl e)
both_cases (ok x) loops e = inr (x, refl, refl)
both_cases (ok x) bad e = absurd (bad-loops refl e)
both_cases (ok x) (ok y) e = absurd (loops-ok e refl)

over_extends : (rec rec' : ℕ → Answer) → Extends rec rec' → (m c : ℕ) → over rec m c ≢ loops → over rec' m c ≡ over rec m c
unfolding over
over_extends rec rec' E m zero h = refl
over_extends rec rec' E m (suc c) h = elim (two (marked m c)) [
  | inr e ↦ rw e (over_extends rec rec' E m c (rw e at h))
  | inl e ↦
      let h' : both (over rec m c) (rec c) ≢ loops = rw e at h in
      rw e (rw (over_extends rec rec' E m c (both-loops (over rec m c) (rec c) h')) (both_same (over rec m c) (rec c) (rec' c) h' (E c)))
]

-- the first member without an answer
record Stuck (rec : ℕ → Answer) (m c : ℕ) : Type 0 where
  kid : ℕ
  below : kid < c
  none : rec kid ≡ loops
  still : (rec' : ℕ → Answer) → Extends rec rec' → rec' kid ≡ loops → over rec' m c ≡ loops

stuck : (rec : ℕ → Answer) (m c : ℕ) → over rec m c ≡ loops → Stuck rec m c
unfolding over
stuck rec m zero e = absurd (loops-ok e refl)
stuck rec m (suc c) e = elim (two (marked m c)) [
  | inr d ↦
      let s = stuck rec m c (rw d at e) in
      record { kid = s.kid; below = omega arith; none = s.none; still = λ rec' E k. rw d (s.still rec' E k) }
  | inl d ↦
      let e' : both (over rec m c) (rec c) ≡ loops = rw d at e in
      elim (both_cases (over rec m c) (rec c) e') [
        | inl q ↦
            let s = stuck rec m c q in
            record { kid = s.kid; below = omega arith; none = s.none; still = λ rec' E k. rw d (rw (s.still rec' E k)) }
        | inr q ↦ record {
          kid = c;
          below = omega arith;
          none = q.2;
          still = λ rec' E k. rw d (rw (over_extends rec rec' E m c (λ z. loops-ok z q.1) ∙ q.1, k));
        }
      ]
]

module _ (n : ℕ) (live : ℕ → Bool) (kids : ℕ → ℕ) where
  rust : ℕ → ℕ → Answer
  rust = rust_down n live kids

  -- ---- the walk with no path

  -- one more depth changes no answer
  same : (f s : ℕ) → rust f s ≢ loops → rust (suc f) s ≡ rust f s
  unfolding rust rust_down
  same zero s h = absurd (h refl)
  same (suc f) s h = elim (two (live s)) [
    | inr e ↦ rw e
    | inl e ↦ rw e (over_extends (rust f) (rust (suc f)) (λ i k. same f i k) (kids s) n (rw e at h))
  ]

  spent : (s : ℕ) → rust 0 s ≡ loops
  unfolding rust rust_down
  spent s = refl

  -- a slot of rank g + 1 has a child of rank g
  lower : (g s : ℕ) → Rank rust (suc g) s → (c : ℕ) × (c < n) × Rank rust g c
  unfolding rust rust_down
  lower g s r = elim (two (live s)) [
    | inr e ↦ absurd (bad-loops (rw e) r.0)
    | inl e ↦
        let x = stuck (rust g) (kids s) n (rw e at r.0) in
        (x.kid, x.below, (x.none, λ k. r.1 (rw e (x.still (rust (suc g)) (λ i h. same g i h) k))))
  ]

  -- so slots of all lower ranks are there
  pick : (g s : ℕ) → s < n → Rank rust g s → (k : ℕ) → k ≤ g → (c : ℕ) × (c < n) × Rank rust k c
  pick zero s h r k l = let e : k ≡ 0 = omega arith in (s, h, rw e r)
  pick (suc g) s h r k l = elim (ℕ_discrete k (suc g)) [
    | yes e ↦ (s, h, rw e r)
    | no ne ↦ let c = lower g s r in pick g c.0 c.1 c.2 k (omega arith)
  ]

  bounded : (s : ℕ) → s < n → (g : ℕ) → Rank rust g s → g < n
  bounded s h g r = distinct n g (Rank rust) (pick g s h r) (rank-one rust spent same)

  -- ---- the walk that keeps its path answers the same

  -- the answer for a child c, where `down` is the path
  kid : ℕ → ℕ → ℕ → Answer
  kid f down c = cond (marked down c) loops (walk_down n live kids f down c)

  kid_off : (f down c : ℕ) → kid f down c ≢ loops → (marked down c ≡ false) × (walk_down n live kids f down c ≢ loops)
  unfolding kid
  kid_off f down c h = elim (two (marked down c)) [ inl e ↦ absurd (h (rw e)) | inr e ↦ (e, rw e at h) ]

  -- the path takes answers away, at most
  under_path : (f path s : ℕ) → walk_down n live kids f path s ≢ loops → rust f s ≡ walk_down n live kids f path s
  unfolding kid rust walk_down rust_down
  under_path zero path s h = absurd (h refl)
  under_path (suc f) path s h = elim (two (live s)) [
    | inr e ↦ rw e
    | inl e ↦ rw e (over_extends (kid f (with path s)) (rust f)
        (λ i k. let o = kid_off f (with path s) i k in rw o.0 (under_path f (with path s) i o.1)) (kids s) n (rw e at h))
  ]

  deeper : (f path s : ℕ) → walk_down n live kids f path s ≢ loops → walk_down n live kids (suc f) path s ≡ walk_down n live kids f path s
  unfolding kid walk_down
  deeper zero path s h = absurd (h refl)
  deeper (suc f) path s h = elim (two (live s)) [
    | inr e ↦ rw e
    | inl e ↦ rw e (over_extends (kid f (with path s)) (kid (suc f) (with path s))
        (λ i k. let o = kid_off f (with path s) i k in rw o.0 (deeper f (with path s) i o.1)) (kids s) n (rw e at h))
  ]

  -- a slot that ends at a depth at which those on the path do not
  off_path : (f path s : ℕ) → rust f s ≢ loops → ((x : ℕ) → marked path x ≡ true → rust f x ≡ loops) → walk_down n live kids f path s ≡ rust f s
  unfolding kid rust walk_down rust_down
  off_path zero path s h p = absurd (h refl)
  off_path (suc f) path s h p =
      let back : (x : ℕ) → marked path x ≡ true → rust f x ≡ loops =
      λ x a. elim (looped (rust f x)) [ inl q ↦ q | inr q ↦ absurd (q (sym (same f x q) ∙ p x a)) ] in
      elim (looped (rust f s)) [
        | inr k ↦
            let i = off_path f path s k back in
            deeper f path s (λ z. k (sym i ∙ z)) ∙ i ∙ sym (same f s k)
        | inl k ↦ elim (two (live s)) [
          | inr e ↦ rw e
          | inl e ↦
              let lost : (x : ℕ) → marked (with path s) x ≡ true → rust f x ≡ loops =
              λ x a. elim (put_cases path s x a) [ inl b ↦ back x b | inr b ↦ rw b k ] in
              rw e (over_extends (rust f) (kid f (with path s))
              (λ i hi. elim (two (marked (with path s) i)) [ inl d ↦ absurd (hi (lost i d)) | inr d ↦ rw d (off_path f (with path s) i hi lost) ])
              (kids s) n (rw e at h))
        ]
      ]

  -- from an empty path the two walks answer the same at every depth
  pub path_same : (f s : ℕ) → walk_down n live kids f 0 s ≡ rust_down n live kids f s
  unfolding rust
  path_same f s = elim (looped (rust f s)) [
    | inr h ↦ off_path f 0 s h (λ x k. clash k (marked_none x))
    | inl e ↦ elim (looped (walk_down n live kids f 0 s)) [ inl q ↦ q ∙ sym e | inr q ↦ absurd (q (sym (under_path f 0 s q) ∙ e)) ]
  ]

  -- ---- a depth of n is as good as any

  module _ (s : ℕ) (h : s < n) where
    -- an answer of the walk with no bound is that of the walk at depth n
    pub enough : (f : ℕ) → rust_down n live kids f s ≢ loops → walk_down n live kids n 0 s ≡ rust_down n live kids f s
    unfolding rust
    enough f e = path_same n s ∙ enough-at rust spent same n s (bounded s h) f e

    -- `loops` at depth n: the walk with no bound does not return
    pub loops_iff_never : (walk_down n live kids n 0 s ≡ loops) ↔ ((f : ℕ) → rust_down n live kids f s ≡ loops)
    unfolding rust
    loops_iff_never = let r = never-at rust spent same n s (bounded s h) in (λ e. r.0 (sym (path_same n s) ∙ e), λ a. path_same n s ∙ r.1 a)

    -- a depth of n is never used up
    pub walk_enough : (e : ℕ) → walk_down n live kids (n + e) 0 s ≡ walk_down n live kids n 0 s
    unfolding rust
    walk_enough e = path_same (n + e) s ∙ more-at rust spent same n s (bounded s h) e ∙ sym (path_same n s)

-- ---- walks that are told the same of every slot below n answer the same

over_same : (rec rec' : ℕ → Answer) (m c : ℕ) → ((i : ℕ) → i < c → rec i ≡ rec' i) → over rec m c ≡ over rec' m c
unfolding over
over_same rec rec' m zero f = refl
over_same rec rec' m (suc c) f = rw (over_same rec rec' m c (λ i h. f i (omega arith)), f c (omega arith))

module _ (n : ℕ) (live live' : ℕ → Bool) (kids kids' : ℕ → ℕ) (p : (i : ℕ) → i < n → live i ≡ live' i) (q : (i : ℕ) → i < n → kids i ≡ kids' i) where
  pub walk_same : (f path s : ℕ) → s < n → walk_down n live kids f path s ≡ walk_down n live' kids' f path s
  unfolding walk_down
  walk_same zero path s h = refl
  walk_same (suc f) path s h = rw (p s h, q s h) (ap (λ a. cond (live' s) a bad)
      (over_same _ _ (kids' s) n (λ i l. ap (λ a. cond (marked (with path s) i) loops a) (walk_same f (with path s) i l))))

  pub rust_same : (f s : ℕ) → s < n → rust_down n live kids f s ≡ rust_down n live' kids' f s
  unfolding rust_down
  rust_same zero s h = refl
  rust_same (suc f) s h = rw (p s h, q s h) (ap (λ a. cond (live' s) a bad) (over_same _ _ (kids' s) n (λ i l. rust_same f i l)))
