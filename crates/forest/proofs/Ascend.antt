-- The climb over a table that is linked and rooted ends well, and takes just the run. Assumes nothing.
use mathlib.Core.Path.{◌≡◌, refl, sym, ap, ◌∙◌}
use mathlib.Core.Logic.{◌⊎◌, inl, inr, ◌↔◌}
use mathlib.Core.Bool.{Bool, true}
use Prim.Native.Nat.{ℕ, zero, suc, ◌<◌}
use native.Mathlib.Omega.{arith}
use Rattle.children.specs.Marks.{marked, with}
use Rattle.children.proofs.Cases.{clash, and-true, eqb-true}
use Rattle.children.proofs.Below.{count-one, count_same}
use Rattle.children.proofs.Marks.{marked-with_own}
use Rattle.forest.specs.Links.{Table, Linked, Reads, up, Rooted}
use Rattle.forest.specs.Walk.{Answer, ok}
use Rattle.forest.specs.Run.{single, single_in, Run, here, next, climb}
use Rattle.forest.proofs.Words.{put_keep, put_cases}
use Rattle.forest.proofs.Links.{no_slot, up_in, child-marked}
use Rattle.forest.proofs.Fuel.{bad-ok, loops-ok}
use Rattle.forest.proofs.EnoughUp.{ends, outside, goes, step, climb_same}

pub run_cases : {n : ℕ} {t : Table} {p x : ℕ} → Run n t p x → (single n t p ≡ true) × ((x ≡ p) ⊎ Run n t (t.parent p) x)
run_cases (here e) = (e, inl refl)
run_cases (next e r) = (e, inr r)

module _ (n : ℕ) (t : Table) (L : Linked n t) where
  pub single-live : (p : ℕ) → single n t p ≡ true → t.live p ≡ true
  single-live p e = L.old p (and-true (t.retired p) _ e).0

  -- a slot of one child has no other
  single_kid : (p : ℕ) → single n t p ≡ true → (c d : ℕ) → t.mark p c ≡ true → t.mark p d ≡ true → c ≡ d
  single_kid p e c d hc hd =
      count-one (t.mark p) n c d (eqb-true _ 1 (and-true (t.retired p) _ e).1)
      (L.small c (L.low p c hc).1) (L.small d (L.low p d hd).1) hc hd

  pub run_more : {p x : ℕ} → Run n t p x → single n t (t.parent x) ≡ true → Run n t p (t.parent x)
  run_more (here s) e = next s (here e)
  run_more (next s r) e = next s (run_more r e)

  pub run-live : {p x : ℕ} → Run n t p x → t.live x ≡ true
  run-live (here {p} s) = single-live p s
  run-live (next s r) = run-live r

  pub run_up : {p x : ℕ} → Run n t p x → (k : ℕ) × (up t k p ≡ x)
  unfolding up
  run_up (here s) = (zero, refl)
  run_up (next {p} s r) = let k = run_up r in (suc k.0, sym (up_in t k.0 p) ∙ k.1)

  -- the children of the slots of the run above s: s, and slots of the run
  pub run_kids : {p x : ℕ} → Run n t p x → (s c : ℕ) → t.parent s ≡ p → t.mark x c ≡ true → (c ≡ s) ⊎ Run n t p c
  run_kids (here {p} e) s c q h = inl (single_kid p e c s h (rw q at (child-marked n t L s (rw q (single-live p e)))))
  run_kids (next {p} e r) s c q h = elim (run_kids r p c refl h) [ inl i ↦ inr (rw i (here e)) | inr o ↦ inr (next e o) ]

  -- ---- the climb over the table itself

  rise : ℕ → ℕ → ℕ → Answer
  rise = climb n (single n t) t.parent

  climbed : (f a s : ℕ) → t.live s ≡ true → ((w : ℕ) × (rise f a (t.parent s) ≡ ok w)) ⊎ (t.live (up t f s) ≡ true)
  unfolding rise climb up
  climbed zero a s l = inr l
  climbed (suc f) a s l = elim (step n (single n t) t.parent (t.parent s)) [
    | ends y z k ↦ inl (a, k f a)
    | outside h ne k ↦ absurd (omega (arith, L.small (t.parent s) (L.high s l ne).0))
    | goes h e k ↦ elim (climbed f (with a (t.parent s)) (t.parent s) (single-live (t.parent s) e)) [
      | inl r ↦ inl (r.0, k f a ∙ r.1)
      | inr r ↦ inr (rw (up_in t f s) at r)
    ]
  ]

  taken : (f a p w : ℕ) → rise f a p ≡ ok w → (x : ℕ) → (marked w x ≡ true) ↔ ((marked a x ≡ true) ⊎ Run n t p x)
  unfolding rise climb
  taken zero a p w q x = absurd (loops-ok refl q)
  taken (suc f) a p w q x = elim (step n (single n t) t.parent p) [
    | outside h ne k ↦ absurd (bad-ok (k f a) q)
    | ends y z k ↦
        let q' : ok a ≡ ok w = sym (k f a) ∙ q in
        let s : a ≡ w = cc in
        (λ h. inl (rw s h), λ d. elim d [ inl h ↦ rw s at h | inr r ↦ let e = (run_cases r).0 in clash e (z (L.small p (single-live p e))) ])
    | goes h e k ↦
        let ih = taken f (with a p) (t.parent p) w (sym (k f a) ∙ q) x in (
          λ h. elim (ih.0 h) [
            | inl k ↦ elim (put_cases a p x k) [ inl o ↦ inl o | inr o ↦ inr (rw o (here e)) ]
            | inr r ↦ inr (next e r)
          ],
          λ d. elim d [
            | inl h ↦ ih.1 (inl (put_keep a p x h))
            | inr r ↦ elim (run_cases r).1 [ inl o ↦ ih.1 (inl (rw o (marked-with_own a p))) | inr o ↦ ih.1 (inr o) ]
          ],
        )
  ]

  -- ---- the climb over functions of the slot that say the same

  module _ (live retired : ℕ → Bool) (parent kids : ℕ → ℕ) (R : Reads n t live retired parent kids) where
    pub single-is : (i : ℕ) → i < n → single_in n retired kids i ≡ single n t i
    single-is i h = rw (R.retired_is i h, count_same (marked (kids i)) (t.mark i) n (λ c k. R.kids_is i c h))

    -- where the table is rooted, the climb from the parent of s ends, and takes just the run
    pub ascends : Rooted n t → (s : ℕ) → t.live s ≡ true → (a : ℕ)
        → (w : ℕ) × (climb n (single_in n retired kids) parent n a (parent s) ≡ ok w)
        × ((x : ℕ) → (marked w x ≡ true) ↔ ((marked a x ≡ true) ⊎ Run n t (t.parent s) x))
    unfolding rise
    ascends r s l a =
        let told : climb n (single_in n retired kids) parent n a (parent s) ≡ climb n (single n t) t.parent n a (t.parent s) =
        climb_same n (single_in n retired kids) (single n t) parent t.parent single-is
        (λ i h e. R.parent_is i h (single-live i (sym (single-is i h) ∙ e))) n a (parent s)
        ∙ ap (climb n (single n t) t.parent n a) (R.parent_is s (L.small s l) l) in
        elim (climbed n a s l) [
          | inl k ↦ (k.0, told ∙ k.1, taken n a (t.parent s) k.0 k.1)
          | inr k ↦ clash k (rw (r s l) (no_slot n t L))
        ]
