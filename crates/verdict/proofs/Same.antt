-- Tests that are told the same of every slot below n answer the same, so a summary or an image may stand for the contexts. Assumes nothing.
use mathlib.Core.Bool.{Bool, ◌&&◌}
use mathlib.Core.Path.{◌≡◌, ap, ap₂, ◌∙◌}
use Prim.Native.Nat.{ℕ, suc, ◌<◌}
use native.Mathlib.Decide.{dec_lt}
use native.Mathlib.Omega.{arith}
use lib.Dec.{eqb}
use borrow.Author.Tests.{le-ltb}
use Rattle.children.specs.Marks.{mark_count}
use Rattle.children.proofs.Below.{count_same}
use Rattle.verdict.specs.Tests.{need, first, first_below, parent_test, child_test, links_test, mix_test, locality_of, localities_test}
use Rattle.verdict.proofs.Steps.{below_same}

module _ (n : ℕ) (live live' : ℕ → Bool) (kids kids' parent parent' : ℕ → ℕ) (el : (j : ℕ) → j < n → live j ≡ live' j)
    (ek : (j : ℕ) → j < n → kids j ≡ kids' j) (ep : (j : ℕ) → j < n → parent j ≡ parent' j) where
  parent_same : (i p : ℕ) → parent_test n live kids i p ≡ parent_test n live' kids' i p
  unfolding parent_test need first
  parent_same i p = elim (dec_lt p n) [ yes h ↦ rw (el p h, ek p h) | no nh ↦ rw (le-ltb p n (omega arith)) ]

  child_same : (i m c : ℕ) → child_test n live parent i m c ≡ child_test n live' parent' i m c
  unfolding child_test need first
  child_same i m c = elim (dec_lt c n) [ yes h ↦ rw (el c h, ep c h) | no nh ↦ rw (le-ltb c n (omega arith)) ]

  pub links_same : (i : ℕ) → i < n → links_test n live kids parent i ≡ links_test n live' kids' parent' i
  unfolding links_test
  links_same i h = ap₂ first
      (ap (parent_test n live kids i) (ep i h) ∙ parent_same i (parent' i))
      (ap (λ (m : ℕ). first_below (child_test n live parent i m) mark_count) (ek i h)
      ∙ below_same (child_test n live parent i (kids' i)) (child_test n live' parent' i (kids' i)) mark_count (λ c l. child_same i (kids' i) c))

locality_same : (n : ℕ) (f f' g g' : ℕ → Bool) → ((i : ℕ) → i < n → f i ≡ f' i) → ((i : ℕ) → i < n → g i ≡ g' i) → locality_of n f g ≡ locality_of n f' g'
unfolding locality_of
locality_same n f f' g g' p q = below_same _ _ n (λ k h.
    ap₂ mix_test (count_same f f' (suc k) (λ i l. p i (omega arith))) (count_same g g' (suc k) (λ i l. q i (omega arith))))

within_same : {a b a' b' : ℕ} {x y : Bool} → a ≡ a' → b ≡ b' → x ≡ y → (eqb a b && x) ≡ (eqb a' b' && y)
within_same p q r = ap₂ ◌&&◌ (ap₂ eqb p q) r

module _ (n : ℕ) (place place' : ℕ → ℕ) (def def' oth oth' : ℕ → Bool) (ep : (j : ℕ) → j < n → place j ≡ place' j)
    (ed : (j : ℕ) → j < n → def j ≡ def' j) (eo : (j : ℕ) → j < n → oth j ≡ oth' j) where
  pub localities_same : localities_test n place def oth ≡ localities_test n place' def' oth'
  unfolding localities_test
  localities_same = below_same _ _ n (λ j h. locality_same n _ _ _ _
      (λ i l. within_same (ep i l) (ep j h) (ed i l))
      (λ i l. within_same (ep i l) (ep j h) (eo i l)))
