-- Which part of the validator a fault comes from, and the first fault of two where that is known. Assumes nothing.
use Rattle.std.specs.Prelude.{Result, Ok, Err}
use mathlib.Core.Path.{◌≡◌, refl, sym, ap, ◌∙◌}
use mathlib.Core.Logic.{◌≢◌, ◌↔◌}
use mathlib.Core.Bool.{Bool, true, false}
use Prim.Native.Nat.{ℕ, zero, suc, ◌<◌}
use native.Mathlib.Omega.{arith}
use lib.Dec.{eqb}
use borrow.Author.Tests.{eq-eqb}
use Rattle.error.specs.declared.ValidationError.{ValidationError}
use Rattle.error.specs.declared.ValidationError.TheVariants.{MultipleNormalConnectedComponents, CyclesInTree, MixedContextTypeConnectedComponents}
use Rattle.children.specs.Marks.{mark_count}
use Rattle.children.proofs.Cases.{clash}
use Rattle.context.specs.declared.ContextState.{ContextState}
use Rattle.context.specs.declared.ContextState.TheVariants.{Inactive, Active, Retired}
use Rattle.context.specs.declared.Context.{Context}
use Rattle.forest.specs.Search.{Found, forest, mixed_types, many_normal, cyclic, find_fault}
use Rattle.links.specs.Summary.{table_of}
use Rattle.verdict.specs.Tests.{Header, need, first, first_below, where_of, support_of, inactive_of, parent_test, child_test, links_test, state_of, context_of, slot_test, mix_test, locality_of, localities_test, localities_of, kind_at, found_fault, forest_of}
use Rattle.verdict.specs.Refusals.{Part, the_marker, the_version, slots, localities, trees, nowhere, part_of}
use Rattle.verdict.proofs.Steps.{fault_valid, below_iff}

-- ---- the parts are apart

abbrev rank : Part → ℕ
rank the_marker = 0
rank the_version = 1
rank slots = 2
rank localities = 3
rank trees = 4
rank nowhere = 5

pub apart : (p q : Part) → eqb (rank p) (rank q) ≡ false → p ≢ q
apart p q f z = clash (eq-eqb _ _ (ap rank z)) f

-- every fault of v comes from the part p
abbrev pub From : Part → Result Unit ValidationError → Type 0
From p v = (e : ValidationError) → v ≡ Err e → part_of e ≡ p

module _ {p : Part} where
  pub from-need : (b : Bool) (e : ValidationError) → part_of e ≡ p → From p (need b e)
  unfolding need
  from-need true e q e' f = fault_valid (sym f)
  from-need false e q e' f = let g : e' ≡ e = cc in ap part_of g ∙ q

  from_first : {a b : Result Unit ValidationError} → From p a → From p b → From p (first a b)
  unfolding first
  from_first {a = Ok tt} x y e f = y e f
  from_first {a = Err e'} x y e f = x e f

  from_where : (b : Bool) {v : Result Unit ValidationError} → From p v → From p (where_of b v)
  unfolding where_of
  from_where true x e f = x e f
  from_where false x e f = fault_valid (sym f)

  from-below : {f : ℕ → Result Unit ValidationError} (n : ℕ) → ((i : ℕ) → From p (f i)) → From p (first_below f n)
  unfolding first_below
  from-below zero x e q = fault_valid (sym q)
  from-below (suc n) x e q = from_first (from-below n x) (x n) e q

from-links : (n : ℕ) (live : ℕ → Bool) (kids parent : ℕ → ℕ) (i : ℕ) → From slots (links_test n live kids parent i)
unfolding links_test parent_test child_test
from-links n live kids parent i = from_first
    (from_where _ (from_first (from-need _ _ refl) (from_first (from-need _ _ refl) (from-need _ _ refl))))
    (from-below mark_count (λ c. from_where _ (from_first (from-need _ _ refl) (from_first (from-need _ _ refl) (from-need _ _ refl)))))

from_state : (k : ContextState) (n init : ℕ) (c : Context) (v : Result Unit ValidationError) → From slots v → From slots (state_of k n init c v)
unfolding state_of inactive_of
from_state Inactive n init c v x =
    from_first (from-need _ _ refl) (from_first (from-need _ _ refl) (from_first (from-need _ _ refl) (from-need _ _ refl)))
from_state Active n init c v x = from_first (from-need _ _ refl) x
from_state Retired n init c v x = from_first x (from-need _ _ refl)

pub from-slots : (n : ℕ) (h : Header) (s : ℕ → Context) → From slots (first_below (slot_test n h s) n)
unfolding context_of support_of
from-slots n h s = from-below n (λ i. from_first
    (from_first (from-need _ _ refl) (from_first (from-need _ _ refl) (from_first (from-need _ _ refl) (from-need _ _ refl))))
    (from_first (from_state (s i).state n h.initialized (s i) _ (from-links n _ _ _ i)) (from-need _ _ refl)))

pub from-localities : (n : ℕ) (s : ℕ → Context) → From localities (localities_of n s)
unfolding localities_test locality_of mix_test
from-localities n s = from-below n (λ j. from-below n (λ k. from_first (from-need _ _ refl) (from-need _ _ refl)))

pub from-trees : (n : ℕ) (s : ℕ → Context) → From trees (forest_of n s)
unfolding forest_of found_fault
from-trees n s = found (find_fault n (table_of n s) (kind_at s))
  where
    found : (f : Found) → From trees (found_fault f)
    found forest e q = fault_valid (sym q)
    found mixed_types e q = let g : e ≡ MixedContextTypeConnectedComponents = cc in ap part_of g
    found many_normal e q = let g : e ≡ MultipleNormalConnectedComponents = cc in ap part_of g
    found cyclic e q = let g : e ≡ CyclesInTree = cc in ap part_of g

-- ---- the first fault of two, where it is known from which it comes

pub not_from : {p q : Part} {v : Result Unit ValidationError} {e : ValidationError} → From q v → part_of e ≡ p → p ≢ q → v ≢ Err e
not_from x k ne f = ne (sym k ∙ x _ f)

pub not_first : {a b : Result Unit ValidationError} {e : ValidationError} → a ≢ Err e → b ≢ Err e → first a b ≢ Err e
unfolding first
not_first {a = Ok tt} x y f = y f
not_first {a = Err e'} x y f = x f

pub here : {a b : Result Unit ValidationError} {e : ValidationError} → b ≢ Err e → (first a b ≡ Err e) ↔ (a ≡ Err e)
unfolding first
here {a = Ok tt} {b} {e} y = (λ f. absurd (y f), λ f. fault_valid (sym f))
here {a = Err e'} {b} {e} y = (λ f. f, λ f. f)

pub later : {a b : Result Unit ValidationError} {e : ValidationError} {A B : Type 0} → a ≢ Err e → (a ≡ Ok tt) ↔ A → (b ≡ Err e) ↔ B → (first a b ≡ Err e) ↔ (A × B)
unfolding first
later {a = Ok tt} x p q = (λ f. (p.0 refl, q.0 f), λ r. q.1 r.1)
later {a = Err e'} x p q = (λ f. absurd (x f), λ r. fault_valid (p.1 r.0))

pub need-fault : (b : Bool) (e : ValidationError) → (need b e ≡ Err e) ↔ (b ≡ false)
unfolding need
need-fault true e = (λ f. fault_valid (sym f), λ f. clash refl f)
need-fault false e = (λ f. refl, λ f. refl)

pub below-fault : (f : ℕ → Result Unit ValidationError) (n : ℕ) (e : ValidationError) → first_below f n ≡ Err e
    → (i : ℕ) × (i < n) × ((j : ℕ) → j < i → f j ≡ Ok tt) × (f i ≡ Err e)
unfolding first_below first
below-fault f zero e q = fault_valid (sym q)
below-fault f (suc n) e q = go (first_below f n) refl q (below-fault f n e)
  where
    go : (v : Result Unit ValidationError) → first_below f n ≡ v → first v (f n) ≡ Err e
        → (first_below f n ≡ Err e → (i : ℕ) × (i < n) × ((j : ℕ) → j < i → f j ≡ Ok tt) × (f i ≡ Err e))
        → (i : ℕ) × (i < suc n) × ((j : ℕ) → j < i → f j ≡ Ok tt) × (f i ≡ Err e)
    go (Ok tt) p r ih = (n, omega arith, (below_iff f n).0 p, r)
    go (Err e') p r ih = let k = ih (p ∙ r) in let lt = k.1 in (k.0, omega arith, k.2, k.3)
