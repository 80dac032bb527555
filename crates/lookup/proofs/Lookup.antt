-- Laws of the lookup: what a slot that was found satisfies, what each refusal says, and that only the slots below n count. Assumes nothing.
use Rattle.std.specs.Prelude.{Result, Ok, Err}
use mathlib.Core.Path.{◌≡◌, refl, sym, ap, ap₂, ◌∙◌}
use mathlib.Core.Logic.{◌⊎◌, inl, inr, ◌↔◌}
use mathlib.Core.Bool.{Bool, true, false, cond, ◌||◌}
use mathlib.Core.List.{List}
use Prim.Native.Nat.{ℕ, ◌+◌, ◌-◌, ◌≤◌, ◌<◌}
use native.Mathlib.Decide.{dec_lt}
use native.Mathlib.Omega.{arith}
use borrow.Author.Tests.{lt-ltb, le-ltb}
use lib.Dec.{ltb}
use Rattle.error.specs.declared.DpeErrorCode.{DpeErrorCode}
use Rattle.error.specs.declared.DpeErrorCode.TheVariants.{InvalidHandle, InvalidLocality}
use Rattle.children.specs.Below.{some, lowest_from, lowest}
use Rattle.children.proofs.Cases.{two, clash, order, and-true, and_both, and_left, eqb-true, true-eqb}
use Rattle.table.proofs.Slots.{free-at}
use Rattle.children.proofs.Below.{count-le, low-here, low_on, low_end, low_bare, low_passes, low_same, of_some, some_of, none-at, some_same}
use Rattle.context.specs.declared.Context.{Context}
use Rattle.context.specs.Context.{is_active}
use Rattle.context.proofs.Bytes.{same_iff}
use Rattle.lookup.specs.Lookup.{active_of, active_in, is_target, lookup_in}

-- slot i is what the lookup of h and l has to find: a slot, active, of the locality, with the handle, and the lowest such
pub record Target (n : ℕ) (s : ℕ → Context) (h : List ℕ) (l i : ℕ) : Type 0 where
  pub below : i < n
  pub active : is_active (s i).state ≡ true
  pub locality : (s i).locality ≡ l
  pub handle : (s i).handle ≡ h
  pub lowest : (j : ℕ) → j < i → is_target s h l j ≡ false

pub or_miss : (a : Bool) {b : Bool} → b ≡ false → (a || b) ≡ a
or_miss true e = refl
or_miss false e = e

never : {A : Type 0} {i : ℕ} {e : DpeErrorCode} → Ok i ≡ Err e → A
never p = absurd (let z : ◌≡◌ {A = ℕ} 0 1 = cc in omega arith)

same_at : {i j : ℕ} → ◌≡◌ {A = Result ℕ DpeErrorCode} (Ok i) (Ok j) → i ≡ j
same_at e = cc

module _ (n : ℕ) (s : ℕ → Context) (h : List ℕ) (l : ℕ) where
  -- ---- the ways out of the search

  pub found_at : (i : ℕ) → lowest (is_target s h l) n ≡ i → i < n → Ok i ≡ lookup_in n s h l
  unfolding lookup_in
  found_at i e b = rw (e, lt-ltb i n b)

  pub found-other : n ≤ lowest (is_target s h l) n → some (active_in s l) n ≡ true → Err InvalidHandle ≡ lookup_in n s h l
  unfolding lookup_in
  found-other b e = rw (le-ltb _ _ b, e)

  pub found_nowhere : n ≤ lowest (is_target s h l) n → some (active_in s l) n ≡ false → Err InvalidLocality ≡ lookup_in n s h l
  unfolding lookup_in
  found_nowhere b e = rw (le-ltb _ _ b, e)

  -- ---- a turn of the search, at slot i

  module _ (i : ℕ) (on : lowest_from (is_target s h l) (n - i) i ≡ lowest (is_target s h l) n) where
    pub turn_found : i < n → is_target s h l i ≡ true → Ok i ≡ lookup_in n s h l
    turn_found b t = found_at i (sym on ∙ low-here (is_target s h l) n i b t) b

    pub turn_on : i < n → is_target s h l i ≡ false → lowest_from (is_target s h l) (n - (i + 1)) (i + 1) ≡ lowest (is_target s h l) n
    turn_on b f = sym (low_on (is_target s h l) n i b f) ∙ on

    pub turn-end_other : i ≡ n → some (active_in s l) i ≡ true → Err InvalidHandle ≡ lookup_in n s h l
    turn-end_other z e = let y = low_end (is_target s h l) n i (omega arith) in found-other (omega arith) (rw z at e)

    pub turn-end_nowhere : i ≡ n → some (active_in s l) i ≡ false → Err InvalidLocality ≡ lookup_in n s h l
    turn-end_nowhere z e = let y = low_end (is_target s h l) n i (omega arith) in found_nowhere (omega arith) (rw z at e)

  -- ---- what each answer tells

  at_low : (i : ℕ) → lowest (is_target s h l) n ≡ i → i < n → Target n s h l i
  at_low i q b =
      let p : is_target s h l i ≡ true = rw q at (low_passes (is_target s h l) n 0 (omega arith)) in
      let x = and-true _ _ p in
      let y = and-true _ _ x.0 in
      record {
        below = b;
        active = y.0;
        locality = eqb-true _ _ y.1;
        handle = (same_iff _ _).0 x.1;
        lowest = λ j b'. low_bare (is_target s h l) n 0 j (omega arith) (omega arith);
      }

  passes : (i : ℕ) → Target n s h l i → is_target s h l i ≡ true
  passes i t = and_both (and_both t.active (true-eqb _ _ t.locality)) ((same_iff _ _).1 t.handle)

  low-at : (i : ℕ) → Target n s h l i → lowest (is_target s h l) n ≡ i
  low-at i t = elim (order (lowest (is_target s h l) n) i) [
    | inl a ↦ let b = t.below in clash (low_passes (is_target s h l) n 0 (omega arith)) (t.lowest _ a)
    | inr (inl e) ↦ e
    | inr (inr a) ↦ clash (passes i t) (low_bare (is_target s h l) n 0 i (omega arith) a)
  ]

  -- no slot is a target where the search comes to the end
  bare : n ≤ lowest (is_target s h l) n → (i : ℕ) → i < n → is_target s h l i ≡ false
  bare b i a = low_bare (is_target s h l) n 0 i (omega arith) (omega arith)

  bare-low : ((i : ℕ) → i < n → is_target s h l i ≡ false) → n ≤ lowest (is_target s h l) n
  bare-low f = elim (dec_lt (lowest (is_target s h l) n) n) [
    | yes b ↦ clash (low_passes (is_target s h l) n 0 (omega arith)) (f _ b)
    | no nb ↦ omega arith
  ]

  -- the three answers: a slot below n is the one found, or the search came to its end
  ways : {A : Type 0}
      → ((i : ℕ) → i < n → lowest (is_target s h l) n ≡ i → lookup_in n s h l ≡ Ok i → A)
      → (n ≤ lowest (is_target s h l) n → some (active_in s l) n ≡ true → lookup_in n s h l ≡ Err InvalidHandle → A)
      → (n ≤ lowest (is_target s h l) n → some (active_in s l) n ≡ false → lookup_in n s h l ≡ Err InvalidLocality → A)
      → A
  ways f g k = elim (dec_lt (lowest (is_target s h l) n) n) [
    | yes b ↦ f _ b refl (sym (found_at _ refl b))
    | no nb ↦
        let b : n ≤ lowest (is_target s h l) n = omega arith in
        elim (two (some (active_in s l) n)) [ inl a ↦ g b a (sym (found-other b a)) | inr a ↦ k b a (sym (found_nowhere b a)) ]
  ]

  -- a slot is found exactly where it is the target
  pub found_iff : (i : ℕ) → (lookup_in n s h l ≡ Ok i) ↔ Target n s h l i
  found_iff i = (
    λ e. ways
        (λ j b q a. let z = same_at (sym a ∙ e) in at_low i (q ∙ z) (omega arith))
        (λ b q a. never (sym e ∙ a))
        (λ b q a. never (sym e ∙ a)),
    λ t. sym (found_at i (low-at i t) t.below),
  )

  -- some slot is found exactly where some slot is active, of the locality, with the handle
  pub some_iff : (some (is_target s h l) n ≡ true) ↔ ((i : ℕ) × (lookup_in n s h l ≡ Ok i))
  some_iff = (
    λ e. let r = of_some (is_target s h l) n e in ways
        (λ j b q a. (j, a))
        (λ b q a. clash r.2 (bare b r.0 r.1))
        (λ b q a. clash r.2 (bare b r.0 r.1)),
    λ r. let g = (found_iff r.0).0 r.1 in some_of (is_target s h l) n r.0 g.below (passes r.0 g),
  )

  -- InvalidHandle exactly where the locality has an active context and no slot is a target
  pub handle_iff : (lookup_in n s h l ≡ Err InvalidHandle) ↔ ((some (active_in s l) n ≡ true) × ((i : ℕ) → i < n → is_target s h l i ≡ false))
  handle_iff = (
    λ e. ways
        (λ j b q a. never (sym a ∙ e))
        (λ b q a. (q, bare b))
        (λ b q a. absurd (let z : ◌≡◌ {A = ℕ} 0 1 = cc in omega arith)),
    λ p. sym (found-other (bare-low p.1) p.0),
  )

  -- InvalidLocality exactly where the locality has no active context
  pub locality_iff : (lookup_in n s h l ≡ Err InvalidLocality) ↔ (some (active_in s l) n ≡ false)
  locality_iff = (
    λ e. ways
        (λ j b q a. never (sym a ∙ e))
        (λ b q a. absurd (let z : ◌≡◌ {A = ℕ} 0 1 = cc in omega arith))
        (λ b q a. q),
    λ f. sym (found_nowhere (bare-low (λ i b. and_left _ (none-at (active_in s l) n i f b))) f),
  )

  -- there is no other refusal
  pub refused_by_lem : (e : DpeErrorCode) → lookup_in n s h l ≡ Err e → (e ≡ InvalidHandle) ⊎ (e ≡ InvalidLocality)
  refused_by_lem e r = ways (λ j b q a. never (sym a ∙ r)) (λ b q a. inl (cc)) (λ b q a. inr (cc))

-- only the slots below n count
pub lookup_same : (n : ℕ) (s s' : ℕ → Context) (h : List ℕ) (l : ℕ) → ((i : ℕ) → i < n → s i ≡ s' i) → lookup_in n s h l ≡ lookup_in n s' h l
unfolding lookup_in
lookup_same n s s' h l f =
    ap₂ (λ (k : ℕ) (b : Bool). cond (ltb k n) (Ok k) (cond b (Err InvalidHandle) (Err InvalidLocality)))
    (low_same (is_target s h l) (is_target s' h l) n 0 (λ i a b. ap (λ (c : Context). is_target (λ _. c) h l 0) (f i (omega arith))))
    (some_same (active_in s l) (active_in s' l) n (λ i b. ap (λ (c : Context). active_of c l) (f i b)))

-- ---- what the calls' attributes cite

pub ruleset counts = (count-le)

pub ruleset lows = (low-here, free-at)
