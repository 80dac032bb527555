-- The tests of the localities find no fault just where an active default is alone in its locality. Assumes nothing.
use Rattle.std.specs.Prelude.{Ok}
use mathlib.Core.Path.{◌≡◌, refl, sym, ◌∙◌}
use mathlib.Core.Logic.{◌≢◌, ◌↔◌, inl, inr}
use mathlib.Core.Bool.{Bool, true, false}
use Prim.Native.Nat.{ℕ, suc, ◌-◌, ◌<◌}
use native.Mathlib.Decide.{ℕ_discrete, dec_lt}
use native.Mathlib.Omega.{arith}
use Rattle.children.specs.Below.{count}
use Rattle.children.proofs.Cases.{two, clash, and-true, not-true}
use Rattle.children.proofs.Below.{count-some, count_pos, count-one, count-more}
use Rattle.context.specs.declared.ContextState.{ContextState}
use Rattle.context.specs.declared.ContextState.TheVariants.{Inactive, Active, Retired}
use Rattle.context.specs.declared.Context.{Context}
use Rattle.handle.specs.Handle.{is_default, default_handle}
use Rattle.context.specs.Context.{is_active}
use Rattle.context.proofs.Bytes.{same_iff}
use Rattle.verdict.specs.Tests.{locality_at, default_at, other_at, within, mix_test, locality_of, localities_test, localities_of}
use Rattle.verdict.specs.Rule.{Alone}
use Rattle.verdict.proofs.Steps.{same, seq, test, all, eqb_iff, ltb_iff, and_iff, or-ne, not_iff}

active_iff : (x : ContextState) → (is_active x ≡ true) ↔ (x ≡ Active)
active_iff Inactive = (λ e. clash e refl, λ e. absurd (cc))
active_iff Active = (λ e. refl, λ e. refl)
active_iff Retired = (λ e. clash e refl, λ e. absurd (cc))

mix_iff : (d o : ℕ) → (mix_test d o ≡ Ok tt) ↔ ((d < 2) × (d ≢ 0 → o ≡ 0))
unfolding mix_test
mix_iff d o = seq (test _ (ltb_iff d 2)) (test _ (or-ne d 0 (eqb_iff o 0)))

locality_iff : (n : ℕ) (def oth : ℕ → Bool)
    → (locality_of n def oth ≡ Ok tt) ↔ ((k : ℕ) → k < n → (count def (suc k) < 2) × (count def (suc k) ≢ 0 → count oth (suc k) ≡ 0))
unfolding locality_of
locality_iff n def oth = all n (λ k h. mix_iff (count def (suc k)) (count oth (suc k)))

-- ---- where a locality is known from functions: def and oth are the active defaults and others, place is the locality of a slot

module _ (n : ℕ) (place : ℕ → ℕ) (def oth : ℕ → Bool) where
  -- a default has no second default and no other in its locality
  abbrev pub Lone : Type 0
  Lone = (i k : ℕ) → i < n → k < n → def i ≡ true → place k ≡ place i → (def k ≡ true → k ≡ i) × (oth k ≡ false)

  abbrev Counts : ℕ → ℕ → Type 0
  Counts l k = (count (within place def l) (suc k) < 2) × (count (within place def l) (suc k) ≢ 0 → count (within place oth l) (suc k) ≡ 0)

  in-locality : (f : ℕ → Bool) (l i : ℕ) → within place f l i ≡ true → (place i ≡ l) × (f i ≡ true)
  in-locality f l i e = (and_iff (eqb_iff (place i) l) same).0 e

  lone_counts : Lone → (l k : ℕ) → k < n → Counts l k
  lone_counts f l k hk = (
    elim (dec_lt (count (within place def l) (suc k)) 2) [
      | yes t ↦ t
      | no nt ↦
          let r = count-more (within place def l) (suc k) (omega arith) in
          let lt = r.2 in
          let h = r.3 in
          let a = in-locality def l r.0 r.4 in
          let b = in-locality def l r.1 r.5 in
          let e = (f r.0 r.1 (omega arith) (omega arith) a.1 (b.0 ∙ sym a.0)).0 b.1 in
          omega arith
    ],
    λ nz. elim (ℕ_discrete (count (within place oth l) (suc k)) 0) [
      | yes t ↦ t
      | no nt ↦
          let x = count-some (within place def l) (suc k) (omega arith) in
          let y = count-some (within place oth l) (suc k) (omega arith) in
          let a = in-locality def l x.0 x.2 in
          let b = in-locality oth l y.0 y.2 in
          let hx = x.1 in
          let hy = y.1 in
          clash b.1 (f x.0 y.0 (omega arith) (omega arith) a.1 (b.0 ∙ sym a.0)).1
    ],
  )

  tests_iff : (localities_test n place def oth ≡ Ok tt) ↔ ((j : ℕ) → j < n → (k : ℕ) → k < n → Counts (place j) k)
  unfolding localities_test
  tests_iff = all n (λ j h. locality_iff n (within place def (place j)) (within place oth (place j)))

  -- then the tests find no fault
  pub lone_valid : Lone → localities_test n place def oth ≡ Ok tt
  lone_valid f = tests_iff.1 (λ j h. lone_counts f (place j))

-- ---- where the contexts say it

module _ (n : ℕ) (s : ℕ → Context) where
  abbrev default_in : ℕ → ℕ → Bool
  default_in = within (locality_at s) (default_at s)

  abbrev other_in : ℕ → ℕ → Bool
  other_in = within (locality_at s) (other_at s)

  def_iff : (l i : ℕ) → (default_in l i ≡ true) ↔ (((s i).locality ≡ l) × (((s i).state ≡ Active) × ((s i).handle ≡ default_handle)))
  def_iff l i = and_iff (eqb_iff (s i).locality l) (and_iff (active_iff (s i).state) (same_iff (s i).handle default_handle))

  oth_iff : (l i : ℕ) → (other_in l i ≡ true) ↔ (((s i).locality ≡ l) × (((s i).state ≡ Active) × (is_default (s i).handle ≡ false)))
  oth_iff l i = and_iff (eqb_iff (s i).locality l) (and_iff (active_iff (s i).state) (not_iff _ same))

  of_counts : ((j : ℕ) → j < n → (k : ℕ) → k < n → Counts n (locality_at s) (default_at s) (other_at s) (s j).locality k) → Alone n s
  of_counts f i j a b ne e d =
      let hi = a.slot in
      let hj = b.slot in
      let q : suc (n - 1) ≡ n = omega arith in
      let l = (s i).locality in
      let r = rw q at (f i hi (n - 1) (omega arith)) in
      let pi = (def_iff l i).1 (refl, (a.active, d)) in
      let k = count_pos (default_in l) n i hi pi in
      let r0 = r.0 in
      elim (two (is_default (s j).handle)) [
        | inl t ↦ ne (count-one (default_in l) n i j (omega arith) hi hj pi ((def_iff l j).1 (sym e, (b.active, (same_iff (s j).handle default_handle).0 t))))
        | inr t ↦
            let o = count_pos (other_in l) n j hj ((oth_iff l j).1 (sym e, (b.active, t))) in
            let z = r.1 (λ w. omega arith) in
            omega arith
      ]

  to-lone : Alone n s → Lone n (locality_at s) (default_at s) (other_at s)
  to-lone f i k hi hk d e =
      let a = (def_iff (s i).locality i).0 ((and_iff (eqb_iff (s i).locality (s i).locality) same).1 (refl, d)) in
      let default : is_default (s i).handle ≡ true = (and-true (is_active (s i).state) (is_default (s i).handle) d).1 in
      let apart : is_active (s k).state ≡ true → (i ≡ k → ⊥) → ⊥ = λ w ne.
      f i k (record { slot = hi; active = a.1.0 }) (record { slot = hk; active = (active_iff (s k).state).0 w }) ne (sym e) a.1.1 in (
        λ w. elim (ℕ_discrete i k) [ yes q ↦ sym q | no ne ↦ absurd (apart (and-true _ _ w).0 ne) ],
        elim (two (other_at s k)) [
          | inr no_other ↦ no_other
          | inl w ↦ absurd (apart (and-true _ _ w).0 (λ q. clash (rw q at default) (not-true (is_default (s k).handle) (and-true (is_active (s k).state) _ w).1)))
        ],
      )

  pub localities_iff : (localities_of n s ≡ Ok tt) ↔ Alone n s
  localities_iff = (λ e. of_counts ((tests_iff n (locality_at s) (default_at s) (other_at s)).0 e), λ f. lone_valid n (locality_at s) (default_at s) (other_at s) (to-lone f))
