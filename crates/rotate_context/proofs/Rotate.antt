-- Laws of rotate: when a locality is occupied, what the tests answer in their order, and how a call ends. Assumes nothing.
use Rattle.std.specs.Prelude.{Result, Ok, Err}
use mathlib.Core.Path.{◌≡◌, refl, sym, ap, ◌∙◌}
use mathlib.Core.Logic.{inl, inr, ◌↔◌}
use mathlib.Core.Bool.{Bool, true, false, cond, not, ◌&&◌, ◌||◌}
use mathlib.Core.List.{List}
use Prim.Native.Nat.{ℕ, ◌+◌, ◌<◌}
use lib.Dec.{eqb}
use Rattle.error.specs.declared.DpeErrorCode.{DpeErrorCode}
use Rattle.error.specs.declared.DpeErrorCode.TheVariants.{InvalidCommand, InvalidArgument}
use Rattle.error.proofs.Exits.{same_err, never}
use Rattle.children.specs.Below.{some}
use Rattle.children.specs.Marks.{slot_count, marked}
use Rattle.children.proofs.Cases.{two, clash, and_both, and_left, and_right, or_cases, or_left, or_right, or_none, not-false, eqb-true, true-eqb}
use Rattle.children.proofs.Below.{some_next, some_of, none_of}
use Rattle.context.specs.declared.Context.{Context}
use Rattle.table.specs.declared.state.State.{State}
use Rattle.table.specs.declared.state.Outcome.{Outcome}
use Rattle.handle.specs.Handle.{is_default, default_handle}
use Rattle.table.specs.Flags.{rotate_bit, rotate_default_bit}
use Rattle.context.specs.Context.{slot_of}
use Rattle.table.specs.State.{refused_of}
use Rattle.lookup.specs.Lookup.{active_in, lookup_in}
use Rattle.lookup.proofs.Lookup.{Target, found_iff, some_iff}
use Rattle.candidates.specs.Candidates.{chosen_in}
use Rattle.candidates.proofs.Candidates.{Taken, taken}
use Rattle.rotate_context.specs.Rotate.{default_at, other_at, occupied, rotated_to, to_default, to_chosen, to_candidate, rotated_at, rotated_of}

or-false : (a b : Bool) → (a || b) ≡ false → (a ≡ false) × (b ≡ false)
or-false true b e = clash refl e
or-false false b e = (refl, e)

-- a default, or a non-default other than the target, is a default, or other than the target
by_kind : (a d e : Bool) → (a && (d || not e)) ≡ ((a && d) || ((a && not d) && not e))
by_kind true true e = refl
by_kind true false e = refl
by_kind false d e = refl

-- ---- an occupied locality

-- slot j keeps the locality l from a new default at slot i
abbrev pub in_way : (ℕ → Context) → ℕ → ℕ → ℕ → Bool
in_way s l i j = active_in s l j && (is_default (s j).handle || not (eqb j i))

module _ (s : ℕ → Context) (l i : ℕ) where
  in_way_lem : (j : ℕ) → in_way s l i j ≡ (default_at s l j || other_at s l i j)
  in_way_lem j = by_kind (active_in s l j) (is_default (s j).handle) (eqb j i)

  pub occupied_none : occupied 0 s l i ≡ false
  unfolding occupied some
  occupied_none = refl

  pub occupied_on : (j : ℕ) → occupied j s l i ≡ false → in_way s l i j ≡ false → occupied (j + 1) s l i ≡ false
  unfolding occupied
  occupied_on j e f =
      let x = or-false (some (default_at s l) j) (some (other_at s l i) j) e in
      let y = or-false (default_at s l j) (other_at s l i j) (sym (in_way_lem j) ∙ f) in
      or_none (some_next (default_at s l) j ∙ or_none x.0 y.0) (some_next (other_at s l i) j ∙ or_none x.1 y.1)

  pub occupied-here : (n j : ℕ) → j < n → in_way s l i j ≡ true → occupied n s l i ≡ true
  unfolding occupied
  occupied-here n j h f = elim (or_cases (default_at s l j) (other_at s l i j) (sym (in_way_lem j) ∙ f)) [
    | inl d ↦ or_left (some (other_at s l i) n) (some_of (default_at s l) n j h d)
    | inr o ↦ or_right (some (default_at s l) n) (some (other_at s l i) n) (some_of (other_at s l i) n j h o)
  ]

  occupied_by : (n : ℕ) → ((j : ℕ) → j < n → in_way s l i j ≡ false) → occupied n s l i ≡ false
  unfolding occupied
  occupied_by n f =
      let y : (j : ℕ) → j < n → (default_at s l j ≡ false) × (other_at s l i j ≡ false) =
      λ j h. or-false (default_at s l j) (other_at s l i j) (sym (in_way_lem j) ∙ f j h) in
      or_none (none_of (default_at s l) n (λ j h. (y j h).0)) (none_of (other_at s l i) n (λ j h. (y j h).1))

  -- a locality is not occupied exactly where it has no active context but the target, and that is no default
  pub alone_iff : (n : ℕ) → (occupied n s l i ≡ false) ↔ ((j : ℕ) → j < n → active_in s l j ≡ true → (j ≡ i) × (is_default (s j).handle ≡ false))
  alone_iff n = (
    λ e j h a. elim (two (is_default (s j).handle || not (eqb j i))) [
      | inl w ↦ clash (occupied-here n j h (and_both a w)) e
      | inr w ↦ let x = or-false (is_default (s j).handle) (not (eqb j i)) w in (eqb-true j i (not-false _ x.1), x.0)
    ],
    λ f. occupied_by n (λ j h. elim (two (active_in s l j)) [
      | inl a ↦ let x = f j h a in and_right (active_in s l j) (or_none x.1 (rw (true-eqb j i x.0)))
      | inr a ↦ and_left (is_default (s j).handle || not (eqb j i)) a
    ]),
  )

-- the locality has an active default exactly where the lookup of the default handle finds a slot, which is what the Rust asks
pub default_iff : (n : ℕ) (s : ℕ → Context) (l : ℕ) → (some (default_at s l) n ≡ true) ↔ ((i : ℕ) × (lookup_in n s default_handle l ≡ Ok i))
default_iff n s l = some_iff n s default_handle l

-- ---- to default

module _ (t : State) (l i : ℕ) where
  pub default_refused : occupied slot_count (slot_of t.contexts) l i ≡ true → to_default t l i ≡ refused_of t InvalidArgument
  default_refused e = rw e

  pub default_done : occupied slot_count (slot_of t.contexts) l i ≡ false → to_default t l i ≡ rotated_to t i default_handle
  default_done e = rw e

-- ---- with the candidate that was chosen

module _ (t : State) (i : ℕ) (b : List ℕ) where
  pub not_chosen : (e : DpeErrorCode) → chosen_in slot_count (slot_of t.contexts) b ≡ Err e → to_candidate t i b ≡ refused_of t e
  not_chosen e a = rw a

  pub chosen : (h : List ℕ) → chosen_in slot_count (slot_of t.contexts) b ≡ Ok h → to_candidate t i b ≡ rotated_to t i h
  chosen h a = rw a

-- what the test of the call says of the table
pub tested : (t : State) {w : ℕ} {r x : Bool} → w ≡ t.support → r ≡ marked w rotate_bit → r ≡ x → not (marked t.support rotate_bit) ≡ not x
tested t p q o = ap (λ (w : ℕ). not (marked w rotate_bit)) (sym p) ∙ ap not (sym q ∙ o)

-- ---- the tests in their order

module _ (t : State) (h : List ℕ) (l flags : ℕ) (b : List ℕ) where
  pub no-support : not (marked t.support rotate_bit) ≡ true → rotated_of t h l flags b ≡ refused_of t InvalidCommand
  unfolding rotated_of
  no-support e = rw e

  module _ (ok : not (marked t.support rotate_bit) ≡ false) where
    -- the lookup decides
    pub by_lookup : (f : Result ℕ DpeErrorCode) → lookup_in slot_count (slot_of t.contexts) h l ≡ f → rotated_of t h l flags b ≡ rotated_at t l flags b f
    unfolding rotated_of
    by_lookup f e = rw (ok, e)

    pub to_default_lem : (i : ℕ) → lookup_in slot_count (slot_of t.contexts) h l ≡ Ok i → marked flags rotate_default_bit ≡ true
        → rotated_of t h l flags b ≡ to_default t l i
    to_default_lem i e d = by_lookup (Ok i) e ∙ rw d

    pub to_candidate_lem : (i : ℕ) → lookup_in slot_count (slot_of t.contexts) h l ≡ Ok i → marked flags rotate_default_bit ≡ false
        → rotated_of t h l flags b ≡ to_candidate t i b
    to_candidate_lem i e d = by_lookup (Ok i) e ∙ rw d

-- ---- the new handle of the slot that was found

module _ (t : State) (l flags i : ℕ) (b : List ℕ) where
  to_default_told : (a : Bool) (h : List ℕ) → (cond a (refused_of t InvalidArgument) (rotated_to t i default_handle)).answer ≡ Ok h
      → cond a (refused_of t InvalidArgument) (rotated_to t i default_handle) ≡ rotated_to t i h
  to_default_told true h p = never (sym p)
  to_default_told false h p = ap (rotated_to t i) (let z : default_handle ≡ h = cc in z)

  to_default_kept : (a : Bool) (e : DpeErrorCode) → (cond a (refused_of t InvalidArgument) (rotated_to t i default_handle)).answer ≡ Err e
      → cond a (refused_of t InvalidArgument) (rotated_to t i default_handle) ≡ refused_of t e
  to_default_kept true e p = ap (refused_of t) (same_err p)
  to_default_kept false e p = never p

  to_chosen_told : (o : Result (List ℕ) DpeErrorCode) (h : List ℕ) → (to_chosen t i o).answer ≡ Ok h → to_chosen t i o ≡ rotated_to t i h
  to_chosen_told (Ok h') h p = ap (rotated_to t i) (let z : h' ≡ h = cc in z)
  to_chosen_told (Err e) h p = never (sym p)

  to_chosen_kept : (o : Result (List ℕ) DpeErrorCode) (e : DpeErrorCode) → (to_chosen t i o).answer ≡ Err e → to_chosen t i o ≡ refused_of t e
  to_chosen_kept (Ok h') e p = never p
  to_chosen_kept (Err e') e p = ap (refused_of t) (same_err p)

  pub new-occupied : marked flags rotate_default_bit ≡ true → occupied slot_count (slot_of t.contexts) l i ≡ true
      → (rotated_at t l flags b (Ok i)).answer ≡ Err InvalidArgument
  new-occupied d o = rw (d, o)

  pub new-default : marked flags rotate_default_bit ≡ true → occupied slot_count (slot_of t.contexts) l i ≡ false
      → (rotated_at t l flags b (Ok i)).answer ≡ Ok default_handle
  new-default d o = rw (d, o)

  -- where one is given, the slot has it; else nothing changes
  pub told_handle : (h : List ℕ) → Ok h ≡ (rotated_at t l flags b (Ok i)).answer → rotated_at t l flags b (Ok i) ≡ rotated_to t i h
  told_handle h p = elim (two (marked flags rotate_default_bit)) [
    | inl d ↦ let q = rw d at p in rw d (to_default_told (occupied slot_count (slot_of t.contexts) l i) h (sym q))
    | inr d ↦ let q = rw d at p in rw d (to_chosen_told (chosen_in slot_count (slot_of t.contexts) b) h (sym q))
  ]

  pub kept_handle : (e : DpeErrorCode) → Err e ≡ (rotated_at t l flags b (Ok i)).answer → rotated_at t l flags b (Ok i) ≡ refused_of t e
  kept_handle e p = elim (two (marked flags rotate_default_bit)) [
    | inl d ↦ let q = rw d at p in rw d (to_default_kept (occupied slot_count (slot_of t.contexts) l i) e (sym q))
    | inr d ↦ let q = rw d at p in rw d (to_chosen_kept (chosen_in slot_count (slot_of t.contexts) b) e (sym q))
  ]

-- ---- what an answer tells

-- a refusal, or the target alone is changed: to default in a locality that is not occupied, or to a candidate
pub data Ended (t : State) (h : List ℕ) (l flags : ℕ) (b : List ℕ) : Type 0 where
  unchanged : (e : DpeErrorCode) → rotated_of t h l flags b ≡ refused_of t e → Ended t h l flags b
  to-zero : (i : ℕ) → Target slot_count (slot_of t.contexts) h l i → occupied slot_count (slot_of t.contexts) l i ≡ false
      → rotated_of t h l flags b ≡ rotated_to t i default_handle → Ended t h l flags b
  to_taken : (i : ℕ) → Target slot_count (slot_of t.contexts) h l i → (h' : List ℕ) → Taken slot_count (slot_of t.contexts) b h'
      → rotated_of t h l flags b ≡ rotated_to t i h' → Ended t h l flags b

module _ (t : State) (h : List ℕ) (l flags : ℕ) (b : List ℕ) where
  module _ (ok : not (marked t.support rotate_bit) ≡ false) where
    by_choice : (i : ℕ) → lookup_in slot_count (slot_of t.contexts) h l ≡ Ok i → marked flags rotate_default_bit ≡ false
        → (o : Result (List ℕ) DpeErrorCode) → chosen_in slot_count (slot_of t.contexts) b ≡ o → Ended t h l flags b
    by_choice i p d (Ok h') a =
        to_taken i ((found_iff slot_count (slot_of t.contexts) h l i).0 p) h' (taken slot_count (slot_of t.contexts) b h' a)
        (to_candidate_lem t h l flags b ok i p d ∙ chosen t i b h' a)
    by_choice i p d (Err e) a = unchanged e (to_candidate_lem t h l flags b ok i p d ∙ not_chosen t i b e a)

    by-found : (f : Result ℕ DpeErrorCode) → lookup_in slot_count (slot_of t.contexts) h l ≡ f → Ended t h l flags b
    by-found (Err e) p = unchanged e (by_lookup t h l flags b ok (Err e) p)
    by-found (Ok i) p = elim (two (marked flags rotate_default_bit)) [
      | inr d ↦ by_choice i p d _ refl
      | inl d ↦ elim (two (occupied slot_count (slot_of t.contexts) l i)) [
        | inl o ↦ unchanged InvalidArgument (to_default_lem t h l flags b ok i p d ∙ default_refused t l i o)
        | inr o ↦ to-zero i ((found_iff slot_count (slot_of t.contexts) h l i).0 p) o (to_default_lem t h l flags b ok i p d ∙ default_done t l i o)
      ]
    ]

  -- every call ends in one of the three ways
  pub ended : Ended t h l flags b
  ended = elim (two (not (marked t.support rotate_bit))) [
    | inl s ↦ unchanged InvalidCommand (no-support t h l flags b s)
    | inr ok ↦ by-found ok _ refl
  ]

  -- a refusal changes nothing
  pub refused : (e : DpeErrorCode) → (rotated_of t h l flags b).answer ≡ Err e → rotated_of t h l flags b ≡ refused_of t e
  refused e p = elim ended [
    | unchanged r q ↦ q ∙ ap (refused_of t) (same_err (sym (ap (λ (x : Outcome (List ℕ)). x.answer) q) ∙ p))
    | to-zero i g o q ↦ never (sym (ap (λ (x : Outcome (List ℕ)). x.answer) q) ∙ p)
    | to_taken i g h' k q ↦ never (sym (ap (λ (x : Outcome (List ℕ)). x.answer) q) ∙ p)
  ]
