-- Laws of initialise: what the slot that it takes satisfies, what the tests answer in their order, and how a call ends. Assumes nothing.
use Rattle.std.specs.Prelude.{Result, Ok, Err}
use mathlib.Core.Path.{◌≡◌, refl, sym, ap, ap₂, ◌∙◌}
use mathlib.Core.Logic.{inl, inr}
use mathlib.Core.Bool.{Bool, true, false, not, ◌&&◌, ◌||◌, beq}
use mathlib.Core.List.{List}
use Prim.Native.Nat.{ℕ, ◌<◌}
use native.Mathlib.Decide.{dec_lt}
use native.Mathlib.Omega.{arith}
use Rattle.error.proofs.Exits.{same_err, never}
use Rattle.error.specs.declared.DpeErrorCode.{DpeErrorCode}
use Rattle.error.specs.declared.DpeErrorCode.TheVariants.{ArgumentNotSupported, InvalidArgument, MaxTcis}
use Rattle.children.specs.Below.{lowest}
use Rattle.children.specs.Marks.{slot_count, marked}
use Rattle.children.proofs.Cases.{two, clash, and_both, or_left, or_right, or_none}
use Rattle.children.proofs.Below.{low_bare, low_passes}
use Rattle.context.specs.declared.Context.{Context}
use Rattle.table.specs.declared.state.State.{State}
use Rattle.table.specs.declared.state.Outcome.{Outcome}
use Rattle.context.specs.declared.ContextType.TheVariants.{Simulation}
use Rattle.handle.specs.Handle.{default_handle}
use Rattle.context.specs.Bytes.{is_on}
use Rattle.table.specs.Flags.{simulation_bit, init_simulation_bit, init_default_bit}
use Rattle.context.specs.Context.{active_context, slot_of}
use Rattle.table.specs.State.{idle_at, free_in, refused_of, handed_of, with_slot}
use Rattle.table.proofs.Slots.{free-at, free_none}
use Rattle.candidates.specs.Candidates.{chosen_in}
use Rattle.candidates.proofs.Candidates.{Taken, taken}
use Rattle.initialize_context.specs.Initialize.{root_args, not_supported, both_or_neither, default_in, simulation_of, activated_in, initialized_of}

-- `!(d ^ s)` is both or neither
pub both-or_neither : (d s : Bool) → not (not (beq d s)) ≡ ((d && s) || not (d || s))
both-or_neither true true = refl
both-or_neither true false = refl
both-or_neither false true = refl
both-or_neither false false = refl

-- slot i is the lowest inactive one
pub record Free (n : ℕ) (s : ℕ → Context) (i : ℕ) : Type 0 where
  pub below : i < n
  pub idle : idle_at s i ≡ true
  pub lowest : (j : ℕ) → j < i → idle_at s j ≡ false

module _ (n : ℕ) (s : ℕ → Context) where
  at_low : (i : ℕ) → lowest (idle_at s) n ≡ i → i < n → Free n s i
  at_low i e b = record {
    below = b;
    idle = rw e at (low_passes (idle_at s) n 0 (omega arith));
    lowest = λ j h. low_bare (idle_at s) n 0 j (omega arith) (omega arith);
  }

  pub free-is : (i : ℕ) → free_in n s ≡ Ok i → Free n s i
  free-is i e = elim (dec_lt (lowest (idle_at s) n) n) [
    | yes b ↦ let q : lowest (idle_at s) n ≡ i = cc (free-at n s _ refl b) in at_low i q (omega arith)
    | no nb ↦ never (sym e ∙ sym (free_none n s (omega arith)))
  ]

  pub free_refused : (e : DpeErrorCode) → free_in n s ≡ Err e → e ≡ MaxTcis
  free_refused e p = elim (dec_lt (lowest (idle_at s) n) n) [
    | yes b ↦ never (free-at n s _ refl b ∙ p)
    | no nb ↦ cc (free_none n s (omega arith))
  ]

-- ---- simulation, with the candidate that was chosen

module _ (t : State) (l i : ℕ) (b : List ℕ) where
  pub not_chosen : (e : DpeErrorCode) → chosen_in slot_count (slot_of t.contexts) b ≡ Err e → simulation_of t l i b ≡ refused_of t e
  not_chosen e a = rw a

  pub chosen : (h : List ℕ) → chosen_in slot_count (slot_of t.contexts) b ≡ Ok h
      → simulation_of t l i b ≡ handed_of (with_slot t i (active_context (root_args Simulation h l false))) h
  chosen h a = rw a

-- what the first test of the call says of the table
pub tested : (t : State) (flags : ℕ) {w i : ℕ} {r x : Bool} → w ≡ t.support → i ≡ t.has_initialized → r ≡ not_supported w i flags → r ≡ x
    → not_supported t.support t.has_initialized flags ≡ x
tested t flags p q e o = ap₂ (λ (w i : ℕ). not_supported w i flags) (sym p) (sym q) ∙ sym e ∙ o

-- ---- the tests in their order

module _ (t : State) (flags l : ℕ) (b : List ℕ) where
  pub not-supported : not_supported t.support t.has_initialized flags ≡ true → initialized_of t flags l b ≡ refused_of t ArgumentNotSupported
  unfolding initialized_of
  not-supported e = rw e

  module _ (ok : not_supported t.support t.has_initialized flags ≡ false) where
    pub both_bits : both_or_neither flags ≡ true → initialized_of t flags l b ≡ refused_of t InvalidArgument
    unfolding initialized_of
    both_bits e = rw (ok, e)

    module _ (one : both_or_neither flags ≡ false) where
      -- the slot decides
      pub by-slot : (f : Result ℕ DpeErrorCode) → free_in slot_count (slot_of t.contexts) ≡ f → initialized_of t flags l b ≡ activated_in t flags l b f
      unfolding initialized_of
      by-slot f e = rw (ok, one, e)

      pub no_slot : (e : DpeErrorCode) → free_in slot_count (slot_of t.contexts) ≡ Err e → initialized_of t flags l b ≡ refused_of t MaxTcis
      no_slot e p = by-slot (Err e) p ∙ ap (refused_of t) (free_refused slot_count (slot_of t.contexts) e p)

      pub default-slot : (i : ℕ) → free_in slot_count (slot_of t.contexts) ≡ Ok i → marked flags init_default_bit ≡ true → initialized_of t flags l b ≡ default_in t l i
      default-slot i p d = by-slot (Ok i) p ∙ rw d

      pub simulation-slot : (i : ℕ) → free_in slot_count (slot_of t.contexts) ≡ Ok i → marked flags init_default_bit ≡ false → initialized_of t flags l b ≡ simulation_of t l i b
      simulation-slot i p d = by-slot (Ok i) p ∙ rw d

-- ---- what an answer tells

-- the lowest inactive slot is the default context, which was not there before
pub record AsDefault (t : State) (flags l : ℕ) (b : List ℕ) : Type 0 where
  pub slot : ℕ
  pub free : Free slot_count (slot_of t.contexts) slot
  pub first : is_on t.has_initialized ≡ false
  pub is : initialized_of t flags l b ≡ default_in t l slot

-- the lowest inactive slot is a simulation context, which is supported, with a candidate for its handle
pub record AsSimulation (t : State) (flags l : ℕ) (b : List ℕ) : Type 0 where
  pub slot : ℕ
  pub free : Free slot_count (slot_of t.contexts) slot
  pub supported : marked t.support simulation_bit ≡ true
  pub handle : List ℕ
  pub taken : Taken slot_count (slot_of t.contexts) b handle
  pub is : initialized_of t flags l b ≡ handed_of (with_slot t slot (active_context (root_args Simulation handle l false))) handle

-- a refusal, or one of the two
pub data Ended (t : State) (flags l : ℕ) (b : List ℕ) : Type 0 where
  nothing_made : (e : DpeErrorCode) → initialized_of t flags l b ≡ refused_of t e → Ended t flags l b
  default_made : AsDefault t flags l b → Ended t flags l b
  simulation_made : AsSimulation t flags l b → Ended t flags l b

module _ (t : State) (flags l : ℕ) (b : List ℕ) where
  module _ (ok : not_supported t.support t.has_initialized flags ≡ false) (one : both_or_neither flags ≡ false) where
    as-default : (i : ℕ) → free_in slot_count (slot_of t.contexts) ≡ Ok i → marked flags init_default_bit ≡ true → AsDefault t flags l b
    as-default i p d = record {
      slot = i;
      free = free-is slot_count (slot_of t.contexts) i p;
      first = elim (two (is_on t.has_initialized)) [
        | inl on ↦ clash (or_left (marked flags init_simulation_bit && not (marked t.support simulation_bit)) (and_both d on)) ok
        | inr off ↦ off
      ];
      is = default-slot t flags l b ok one i p d;
    }

    asked : marked flags init_default_bit ≡ false → marked flags init_simulation_bit ≡ true
    asked d = elim (two (marked flags init_simulation_bit)) [
      | inl m ↦ m
      | inr nm ↦ clash (or_right (marked flags init_default_bit && marked flags init_simulation_bit) _ (ap not (or_none d nm))) one
    ]

    as-simulation : (i : ℕ) → free_in slot_count (slot_of t.contexts) ≡ Ok i → marked flags init_default_bit ≡ false
        → (h : List ℕ) → chosen_in slot_count (slot_of t.contexts) b ≡ Ok h → AsSimulation t flags l b
    as-simulation i p d h a = record {
      slot = i;
      free = free-is slot_count (slot_of t.contexts) i p;
      supported = elim (two (marked t.support simulation_bit)) [
        | inl y ↦ y
        | inr n ↦ clash (or_right (marked flags init_default_bit && is_on t.has_initialized) _ (and_both (asked d) (ap not n))) ok
      ];
      handle = h;
      taken = taken slot_count (slot_of t.contexts) b h a;
      is = simulation-slot t flags l b ok one i p d ∙ chosen t l i b h a;
    }

    by_choice : (i : ℕ) → free_in slot_count (slot_of t.contexts) ≡ Ok i → marked flags init_default_bit ≡ false
        → (o : Result (List ℕ) DpeErrorCode) → chosen_in slot_count (slot_of t.contexts) b ≡ o → Ended t flags l b
    by_choice i p d (Ok h) a = simulation_made (as-simulation i p d h a)
    by_choice i p d (Err e) a = nothing_made e (simulation-slot t flags l b ok one i p d ∙ not_chosen t l i b e a)

    by_free : (f : Result ℕ DpeErrorCode) → free_in slot_count (slot_of t.contexts) ≡ f → Ended t flags l b
    by_free (Err e) p = nothing_made MaxTcis (no_slot t flags l b ok one e p)
    by_free (Ok i) p = elim (two (marked flags init_default_bit)) [
      | inl d ↦ default_made (as-default i p d)
      | inr d ↦ by_choice i p d _ refl
    ]

  -- every call ends in one of the three ways
  pub ended : Ended t flags l b
  ended = elim (two (not_supported t.support t.has_initialized flags)) [
    | inl s ↦ nothing_made ArgumentNotSupported (not-supported t flags l b s)
    | inr ok ↦ elim (two (both_or_neither flags)) [
      | inl bits ↦ nothing_made InvalidArgument (both_bits t flags l b ok bits)
      | inr one ↦ by_free ok one _ refl
    ]
  ]

  -- a refusal changes nothing
  pub refused : (e : DpeErrorCode) → (initialized_of t flags l b).answer ≡ Err e → initialized_of t flags l b ≡ refused_of t e
  refused e p = elim ended [
    | nothing_made r q ↦ q ∙ ap (refused_of t) (same_err (sym (ap (λ (x : Outcome (List ℕ)). x.answer) q) ∙ p))
    | default_made d ↦ never (sym (ap (λ (x : Outcome (List ℕ)). x.answer) d.is) ∙ p)
    | simulation_made d ↦ never (sym (ap (λ (x : Outcome (List ℕ)). x.answer) d.is) ∙ p)
  ]
