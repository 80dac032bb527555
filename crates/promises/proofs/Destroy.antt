-- A destroy from a yes that finds its context clears exactly what goes with it, and leaves a yes. Words says that each stored word of children is
-- below 2 ^ 64, as a u64 is: every table that code holds meets it. Assumes nothing else.
use Rattle.std.specs.Prelude.{Result, Ok, Err}
use mathlib.Core.Path.{◌≡◌, refl, ap, ◌∙◌}
use mathlib.Core.List.{List}
use mathlib.Core.Logic.{◌⊎◌}
use Prim.Native.Nat.{ℕ, ◌<◌}
use Rattle.error.specs.Numbers.{done}
use Rattle.error.specs.declared.DpeErrorCode.{DpeErrorCode}
use Rattle.error.specs.declared.DpeErrorCode.TheVariants.{InternalError, InvalidHandle, InvalidLocality}
use Rattle.error.specs.declared.InternalErrorCode.TheVariants.{DestroyParentIndexOob}
use Rattle.children.specs.Marks.{slot_count}
use Rattle.children.proofs.Cases.{clash}
use Rattle.children.proofs.Below.{length-list_of, list_of-at}
use Rattle.context.specs.declared.Context.{Context}
use Rattle.table.specs.declared.state.State.{State}
use Rattle.context.specs.Context.{no_context, slot_of}
use Rattle.forest.specs.Destroy.{doomed_word, Destruction}
use Rattle.forest.proofs.Destroy.{destruction}
use Rattle.links.specs.Summary.{live_at, retired_at, parent_at, kids_at, table_of, Words}
use Rattle.links.proofs.Tables.{reads_of}
use Rattle.lookup.specs.Lookup.{lookup_in}
use Rattle.lookup.proofs.Lookup.{Target, found_iff, refused_by_lem}
use Rattle.forest.specs.Told.{told_of}
use Rattle.walks_run.specs.Run.{run_from, run_in}
use Rattle.clearing.specs.Clearing.{cleared_slot, cleared_by}
use Rattle.destroy_context.specs.Destroy.{destroy_of}
use Rattle.destroy_context.proofs.Calls.{both_walked, not_found, found_at}
use Rattle.verdict.specs.Tests.{header_of}
use Rattle.verdict.specs.Rule.{Live, Forest}
use Rattle.verdict.proofs.Trees.{live_is}
use Rattle.promises.specs.Keeps.{DestroyedAt}
use Rattle.promises.proofs.Rule.{links, roots, few}
use Rattle.promises.proofs.Descend.{told-down}
use Rattle.promises.proofs.Clearing.{rule_again, gone_at, other_at_lem}

module _ (t : State) where
  cleared-slots : (d x : ℕ) → x < slot_count → slot_of (cleared_by t d).contexts x ≡ cleared_slot d x (slot_of t.contexts x)
  unfolding cleared_by
  cleared-slots d x lt = list_of-at (λ i. cleared_slot d i (slot_of t.contexts i)) slot_count x no_context lt

  -- the slot that a lookup finds is live
  found-live : (h : List ℕ) (l i : ℕ) → Target slot_count (slot_of t.contexts) h l i → Live slot_count (slot_of t.contexts) i
  found-live h l i g = record { slot = g.below; live = λ q. clash g.active (rw q) }

  module _ (W : Words slot_count (slot_of t.contexts)) (F : Forest t) (i : ℕ) (v : Live slot_count (slot_of t.contexts) i) where
    abbrev s : ℕ → Context
    s = slot_of t.contexts

    both : Destruction slot_count (table_of slot_count s) (live_at s) (retired_at s) (parent_at s) (kids_at s) i
    both = destruction slot_count (table_of slot_count s) (links slot_count (header_of t) s few F) (roots slot_count (header_of t) s few F) i
        ((live_is slot_count s i).1 v) (live_at s) (retired_at s) (parent_at s) (kids_at s) (reads_of slot_count s W)

    abbrev word : ℕ
    word = doomed_word both.down i both.run_set

    run-told : run_in slot_count s i ≡ Ok both.run_set
    unfolding run_from told_of
    run-told = ap (told_of (InternalError DestroyParentIndexOob)) both.run_is

    destroy-at : (h : List ℕ) (l : ℕ) → lookup_in slot_count s h l ≡ Ok i → destroy_of t h l ≡ record { answer = done; state = cleared_by t word }
    destroy-at h l e =
        found_at t h l i e ∙ both_walked t i v.slot both.run_set both.down run-told (told-down slot_count s i both.down v.slot both.down_is)

    clears : DestroyedAt t i (cleared_by t word)
    unfolding cleared_by
    clears = record {
      marker = refl;
      version = refl;
      support = refl;
      flags = refl;
      initialized = refl;
      reserved = refl;
      size = length-list_of _ slot_count;
      gone = gone_at slot_count (header_of t) s few F i v word both.exact _ (cleared-slots word);
      others = other_at_lem slot_count (header_of t) s few F i v word both.exact _ (cleared-slots word) W;
    }

    clears_yes : Forest (cleared_by t word)
    unfolding cleared_by
    clears_yes = rule_again slot_count (header_of t) s few F i v word both.exact _ (cleared-slots word)

pub destroy_clears : (t : State) → Words slot_count (slot_of t.contexts) → Forest t → (h : List ℕ) (l i : ℕ)
    → lookup_in slot_count (slot_of t.contexts) h l ≡ Ok i
    → ((destroy_of t h l).answer ≡ done) × DestroyedAt t i (destroy_of t h l).state × Forest (destroy_of t h l).state
destroy_clears t W F h l i e =
    let v = found-live t h l i ((found_iff slot_count (slot_of t.contexts) h l i).0 e) in
    rw (destroy-at t W F i v h l e) (refl, clears t W F i v, clears_yes t W F i v)

pub destroy_refuses : (t : State) (h : List ℕ) (l : ℕ) (e : DpeErrorCode) → lookup_in slot_count (slot_of t.contexts) h l ≡ Err e
    → ((destroy_of t h l).answer ≡ Err e) × ((destroy_of t h l).state ≡ t)
destroy_refuses t h l e q = rw (not_found t h l e q) (refl, refl)

pub destroy_only : (t : State) → Words slot_count (slot_of t.contexts) → Forest t → (h : List ℕ) (l : ℕ) (e : DpeErrorCode)
    → (destroy_of t h l).answer ≡ Err e → (e ≡ InvalidHandle) ⊎ (e ≡ InvalidLocality)
destroy_only t W F h l e q = go (lookup_in slot_count (slot_of t.contexts) h l) refl
  where
    go : (f : Result ℕ DpeErrorCode) → lookup_in slot_count (slot_of t.contexts) h l ≡ f → (e ≡ InvalidHandle) ⊎ (e ≡ InvalidLocality)
    go (Ok i) p = let d = (destroy_clears t W F h l i p).0 in absurd (cc)
    go (Err r) p =
        let d = (destroy_refuses t h l r p).0 in
        let z : r ≡ e = cc in
        rw z at (refused_by_lem slot_count (slot_of t.contexts) h l r p)
