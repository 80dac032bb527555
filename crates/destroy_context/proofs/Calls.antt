-- How a destroy goes, way by way. Assumes nothing.
use Rattle.std.specs.Prelude.{Result, Ok, Err}
use mathlib.Core.Bool.{Bool}
use mathlib.Core.Path.{◌≡◌, ap}
use mathlib.Core.List.{List}
use Prim.Native.Nat.{ℕ, ◌≤◌, ◌<◌}
use native.Mathlib.Omega.{arith}
use borrow.Author.Tests.{lt-ltb, le-ltb}
use Rattle.error.specs.Numbers.{done}
use Rattle.error.specs.declared.DpeErrorCode.{DpeErrorCode}
use Rattle.error.specs.declared.DpeErrorCode.TheVariants.{InternalError}
use Rattle.error.specs.declared.InternalErrorCode.TheVariants.{ContextIndexOob}
use Rattle.children.specs.Marks.{slot_count}
use Rattle.table.specs.declared.state.State.{State}
use Rattle.context.specs.Context.{slot_of}
use Rattle.forest.specs.Destroy.{doomed_word}
use Rattle.lookup.specs.Lookup.{lookup_in}
use Rattle.walks.specs.Walks.{down_from, descendants_in}
use Rattle.walks_run.specs.Run.{run_from, run_in}
use Rattle.table.specs.declared.state.Outcome.{Outcome}
use Rattle.table.specs.State.{refused_of}
use Rattle.clearing.specs.Clearing.{cleared_by}
use Rattle.destroy_context.specs.Destroy.{on_down, on_run, doomed_of, doomed_in, on_doomed, destroy_slot_of, on_found, destroy_of}

-- ---- the slots that go, over the links of all slots

module _ (n : ℕ) (live retired : ℕ → Bool) (parent kids : ℕ → ℕ) (slot : ℕ) where
  pub doomed_outside : n ≤ slot → doomed_of n live retired parent kids slot ≡ Err (InternalError ContextIndexOob)
  unfolding doomed_of
  doomed_outside h = rw (le-ltb slot n h)

  module _ (h : slot < n) where
    pub doomed_run : (e : DpeErrorCode) → run_from n retired parent kids (parent slot) ≡ Err e → doomed_of n live retired parent kids slot ≡ Err e
    unfolding doomed_of on_run
    doomed_run e q = rw (lt-ltb slot n h, q)

    pub doomed-down : (run : ℕ) (e : DpeErrorCode) → run_from n retired parent kids (parent slot) ≡ Ok run → down_from n live kids slot ≡ Err e
        → doomed_of n live retired parent kids slot ≡ Err e
    unfolding doomed_of on_run on_down
    doomed-down run e p q = rw (lt-ltb slot n h, p, q)

    pub doomed-both : (run down : ℕ) → run_from n retired parent kids (parent slot) ≡ Ok run → down_from n live kids slot ≡ Ok down
        → doomed_of n live retired parent kids slot ≡ Ok (doomed_word down slot run)
    unfolding doomed_of on_run on_down
    doomed-both run down p q = rw (lt-ltb slot n h, p, q)

module _ (t : State) (slot : ℕ) where
  pub slot_refused : (e : DpeErrorCode) → doomed_in slot_count (slot_of t.contexts) slot ≡ Err e → destroy_slot_of t slot ≡ refused_of t e
  unfolding destroy_slot_of on_doomed
  slot_refused e q = ap (on_doomed t) q

  pub slot_cleared : (set : ℕ) → doomed_in slot_count (slot_of t.contexts) slot ≡ Ok set
      → destroy_slot_of t slot ≡ record { answer = done; state = cleared_by t set }
  unfolding destroy_slot_of on_doomed
  slot_cleared set q = ap (on_doomed t) q

  pub both_walked : slot < slot_count → (run down : ℕ) → run_in slot_count (slot_of t.contexts) slot ≡ Ok run → descendants_in slot_count (slot_of t.contexts) slot ≡ Ok down
      → destroy_slot_of t slot ≡ record { answer = done; state = cleared_by t (doomed_word down slot run) }
  unfolding descendants_in
  both_walked h run down p q = slot_cleared (doomed_word down slot run) (doomed-both slot_count _ _ _ _ slot h run down p (rw (lt-ltb slot slot_count h) at q))

module _ (t : State) (handle : List ℕ) (l : ℕ) where
  pub not_found : (e : DpeErrorCode) → lookup_in slot_count (slot_of t.contexts) handle l ≡ Err e → destroy_of t handle l ≡ refused_of t e
  unfolding destroy_of on_found
  not_found e q = ap (on_found t) q

  pub found_at : (slot : ℕ) → lookup_in slot_count (slot_of t.contexts) handle l ≡ Ok slot → destroy_of t handle l ≡ destroy_slot_of t slot
  unfolding destroy_of on_found
  found_at slot q = ap (on_found t) q

-- ---- a refusal changes nothing

module _ (t : State) where
  -- what is refused leaves the table
  abbrev Kept : Outcome (Unit {0}) → Type 0
  Kept d = (e : DpeErrorCode) → d.answer ≡ Err e → d ≡ refused_of t e

  refusal_kept : (f : DpeErrorCode) → Kept (refused_of t f)
  refusal_kept f e p = ap (refused_of t) (let z : f ≡ e = cc in z)

  doomed_kept : (a : Result ℕ DpeErrorCode) → Kept (on_doomed t a)
  unfolding on_doomed
  doomed_kept (Ok set) e p = absurd (let z : ◌≡◌ {A = ℕ} 0 1 = cc in omega arith)
  doomed_kept (Err f) e p = refusal_kept f e p

  pub slot_kept : (slot : ℕ) → Kept (destroy_slot_of t slot)
  unfolding destroy_slot_of
  slot_kept slot = doomed_kept (doomed_in slot_count (slot_of t.contexts) slot)

  found_kept : (f : Result ℕ DpeErrorCode) → Kept (on_found t f)
  unfolding on_found
  found_kept (Ok slot) = slot_kept slot
  found_kept (Err f) = refusal_kept f

  pub refused : (handle : List ℕ) (l : ℕ) → Kept (destroy_of t handle l)
  unfolding destroy_of
  refused handle l = found_kept (lookup_in slot_count (slot_of t.contexts) handle l)
