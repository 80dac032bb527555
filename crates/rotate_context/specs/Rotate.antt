-- Rotate, over the table t, the handle h, the locality l, the flags and the bytes b of the lent candidates. Where slots are looked through, a
-- table is a function s from a slot to its context, and n is the number of slots. Assumes nothing: these are definitions.
use Rattle.error.specs.declared.DpeErrorCode.{DpeErrorCode}
use Rattle.std.specs.Prelude.{Bool, cond, not, ◌&&◌, ◌||◌, List, ℕ, eqb, Result, Ok, Err}
use Rattle.error.specs.declared.DpeErrorCode.TheVariants.{InvalidCommand, InvalidArgument}
use Rattle.children.specs.Below.{some}
use Rattle.children.specs.Marks.{slot_count, marked}
use Rattle.context.specs.declared.Context.{Context}
use Rattle.table.specs.declared.state.State.{State}
use Rattle.table.specs.declared.state.Outcome.{Outcome}
use Rattle.handle.specs.Handle.{is_default, default_handle}
use Rattle.table.specs.Flags.{rotate_bit, rotate_default_bit}
use Rattle.context.specs.Context.{with_handle, slot_of}
use Rattle.table.specs.State.{with_slot, refused_of, handed_of}
use Rattle.lookup.specs.Lookup.{active_in, lookup_in}
use Rattle.candidates.specs.Candidates.{chosen_in}

-- slot j is an active default of the locality l
abbrev pub default_at : (ℕ → Context) → ℕ → ℕ → Bool
default_at s l j = active_in s l j && is_default (s j).handle

-- slot j is an active non-default of the locality l, and another one than slot i
abbrev pub other_at : (ℕ → Context) → ℕ → ℕ → ℕ → Bool
other_at s l i j = (active_in s l j && not (is_default (s j).handle)) && not (eqb j i)

-- the locality l has an active default (the target i counts) or another active non-default
unfoldable pub occupied : ℕ → (ℕ → Context) → ℕ → ℕ → Bool
occupied n s l i = some (default_at s l) n || some (other_at s l i) n

-- only the handle of slot i changes
abbrev pub rotated_to : State → ℕ → List ℕ → Outcome (List ℕ)
rotated_to t i h = handed_of (with_slot t i (with_handle (slot_of t.contexts i) h)) h

-- to default: InvalidArgument if the locality is occupied, else the new handle is all zero
abbrev pub to_default : State → ℕ → ℕ → Outcome (List ℕ)
to_default t l i = cond (occupied slot_count (slot_of t.contexts) l i) (refused_of t InvalidArgument) (rotated_to t i default_handle)

-- the candidate that was chosen
abbrev pub to_chosen : State → ℕ → Result (List ℕ) DpeErrorCode → Outcome (List ℕ)
to_chosen t i (Ok h) = rotated_to t i h
to_chosen t i (Err e) = refused_of t e

-- not to default: choose a candidate
abbrev pub to_candidate : State → ℕ → List ℕ → Outcome (List ℕ)
to_candidate t i b = to_chosen t i (chosen_in slot_count (slot_of t.contexts) b)

-- by what the lookup answered
abbrev pub rotated_at : State → ℕ → ℕ → List ℕ → Result ℕ DpeErrorCode → Outcome (List ℕ)
rotated_at t l flags b (Ok i) = cond (marked flags rotate_default_bit) (to_default t l i) (to_candidate t i b)
rotated_at t l flags b (Err e) = refused_of t e

-- in order: no support, InvalidCommand; lookup; the new handle
unfoldable pub rotated_of : State → List ℕ → ℕ → ℕ → List ℕ → Outcome (List ℕ)
rotated_of t h l flags b =
    cond (not (marked t.support rotate_bit)) (refused_of t InvalidCommand)
    (rotated_at t l flags b (lookup_in slot_count (slot_of t.contexts) h l))
