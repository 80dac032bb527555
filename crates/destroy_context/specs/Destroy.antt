-- Destroy, over the table. Assumes nothing: these are definitions.
use Rattle.std.specs.Prelude.{Bool, cond, List, ℕ, ltb, Result, Ok, Err}
use Rattle.error.specs.Numbers.{done}
use Rattle.error.specs.declared.DpeErrorCode.{DpeErrorCode}
use Rattle.error.specs.declared.DpeErrorCode.TheVariants.{InternalError}
use Rattle.error.specs.declared.InternalErrorCode.TheVariants.{ContextIndexOob}
use Rattle.children.specs.Marks.{slot_count}
use Rattle.context.specs.declared.Context.{Context}
use Rattle.table.specs.declared.state.State.{State}
use Rattle.context.specs.Context.{slot_of}
use Rattle.clearing.specs.Clearing.{cleared_by}
use Rattle.forest.specs.Destroy.{doomed_word}
use Rattle.lookup.specs.Lookup.{lookup_in}
use Rattle.links.specs.Summary.{live_at, retired_at, parent_at, kids_at}
use Rattle.walks.specs.Walks.{down_from}
use Rattle.walks_run.specs.Run.{run_from}
use Rattle.table.specs.declared.state.Outcome.{Outcome}
use Rattle.table.specs.State.{refused_of}

-- with the run above and the descendants: the slot, its descendants and the run go
unfoldable pub on_down : ℕ → ℕ → Result ℕ DpeErrorCode → Result ℕ DpeErrorCode
on_down slot run (Ok down) = Ok (doomed_word down slot run)
on_down slot run (Err e) = Err e

-- with the run above: then the descendants
unfoldable pub on_run : ℕ → Result ℕ DpeErrorCode → Result ℕ DpeErrorCode → Result ℕ DpeErrorCode
on_run slot down (Ok run) = on_down slot run down
on_run slot down (Err e) = Err e

-- the slots that go with a slot, as the links of all slots say it: the walk up first
unfoldable pub doomed_of : ℕ → (ℕ → Bool) → (ℕ → Bool) → (ℕ → ℕ) → (ℕ → ℕ) → ℕ → Result ℕ DpeErrorCode
doomed_of n live retired parent kids slot =
    cond (ltb slot n) (on_run slot (down_from n live kids slot) (run_from n retired parent kids (parent slot))) (Err (InternalError ContextIndexOob))

abbrev pub doomed_in : ℕ → (ℕ → Context) → ℕ → Result ℕ DpeErrorCode
doomed_in n s slot = doomed_of n (live_at s) (retired_at s) (parent_at s) (kids_at s) slot

-- they are cleared, or the table stays as it was
unfoldable pub on_doomed : State → Result ℕ DpeErrorCode → Outcome (Unit {0})
on_doomed t (Ok set) = record { answer = done; state = cleared_by t set }
on_doomed t (Err e) = refused_of t e

-- destroy of a slot
unfoldable pub destroy_slot_of : State → ℕ → Outcome (Unit {0})
destroy_slot_of t slot = on_doomed t (doomed_in slot_count (slot_of t.contexts) slot)

unfoldable pub on_found : State → Result ℕ DpeErrorCode → Outcome (Unit {0})
on_found t (Ok slot) = destroy_slot_of t slot
on_found t (Err e) = refused_of t e

-- destroy by handle and locality
unfoldable pub destroy_of : State → List ℕ → ℕ → Outcome (Unit {0})
destroy_of t h l = on_found t (lookup_in slot_count (slot_of t.contexts) h l)
