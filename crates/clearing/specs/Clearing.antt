-- A table with the slots of a set cleared. Assumes nothing: these are definitions.
use Rattle.std.specs.Prelude.{cond, ℕ}
use Rattle.children.specs.Below.{list_of}
use Rattle.children.specs.Marks.{slot_count, marked, without}
use Rattle.context.specs.declared.Context.{Context}
use Rattle.context.specs.Context.{destroyed, with_children, slot_of}
use Rattle.table.specs.declared.state.State.{State}
use Rattle.table.specs.State.{with_contexts}

-- the context c of slot i: cleared where the set has the slot, and else without the marks of the set, all 64 of them
unfoldable pub cleared_slot : ℕ → ℕ → Context → Context
cleared_slot set i c = cond (marked set i) (destroyed c) (with_children c (without c.children set))

-- every slot so
unfoldable pub cleared_by : State → ℕ → State
cleared_by t set = with_contexts t (list_of (λ i. cleared_slot set i (slot_of t.contexts i)) slot_count)
