use mathlib.Core.Path.{◌≡◌}
use Prim.Native.Nat.{◌≤◌, ◌-◌}
use Rattle.children.specs.Below.{lowest_from, lowest}
use Rattle.children.specs.Marks.{slot_count}
use Rattle.context.specs.Context.{slot_of}
use Rattle.table.specs.State.{idle_at}
use Rattle.lookup.proofs.find.get_next_inactive_context_pos.Given as goal

abbrev pub invariant-loop-i : goal.invariant-loop-i
invariant-loop-i g l = (l.i ≤ slot_count) × (lowest_from (idle_at (slot_of (g.T.Slots.state l.t).contexts)) (slot_count - l.i) l.i ≡ lowest (idle_at (slot_of (g.T.Slots.state l.t).contexts)) slot_count)
