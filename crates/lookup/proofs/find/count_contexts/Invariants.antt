use mathlib.Core.Path.{◌≡◌}
use Prim.Native.Nat.{◌≤◌}
use Rattle.children.specs.Below.{count}
use Rattle.children.specs.Marks.{slot_count}
use Rattle.context.specs.Context.{slot_of}
use Rattle.table.specs.State.{is_in_state}
use Rattle.lookup.proofs.find.count_contexts.Given as goal

abbrev pub invariant-loop-i : goal.invariant-loop-i
invariant-loop-i g l = (l.i ≤ slot_count) × (l.found ≡ count (is_in_state (slot_of (g.T.Slots.state l.t).contexts) l.state) l.i)
