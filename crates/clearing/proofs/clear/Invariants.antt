use mathlib.Core.Path.{◌≡◌}
use Prim.Native.Nat.{◌≤◌}
use Rattle.children.specs.Marks.{slot_count}
use Rattle.table.specs.State.{with_contexts}
use Rattle.clearing.specs.Clearing.{cleared_slot}
use Rattle.clearing.proofs.Clearing.{mix}
use Rattle.clearing.proofs.clear.Given as goal

abbrev pub invariant-loop-i : goal.invariant-loop-i
invariant-loop-i g l =
    let s = g.T.SlotsMut in
    (l.i ≤ slot_count) × s.Reads l.t × (g.T.Slots.state l.t ≡ with_contexts (g.T.Slots.state l.initial.t) (mix (cleared_slot l.set) l.i (g.T.Slots.state l.initial.t).contexts))
