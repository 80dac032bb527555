use mathlib.Core.Path.{◌≡◌}
use Prim.Native.Nat.{◌≤◌, ◌-◌}
use Rattle.children.specs.Below.{some, lowest_from, lowest}
use Rattle.children.specs.Marks.{slot_count}
use Rattle.context.specs.Context.{slot_of}
use Rattle.lookup.specs.Lookup.{active_in, is_target}
use Rattle.lookup.proofs.get_active_context_pos.Given as goal

abbrev pub invariant-loop-i : goal.invariant-loop-i
invariant-loop-i g l =
    (l.i ≤ slot_count)
    × (lowest_from (is_target (slot_of (g.T.Slots.state l.t).contexts) l.handle l.locality) (slot_count - l.i) l.i ≡ lowest (is_target (slot_of (g.T.Slots.state l.t).contexts) l.handle l.locality) slot_count)
    × (l.seen_locality ≡ some (active_in (slot_of (g.T.Slots.state l.t).contexts) l.locality) l.i)
