use mathlib.Core.Path.{◌≡◌}
use Prim.Native.Nat.{◌≤◌}
use lib.ListN.{length, take}
use Rattle.children.specs.Below.{list_of}
use Rattle.children.specs.Marks.{slot_count}
use Rattle.context.specs.Context.{slot_of}
use Rattle.links.specs.Summary.{live_at, retired_at, simulation_at, parent_at, kids_at, marks_of}
use Rattle.links.proofs.links_of.Given as goal

abbrev pub invariant-loop-i : goal.invariant-loop-i
invariant-loop-i g l =
    (l.i ≤ slot_count) × (length l.children ≡ slot_count) × (length l.parents ≡ slot_count)
    × (take l.i l.children ≡ list_of (kids_at (slot_of (g.T.Slots.state l.t).contexts)) l.i)
    × (take l.i l.parents ≡ list_of (parent_at (slot_of (g.T.Slots.state l.t).contexts)) l.i)
    × (l.live ≡ marks_of (live_at (slot_of (g.T.Slots.state l.t).contexts)) l.i)
    × (l.retired ≡ marks_of (retired_at (slot_of (g.T.Slots.state l.t).contexts)) l.i)
    × (l.simulations ≡ marks_of (simulation_at (slot_of (g.T.Slots.state l.t).contexts)) l.i)
