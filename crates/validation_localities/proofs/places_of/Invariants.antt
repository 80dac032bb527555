use mathlib.Core.Path.{◌≡◌}
use Prim.Native.Nat.{◌≤◌}
use lib.ListN.{length, take}
use Rattle.children.specs.Below.{list_of}
use Rattle.children.specs.Marks.{slot_count}
use Rattle.context.specs.Context.{slot_of}
use Rattle.links.specs.Summary.{marks_of}
use Rattle.verdict.specs.Tests.{locality_at, default_at, other_at}
use Rattle.validation_localities.proofs.places_of.Given as goal

abbrev pub invariant-loop-i : goal.invariant-loop-i
invariant-loop-i g l =
    (l.i ≤ slot_count) × (length l.localities ≡ slot_count) × (take l.i l.localities ≡ list_of (locality_at (slot_of (g.T.Slots.state l.t).contexts)) l.i)
    × (l.defaults ≡ marks_of (default_at (slot_of (g.T.Slots.state l.t).contexts)) l.i) × (l.others ≡ marks_of (other_at (slot_of (g.T.Slots.state l.t).contexts)) l.i)
