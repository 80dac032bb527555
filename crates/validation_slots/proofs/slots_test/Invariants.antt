use Rattle.std.specs.Prelude.{Ok}
use mathlib.Core.Path.{◌≡◌}
use Prim.Native.Nat.{◌≤◌}
use Rattle.children.specs.Marks.{slot_count}
use Rattle.context.specs.Context.{slot_of}
use Rattle.verdict.specs.Tests.{header_of, first_below}
use Rattle.validation_slots.specs.Summary.{slot_in}
use Rattle.validation_slots.proofs.slots_test.Given as goal

abbrev pub invariant-loop-i : goal.invariant-loop-i
invariant-loop-i g v =
    (v.i ≤ slot_count) × (first_below (slot_in (header_of (g.T.Slots.state v.t)) (slot_of (g.T.Slots.state v.t).contexts) v.l.children v.l.parents v.l.live) v.i ≡ Ok tt)
