use mathlib.Core.Path.{◌≡◌}
use mathlib.Core.Bool.{false}
use Prim.Native.Nat.{◌≤◌}
use Rattle.children.specs.Marks.{slot_count}
use Rattle.context.specs.Context.{slot_of}
use Rattle.rotate_context.specs.Rotate.{occupied}
use Rattle.rotate_context.proofs.is_occupied.Given as goal

abbrev pub invariant-loop-j : goal.invariant-loop-j
invariant-loop-j g l = (l.j ≤ slot_count) × (occupied l.j (slot_of (g.T.Slots.state l.t).contexts) l.locality l.target_idx ≡ false)
