use Prim.Native.Nat.{◌≤◌}
use mathlib.Core.Path.{◌≡◌}
use Rattle.error.specs.Numbers.{done}
use Rattle.children.specs.Marks.{slot_count}
use Rattle.image.specs.State.{slots_answer}
use Rattle.image.proofs.state.first_refusal.Given as goal

abbrev pub invariant-loop-slot : goal.invariant-loop-slot
invariant-loop-slot l = (l.slot ≤ slot_count) × (slots_answer l.slot l.image ≡ done)
