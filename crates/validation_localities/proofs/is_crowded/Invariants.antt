use mathlib.Core.Bool.{false}
use mathlib.Core.Path.{◌≡◌}
use Prim.Native.Nat.{◌≤◌}
use Rattle.children.specs.Below.{some}
use Rattle.children.specs.Marks.{slot_count, marked}
use Rattle.links.specs.Summary.{number_in}
use Rattle.validation_localities.specs.Summary.{crowded_in}
use Rattle.validation_localities.proofs.is_crowded.Given as goal

abbrev pub invariant-loop-i : goal.invariant-loop-i
invariant-loop-i l =
    (l.i ≤ slot_count) × (some (crowded_in slot_count (number_in l.p.localities) (marked l.p.defaults) (marked l.p.others)) l.i ≡ false)
