use mathlib.Core.Path.{◌≡◌}
use Prim.Native.Nat.{◌≤◌}
use Rattle.children.specs.Below.{some}
use Rattle.children.specs.Marks.{slot_count, marked}
use Rattle.links.specs.Summary.{number_in}
use Rattle.validation_localities.specs.Summary.{beside_in}
use Rattle.validation_localities.proofs.shares.Given as goal

abbrev pub invariant-loop-k : goal.invariant-loop-k
invariant-loop-k l =
    (l.k ≤ slot_count) × (l.found ≡ some (beside_in (number_in l.p.localities) (marked l.p.defaults) (marked l.p.others) l.i) l.k)
