use Rattle.std.specs.Prelude.{Ok}
use mathlib.Core.Path.{◌≡◌}
use Prim.Native.Nat.{◌≤◌}
use Rattle.children.specs.Below.{count}
use Rattle.children.specs.Marks.{slot_count, marked}
use Rattle.links.specs.Summary.{number_in}
use Rattle.verdict.specs.Tests.{first_below, within}
use Rattle.validation_localities.proofs.Counts.{tests_at}
use Rattle.validation_localities.proofs.locality_test.Given as goal

abbrev pub invariant-loop-k : goal.invariant-loop-k
invariant-loop-k l =
    (l.k ≤ slot_count) × (l.d ≡ count (within (number_in l.p.localities) (marked l.p.defaults) l.l) l.k)
    × (l.o ≡ count (within (number_in l.p.localities) (marked l.p.others) l.l) l.k) × (first_below (tests_at l.p l.l) l.k ≡ Ok tt)
