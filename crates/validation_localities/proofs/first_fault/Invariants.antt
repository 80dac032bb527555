use Rattle.std.specs.Prelude.{Ok}
use mathlib.Core.Path.{◌≡◌}
use Prim.Native.Nat.{ℕ, ◌≤◌}
use Rattle.children.specs.Marks.{slot_count, marked}
use Rattle.links.specs.Summary.{number_in}
use Rattle.verdict.specs.Tests.{first_below, within, locality_of}
use Rattle.validation_localities.proofs.first_fault.Given as goal

abbrev pub invariant-loop-j : goal.invariant-loop-j
invariant-loop-j l =
    (l.j ≤ slot_count)
    × (first_below (λ (i : ℕ). locality_of slot_count (within (number_in l.p.localities) (marked l.p.defaults) (number_in l.p.localities i)) (within (number_in l.p.localities) (marked l.p.others) (number_in l.p.localities i))) l.j ≡ Ok tt)
