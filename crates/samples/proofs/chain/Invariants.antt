use Prim.Native.Nat.{◌≤◌}
use Rattle.children.specs.Marks.{slot_count}
use Rattle.samples.proofs.chain.Given as goal

abbrev pub invariant-loop-i : goal.invariant-loop-i
invariant-loop-i l = l.i ≤ slot_count
