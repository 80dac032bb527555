use mathlib.Core.Bool.{◌&&◌}
use mathlib.Core.Path.{◌≡◌}
use lib.ListN.{length}
use Rattle.handle.specs.Handle.{same_bytes}
use Rattle.handle.proofs.equals.Given as goal

-- what is left of both decides the rest
abbrev pub invariant-loop-x : goal.invariant-loop-x
invariant-loop-x l =
    let a = l.x-iterator.a.rest.now in
    let b = l.x-iterator.b.rest.now in
    (length a ≡ length b) × (same_bytes l.fn.a l.fn.b ≡ (l.same && same_bytes a b))
