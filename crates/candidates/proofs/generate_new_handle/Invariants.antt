use mathlib.Core.Path.{◌≡◌}
use mathlib.Core.Bool.{false}
use Prim.Native.Nat.{◌*◌, ◌-◌, ◌≤◌}
use lib.ListN.{length}
use Rattle.children.specs.Below.{some, lowest_from, lowest}
use Rattle.children.specs.Marks.{slot_count}
use Rattle.handle.specs.Handle.{handle_size}
use Rattle.context.specs.Context.{slot_of}
use Rattle.candidates.specs.Candidates.{attempts, has_handle, usable_at}
use Rattle.candidates.proofs.generate_new_handle.Given as goal

abbrev pub invariant-loop-i : goal.invariant-loop-i
invariant-loop-i g l = (l.i ≤ slot_count) × (l.k ≡ l.initial.k) × (some (has_handle (slot_of (g.T.Slots.state l.t).contexts) l.h) l.i ≡ false)

abbrev pub invariant-candidates : goal.invariant-candidates
invariant-candidates g l =
    (l.k ≤ attempts)
    × (l.k * handle_size ≤ length l.candidates)
    × (lowest_from (usable_at slot_count (slot_of (g.T.Slots.state l.t).contexts) l.candidates) (attempts - l.k) l.k ≡ lowest (usable_at slot_count (slot_of (g.T.Slots.state l.t).contexts) l.candidates) attempts)

abbrev pub decreases-candidates : goal.decreases-candidates
decreases-candidates g l = attempts - l.k
