use mathlib.Core.Path.{◌≡◌}
use Prim.Native.Nat.{ℕ, ◌≤◌, ◌-◌}
use Rattle.children.specs.Marks.{slot_count}
use Rattle.context.specs.declared.Context.{Context}
use Rattle.context.specs.Context.{slot_of}
use Rattle.forest.specs.Walk.{Answer}
use Rattle.forest.specs.Run.{single_in, climb}
use Rattle.links.specs.Summary.{retired_at, parent_at, kids_at}
use Rattle.walks_run.proofs.run_above.Given as goal

-- the climb over the slots of a table
abbrev pub climb_in : (ℕ → Context) → ℕ → ℕ → ℕ → Answer
climb_in s = climb slot_count (single_in slot_count (retired_at s) (kids_at s)) (parent_at s)

abbrev pub invariant-loop-d : goal.invariant-loop-d
invariant-loop-d g l =
    let s = slot_of (g.T.Slots.state l.t).contexts in
    (l.d ≤ slot_count) × (climb_in s slot_count 0 l.start ≡ climb_in s (slot_count - l.d) l.taken l.p)
