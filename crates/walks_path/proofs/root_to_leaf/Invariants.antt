use mathlib.Core.Path.{◌≡◌}
use Prim.Native.Nat.{ℕ, ◌≤◌, ◌-◌}
use Rattle.children.specs.Below.{list_of}
use Rattle.children.specs.Marks.{slot_count}
use Rattle.context.specs.Context.{slot_of}
use Rattle.links.specs.Summary.{live_at, parent_at, steps_up}
use Rattle.walks_path.specs.Path.{length_from}
use Rattle.walks_path.proofs.Steps.{met}
use Rattle.walks_path.proofs.root_to_leaf.Given as goal

abbrev pub invariant-loop-j : goal.invariant-loop-j
invariant-loop-j g l =
    let s = slot_of (g.T.Slots.state l.t).contexts in
    (l.j ≤ slot_count)
    × (length_from slot_count (live_at s) (parent_at s) (slot_count - l.j) l.j l.x ≡ length_from slot_count (live_at s) (parent_at s) slot_count 0 l.slot)
    × (l.x ≡ steps_up (parent_at s) l.j l.slot)
    × (l.slots ≡ list_of (met (λ (i : ℕ). steps_up (parent_at s) i l.slot) l.j) slot_count)
