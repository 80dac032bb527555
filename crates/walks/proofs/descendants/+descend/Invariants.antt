use mathlib.Core.Path.{◌≡◌}
use Prim.Native.Nat.{◌<◌, ◌≤◌, ◌-◌}
use Rattle.children.specs.Marks.{slot_count}
use Rattle.forest.specs.Walk.{ok, both, walk_down}
use Rattle.context.specs.Context.{slot_of}
use Rattle.links.specs.Summary.{live_at, kids_at}
use Rattle.walks.proofs.Down.{child}
use Rattle.walks.proofs.Rest.{Turn}
use Rattle.walks.proofs.descendants.+descend.Given as goal

abbrev pub decreases-descend : goal.decreases-descend
decreases-descend g l = l.depth

-- the marks found, with the rest of the children from k on, are the whole walk's answer
abbrev pub invariant-loop-after : goal.invariant-loop-after
invariant-loop-after g l =
    let s = slot_of (g.T.Slots.state l.t).contexts in
    Turn (child slot_count (live_at s) (kids_at s) l.left l.down) l.kids slot_count l.k l.found (walk_down slot_count (live_at s) (kids_at s) l.depth l.path l.slot)

abbrev pub decreases-loop-after : goal.decreases-loop-after
decreases-loop-after g l = slot_count - l.k

-- the marks found, with the walk from the slot that has taken the first one's place, are the whole walk's answer
abbrev pub invariant-loop-left : goal.invariant-loop-left
invariant-loop-left g l =
    let s = slot_of (g.T.Slots.state l.t).contexts in
    (l.left ≤ l.depth) × (l.at < slot_count)
    × (both (ok l.found) (walk_down slot_count (live_at s) (kids_at s) l.left l.down l.at) ≡ walk_down slot_count (live_at s) (kids_at s) l.depth l.path l.slot)

abbrev pub decreases-loop-left : goal.decreases-loop-left
decreases-loop-left g l = l.left
