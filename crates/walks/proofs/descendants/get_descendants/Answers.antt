-- `walks::descendants::get_descendants` meets its contract. Assumes nothing.
use mathlib.Core.Path.{◌≡◌, ap, ◌∙◌}
use Prim.Native.Nat.{ℕ, ◌<◌}
use borrow.Author.Tests.{lt-ltb, le-ltb}
use Rattle.error.specs.declared.DpeErrorCode.TheVariants.{InvalidHandle}
use Rattle.children.specs.Marks.{slot_count}
use Rattle.context.specs.declared.Context.{Context}
use Rattle.context.specs.Context.{slot_of}
use Rattle.forest.specs.Walk.{walk_down}
use Rattle.links.specs.Summary.{live_at, kids_at}
use Rattle.forest.specs.Told.{told_of}
use Rattle.walks.specs.Walks.{down_from, descendants_in}
use Rattle.walks.proofs.descendants.get_descendants.Goals as goal

-- of a slot of the table, the descendants are those of the walk
inside : (n : ℕ) (s : ℕ → Context) (slot : ℕ) → slot < n → down_from n (live_at s) (kids_at s) slot ≡ descendants_in n s slot
unfolding descendants_in
inside n s slot h = rw (lt-ltb slot n h)

pub returns-then-slot-ge-MAX_HANDLES : goal.returns-then-slot-ge-MAX_HANDLES
unfolding descendants_in
returns-then-slot-ge-MAX_HANDLES g c = rw (le-ltb _ _ c.if-slot-ge-MAX_HANDLES.true)

pub returns : goal.returns
returns g c =
    let a = c.args in
    let s = slot_of (g.T.Slots.state a.t.now).contexts in
    c.descend.ensures
    ∙ ap (λ (x : ℕ). told_of InvalidHandle (walk_down slot_count (live_at s) (kids_at s) slot_count x a.slot)) c.empty.ensures
    ∙ inside slot_count s a.slot c.if-slot-ge-MAX_HANDLES.false
