-- `lookup::get_active_context_pos` meets its contract. Assumes nothing.
use native.Mathlib.Omega.{arith}
use Rattle.children.specs.Marks.{slot_count}
use Rattle.children.proofs.Cases.{and_both}
use Rattle.context.specs.Context.{slot_of}
use Rattle.lookup.proofs.Lookup.{turn_found, turn-end_other, turn-end_nowhere}
use Rattle.lookup.proofs.get_active_context_pos.Goals as goal

pub returns-then-equals : goal.returns-then-equals
returns-then-equals g c =
    let a = c.args in
    let s = slot_of (g.T.Slots.state a.t.now).contexts in
    let x = rw c.active_at.ensures at c.if-active_at.true in
    let y = rw c.handle_at.ensures at (rw c.equals.ensures at c.if-equals.true) in
    turn_found slot_count s a.handle a.locality c.loop-i.i c.loop-i.invariant.1 (omega arith) (and_both x y)

pub returns-then-seen_locality : goal.returns-then-seen_locality
returns-then-seen_locality g c =
    let a = c.args in
    turn-end_other slot_count (slot_of (g.T.Slots.state a.t.now).contexts) a.handle a.locality c.loop-i.i c.loop-i.invariant.1 (omega arith) (rw c.loop-i.invariant.2 at c.if-seen_locality.true)

pub returns : goal.returns
returns g c =
    let a = c.args in
    turn-end_nowhere slot_count (slot_of (g.T.Slots.state a.t.now).contexts) a.handle a.locality c.loop-i.i c.loop-i.invariant.1 (omega arith) (rw c.loop-i.invariant.2 at c.if-seen_locality.false)
