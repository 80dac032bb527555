-- `candidates::generate_new_handle` meets its contract. Assumes nothing.
use mathlib.Core.Path.{◌≡◌}
use native.Mathlib.Omega.{arith}
use Rattle.children.specs.Marks.{slot_count}
use Rattle.children.proofs.Below.{some_of}
use Rattle.context.specs.Context.{slot_of}
use Rattle.candidates.specs.Candidates.{has_handle}
use Rattle.candidates.proofs.Candidates.{unusable_held, usable_free, turn_on, turn_taken, turn_end}
use Rattle.candidates.proofs.generate_new_handle.Goals as goal

pub candidates-preserved : goal.candidates-preserved
candidates-preserved g c =
    let h = c.candidate_at-h in
    let a = c.args in
    let s = slot_of (g.T.Slots.state a.t.now).contexts in
    let u = unusable_held slot_count s h.result (some_of (has_handle s h.result) slot_count c.loop-i.i (omega arith) (rw c.has_handle.ensures at c.if-has_handle.true)) in
    rw c.loop-i.invariant.1
    (omega arith, omega arith, turn_on slot_count s a.candidates.now c.candidates.k c.candidates.invariant.2 (omega arith) (rw h.ensures at u))

pub returns-in-candidates : goal.returns-in-candidates
returns-in-candidates g c =
    let h = c.candidate_at-h in
    let a = c.args in
    let s = slot_of (g.T.Slots.state a.t.now).contexts in
    let i : c.loop-i.i ≡ slot_count = omega arith in
    let u = usable_free slot_count s h.result (rw c.is_default.ensures at c.if-is_default.false) (rw i at c.loop-i.invariant.2) in
    rw h.ensures (turn_taken slot_count s a.candidates.now c.candidates.k c.candidates.invariant.2 (omega arith) (omega arith) (rw h.ensures at u))

pub returns : goal.returns
returns g c =
    let a = c.args in
    turn_end slot_count (slot_of (g.T.Slots.state a.t.now).contexts) a.candidates.now c.candidates.k c.candidates.invariant.2 (omega arith) (omega arith)
