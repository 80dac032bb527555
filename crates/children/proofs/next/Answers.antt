-- `children::next` meets its contract. Assumes nothing.
use Rattle.std.specs.Prelude.{Some}
use mathlib.Core.Path.{ap}
use Prim.Native.Nat.{◌-◌, ◌<◌, ◌≤◌}
use native.Mathlib.Omega.{arith}
use borrow.Author.Tests.{lt-ltb, le-ltb}
use Rattle.children.specs.Marks.{slot_count, mark_count, marked, next_below, next_of}
use Rattle.children.proofs.Below.{low_end}
use Rattle.children.proofs.Marks.{next_in, next_out}
use Rattle.children.proofs.next.Goals as goal

pub returns-then-k-ge-MAX_HANDLES : goal.returns-then-k-ge-MAX_HANDLES
unfolding next_of
returns-then-k-ge-MAX_HANDLES c =
    let a = c.args in
    let q = low_end (marked a.m) slot_count a.k c.if-k-ge-MAX_HANDLES.true in
    let h : slot_count ≤ next_below slot_count a.m a.k = omega arith in
    rw (le-ltb _ _ h)

pub returns-then-r-lt-MAX_HANDLES : goal.returns-then-r-lt-MAX_HANDLES
unfolding next_of
returns-then-r-lt-MAX_HANDLES c =
    let a = c.args in
    let z = c.zeros.ensures.0 in
    let q = next_in (slot_count - a.k) mark_count a.m a.k (omega arith) (omega arith) in
    let h : next_below slot_count a.m a.k < slot_count = omega arith in
    rw (lt-ltb _ _ h) (ap Some (omega arith))

pub returns-else-r-lt-MAX_HANDLES : goal.returns-else-r-lt-MAX_HANDLES
unfolding next_of
returns-else-r-lt-MAX_HANDLES c =
    let a = c.args in
    let z = c.zeros.ensures.0 in
    let q = next_out (slot_count - a.k) mark_count a.m a.k (omega arith) (omega arith) in
    let h : slot_count ≤ next_below slot_count a.m a.k = omega arith in
    rw (le-ltb _ _ h)
