-- `children::add_child` meets its contract. Assumes nothing.
use Rattle.std.specs.Prelude.{Ok}
use mathlib.Core.Path.{ap}
use borrow.Author.Tests.{lt-ltb, le-ltb}
use Rattle.children.specs.Marks.{add_child_of}
use Rattle.children.proofs.add_child.Goals as goal

pub returns-then-k-ge-MAX_HANDLES : goal.returns-then-k-ge-MAX_HANDLES
unfolding add_child_of
returns-then-k-ge-MAX_HANDLES c = rw (le-ltb _ _ c.if-k-ge-MAX_HANDLES.true)

pub returns : goal.returns
unfolding add_child_of
returns c = rw (lt-ltb _ _ c.if-k-ge-MAX_HANDLES.false) (ap Ok c.with.ensures)
