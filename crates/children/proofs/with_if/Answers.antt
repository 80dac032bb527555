-- `children::with_if` meets its contract. Assumes nothing.
use mathlib.Core.Path.{◌∙◌}
use Rattle.children.specs.Marks.{with_if}
use Rattle.children.proofs.with_if.Goals as goal

pub returns-then-b : goal.returns-then-b
unfolding with_if
returns-then-b c = c.with.ensures ∙ rw c.if-b.true

pub returns-else-b : goal.returns-else-b
unfolding with_if
returns-else-b c = rw c.if-b.false
