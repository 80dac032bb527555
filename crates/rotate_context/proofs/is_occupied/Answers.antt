-- `rotate_context::is_occupied` meets its contract. Assumes nothing.
use mathlib.Core.Path.{sym, ◌∙◌}
use native.Mathlib.Omega.{arith}
use Rattle.children.specs.Marks.{slot_count}
use Rattle.context.specs.Context.{slot_of}
use Rattle.rotate_context.proofs.Rotate.{occupied-here}
use Rattle.rotate_context.proofs.is_occupied.Goals as goal

pub returns-then-occupies : goal.returns-then-occupies
returns-then-occupies g c =
    let a = c.args in
    sym (occupied-here (slot_of (g.T.Slots.state a.t.now).contexts) a.locality a.target_idx slot_count c.loop-j.j (omega arith) (sym c.occupies.ensures ∙ c.if-occupies.true))
