use Prim.Native.Nat.{◌+◌, ◌*◌, ◌≤◌}
use mathlib.Core.Path.{◌≡◌}
use lib.ListN.{length}
use Rattle.children.specs.Marks.{slot_count}
use Rattle.context.specs.Context.{slot_of}
use Rattle.image.specs.State.{decode_state}
use Rattle.text_row.specs.Row.{PutAt, row_most}
use Rattle.text.specs.Text.{rows_to}
use Rattle.text.proofs.put_rows.Given as goal

abbrev pub invariant-loop-i : goal.invariant-loop-i
invariant-loop-i l =
    (l.i ≤ slot_count) × (length l.out ≡ length l.initial.out) × PutAt l.at (rows_to (slot_of (decode_state l.image).contexts) l.i) l.initial.out l.out l.end × (l.end ≤ l.at + row_most * l.i)
