-- `text::put_rows` meets its contract. Assumes nothing.
use native.Mathlib.Omega.{arith}
use mathlib.Core.Path.{refl, ◌∙◌}
use Rattle.context.specs.Context.{slot_of}
use Rattle.image.specs.State.{decode_state}
use Rattle.view.proofs.Fields.{state_fields}
use Rattle.text_row.proofs.Row.{put-more}
use Rattle.text.proofs.Text.{rows_none, rows_more, put_none}
use Rattle.text.proofs.put_rows.Goals as goal

pub loop-i-init : goal.loop-i-init
loop-i-init c =
    let a = c.args in
    (omega arith, refl, rw (rows_none (slot_of (decode_state a.image.now).contexts)) at (put_none a.at a.out.now), omega arith)

pub loop-i-preserved : goal.loop-i-preserved
loop-i-preserved c =
    let l = c.loop-i in
    let a = c.args in
    let f = c.slot_fields-f.ensures ∙ state_fields a.image.now l.i (omega arith) in
    let w = put-more l.invariant.2 (rw f at c.put_line-end.ensures.put_at) (omega (arith, c.put_line-end.ensures.upper_bound, l.invariant.3)) in
    (omega arith, c.put_line-end.auto.out ∙ l.invariant.1, rw (rows_more (slot_of (decode_state a.image.now).contexts) l.i) at w, omega (arith, c.put_line-end.ensures.upper_bound, l.invariant.3))
