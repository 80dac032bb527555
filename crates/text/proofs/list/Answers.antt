-- `text::list` meets its contract. Assumes nothing.
use mathlib.Core.Path.{sym, ◌∙◌}
use native.Mathlib.Omega.{arith}
use Rattle.text_row.proofs.Row.{put-more}
use Rattle.text.proofs.Text.{put_whole, listing_refused, listing_yes, yes-size}
use Rattle.text.proofs.list.Goals as goal

pub put_rows-requires : goal.put_rows-requires
put_rows-requires c =
    let p = c.put_verdict-a.ensures in
    (yes-size _ (sym c.validate_image.ensures ∙ c.in-Ok.is), omega (arith, p.upper_bound))

pub returns-in-Ok : goal.returns-in-Ok
returns-in-Ok c =
    let p = c.put_verdict-a.ensures in
    let r = c.put_rows.ensures in
    let e = listing_yes c.args.image.now (sym c.validate_image.ensures ∙ c.in-Ok.is) in
    let w = put_whole (rw e at (put-more p.put_at r.put_at (omega (arith, p.upper_bound, r.upper_bound)))) (omega (arith, p.upper_bound, r.upper_bound)) in
    record { value = w.0; out_after = w.1.0; prefix_len = w.1.1 }

pub returns-in-Err : goal.returns-in-Err
returns-in-Err c =
    let p = c.put_verdict.ensures in
    let q = sym c.validate_image.ensures ∙ c.in-Err.is in
    let e = listing_refused c.args.image.now _ q c.outer.ensures c.inner.ensures in
    let w = put_whole (rw e at p.put_at) (omega (arith, p.upper_bound)) in
    record { value = w.0; out_after = w.1.0; prefix_len = w.1.1 }
