-- `text::put_line` meets its contract. Assumes nothing.
use native.Mathlib.Omega.{arith}
use mathlib.Core.Path.{sym, ◌∙◌}
use Rattle.text.proofs.Text.{put_none, line_none, line_row}
use Rattle.text.proofs.put_line.Goals as goal

pub returns-then-is_inactive : goal.returns-then-is_inactive
returns-then-is_inactive c =
    let e = line_none c.args.slot c.args.f (sym c.is_inactive.ensures ∙ c.if-is_inactive.true) in
    record {
      put_at = rw e at (put_none c.args.at c.args.out.now);
      upper_bound = omega arith;
    }

pub returns : goal.returns
returns c =
    let e = line_row c.args.slot c.args.f (sym c.is_inactive.ensures ∙ c.if-is_inactive.false) in
    record {
      put_at = rw e at c.put_row.ensures.put_at;
      upper_bound = c.put_row.ensures.upper_bound;
    }
