-- `text_row::put_verdict` meets its contract. Assumes nothing.
use native.Mathlib.Omega.{arith}
use Prim.Native.Nat.{◌≤◌}
use Rattle.text_row.specs.Row.{verdict_most}
use Rattle.text_row.proofs.Row.{verdict-put}
use Rattle.text_row.proofs.put_verdict.Goals as goal

pub returns : goal.returns
returns c =
    let m : c.put_number.result ≤ verdict_most = omega (arith, c.put_number-a.ensures.upper_bound, c.put_number.ensures.upper_bound) in
    record {
      put_at = verdict-put c.args.outer c.args.inner (omega (arith, c.requires)) c.write_run.ensures c.put_number-a.ensures.put_at c.put_number.ensures.put_at;
      upper_bound = m;
    }
