-- `text_row::put_number` meets its contract. Assumes nothing.
use native.Mathlib.Omega.{arith}
use lib.ListN.{take}
use Rattle.text_row.proofs.Decimal.{decimal-put}
use Rattle.text_row.proofs.Row.{number_put}
use Rattle.text_row.proofs.put_number.Goals as goal

pub write_run-requires : goal.write_run-requires
write_run-requires c =
    let a = c.args in
    let q = decimal-put a.n c.decimal-k.result c.decimal-k.new.out (omega arith) (c.decimal-k.ensures.in_bounds, (c.decimal-k.ensures.len, c.decimal-k.ensures.digits)) in
    omega (arith, q.1, c.decimal-k.ensures.in_bounds.1)

pub bounds-out-e : goal.bounds-out-e
bounds-out-e c =
    let a = c.args in
    let q = decimal-put a.n c.decimal-k.result c.decimal-k.new.out (omega arith) (c.decimal-k.ensures.in_bounds, (c.decimal-k.ensures.len, c.decimal-k.ensures.digits)) in
    omega (arith, q.1)

pub returns : goal.returns
returns c =
    let a = c.args in
    let q = decimal-put a.n c.decimal-k.result c.decimal-k.new.out (omega arith) (c.decimal-k.ensures.in_bounds, (c.decimal-k.ensures.len, c.decimal-k.ensures.digits)) in
    record {
      put_at = number_put a.at a.n a.mark c.decimal-k.result a.out.now _ (take c.decimal-k.result c.decimal-k.new.out) c.requires q.1 q.0
          c.decimal-k.ensures.in_bounds.1 c.write_run.ensures;
      upper_bound = omega (arith, q.1);
    }
