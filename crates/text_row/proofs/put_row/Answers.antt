-- `text_row::put_row` meets its contract. Assumes nothing.
use native.Mathlib.Omega.{arith}
use Prim.Native.Nat.{◌+◌, ◌≤◌}
use Rattle.children.specs.Marks.{slot_count, marked}
use Rattle.children.proofs.Below.{count-le}
use Rattle.text_row.specs.Row.{row_most}
use Rattle.text_row.proofs.Row.{row_put}
use Rattle.text_row.proofs.put_row.Goals as goal

pub overflow_cast-count : goal.overflow_cast-count
overflow_cast-count c =
    omega (arith, c.count.ensures, count-le (marked c.args.f.children) slot_count)

pub returns : goal.returns
returns c =
    let m : c.put_number.result ≤ c.args.at + row_most = omega (
      arith,
      c.put_number-a.ensures.upper_bound,
      c.put_number-b.ensures.upper_bound,
      c.put_number-c.ensures.upper_bound,
      c.put_number-d.ensures.upper_bound,
      c.put_number-e.ensures.upper_bound,
      c.put_number.ensures.upper_bound,
    ) in
    record {
      put_at = row_put c.args.slot c.args.f (omega (arith, c.requires.0)) c.put_number-a.ensures.put_at (rw c.state_byte.ensures at c.put_number-b.ensures.put_at)
          (rw c.type_byte.ensures at c.put_number-c.ensures.put_at) c.put_number-d.ensures.put_at c.put_number-e.ensures.put_at
          (rw c.count.ensures at c.put_number.ensures.put_at);
      upper_bound = m;
    }
