-- `image_table::write_state` meets its contract. Assumes nothing.
use native.Mathlib.Omega.{arith}
use mathlib.Core.Path.{◌≡◌, ◌∙◌}
use lib.ListN.{length}
use Rattle.image.specs.State.{state_size}
use Rattle.image.proofs.Owned.{owned_fits}
use Rattle.image.proofs.Writing.{state-put, write_short, write_whole}
use Rattle.image_table.proofs.write_state.Goals as goal

pub returns-then-out-ne-SIZE : goal.returns-then-out-ne-SIZE
returns-then-out-ne-SIZE c = let w = write_short c.args.state c.args.out.now (λ e. omega arith) in record { value = w.0; out_after = w.1 }

pub returns : goal.returns
returns c =
    let n : length c.args.out.now ≡ state_size = omega arith in
    let w = write_whole c.args.state c.args.out.now n in
    record {
      value = w.0;
      out_after =
          state-put c.args.state c.args.out.now (owned_fits c.args.state _ c.well_formed.0) n (omega arith) c.write_u32.ensures c.write_u32-2.ensures
          c.write_contexts.ensures c.write_u32-3.ensures c.write_u16.ensures
          ∙ w.1;
    }
