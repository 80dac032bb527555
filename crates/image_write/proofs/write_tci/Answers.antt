-- `image_write::write_tci` meets its contract. Assumes nothing.
use Rattle.image_context.proofs.Owned.{tci_fits}
use Rattle.image_write.proofs.Writing.{tci-put}
use Rattle.image_write.proofs.write_tci.Goals as goal

pub returns : goal.returns
returns c =
    tci-put c.args.t c.args.out.now (tci_fits c.args.t _ c.well_formed.1.0) c.requires c.write_u32.ensures
    c.write_run.ensures c.write_run-2.ensures
    c.write_u32-2.ensures c.write_u32-3.ensures
