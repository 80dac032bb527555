-- `image_write::write_context` meets its contract. Assumes nothing.
use Rattle.image_context.proofs.Owned.{context_fits}
use Rattle.image_write.proofs.Writing.{context-put}
use Rattle.image_write.proofs.write_context.Goals as goal

pub returns : goal.returns
returns c =
    context-put c.args.c c.args.out.now (context_fits _ _ c.well_formed.1.0) c.requires c.write_run.ensures
    c.write_tci.ensures c.write_u64.ensures
    c.write_u32.ensures c.write_last.ensures
