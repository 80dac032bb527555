-- `image_table::read_whole` meets its contract. Assumes nothing.
use Rattle.image.proofs.Reading.{state_made}
use Rattle.image_table.proofs.read_whole.Goals as goal

pub returns : goal.returns
returns c =
    state_made c.args.image.now c.read_u32-marker.ensures c.read_u32-version.ensures c.read_contexts-contexts.ensures
    c.read_u32-support.ensures c.read_u16-flags.ensures
