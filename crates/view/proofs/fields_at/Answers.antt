-- `view::fields_at` meets its contract. Assumes nothing.
use Rattle.view.proofs.Fields.{fields_are}
use Rattle.view.proofs.fields_at.Goals as goal

pub returns : goal.returns
returns c =
    let a = c.args in
    fields_are a.image.now a.slot c.state_of-state.ensures c.type_of-context_type.ensures c.read_u32-locality.ensures c.read_u64-children.ensures
