-- The fields of a slot that a view answers. Assumes nothing: these are definitions.
use Rattle.context.specs.declared.Context.{Context}
use Rattle.view.specs.declared.SlotFields.{SlotFields}

-- the fields of a context that a listing shows
abbrev pub fields_of : Context → SlotFields
fields_of c = record {
  state = c.state;
  context_type = c.context_type;
  locality = c.locality;
  parent_idx = c.parent_idx;
  children = c.children;
}
