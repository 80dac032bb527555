-- One context: a new one, an active one, a cleared one, and tests on it. Assumes nothing: these are definitions.
use Rattle.error.specs.declared.DpeErrorCode.{DpeErrorCode}
use Rattle.std.specs.Prelude.{Bool, true, false, cond, not, List, [], ℕ, ltb, replicate, get_or, Result, Err}
use Rattle.error.specs.declared.DpeErrorCode.TheVariants.{InternalError}
use Rattle.error.specs.declared.InternalErrorCode.TheVariants.{ChildIndexOob}
use Rattle.children.specs.Marks.{add_child_of}
use Rattle.context.specs.declared.tci.TciNodeData.{TciNodeData}
use Rattle.context.specs.declared.ContextState.{ContextState}
use Rattle.context.specs.declared.ContextState.TheVariants.{Inactive, Active, Retired}
use Rattle.context.specs.declared.ContextType.{ContextType}
use Rattle.context.specs.declared.ContextType.TheVariants.{Normal, Simulation}
use Rattle.context.specs.declared.Context.{Context}
use Rattle.context.specs.declared.ActiveContextArgs.{ActiveContextArgs}
use Rattle.handle.specs.Handle.{default_handle, invalid_handle}
use Rattle.context.specs.Bytes.{tci_size, byte_of}

-- the parent of a context that has none
abbrev pub no_parent : ℕ
no_parent = 0xff

abbrev pub zero_tci : TciNodeData
zero_tci = record { tci_type = 0; tci_cumulative = replicate tci_size 0; tci_current = replicate tci_size 0; locality = 0; svn = 0 }

-- a new empty slot
abbrev pub new_context : Context
new_context = record {
  handle = default_handle;
  tci = zero_tci;
  children = 0;
  locality = 0;
  parent_idx = no_parent;
  context_type = Normal;
  state = Inactive;
  uses_internal_input_info = 0;
  uses_internal_input_dice = 0;
  allow_x509 = 0;
  allow_export_cdi = 1;
  allow_recursive = 0;
}

-- an active context
abbrev pub active_context : ActiveContextArgs → Context
active_context a = record {
  handle = a.handle;
  tci = record {
    tci_type = a.tci_type;
    tci_cumulative = replicate tci_size 0;
    tci_current = replicate tci_size 0;
    locality = a.locality;
    svn = a.svn;
  };
  children = 0;
  locality = a.locality;
  parent_idx = a.parent_idx;
  context_type = a.context_type;
  state = Active;
  uses_internal_input_info = byte_of a.uses_internal_input_info;
  uses_internal_input_dice = byte_of a.uses_internal_input_dice;
  allow_x509 = byte_of a.allow_x509;
  allow_export_cdi = byte_of a.allow_export_cdi;
  allow_recursive = byte_of a.allow_recursive;
}

-- cleared: everything goes but the type
abbrev pub destroyed : Context → Context
destroyed c = record {
  handle = invalid_handle;
  tci = zero_tci;
  children = 0;
  locality = 0;
  parent_idx = no_parent;
  context_type = c.context_type;
  state = Inactive;
  uses_internal_input_info = 0;
  uses_internal_input_dice = 0;
  allow_x509 = 0;
  allow_export_cdi = 0;
  allow_recursive = 0;
}

-- the marks m with slot k, or the refusal where k is no slot
unfoldable pub with_child_of : ℕ → ℕ → ℕ → Result ℕ DpeErrorCode
with_child_of n m k = cond (ltb k n) (add_child_of n m k) (Err (InternalError ChildIndexOob))

-- a context with another handle, and with other children
abbrev pub with_handle : Context → List ℕ → Context
with_handle c h = record {
  handle = h;
  tci = c.tci;
  children = c.children;
  locality = c.locality;
  parent_idx = c.parent_idx;
  context_type = c.context_type;
  state = c.state;
  uses_internal_input_info = c.uses_internal_input_info;
  uses_internal_input_dice = c.uses_internal_input_dice;
  allow_x509 = c.allow_x509;
  allow_export_cdi = c.allow_export_cdi;
  allow_recursive = c.allow_recursive;
}

abbrev pub with_children : Context → ℕ → Context
with_children c m = record {
  handle = c.handle;
  tci = c.tci;
  children = m;
  locality = c.locality;
  parent_idx = c.parent_idx;
  context_type = c.context_type;
  state = c.state;
  uses_internal_input_info = c.uses_internal_input_info;
  uses_internal_input_dice = c.uses_internal_input_dice;
  allow_x509 = c.allow_x509;
  allow_export_cdi = c.allow_export_cdi;
  allow_recursive = c.allow_recursive;
}

-- ---- tests

abbrev pub is_inactive : ContextState → Bool
is_inactive Inactive = true
is_inactive Active = false
is_inactive Retired = false

abbrev pub is_active : ContextState → Bool
is_active Inactive = false
is_active Active = true
is_active Retired = false

abbrev pub is_retired : ContextState → Bool
is_retired Inactive = false
is_retired Active = false
is_retired Retired = true

-- live: not inactive
abbrev pub is_live : ContextState → Bool
is_live s = not (is_inactive s)

abbrev pub same_state : ContextState → ContextState → Bool
same_state Inactive s = is_inactive s
same_state Active s = is_active s
same_state Retired s = is_retired s

abbrev pub is_normal : ContextType → Bool
is_normal Normal = true
is_normal Simulation = false

-- ---- the contexts of a table, as a function of the slot

-- what `get_or` answers past the end of a list of contexts: the value that Rattle takes there, each field empty, 0 or its first case
abbrev pub no_context : Context
no_context = record {
  handle = [];
  tci = record { tci_type = 0; tci_cumulative = []; tci_current = []; locality = 0; svn = 0 };
  children = 0;
  locality = 0;
  parent_idx = 0;
  context_type = Normal;
  state = Inactive;
  uses_internal_input_info = 0;
  uses_internal_input_dice = 0;
  allow_x509 = 0;
  allow_export_cdi = 0;
  allow_recursive = 0;
}

abbrev pub slot_of : List Context → ℕ → Context
slot_of cs i = get_or cs i no_context
