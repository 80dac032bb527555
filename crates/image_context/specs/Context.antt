-- One context of the state image, from document 01's offsets. Assumes nothing: these are definitions.
use Rattle.std.specs.Prelude.{ℕ, zero, suc, List, [], ◌∷◌, ◌++◌, get_or}
use Rattle.wire.specs.Le.{part, le, le_bytes}
use Rattle.context.specs.declared.tci.TciNodeData.{TciNodeData}
use Rattle.context.specs.declared.ContextState.{ContextState}
use Rattle.context.specs.declared.ContextState.TheVariants.{Inactive, Active, Retired}
use Rattle.context.specs.declared.ContextType.{ContextType}
use Rattle.context.specs.declared.ContextType.TheVariants.{Normal, Simulation}
use Rattle.context.specs.declared.Context.{Context}
use Rattle.image_kinds.specs.Kinds.{type_byte_in, state_byte_in}

-- the state that a byte says, and the byte of a state
unfoldable pub state_of : ℕ → ContextState
state_of zero = Inactive
state_of (suc zero) = Active
state_of (suc (suc n)) = Retired

abbrev pub state_byte : ContextState → ℕ
state_byte Inactive = 0
state_byte Active = 1
state_byte Retired = 2

-- the type that a byte says, and the byte of a type
unfoldable pub type_of : ℕ → ContextType
type_of zero = Normal
type_of (suc n) = Simulation

abbrev pub type_byte : ContextType → ℕ
type_byte Normal = 0
type_byte Simulation = 1

-- ---- read: each field at its offset

-- the measurements of these bytes
unfoldable pub decode_tci : List ℕ → TciNodeData
decode_tci l = record {
  tci_type = le (part 16 4 l);
  tci_cumulative = part 20 48 l;
  tci_current = part 68 48 l;
  locality = le (part 116 4 l);
  svn = le (part 120 4 l);
}

-- the context of these bytes, whatever its state and type bytes are
unfoldable pub decode_context : List ℕ → Context
decode_context l = record {
  handle = part 0 16 l;
  tci = decode_tci l;
  children = le (part 124 8 l);
  locality = le (part 132 4 l);
  parent_idx = get_or l 136 0;
  context_type = type_of (type_byte_in l);
  state = state_of (state_byte_in l);
  uses_internal_input_info = get_or l 139 0;
  uses_internal_input_dice = get_or l 140 0;
  allow_x509 = get_or l 141 0;
  allow_export_cdi = get_or l 142 0;
  allow_recursive = get_or l 143 0;
}

-- ---- written: field after field

-- the bytes of measurements
unfoldable pub encode_tci : TciNodeData → List ℕ
encode_tci t = le_bytes 4 t.tci_type ++ t.tci_cumulative ++ t.tci_current ++ le_bytes 4 t.locality ++ le_bytes 4 t.svn

-- the last eight fields of a context, a byte each
unfoldable pub encode_last : Context → List ℕ
encode_last c =
    c.parent_idx ∷ type_byte c.context_type ∷ state_byte c.state ∷ c.uses_internal_input_info ∷ c.uses_internal_input_dice
    ∷ c.allow_x509 ∷ c.allow_export_cdi ∷ c.allow_recursive ∷ []

-- the bytes of a context
unfoldable pub encode_context : Context → List ℕ
encode_context c = c.handle ++ encode_tci c.tci ++ le_bytes 8 c.children ++ le_bytes 4 c.locality ++ encode_last c
