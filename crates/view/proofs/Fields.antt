-- The fields of a slot, where they lie, and that they are those of the table read. Assumes nothing.
use Prim.Native.Nat.{ℕ, ◌+◌, ◌*◌, ◌<◌}
use mathlib.Core.Path.{◌≡◌, sym, ap}
use mathlib.Core.List.{List}
use native.Mathlib.Omega.{arith}
use lib.ListN.{get_or}
use Rattle.children.specs.Marks.{slot_count}
use Rattle.wire.specs.Le.{part, le}
use Rattle.wire.proofs.Part.{part-part, get_d_part}
use Rattle.context.specs.Context.{slot_of}
use Rattle.context.specs.declared.ContextState.{ContextState}
use Rattle.context.specs.declared.ContextType.{ContextType}
use Rattle.image_kinds.specs.Kinds.{context_size}
use Rattle.image_context.specs.Context.{state_of, type_of, decode_context}
use Rattle.image.specs.State.{contexts_at, slot_in, decode_state}
use Rattle.image.proofs.Reading.{state-slot}
use Rattle.view.specs.declared.SlotFields.{SlotFields}
use Rattle.view.specs.View.{fields_of}

-- what was read at the offsets of a slot are its fields
pub fields_are : (l : List ℕ) (i : ℕ) {s : ContextState} {t : ContextType} {loc kids : ℕ}
    → s ≡ state_of (get_or l (contexts_at + context_size * i + 138) 0) → t ≡ type_of (get_or l (contexts_at + context_size * i + 137) 0)
    → loc ≡ le (part (contexts_at + context_size * i + 132) 4 l) → kids ≡ le (part (contexts_at + context_size * i + 124) 8 l)
    → ◌≡◌ {A = SlotFields} (record { state = s; context_type = t; locality = loc; parent_idx = get_or l (contexts_at + context_size * i + 136) 0; children = kids }) (fields_of (slot_in l i))
unfolding decode_context
fields_are l i es et el ek =
    let at : ℕ = contexts_at + context_size * i in
    cc (
      get_d_part at context_size 138 l (omega arith),
      get_d_part at context_size 137 l (omega arith),
      get_d_part at context_size 136 l (omega arith),
      part-part at context_size 132 4 l (omega arith),
      part-part at context_size 124 8 l (omega arith),
    )

-- the fields that a view answers are those of the slot of the table read
pub state_fields : (l : List ℕ) (i : ℕ) → i < slot_count → fields_of (slot_in l i) ≡ fields_of (slot_of (decode_state l).contexts i)
state_fields l i h = ap fields_of (sym (state-slot l i h))
