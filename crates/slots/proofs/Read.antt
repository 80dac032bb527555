-- The fields of a slot, where they lie in an image, are those of the table read. Assumes nothing.
use mathlib.Core.List.{List}
use mathlib.Core.Path.{◌≡◌, sym, ap, ◌∙◌}
use Prim.Native.Nat.{ℕ, ◌+◌, ◌*◌, ◌<◌}
use native.Mathlib.Omega.{arith}
use lib.ListN.{get_or}
use Rattle.children.specs.Marks.{slot_count}
use Rattle.wire.specs.Le.{part, le}
use Rattle.wire.proofs.Part.{part-part, get_d_part}
use Rattle.context.specs.Context.{slot_of}
use Rattle.context.specs.declared.Context.{Context}
use Rattle.context.specs.declared.ContextState.{ContextState}
use Rattle.context.specs.declared.ContextType.{ContextType}
use Rattle.image_kinds.specs.Kinds.{context_size}
use Rattle.image_context.specs.Context.{state_of, type_of, decode_context}
use Rattle.image.specs.State.{contexts_at, decode_state}
use Rattle.image.proofs.Reading.{state-slot}

module _ (l : List ℕ) (i : ℕ) (h : i < slot_count) where
  abbrev at : ℕ
  at = contexts_at + context_size * i

  abbrev slot : Context
  slot = slot_of (decode_state l).contexts i

  pub state_read : {s : ContextState} → s ≡ state_of (get_or l (at + 138) 0) → s ≡ slot.state
  unfolding decode_context
  state_read e = e ∙ ap state_of (sym (get_d_part at context_size 138 l (omega arith))) ∙ ap (λ (c : Context). c.state) (sym (state-slot l i h))

  pub type_read : {t : ContextType} → t ≡ type_of (get_or l (at + 137) 0) → t ≡ slot.context_type
  unfolding decode_context
  type_read e = e ∙ ap type_of (sym (get_d_part at context_size 137 l (omega arith))) ∙ ap (λ (c : Context). c.context_type) (sym (state-slot l i h))

  pub parent_read : get_or l (at + 136) 0 ≡ slot.parent_idx
  unfolding decode_context
  parent_read = sym (get_d_part at context_size 136 l (omega arith)) ∙ ap (λ (c : Context). c.parent_idx) (sym (state-slot l i h))

  pub locality_read : {x : ℕ} → x ≡ le (part (at + 132) 4 l) → x ≡ slot.locality
  unfolding decode_context
  locality_read e = e ∙ ap le (sym (part-part at context_size 132 4 l (omega arith))) ∙ ap (λ (c : Context). c.locality) (sym (state-slot l i h))

  pub children_read : {x : ℕ} → x ≡ le (part (at + 124) 8 l) → x ≡ slot.children
  unfolding decode_context
  children_read e = e ∙ ap le (sym (part-part at context_size 124 8 l (omega arith))) ∙ ap (λ (c : Context). c.children) (sym (state-slot l i h))

  pub handle_read : {x : List ℕ} → x ≡ part (at + 0) 16 l → x ≡ slot.handle
  unfolding decode_context
  handle_read e = e ∙ sym (part-part at context_size 0 16 l (omega arith)) ∙ ap (λ (c : Context). c.handle) (sym (state-slot l i h))
