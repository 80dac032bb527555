-- `slots::in_place::context_at` meets its contract. Assumes nothing.
use mathlib.Core.Path.{◌≡◌, sym, ap, ◌∙◌}
use Prim.Native.Nat.{ℕ, ◌+◌, ◌*◌, ◌-◌}
use native.Mathlib.Omega.{arith}
use Rattle.wire.specs.Le.{part}
use Rattle.image_kinds.specs.Kinds.{context_size}
use Rattle.image_context.specs.Context.{decode_context}
use Rattle.image.specs.State.{contexts_at}
use Rattle.image.proofs.Reading.{state-slot}
use Rattle.slots.proofs.in_place.ImageSlots.context_at.Goals as goal

pub returns : goal.returns
returns c =
    let at : ℕ = contexts_at + context_size * c.args.i in
    let e : (at + context_size) - at ≡ context_size = omega arith in
    c.read_context.ensures ∙ ap (λ (k : ℕ). decode_context (part at k c.args.self.now)) e ∙ sym (state-slot c.args.self.now c.args.i c.requires)
