-- `image_kinds::kind_at` meets its contract. Assumes nothing.
use mathlib.Core.Path.{sym, ap₂, ◌∙◌}
use Prim.Native.Nat.{ℕ, ◌+◌, ◌*◌}
use native.Mathlib.Omega.{arith}
use Rattle.wire.proofs.Part.{get_d_part}
use Rattle.image_kinds.specs.Kinds.{context_size}
use Rattle.image_kinds.proofs.kind_at.Goals as goal

pub returns : goal.returns
returns c =
    let a = c.args in
    let l = a.image.now in
    ap₂ (λ (t s : ℕ). t + 256 * s + 256)
    (c.from-context_type.ensures ∙ sym (get_d_part a.at context_size 137 l (omega arith)))
    (c.from-state.ensures ∙ sym (get_d_part a.at context_size 138 l (omega arith)))
