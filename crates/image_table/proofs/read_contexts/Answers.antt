-- `image_table::read_contexts` meets its contract. Assumes nothing.
use Rattle.wire.specs.Le.{part}
use native.Mathlib.Omega.{arith}
use Prim.Native.Nat.{ℕ, ◌-◌, ◌+◌, ◌*◌}
use mathlib.Core.Path.{◌≡◌, refl, ap, ◌∙◌}
use lib.ListN.{length-set}
use Rattle.children.specs.Below.{list_of}
use Rattle.children.proofs.Below.{list_of_fill}
use Rattle.image_context.specs.Context.{decode_context}
use Rattle.image.specs.State.{slot_in}
use Rattle.image_table.proofs.read_contexts.Goals as goal

pub loop-i-init : goal.loop-i-init
unfolding list_of
loop-i-init c = (omega arith, refl, refl)

pub loop-i-preserved : goal.loop-i-preserved
loop-i-preserved c =
    let l = c.loop-i in
    let image = c.args.image.now in
    let i = l.i in
    let e : (8 + 144 * i + 144) - (8 + 144 * i) ≡ 144 = omega arith in
    let q : c.read_context-c.result ≡ slot_in image i = c.read_context-c.ensures ∙ ap (λ (k : ℕ). decode_context (part (8 + 144 * i) k image)) e in
    (omega arith, length-set l.contexts _ _ ∙ l.invariant.1, list_of_fill (slot_in image) l.contexts i _ (omega arith) l.invariant.2 q)
