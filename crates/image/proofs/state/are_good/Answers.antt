-- `image::state::are_good` meets its contract. Assumes nothing.
use mathlib.Core.Bool.{Bool, ◌&&◌}
use mathlib.Core.Path.{refl, ap, ◌∙◌}
use Prim.Native.Nat.{ℕ, ◌+◌, ◌*◌, ◌<◌}
use native.Mathlib.Numerals.{add-one}
use native.Mathlib.Omega.{arith}
use Rattle.children.specs.Below.{every}
use Rattle.wire.proofs.Part.{get_d_part}
use Rattle.image_kinds.specs.Kinds.{context_size, type_byte_in, good_word}
use Rattle.image_kinds.proofs.Answers.{good-joined, good-kind}
use Rattle.image.specs.State.{contexts_at, slot_bytes, good_slot}
use Rattle.image.proofs.state.are_good.Goals as goal

pub loop-i-init : goal.loop-i-init
unfolding every good_word
loop-i-init c = (omega arith, refl)

pub loop-i-preserved : goal.loop-i-preserved
unfolding every
loop-i-preserved c =
    let l = c.loop-i in
    let image = c.args.image.now in
    let at : ℕ = contexts_at + context_size * l.i in
    let t : type_byte_in (slot_bytes image l.i) < 256 = rw (get_d_part at context_size 137 image (omega arith)) (omega (arith, c.shared_slice_known-1.given (at + 137))) in
    (omega arith, good-joined l.kinds c.kind_at-kinds.result ∙ rw (add-one l.i, every, l.invariant.1, c.kind_at-kinds.ensures) (ap (λ (b : Bool). every (good_slot image) l.i && b) (good-kind (slot_bytes image l.i) t)))
