-- `slots::in_place::put_context` meets its contract. Assumes nothing.
use mathlib.Core.Path.{◌≡◌, ap, ◌∙◌}
use Prim.Native.Nat.{ℕ, ◌+◌, ◌*◌, ◌-◌}
use native.Mathlib.Omega.{arith}
use mathlib.Core.List.{List}
use lib.ListN.{length}
use borrow.Rule.Slice.PartMut.{put_mid}
use Rattle.wire.specs.Le.{put}
use Rattle.wire.proofs.Put.{put_mid_lem}
use Rattle.image_context.proofs.Writing.{length_context}
use Rattle.image_kinds.specs.Kinds.{context_size}
use Rattle.image.specs.State.{contexts_at}
use Rattle.image_context.proofs.Owned.{context_fits}
use Rattle.image.proofs.InPlace.{image-of, context_in-place}
use Rattle.slots.proofs.Write.{holds}
use Rattle.slots.proofs.in_place.ImageSlotsMut.put_context.Goals as goal

pub returns : goal.returns
returns c =
    let l = c.args.self.now in
    let at : ℕ = contexts_at + context_size * c.args.i in
    let e : (at + context_size) - at ≡ context_size = omega arith in
    let o = image-of l (record { each = c.fits-self }) c.requires.0 in
    let w = c.write_context.ensures in
    let f = context_fits c.args.c _ c.well_formed.1.1.0 in
    let h = holds _ _ _ (ap (λ (k : ℕ). put_mid at k l c.write_context.new.out) e ∙ put_mid_lem at context_size _ l (ap length w ∙ length_context c.args.c f) ∙ ap (λ (v : List ℕ). put at v l) w)
    (context_in-place l _ o c.args.i c.requires.1 c.args.c f) in
    record { reads = h.0; state = h.1 }
