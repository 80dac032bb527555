-- `slots::in_place::put_handle` meets its contract. Assumes nothing.
use mathlib.Core.Path.{ap, ◌∙◌}
use Prim.Native.Nat.{ℕ}
use native.Mathlib.Nat.{add-zero}
use Rattle.wire.specs.Le.{put}
use Rattle.image_context.proofs.Owned.{array_run}
use Rattle.image.proofs.InPlace.{image-of, handle_in-place}
use Rattle.slots.proofs.Write.{holds}
use Rattle.slots.proofs.in_place.ImageSlotsMut.put_handle.Goals as goal

pub returns : goal.returns
returns c =
    let l = c.args.self.now in
    let o = image-of l (record { each = c.fits-self }) c.requires.0 in
    let h = holds _ _ _ (c.write_run.ensures ∙ ap (λ (k : ℕ). put k c.args.handle l) (add-zero _)) (handle_in-place l _ o c.args.i c.requires.1 c.args.handle (array_run _ _ _ c.well_formed.1.1.0)) in
    record { reads = h.0; state = h.1 }
