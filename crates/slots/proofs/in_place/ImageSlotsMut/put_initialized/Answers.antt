-- `slots::in_place::put_initialized` meets its contract. Assumes nothing.
use mathlib.Core.Path.{ap, ◌∙◌}
use mathlib.Core.List.{[], ◌∷◌}
use Prim.Native.Nat.{◌+◌}
use native.Mathlib.Omega.{arith}
use lib.ListN.{set}
use Rattle.wire.proofs.Put.{put_sets}
use Rattle.image.specs.State.{support_at}
use Rattle.image.proofs.Reading.{readable-size}
use Rattle.image.proofs.InPlace.{image-of, initialized_in-place}
use Rattle.slots.proofs.Write.{holds}
use Rattle.slots.proofs.in_place.ImageSlotsMut.put_initialized.Goals as goal

pub returns : goal.returns
returns c =
    let l = c.args.self.now in
    let n = readable-size l c.requires in
    let o = image-of l (record { each = c.fits-self }) c.requires in
    let h = holds _ _ _ (ap (set l (support_at + 6)) c.new.ensures ∙ put_sets (support_at + 6) (1 ∷ []) l (omega arith)) (initialized_in-place l _ o) in
    record { reads = h.0; state = h.1 }
