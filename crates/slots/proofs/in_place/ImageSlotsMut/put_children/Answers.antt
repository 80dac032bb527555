-- `slots::in_place::put_children` meets its contract. Assumes nothing.
use native.Mathlib.Omega.{arith}
use Rattle.image.proofs.InPlace.{image-of, children_in-place}
use Rattle.slots.proofs.Write.{holds}
use Rattle.slots.proofs.in_place.ImageSlotsMut.put_children.Goals as goal

pub returns : goal.returns
returns c =
    let l = c.args.self.now in
    let o = image-of l (record { each = c.fits-self }) c.requires.0 in
    let h = holds _ _ _ c.write_u64.ensures (children_in-place l _ o c.args.i c.requires.1 c.args.children (omega arith)) in
    record { reads = h.0; state = h.1 }
