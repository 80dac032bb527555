-- `image_table::write_contexts` meets its contract. Assumes nothing.
use native.Mathlib.Omega.{arith}
use Prim.Native.Nat.{◌-◌, ◌+◌, ◌*◌}
use mathlib.Core.Path.{◌≡◌}
use Rattle.image.proofs.Owned.{owned_fits}
use Rattle.image.proofs.Writing.{slots_none, slot-put, length-slots-put}
use Rattle.image_table.proofs.write_contexts.Goals as goal

pub loop-i-init : goal.loop-i-init
loop-i-init c = (omega arith, c.requires, slots_none c.args.state.contexts c.args.out.now)

pub loop-i-preserved : goal.loop-i-preserved
loop-i-preserved c =
    let l = c.loop-i in
    let i = l.i in
    let e : (8 + 144 * i + 144) - (8 + 144 * i) ≡ 144 = omega arith in
    let f = owned_fits c.args.state _ c.well_formed.0 in
    let p = slot-put c.args.state c.args.out.now i f (omega arith) c.requires l.invariant.2 c.write_context.ensures in
    (omega arith, rw (e, p) (length-slots-put c.args.state c.args.out.now (i + 1) f (omega arith) c.requires), rw e p)
