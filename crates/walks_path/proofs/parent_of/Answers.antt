-- `walks_path::parent_of` meets its contract. Assumes nothing.
use Rattle.std.specs.Prelude.{Ok}
use mathlib.Core.Path.{sym, ap, ◌∙◌}
use Prim.Native.Nat.{◌<◌}
use native.Mathlib.Omega.{arith}
use Rattle.children.specs.Marks.{slot_count}
use Rattle.context.proofs.States.{live_told}
use Rattle.walks_path.proofs.Steps.{parent_oob, parent-idle, parent_stray, parent-slot, parent_none}
use Rattle.walks_path.proofs.parent_of.Goals.{else-p-via-then-p+else-from-ge-MAX_HANDLES, else-p-via-else-p}
use Rattle.walks_path.proofs.parent_of.Goals as goal

pub returns-then-slot-ge-MAX_HANDLES : goal.returns-then-slot-ge-MAX_HANDLES
returns-then-slot-ge-MAX_HANDLES g c = sym (parent_oob _ _ _ _ c.if-slot-ge-MAX_HANDLES.true)

pub returns-then-is_inactive : goal.returns-then-is_inactive
returns-then-is_inactive g c =
    let h : c.args.slot < slot_count = omega arith in
    sym (parent-idle _ _ _ _ h (live_told c.state_at.ensures c.is_inactive.ensures c.if-is_inactive.true))

pub returns-then-from-ge-MAX_HANDLES : goal.returns-then-from-ge-MAX_HANDLES
returns-then-from-ge-MAX_HANDLES g c =
    let p = c.parent_at-p in
    let h : c.args.slot < slot_count = omega arith in
    sym (parent_stray _ _ _ _ h (live_told c.state_at.ensures c.is_inactive.ensures c.if-is_inactive.false) (λ z. c.if-p.true (p.ensures ∙ z)) (let e = p.ensures in omega arith))

pub returns : goal.returns
returns g c =
    let p = c.parent_at-p in
    let h : c.args.slot < slot_count = omega arith in
    let live = live_told c.state_at.ensures c.is_inactive.ensures c.if-is_inactive.false in
    ap Ok (c.from-2.ensures ∙ p.ensures)
    ∙ sym (elim c.else-p.branch [
      | else-p-via-then-p+else-from-ge-MAX_HANDLES w ↦ parent-slot _ _ _ _ h live (let e = p.ensures in let i = w.from.ensures in omega arith)
      | else-p-via-else-p w ↦ parent_none _ _ _ _ h live (sym p.ensures ∙ w.if-p.false)
    ])
