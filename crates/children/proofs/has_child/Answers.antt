-- `children::has_child` meets its contract. Assumes nothing.
use mathlib.Core.Path.{sym, ap, ◌∙◌}
use Prim.Native.Nat.{ℕ, ◌/◌, ◌^◌}
use lib.Bits.{and_mask}
use lib.Dec.{eqb}
use Rattle.children.specs.Marks.{slot_count, marked}
use Rattle.children.proofs.Marks.{has-is, has-not}
use Rattle.children.proofs.has_child.Goals as goal

pub returns-then-k-lt-MAX_HANDLES : goal.returns-then-k-lt-MAX_HANDLES
unfolding marked
returns-then-k-lt-MAX_HANDLES c =
    let a = c.args in
    ap (λ (x : ℕ). eqb x 1) (and_mask (a.m / 2 ^ a.k) 1) ∙ sym (has-is slot_count a.m a.k c.if-k-lt-MAX_HANDLES.true)

pub returns-else-k-lt-MAX_HANDLES : goal.returns-else-k-lt-MAX_HANDLES
returns-else-k-lt-MAX_HANDLES c = let a = c.args in sym (has-not slot_count a.m a.k c.if-k-lt-MAX_HANDLES.false)
