-- `table::flags::has_bit` meets its contract. Assumes nothing.
use mathlib.Core.Path.{sym, ap, ◌∙◌}
use Prim.Native.Nat.{ℕ, ◌/◌, ◌^◌}
use native.Mathlib.Omega.{arith}
use borrow.Author.Tests.{le-ltb}
use lib.Bits.{and_mask}
use lib.Dec.{eqb}
use Rattle.children.specs.Marks.{marked}
use Rattle.children.proofs.Marks.{marked-high}
use Rattle.table.proofs.flags.has_bit.Goals as goal

pub returns-then-bit-lt-BITS : goal.returns-then-bit-lt-BITS
unfolding marked
returns-then-bit-lt-BITS c = let a = c.args in ap (λ (x : ℕ). eqb x 1) (and_mask (a.word / 2 ^ a.bit) 1)

-- a word has no bit from 32 on
pub returns-else-bit-lt-BITS : goal.returns-else-bit-lt-BITS
returns-else-bit-lt-BITS c =
    let a = c.args in
    le-ltb _ _ c.if-bit-lt-BITS.false ∙ sym (marked-high 32 a.word a.bit (omega arith) c.if-bit-lt-BITS.false)
