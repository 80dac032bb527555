-- Measurements that are equal: `==` on the struct against the test that the verdict names. Assumes nothing.
use mathlib.Core.Bool.{Bool, ◌&&◌}
use mathlib.Core.List.{List, [], ◌∷◌}
use mathlib.Core.Path.{◌≡◌, refl, ap}
use Prim.Native.Nat.{ℕ}
use lib.Dec.{eqb}
use lib.ListN.{replicate}
use lib.Pointwise.{pointwise}
use Rattle.std.proofs.Math.Bool.{and_assoc}
use Rattle.handle.specs.Handle.{same_bytes}
use Rattle.context.specs.declared.tci.TciNodeData.{TciNodeData}
use Rattle.context.specs.Bytes.{tci_size}
use Rattle.verdict.specs.Tests.{is_zero_tci}

-- `==` of two runs of bytes
pub pointwise_same : (a b : List ℕ) → pointwise eqb a b ≡ same_bytes a b
unfolding same_bytes
pointwise_same [] [] = refl
pointwise_same [] (y ∷ ys) = refl
pointwise_same (x ∷ xs) [] = refl
pointwise_same (x ∷ xs) (y ∷ ys) = ap (λ (b : Bool). eqb x y && b) (pointwise_same xs ys)

-- `==` with the measurements of a context where nothing was measured
pub equal_zero : (d : TciNodeData)
    → (eqb d.tci_type 0 && (pointwise eqb d.tci_cumulative (replicate tci_size 0) && (pointwise eqb d.tci_current (replicate tci_size 0) && (eqb d.locality 0 && eqb d.svn 0))))
    ≡ is_zero_tci d
unfolding is_zero_tci
equal_zero d = simp (pointwise_same, and_assoc)
