-- What owning a context or measurements tells: they fit. A function's record has the fact to start from at `c.well_formed.0`, where the value is
-- its first parameter, and at `c.well_formed.1.0`, where it is the second. Assumes nothing.
use mathlib.Core.List.{List, [], ◌∷◌}
use Prim.Native.Nat.{ℕ}
use mir.Val.{Val}
use denote.Laws.{Is}
use denote.Builtin.{u8}
use denote.Shadow.{shadow}
use denote.Array.{Array, each}
use Rattle.wire.specs.Le.{Bytes}
use Rattle.wire.proofs.Le.{bytes_none, bytes-cons}
use Rattle.context.specs.declared.tci.TciNodeData.{TciNodeData}
use Rattle.context.specs.declared.Context.{Context}
use Rattle.context.specs.contracts.tci.TciNodeData as tci
use Rattle.context.specs.contracts.Context as context
use Rattle.context.proofs.tci.TciNodeData.TheLaws.{the_laws as the_tci_laws}
use Rattle.context.proofs.Context.TheLaws.{the_laws as the_context_laws}
use denote.Struct.Laws.{owed}
use Rattle.image_context.specs.Fits.{Run, FitsTci, FitsContext}

bytes_own : (xs : List ℕ) (us : List Val) → shadow (each ℕ u8.own_val xs us) → Bytes xs
bytes_own [] us p = bytes_none
bytes_own (x ∷ xs) [] p = absurd p
bytes_own (x ∷ xs) (u ∷ us) p = bytes-cons p.0.1 (bytes_own xs us p.1)

pub array_run : (n : ℕ) (xs : List ℕ) (vs : List Val) → Is (Array u8 n) xs vs → Run n xs
array_run n xs vs p = record { size = p.1.0.1; bytes = bytes_own xs p.0 p.1.1 }

pub tci_fits : (t : TciNodeData) (vs : List Val) → Is tci.the_row t vs → FitsTci t
tci_fits t vs p =
    let o = owed tci.the_type the_tci_laws t vs p in
    record {
      kind = o.0.1;
      cumulative = array_run _ t.tci_cumulative _ o.1.0;
      current = array_run _ t.tci_current _ o.1.1.0;
      locality = o.1.1.1.0.1;
      svn = o.1.1.1.1.0.1;
    }

pub context_fits : (c : Context) (vs : List Val) → Is context.the_row c vs → FitsContext c
context_fits c vs p =
    let o = owed context.the_type the_context_laws c vs p in
    record {
      handle = array_run _ c.handle _ o.0;
      tci = tci_fits c.tci _ o.1.0;
      children = o.1.1.0.1;
      locality = o.1.1.1.0.1;
      parent = o.1.1.1.1.0.1;
      info = o.1.1.1.1.1.1.1.0.1;
      dice = o.1.1.1.1.1.1.1.1.0.1;
      x509 = o.1.1.1.1.1.1.1.1.1.0.1;
      export = o.1.1.1.1.1.1.1.1.1.1.0.1;
      recursive = o.1.1.1.1.1.1.1.1.1.1.1.0.1;
    }
