-- What owning a table tells: it fits. Assumes nothing.
use mathlib.Core.List.{List, [], ◌∷◌}
use Prim.Native.Nat.{ℕ, zero, suc, ◌<◌}
use native.Mathlib.Nat.{le_of_suc-le-suc, not-suc-le-zero}
use native.Mathlib.Omega.{arith}
use lib.ListN.{length}
use mir.Val.{Val}
use denote.Laws.{Is}
use denote.Shadow.{shadow}
use denote.Array.{each}
use denote.Struct.Laws.{owed}
use Rattle.context.specs.Context.{slot_of}
use Rattle.context.specs.declared.Context.{Context}
use Rattle.table.specs.declared.state.State.{State}
use Rattle.context.specs.contracts.Context as context
use Rattle.table.specs.contracts.state.State.{the_type, the_row}
use Rattle.table.proofs.state.State.TheLaws.{the_laws}
use Rattle.image_context.specs.Fits.{FitsContext}
use Rattle.image_context.proofs.Owned.{context_fits}
use Rattle.image.specs.Fits.{Fits}

contexts_fit : (cs : List Context) (us : List Val) → shadow (each context.the_row.Denot context.the_row.own_val cs us)
    → (i : ℕ) → i < length cs → FitsContext (slot_of cs i)
contexts_fit [] us p i lt = absurd (not-suc-le-zero lt)
contexts_fit (c ∷ cs) [] p i lt = absurd p
contexts_fit (c ∷ cs) (u ∷ us) p zero lt = context_fits c (u ∷ []) p.0
contexts_fit (c ∷ cs) (u ∷ us) p (suc i) lt = contexts_fit cs us p.1 i (le_of_suc-le-suc lt)

-- every table that code owns fits
pub owned_fits : (t : State) (vs : List Val) → Is the_row t vs → Fits t
owned_fits t vs g =
    let o = owed the_type the_laws t vs g in
    let n = o.1.1.0.1.0.1 in record {
      marker = o.0.1;
      version = o.1.0.1;
      slots = n;
      contexts = λ i h. contexts_fit t.contexts _ o.1.1.0.1.1 i (omega arith);
      support = o.1.1.1.0.1;
      flags = o.1.1.1.1.0.1;
      initialized = o.1.1.1.1.1.0.1;
      reserved = o.1.1.1.1.1.1.0.1;
    }
