-- What owning a table tells: it has as many contexts as there are slots, each with a handle of 16 bytes and measurements of 48. A function's
-- record has the fact to start from at `c.well_formed.0`, where the table is its first parameter. Assumes nothing.
use Prim.Native.Nat.{ℕ, zero, suc, ◌<◌}
use native.Mathlib.Nat.{le_of_suc-le-suc, not-suc-le-zero}
use mathlib.Core.Path.{◌≡◌}
use mathlib.Core.List.{List, [], ◌∷◌}
use lib.ListN.{length}
use mir.Val.{Val}
use denote.Laws.{Is}
use denote.Shadow.{shadow}
use denote.Array.{each}
use denote.Struct.Laws.{owed}
use Rattle.children.specs.Marks.{slot_count}
use Rattle.handle.specs.Handle.{handle_size}
use Rattle.context.specs.Bytes.{tci_size}
use Rattle.context.specs.Context.{slot_of}
use Rattle.context.specs.declared.Context.{Context}
use Rattle.table.specs.declared.state.State.{State}
use Rattle.context.specs.contracts.Context as context
use Rattle.context.specs.contracts.tci.TciNodeData as tci
use Rattle.context.proofs.tci.TciNodeData.TheLaws.{the_laws as the_tci_laws}
use Rattle.table.specs.contracts.state.State.{the_type, the_row}
use Rattle.context.proofs.Context.TheLaws.{the_laws as the_context_laws}
use Rattle.table.proofs.state.State.TheLaws.{the_laws}

pub slots : (t : State) (vs : List Val) → Is the_row t vs → length t.contexts ≡ slot_count
slots t vs g = (owed the_type the_laws t vs g).1.1.0.1.0.1

pub record Sized (c : Context) : Type 0 where
  pub handle : length c.handle ≡ handle_size
  pub cumulative : length c.tci.tci_cumulative ≡ tci_size
  pub current : length c.tci.tci_current ≡ tci_size

sized : (c : Context) (vs : List Val) → Is context.the_row c vs → Sized c
sized c vs p =
    let o = owed context.the_type the_context_laws c vs p in
    let t = owed tci.the_type the_tci_laws c.tci _ o.1.0 in
    record { handle = o.0.1.0.1; cumulative = t.1.0.1.0.1; current = t.1.1.0.1.0.1 }

every : (cs : List Context) (us : List Val) → shadow (each context.the_row.Denot context.the_row.own_val cs us)
    → (i : ℕ) → i < length cs → Sized (slot_of cs i)
every [] us p i lt = absurd (not-suc-le-zero lt)
every (c ∷ cs) [] p i lt = absurd p
every (c ∷ cs) (u ∷ us) p zero lt = sized c (u ∷ []) p.0
every (c ∷ cs) (u ∷ us) p (suc i) lt = every cs us p.1 i (le_of_suc-le-suc lt)

pub slot_sized : (t : State) (vs : List Val) → Is the_row t vs → (i : ℕ) → i < length t.contexts → Sized (slot_of t.contexts i)
slot_sized t vs g i lt = every t.contexts _ (owed the_type the_laws t vs g).1.1.0.1.1 i lt
