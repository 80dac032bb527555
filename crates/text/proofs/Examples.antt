-- Listings written out: document 01's example, and a refusal. Assumes nothing.
use Rattle.std.specs.Prelude.{Err}
use mathlib.Core.Bool.{false}
use mathlib.Core.Path.{◌≡◌, refl}
use mathlib.Core.List.{[], ◌∷◌}
use Rattle.error.specs.Numbers.{done}
use Rattle.error.specs.declared.DpeErrorCode.TheVariants.{Validation}
use Rattle.error.specs.declared.ValidationError.TheVariants.{CyclesInTree}
use Rattle.children.specs.Below.{count}
use Rattle.children.specs.Marks.{marked}
use Rattle.context.specs.declared.ContextType.TheVariants.{Normal}
use Rattle.table.specs.declared.state.State.{State}
use Rattle.handle.specs.Handle.{default_handle}
use Rattle.context.specs.Context.{active_context, no_parent, slot_of}
use Rattle.table.specs.State.{new_state, with_slot}
use Rattle.text_row.specs.Row.{decimal_from, decimal_of, number_then, verdict_line, row_of}
use Rattle.text.specs.Text.{line_of, rows_to, lines_for, text_of}

-- document 01's table: slot 0 active, Normal, in locality 7, at the root, childless
example_table : State
example_table = with_slot (new_state 0 0) 0 (active_context (record {
  context_type = Normal;
  locality = 7;
  handle = default_handle;
  tci_type = 0;
  parent_idx = no_parent;
  allow_x509 = false;
  uses_internal_input_info = false;
  uses_internal_input_dice = false;
  allow_export_cdi = false;
  svn = 0;
  allow_recursive = false;
}))

-- `verdict 0 0` and `0 1 0 7 255 0`
example_listing : text_of done (slot_of example_table.contexts)
    ≡ 118 ∷ 101 ∷ 114 ∷ 100 ∷ 105 ∷ 99 ∷ 116 ∷ 32 ∷ 48 ∷ 32 ∷ 48 ∷ 10 ∷ 48 ∷ 32 ∷ 49 ∷ 32 ∷ 48 ∷ 32 ∷ 55 ∷ 32 ∷ 50 ∷ 53 ∷ 53 ∷ 32 ∷ 48 ∷ 10 ∷ []
unfolding text_of lines_for verdict_line rows_to line_of row_of number_then decimal_of decimal_from count marked example_table
example_listing = refl

-- a refusal, `verdict 50331648 1`, lists no slot
refusal_listing : text_of (Err (Validation CyclesInTree)) (slot_of example_table.contexts)
    ≡ 118 ∷ 101 ∷ 114 ∷ 100 ∷ 105 ∷ 99 ∷ 116 ∷ 32 ∷ 53 ∷ 48 ∷ 51 ∷ 51 ∷ 49 ∷ 54 ∷ 52 ∷ 56 ∷ 32 ∷ 49 ∷ 10 ∷ []
unfolding text_of lines_for verdict_line number_then decimal_of decimal_from
refusal_listing = refl
