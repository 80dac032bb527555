-- All promises of a table. Words says that each stored word of children is below 2 ^ 64, as a u64 is: every table that code holds meets it.
-- Assumes nothing else.
use mathlib.Core.Path.{◌≡◌}
use Rattle.error.specs.Numbers.{done}
use Rattle.children.specs.Marks.{slot_count}
use Rattle.table.specs.declared.state.State.{State}
use Rattle.context.specs.Context.{slot_of}
use Rattle.links.specs.Summary.{Words}
use Rattle.verdict.specs.Tests.{verdict_of}
use Rattle.verdict.specs.Rule.{Forest}
use Rattle.verdict.proofs.Yes.{yes_iff}
use Rattle.promises.specs.Keeps.{Promises}
use Rattle.promises.proofs.Descend.{descendants_below}
use Rattle.promises.proofs.Destroy.{destroy_clears, destroy_refuses, destroy_only}
use Rattle.promises.proofs.Rotate.{rotate_keeps}
use Rattle.promises.proofs.Path.{path_found}
use Rattle.promises.proofs.Initialize.{initialize_keeps}

pub promises : (t : State) → Words slot_count (slot_of t.contexts) → Forest t → Promises t
promises t W F = record {
  destroy_clears = destroy_clears t W F;
  destroy_refuses = destroy_refuses t;
  destroy_only = destroy_only t W F;
  rotate_keeps = rotate_keeps t F;
  initialize_keeps = initialize_keeps t F;
  descendants_below = descendants_below t W F;
  path_found = path_found t F;
}

-- the same, where the validator says yes
pub yes_promises : (t : State) → Words slot_count (slot_of t.contexts) → verdict_of t ≡ done → Promises t
yes_promises t W e = promises t W ((yes_iff t).0 e)
