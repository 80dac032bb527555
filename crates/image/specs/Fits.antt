-- What a table is that comes back from its image as it was: every number fits its field, and there are as many contexts as slots, which fit too.
-- Code owns no other. Assumes nothing: these are definitions.
use Rattle.std.specs.Prelude.{◌≡◌, ℕ, ◌^◌, ◌<◌, length}
use Rattle.children.specs.Marks.{slot_count}
use Rattle.context.specs.Context.{slot_of}
use Rattle.table.specs.declared.state.State.{State}
use Rattle.image_context.specs.Fits.{FitsContext}

-- a table that fits
pub record Fits (t : State) : Type 0 where
  pub marker : t.marker < 2 ^ 32
  pub version : t.version < 2 ^ 32
  pub slots : length t.contexts ≡ slot_count
  pub contexts : (i : ℕ) → i < slot_count → FitsContext (slot_of t.contexts i)
  pub support : t.support < 2 ^ 32
  pub flags : t.flags < 2 ^ 16
  pub initialized : t.has_initialized < 2 ^ 8
  pub reserved : t.reserved < 2 ^ 8
