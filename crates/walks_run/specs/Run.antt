-- The run above a slot, as the calls answer it. The climb itself stands in forest/specs. Assumes nothing.
use Rattle.error.specs.declared.DpeErrorCode.{DpeErrorCode}
use Rattle.std.specs.Prelude.{Bool, ℕ, Result}
use Rattle.error.specs.declared.DpeErrorCode.TheVariants.{InternalError}
use Rattle.error.specs.declared.InternalErrorCode.TheVariants.{DestroyParentIndexOob}
use Rattle.context.specs.declared.Context.{Context}
use Rattle.forest.specs.Run.{single_in, climb}
use Rattle.forest.specs.Told.{told_of}
use Rattle.links.specs.Summary.{retired_at, parent_at, kids_at}

-- the run from the slot p upward
unfoldable pub run_from : ℕ → (ℕ → Bool) → (ℕ → ℕ) → (ℕ → ℕ) → ℕ → Result ℕ DpeErrorCode
run_from n retired parent kids p = told_of (InternalError DestroyParentIndexOob) (climb n (single_in n retired kids) parent n 0 p)

-- the run above a slot
abbrev pub run_in : ℕ → (ℕ → Context) → ℕ → Result ℕ DpeErrorCode
run_in n s slot = run_from n (retired_at s) (parent_at s) (kids_at s) (parent_at s slot)
