-- The descendants of a slot, as the calls answer them. The walk itself stands in forest/specs. Assumes nothing.
use Rattle.std.specs.Prelude.{Bool, cond, ℕ, ltb, Result, Err}
use Rattle.error.specs.declared.DpeErrorCode.{DpeErrorCode}
use Rattle.error.specs.declared.DpeErrorCode.TheVariants.{InternalError, InvalidHandle}
use Rattle.error.specs.declared.InternalErrorCode.TheVariants.{ContextIndexOob}
use Rattle.context.specs.declared.Context.{Context}
use Rattle.forest.specs.Walk.{walk_down}
use Rattle.forest.specs.Told.{told_of}
use Rattle.links.specs.Summary.{live_at, kids_at}

-- the walk down from a slot
abbrev pub down_from : ℕ → (ℕ → Bool) → (ℕ → ℕ) → ℕ → Result ℕ DpeErrorCode
down_from n live kids slot = told_of InvalidHandle (walk_down n live kids n 0 slot)

-- the descendants of a slot
unfoldable pub descendants_in : ℕ → (ℕ → Context) → ℕ → Result ℕ DpeErrorCode
descendants_in n s slot = cond (ltb slot n) (down_from n (live_at s) (kids_at s) slot) (Err (InternalError ContextIndexOob))
