-- The lookup of an active context. A table is a function s from a slot to its context, and n is the number of slots.
-- Assumes nothing: these are definitions.
use Rattle.std.specs.Prelude.{Bool, cond, ◌&&◌, List, ℕ, eqb, ltb, Result, Ok, Err}
use Rattle.error.specs.declared.DpeErrorCode.{DpeErrorCode}
use Rattle.error.specs.declared.DpeErrorCode.TheVariants.{InvalidHandle, InvalidLocality}
use Rattle.children.specs.Below.{some, lowest}
use Rattle.context.specs.declared.Context.{Context}
use Rattle.handle.specs.Handle.{same_bytes}
use Rattle.context.specs.Context.{is_active}

-- a context that is active, of the locality l
abbrev pub active_of : Context → ℕ → Bool
active_of c l = is_active c.state && eqb c.locality l

-- slot i is active, of the locality l
abbrev pub active_in : (ℕ → Context) → ℕ → ℕ → Bool
active_in s l i = active_of (s i) l

-- slot i is active, of the locality l, with the handle h
abbrev pub is_target : (ℕ → Context) → List ℕ → ℕ → ℕ → Bool
is_target s h l i = active_in s l i && same_bytes (s i).handle h

-- none was found: InvalidLocality if no active context has the locality, else InvalidHandle
abbrev pub none_in : ℕ → (ℕ → Context) → ℕ → Result ℕ DpeErrorCode
none_in n s l = cond (some (active_in s l) n) (Err InvalidHandle) (Err InvalidLocality)

-- the lowest active slot of the locality l with the handle h
unfoldable pub lookup_in : ℕ → (ℕ → Context) → List ℕ → ℕ → Result ℕ DpeErrorCode
lookup_in n s h l = cond (ltb (lowest (is_target s h l) n) n) (Ok (lowest (is_target s h l) n)) (none_in n s l)
