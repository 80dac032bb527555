-- The path from a root down to a slot, found by going up step by step. Assumes nothing.
use Rattle.error.specs.declared.DpeErrorCode.{DpeErrorCode}
use Rattle.std.specs.Prelude.{Bool, cond, ◌&&◌, ◌||◌, List, ℕ, zero, suc, ◌-◌, ◌≤◌, ◌<◌, eqb, ltb, Result, Ok, Err}
use Rattle.error.specs.declared.DpeErrorCode.TheVariants.{InternalError, InvalidHandle}
use Rattle.error.specs.declared.InternalErrorCode.TheVariants.{ContextIndexOob, TciNodeCountExceeded}
use Rattle.children.specs.Below.{list_of}
use Rattle.context.specs.declared.Context.{Context}
use Rattle.context.specs.Context.{no_parent}
use Rattle.links.specs.Summary.{live_at, parent_at, steps_up}
use Rattle.walks_path.specs.declared.Path.{Path}

-- the parent of a slot that may stand on a path: it is a slot; it is not inactive, and its parent is a slot or none
unfoldable pub parent_of : ℕ → (ℕ → Bool) → (ℕ → ℕ) → ℕ → Result ℕ DpeErrorCode
parent_of n live parent x =
    cond (ltb x n)
    (cond (live x && (ltb (parent x) n || eqb (parent x) no_parent)) (Ok (parent x)) (Err InvalidHandle))
    (Err (InternalError ContextIndexOob))

-- on from a slot whose parent was found
unfoldable pub onward : Result ℕ DpeErrorCode → (ℕ → Result ℕ DpeErrorCode) → Result ℕ DpeErrorCode
onward (Ok p) go = go p
onward (Err e) go = Err e

-- how many slots the path has: x is the slot that comes after j others, and there is room for g more
unfoldable pub length_from : ℕ → (ℕ → Bool) → (ℕ → ℕ) → ℕ → ℕ → ℕ → Result ℕ DpeErrorCode
length_from n live parent zero j x = onward (parent_of n live parent x) (λ p. Err (InternalError TciNodeCountExceeded))
length_from n live parent (suc g) j x =
    onward (parent_of n live parent x) (λ p. cond (eqb p no_parent) (Ok (suc j)) (length_from n live parent g (suc j) p))

-- the slots of a path of k slots from the root on, then zeros, where `up j` is the slot j steps above the last
unfoldable pub slots_of : ℕ → (ℕ → ℕ) → ℕ → List ℕ
slots_of n up k = list_of (λ i. cond (ltb i k) (up (k - suc i)) 0) n

-- the path of as many slots as were found
unfoldable pub laid_of : ℕ → (ℕ → ℕ) → Result ℕ DpeErrorCode → Result Path DpeErrorCode
laid_of n up (Ok k) = Ok (record { length = k; slots = slots_of n up k })
laid_of n up (Err e) = Err e

-- the path to a slot, as the liveness and the parents of all slots say it
unfoldable pub path_of : ℕ → (ℕ → Bool) → (ℕ → ℕ) → ℕ → Result Path DpeErrorCode
path_of n live parent slot = laid_of n (λ j. steps_up parent j slot) (length_from n live parent n 0 slot)

abbrev pub path_in : ℕ → (ℕ → Context) → ℕ → Result Path DpeErrorCode
path_in n s slot = path_of n (live_at s) (parent_at s) slot

-- the places of the slots and of the length afterwards: the new ones, or after a refusal the old
abbrev pub slots_place : Result Path DpeErrorCode → List ℕ → List ℕ
slots_place (Ok p) old = p.slots
slots_place (Err e) old = old

abbrev pub length_place : Result Path DpeErrorCode → ℕ → ℕ
length_place (Ok p) old = p.length
length_place (Err e) old = old

-- k slots stand on the way up from a slot, itself the first
pub record Climbs (n : ℕ) (parent : ℕ → ℕ) (slot k : ℕ) : Type 0 where
  pub few : k ≤ n
  pub slots : (j : ℕ) → j < k → steps_up parent j slot < n
