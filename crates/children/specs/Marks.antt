-- Marks of slots in a word of 64 bits. Only the marks below the number of slots n are counted, iterated or tested; the word may hold more.
-- Assumes nothing: these are definitions.
use Rattle.error.specs.declared.DpeErrorCode.{DpeErrorCode}
use Rattle.std.specs.Prelude.{Bool, cond, ◌&&◌, ℕ, ◌-◌, ◌/◌, ◌%◌, ◌^◌, ltb, eqb, Option, Some, None, Result, Ok, Err}
use Rattle.std.specs.Int.Bits.{bit_and, bit_or}
use Rattle.error.specs.declared.DpeErrorCode.TheVariants.{InternalError}
use Rattle.error.specs.declared.InternalErrorCode.TheVariants.{ChildrenBitmapIndexOob}
use Rattle.children.specs.Below.{count, lowest_from}

-- THE number of slots of a table; nothing else writes it
abbrev pub slot_count : ℕ
slot_count = 32

-- the number of marks of a word
abbrev pub mark_count : ℕ
mark_count = 64

-- slot k is marked in m: bit k of m is 1
unfoldable pub marked : ℕ → ℕ → Bool
marked m k = eqb (m / 2 ^ k % 2) 1

-- the same, where only the slots below n count
unfoldable pub has_below : ℕ → ℕ → ℕ → Bool
has_below n m k = ltb k n && marked m k

-- m with slot k marked; the marks of either; the marks of a that b has not
abbrev pub with : ℕ → ℕ → ℕ
with m k = bit_or m (2 ^ k)

abbrev pub joined : ℕ → ℕ → ℕ
joined a b = bit_or a b

abbrev pub without : ℕ → ℕ → ℕ
without a b = bit_and a (2 ^ mark_count - 1 - b % 2 ^ mark_count)

-- m, with slot k marked where b holds
unfoldable pub with_if : Bool → ℕ → ℕ → ℕ
with_if b m k = cond b (with m k) m

-- how many slots below n are marked
abbrev pub count_below : ℕ → ℕ → ℕ
count_below n m = count (marked m) n

-- the lowest mark at k or above it and below n; where there is none, n, or k where that is higher
abbrev pub next_below : ℕ → ℕ → ℕ → ℕ
next_below n m k = lowest_from (marked m) (n - k) k

-- that mark, or none
unfoldable pub next_of : ℕ → ℕ → ℕ → Option ℕ
next_of n m k = cond (ltb (next_below n m k) n) (Some (next_below n m k)) None

-- m with slot k marked, or the refusal where k is no slot
unfoldable pub add_child_of : ℕ → ℕ → ℕ → Result ℕ DpeErrorCode
add_child_of n m k = cond (ltb k n) (Ok (with m k)) (Err (InternalError ChildrenBitmapIndexOob))
