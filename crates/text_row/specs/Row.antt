-- The text of a number, of the first line and of a slot's line, as bytes. Assumes nothing: these are definitions.
use Rattle.std.specs.Prelude.{ℕ, zero, suc, ◌+◌, ◌*◌, ◌/◌, ◌%◌, ◌≡◌, cond, List, [], ◌∷◌, ◌++◌, length, ltb}
use Rattle.children.specs.Marks.{slot_count, count_below}
use Rattle.wire.specs.Le.{put}
use Rattle.image_context.specs.Context.{state_byte, type_byte}
use Rattle.view.specs.declared.SlotFields.{SlotFields}

-- ---- numbers

-- the decimal digits of n, the highest first, with room for f of them
unfoldable pub decimal_from : ℕ → ℕ → List ℕ
decimal_from zero n = []
decimal_from (suc f) n = cond (ltb n 10) ((48 + n) ∷ []) (decimal_from f (n / 10) ++ ((48 + n % 10) ∷ []))

-- every number of a listing has at most 32 bits, and so at most ten digits
abbrev pub digits_most : ℕ
digits_most = 10

-- a number in decimal
unfoldable pub decimal_of : ℕ → List ℕ
decimal_of n = decimal_from digits_most n

-- the byte between two numbers, and the byte at the end of a line
abbrev pub space : ℕ
space = 0x20

abbrev pub newline : ℕ
newline = 0x0a

-- a number in decimal, and the byte after it
unfoldable pub number_then : ℕ → ℕ → List ℕ
number_then n mark = decimal_of n ++ (mark ∷ [])

-- ---- lines

-- `verdict` and a space
abbrev pub verdict_word : List ℕ
verdict_word = 118 ∷ 101 ∷ 114 ∷ 100 ∷ 105 ∷ 99 ∷ 116 ∷ space ∷ []

-- the first line: `verdict OUTER INNER`
unfoldable pub verdict_line : ℕ → ℕ → List ℕ
verdict_line outer inner = verdict_word ++ number_then outer space ++ number_then inner newline

-- a live slot's line: slot, state, type, locality, parent, number of children
unfoldable pub row_of : ℕ → SlotFields → List ℕ
row_of i f =
    number_then i space ++ number_then (state_byte f.state) space ++ number_then (type_byte f.context_type) space
    ++ number_then f.locality space ++ number_then f.parent_idx space ++ number_then (count_below slot_count f.children) newline

-- ---- room

-- the most bytes of a number with the byte after it, of the first line, and of a slot's line
abbrev pub number_most : ℕ
number_most = digits_most + 1

abbrev pub verdict_most : ℕ
verdict_most = length verdict_word + 2 * number_most

abbrev pub row_most : ℕ
row_most = 6 * number_most

-- the bytes v were put into l from `at` on, which gave l', and next is the place behind them
pub record PutAt (at : ℕ) (v l l' : List ℕ) (next : ℕ) : Type 0 where
  pub bytes : l' ≡ put at v l
  pub place : next ≡ at + length v
