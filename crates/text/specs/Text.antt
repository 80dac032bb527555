-- The text of a listing, as bytes, of the lines that text_row has. Assumes nothing: these are definitions.
use Rattle.error.specs.declared.DpeErrorCode.{DpeErrorCode}
use Rattle.std.specs.Prelude.{ℕ, zero, suc, cond, List, [], ◌++◌, Result, Ok, Err}
use Rattle.error.specs.Numbers.{outer_of, inner_of}
use Rattle.children.specs.Marks.{slot_count}
use Rattle.context.specs.declared.Context.{Context}
use Rattle.context.specs.Context.{slot_of, is_inactive}
use Rattle.image.specs.State.{decode_state}
use Rattle.view.specs.declared.SlotFields.{SlotFields}
use Rattle.view.specs.View.{fields_of}
use Rattle.validation.specs.Validate.{validate_at}
use Rattle.text_row.specs.Row.{verdict_line, row_of}

-- ---- lines

-- the numbers of the first line: those of the refusal, 0 0 for a yes
abbrev pub outer_number : Result Unit DpeErrorCode → ℕ
outer_number (Ok tt) = 0
outer_number (Err e) = outer_of e

abbrev pub inner_number : Result Unit DpeErrorCode → ℕ
inner_number (Ok tt) = 0
inner_number (Err e) = inner_of e

-- what slot i adds: nothing where it is inactive
unfoldable pub line_of : ℕ → SlotFields → List ℕ
line_of i f = cond (is_inactive f.state) [] (row_of i f)

-- the lines of the slots below n, upward
unfoldable pub rows_to : (ℕ → Context) → ℕ → List ℕ
rows_to s zero = []
rows_to s (suc n) = rows_to s n ++ line_of n (fields_of (s n))

-- ---- the listing

-- the lines after the first: those of the slots for a yes, and none for a refusal
unfoldable pub lines_for : Result Unit DpeErrorCode → (ℕ → Context) → List ℕ
lines_for (Ok tt) s = rows_to s slot_count
lines_for (Err e) s = []

-- the listing of slots under a verdict
unfoldable pub text_of : Result Unit DpeErrorCode → (ℕ → Context) → List ℕ
text_of o s = verdict_line (outer_number o) (inner_number o) ++ lines_for o s

-- the listing of an image
unfoldable pub listing_of : List ℕ → List ℕ
listing_of l = text_of (validate_at l) (slot_of (decode_state l).contexts)
