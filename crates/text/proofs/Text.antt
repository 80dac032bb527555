-- Laws of the listing's text: its lines one behind another, and the whole. Assumes nothing.
use Rattle.std.specs.Prelude.{Result, Err}
use Prim.Native.Nat.{ℕ, ◌+◌, ◌≤◌}
use mathlib.Core.Path.{◌≡◌, refl, sym, ap, ap₂, ◌∙◌}
use mathlib.Core.Bool.{true, false}
use mathlib.Core.List.{List, [], ◌++◌, append-nil}
use native.Mathlib.Numerals.{add-one}
use native.Mathlib.Omega.{arith}
use lib.ListN.{length}
use lib.Seq.{length-take-le}
use Rattle.io.specs.Counts.{IsPrefixLen}
use Rattle.error.specs.declared.DpeErrorCode.{DpeErrorCode}
use Rattle.error.specs.Numbers.{outer_of, inner_of, done}
use Rattle.children.specs.Marks.{slot_count}
use Rattle.wire.specs.Le.{put}
use Rattle.wire.proofs.Put.{put-nil}
use Rattle.context.specs.declared.Context.{Context}
use Rattle.table.specs.declared.state.State.{State}
use Rattle.context.specs.Context.{slot_of, is_inactive}
use Rattle.std.specs.Result.{result_and}
use Rattle.image.specs.Fits.{Fits}
use Rattle.image.specs.State.{state_size, decode_state, readable_of, encode_state}
use Rattle.image_kinds.proofs.Answers.{first_done}
use Rattle.image.proofs.Reading.{readable-size, read_tells}
use Rattle.image.proofs.RoundTrip.{state_again, write_read}
use Rattle.verdict.specs.Tests.{verdict_of, outcome_of}
use Rattle.view.specs.declared.SlotFields.{SlotFields}
use Rattle.view.specs.View.{fields_of}
use Rattle.validation.specs.Validate.{validate_at}
use Rattle.text_row.specs.Row.{verdict_line, row_of, PutAt}
use Rattle.text_row.proofs.Row.{put-size}
use Rattle.text.specs.Text.{line_of, rows_to, lines_for, text_of, listing_of}

-- ---- one text behind another

pub put_none : (at : ℕ) (l : List ℕ) → PutAt at [] l l at
put_none at l = record { bytes = sym (put-nil at l); place = omega arith }

-- a text at the start of the buffer: its length, the buffer afterwards, and that the text is a part of it
pub put_whole : {r : ℕ} {v l l' : List ℕ} → PutAt 0 v l l' r → r ≤ length l → (r ≡ length v) × ((l' ≡ put 0 v l) × IsPrefixLen r l')
put_whole {r} {v} {l} {l'} a h =
    let e : length l' ≡ length l = put-size a h in
    (omega (arith, a.place), (a.bytes, (omega arith, sym (length-take-le r l' (omega arith)))))

-- ---- lines

module _ (i : ℕ) (f : SlotFields) where
  pub line_none : is_inactive f.state ≡ true → [] ≡ line_of i f
  unfolding line_of
  line_none e = sym (rw e)

  pub line_row : is_inactive f.state ≡ false → row_of i f ≡ line_of i f
  unfolding line_of
  line_row e = sym (rw e)

-- the rows grow by a slot's line
pub rows_none : (s : ℕ → Context) → [] ≡ rows_to s 0
unfolding rows_to
rows_none s = refl

pub rows_more : (s : ℕ → Context) (i : ℕ) → rows_to s i ++ line_of i (fields_of (s i)) ≡ rows_to s (i + 1)
unfolding rows_to
rows_more s i = sym (rw add-one)

-- ---- the listing of an image l

module _ (l : List ℕ) where
  -- the first line is the whole listing of a refusal
  pub listing_refused : (e : DpeErrorCode) {a b : ℕ} → validate_at l ≡ Err e → a ≡ outer_of e → b ≡ inner_of e → verdict_line a b ≡ listing_of l
  unfolding listing_of text_of lines_for
  listing_refused e q p r =
      ap₂ verdict_line p r ∙ sym (append-nil _) ∙ sym (ap (λ (o : Result Unit DpeErrorCode). text_of o (slot_of (decode_state l).contexts)) q)

  -- and the rows follow it for a yes
  pub listing_yes : validate_at l ≡ done → verdict_line 0 0 ++ rows_to (slot_of (decode_state l).contexts) slot_count ≡ listing_of l
  unfolding listing_of text_of lines_for
  listing_yes q = sym (ap (λ (o : Result Unit DpeErrorCode). text_of o (slot_of (decode_state l).contexts)) q)

  -- what has a yes is as long as an image
  pub yes-size : validate_at l ≡ done → length l ≡ state_size
  yes-size q = readable-size l (first_done (readable_of l) (outcome_of (verdict_of (decode_state l))) q).0

-- the listing of a table's image is that of the table
pub listing-written : (t : State) → Fits t → listing_of (encode_state t) ≡ text_of (outcome_of (verdict_of t)) (slot_of t.contexts)
unfolding listing_of
listing-written t f =
    let l : List ℕ = encode_state t in
    let r : readable_of l ≡ done = (read_tells l t (write_read t f)).0 in
    let v : validate_at l ≡ outcome_of (verdict_of t)
    = ap (λ (x : Result (Unit {0}) DpeErrorCode). result_and x (outcome_of (verdict_of (decode_state l)))) r ∙ ap (λ (x : State). outcome_of (verdict_of x)) (state_again t f) in
    ap (λ (x : Result Unit DpeErrorCode). text_of x (slot_of (decode_state l).contexts)) v ∙ ap (λ (x : State). text_of (outcome_of (verdict_of t)) (slot_of x.contexts)) (state_again t f)
