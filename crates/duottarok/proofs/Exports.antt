-- A call on an image, after reading: what it answers, and what the image is then. Assumes nothing.
use mathlib.Core.List.{List, ◌++◌, append-nil}
use mathlib.Core.Path.{◌≡◌, refl, sym, ap, ◌∙◌}
use Prim.Native.Nat.{ℕ, ◌≤◌}
use native.Mathlib.Omega.{arith}
use lib.ListN.{length, drop, get_or, drop_of_length-le}
use lib.Seq.{take_all}
use mir.Syntax.{w8}
use mir.Val.{Fits}
use Rattle.std.specs.Array.{IsFirstChunk}
use Rattle.std.specs.Prelude.{Result, Ok, Err}
use Rattle.std.specs.Result.{OnErr}
use Rattle.error.specs.Numbers.{done}
use Rattle.error.specs.declared.DpeErrorCode.{DpeErrorCode}
use Rattle.wire.specs.Le.{Bytes}
use Rattle.table.specs.declared.state.State.{State}
use Rattle.table.specs.declared.state.Outcome.{Outcome}
use Rattle.image.specs.State.{state_size, decode_state, encode_state, readable_of}
use Rattle.image.proofs.Reading.{readable-size}
use Rattle.image.proofs.RoundTrip.{state_back}
use Rattle.slots.specs.Ends.{Ends}
use Rattle.duottarok.specs.Exports.{ended_after, image_after}

-- an image that was lent whole is what was left in it
pub whole : (l w : List ℕ) → length l ≡ state_size → w ++ drop state_size l ≡ w
whole l w n = let h : length l ≤ state_size = omega (arith, n) in ap (λ (r : List ℕ). w ++ r) (drop_of_length-le l h) ∙ append-nil w

module _ {A : Type 0} (l : List ℕ) (t : State) (o : Outcome A) where
  pub read_ends : readable_of l ≡ done → ended_after (readable_of l) t o ≡ o
  read_ends q = rw q

module _ {A : Type 0} (o : Outcome A) (l : List ℕ) where
  pub after_refused : (e : DpeErrorCode) → o.answer ≡ Err e → l ≡ image_after o l
  after_refused e q = rw q

  pub after_done : (v : A) (w : List ℕ) → o.answer ≡ Ok v → w ≡ encode_state o.state → w ≡ image_after o l
  after_done v w q e = e ∙ rw q refl

  by_answer : (r : Result A DpeErrorCode) (w : List ℕ) → r ≡ o.answer → OnErr r (w ≡ l) → w ≡ encode_state o.state → w ≡ image_after o l
  by_answer (Ok v) w p u e = after_done v w (sym p) e
  by_answer (Err f) w p u e = u ∙ after_refused f (sym p)

  -- the bytes after a call on an image that reads
  pub ends_after : (w : List ℕ) {r : Result A DpeErrorCode} → Bytes w → Ends decode_state (λ x. readable_of x ≡ done) l w r o → w ≡ image_after o l
  ends_after w {r} b e = by_answer r w e.answers e.untouched (sym (state_back w b e.reads) ∙ ap encode_state e.table)

-- ---- a call on an image that was lent whole: t is what was lent, and w what was left in it

module _ {A : Type 0} (o : State → Outcome A) (l t w : List ℕ) {r : Result A DpeErrorCode} (q : readable_of l ≡ done) (p : t ≡ l)
    (e : Ends decode_state (λ x. readable_of x ≡ done) t w r (o (decode_state t))) where
  here : Ends decode_state (λ x. readable_of x ≡ done) l w r (o (decode_state l))
  here = rw p at e

  ended : ended_after (readable_of l) (decode_state l) (o (decode_state l)) ≡ o (decode_state l)
  ended = read_ends l (decode_state l) (o (decode_state l)) q

  pub lent_value : r ≡ (ended_after (readable_of l) (decode_state l) (o (decode_state l))).answer
  lent_value = here.answers ∙ ap (λ (x : Outcome A). x.answer) (sym ended)

  left : w ++ drop state_size l ≡ w
  left = whole l w (readable-size l q)

  pub lent_image : ((i : ℕ) → Fits w8 (get_or (w ++ drop state_size l) i 0))
      → w ++ drop state_size l ≡ image_after (ended_after (readable_of l) (decode_state l) (o (decode_state l))) l
  lent_image f =
      let b : Bytes w = record { each = λ i. let g = rw left at f i in omega (arith, g) } in
      left ∙ ends_after (o (decode_state l)) l w b here ∙ ap (λ (x : Outcome A). image_after x l) (sym ended)

-- what is lent is the whole image
pub lent_whole : (l t : List ℕ) → readable_of l ≡ done → IsFirstChunk l t state_size → t ≡ l
lent_whole l t q f = f.same ∙ take_all state_size l (omega (arith, readable-size l q))
