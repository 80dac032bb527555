-- The choice of a usable candidate from the bytes b of a lent buffer. A table is a function s from a slot to its context, and n is the number of
-- slots. Assumes nothing: these are definitions.
use Rattle.std.specs.Prelude.{Bool, cond, not, ◌&&◌, List, ℕ, ◌+◌, ◌*◌, leb, ltb, length, take, drop, Result, Ok, Err}
use Rattle.error.specs.declared.DpeErrorCode.{DpeErrorCode}
use Rattle.error.specs.declared.DpeErrorCode.TheVariants.{InternalError, Added}
use Rattle.error.specs.declared.InternalErrorCode.TheVariants.{HandleGenerationExhausted}
use Rattle.error.specs.declared.AddedErrorCode.TheVariants.{CandidatesShort}
use Rattle.children.specs.Below.{some, lowest}
use Rattle.context.specs.declared.Context.{Context}
use Rattle.handle.specs.Handle.{handle_size, same_bytes, is_default}

-- only eight are tried
abbrev pub attempts : ℕ
attempts = 8

-- candidate k: bytes 0 to 15, 16 to 31 and so on
abbrev pub candidate_at : List ℕ → ℕ → List ℕ
candidate_at b k = take handle_size (drop (k * handle_size) b)

-- the buffer holds k candidates; a part shorter than 16 is absent
abbrev pub holds : List ℕ → ℕ → Bool
holds b k = leb (k * handle_size) (length b)

-- slot i has the handle h
abbrev pub has_handle : (ℕ → Context) → List ℕ → ℕ → Bool
has_handle s h i = same_bytes (s i).handle h

-- usable: not all zero, and unequal to the handle of every slot, inactive ones too
unfoldable pub usable : ℕ → (ℕ → Context) → List ℕ → Bool
usable n s h = not (is_default h) && not (some (has_handle s h) n)

-- candidate k is there, and usable
abbrev pub usable_at : ℕ → (ℕ → Context) → List ℕ → ℕ → Bool
usable_at n s b k = holds b (k + 1) && usable n s (candidate_at b k)

-- none is usable: HandleGenerationExhausted after eight, CandidatesShort where the buffer holds fewer than eight
abbrev pub none_usable : List ℕ → Result (List ℕ) DpeErrorCode
none_usable b = cond (holds b attempts) (Err (InternalError HandleGenerationExhausted)) (Err (Added CandidatesShort))

-- the first usable one of the eight is taken
unfoldable pub chosen_in : ℕ → (ℕ → Context) → List ℕ → Result (List ℕ) DpeErrorCode
chosen_in n s b =
    cond (ltb (lowest (usable_at n s b) attempts) attempts)
    (Ok (candidate_at b (lowest (usable_at n s b) attempts)))
    (none_usable b)
