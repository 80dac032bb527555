-- The exported calls over a lent image l: each answers a word, and says what every lent place holds afterwards. Reading refusals come first; a
-- refusal leaves the image and the places as they were. Assumes nothing: these are definitions.
use Rattle.std.specs.Prelude.{cond, List, ℕ, ltb, Result, Ok, Err}
use Rattle.std.specs.Result.{result_and}
use Rattle.error.specs.declared.DpeErrorCode.{DpeErrorCode}
use Rattle.error.specs.declared.DpeErrorCode.TheVariants.{InvalidArgument}
use Rattle.children.specs.Marks.{slot_count}
use Rattle.context.specs.Context.{slot_of}
use Rattle.table.specs.declared.state.State.{State}
use Rattle.table.specs.declared.state.Outcome.{Outcome}
use Rattle.table.specs.State.{count_in, refused_of}
use Rattle.image_context.specs.Context.{state_of}
use Rattle.image.specs.State.{decode_state, encode_state, readable_of}
use Rattle.lookup.specs.Lookup.{lookup_in}
use Rattle.initialize_context.specs.Initialize.{initialized_of}
use Rattle.rotate_context.specs.Rotate.{rotated_of}
use Rattle.walks.specs.Walks.{descendants_in}
use Rattle.walks_path.specs.declared.Path.{Path}
use Rattle.walks_path.specs.Path.{path_in}
use Rattle.destroy_context.specs.Destroy.{destroy_of}

-- ---- after reading

abbrev pub ended_after : {A : Type 0} → Result (Unit {0}) DpeErrorCode → State → Outcome A → Outcome A
ended_after (Ok read) t o = o
ended_after (Err e) t o = refused_of t e

-- ---- the calls; that of the validator stands in validation/specs

abbrev pub lookup_at : List ℕ → List ℕ → ℕ → Result ℕ DpeErrorCode
lookup_at l h locality = result_and (readable_of l) (lookup_in slot_count (slot_of (decode_state l).contexts) h locality)

abbrev pub initialize_at : List ℕ → ℕ → ℕ → List ℕ → Outcome (List ℕ)
initialize_at l flags locality b = ended_after (readable_of l) (decode_state l) (initialized_of (decode_state l) flags locality b)

abbrev pub rotate_at : List ℕ → List ℕ → ℕ → ℕ → List ℕ → Outcome (List ℕ)
rotate_at l h locality flags b = ended_after (readable_of l) (decode_state l) (rotated_of (decode_state l) h locality flags b)

abbrev pub destroy_at : List ℕ → List ℕ → ℕ → Outcome (Unit {0})
destroy_at l h locality = ended_after (readable_of l) (decode_state l) (destroy_of (decode_state l) h locality)

abbrev pub descendants_at : List ℕ → ℕ → Result ℕ DpeErrorCode
descendants_at l slot = result_and (readable_of l) (descendants_in slot_count (slot_of (decode_state l).contexts) slot)

abbrev pub path_at : List ℕ → ℕ → Result Path DpeErrorCode
path_at l slot = result_and (readable_of l) (path_in slot_count (slot_of (decode_state l).contexts) slot)

-- how many contexts are in a state, given as its byte; a byte that is no state: InvalidArgument
abbrev pub count_at : List ℕ → ℕ → Result ℕ DpeErrorCode
count_at l state =
    result_and (readable_of l)
    (cond (ltb state 3) (Ok (count_in slot_count (slot_of (decode_state l).contexts) (state_of state))) (Err InvalidArgument))

-- ---- the image afterwards: the table written, or after a refusal as it was; the other lent places are a `result_unwrap_or`

abbrev written_where : {A : Type 0} → Result A DpeErrorCode → List ℕ → List ℕ → List ℕ
written_where (Ok x) new old = new
written_where (Err e) new old = old

abbrev pub image_after : {A : Type 0} → Outcome A → List ℕ → List ℕ
image_after o l = written_where o.answer (encode_state o.state) l
