-- The state image, from document 01's offsets; those behind the contexts follow from the number of slots, and `proofs/Reading.antt` shows that they
-- are document 01's numbers. Assumes nothing: these are definitions.
use Rattle.error.specs.Numbers.{done}
use Rattle.error.specs.declared.DpeErrorCode.{DpeErrorCode}
use Rattle.std.specs.Prelude.{ℕ, zero, suc, ◌+◌, ◌*◌, Bool, cond, ◌&&◌, List, [], ◌∷◌, ◌++◌, length, get_or, eqb, Result, Ok, Err}
use Rattle.error.specs.declared.DpeErrorCode.TheVariants.{Added}
use Rattle.error.specs.declared.AddedErrorCode.TheVariants.{BadLength}
use Rattle.children.specs.Below.{every, list_of}
use Rattle.children.specs.Marks.{slot_count}
use Rattle.wire.specs.Le.{part, le, le_bytes}
use Rattle.context.specs.declared.Context.{Context}
use Rattle.table.specs.declared.state.State.{State}
use Rattle.image_kinds.specs.Kinds.{context_size, context_answer, is_good}
use Rattle.image_context.specs.Context.{decode_context, encode_context}
use Rattle.std.specs.Result.{result_and}

-- where the contexts start
abbrev pub contexts_at : ℕ
contexts_at = 8

-- where they end, and the support word follows
abbrev pub support_at : ℕ
support_at = contexts_at + context_size * slot_count

-- how many bytes an image has
abbrev pub state_size : ℕ
state_size = support_at + 8

-- ---- read: each field at its offset

-- the bytes of slot i
abbrev pub slot_bytes : List ℕ → ℕ → List ℕ
slot_bytes l i = part (contexts_at + context_size * i) context_size l

-- slot i of an image
abbrev pub slot_in : List ℕ → ℕ → Context
slot_in l i = decode_context (slot_bytes l i)

-- the table of an image
unfoldable pub decode_state : List ℕ → State
decode_state l = record {
  marker = le (part 0 4 l);
  version = le (part 4 4 l);
  contexts = list_of (slot_in l) slot_count;
  support = le (part support_at 4 l);
  flags = le (part (support_at + 4) 2 l);
  has_initialized = get_or l (support_at + 6) 0;
  reserved = get_or l (support_at + 7) 0;
}

-- a, where l is as long as an image, and BadLength elsewhere
abbrev pub if_whole : List ℕ → Result Unit DpeErrorCode → Result Unit DpeErrorCode
if_whole l a = cond (eqb (length l) state_size) a (Err (Added BadLength))

-- the first refusal of the slots below n, upward
unfoldable pub slots_answer : ℕ → List ℕ → Result Unit DpeErrorCode
slots_answer zero l = done
slots_answer (suc n) l = result_and (slots_answer n l) (context_answer (slot_bytes l n))

-- what reading an image answers
unfoldable pub readable_of : List ℕ → Result Unit DpeErrorCode
readable_of l = if_whole l (slots_answer slot_count l)

-- slot i is good
abbrev pub good_slot : List ℕ → ℕ → Bool
good_slot l i = is_good (slot_bytes l i)

-- an image reads: it is as long as one, and every slot is good
unfoldable pub is_readable : List ℕ → Bool
is_readable l = eqb (length l) state_size && every (good_slot l) slot_count

-- what reading an image gives: its table, or the first refusal
unfoldable pub read_state : List ℕ → Result State DpeErrorCode
read_state l = result_and (readable_of l) (Ok (decode_state l))

-- ---- written: field after field

-- the bytes of contexts, one after the other
unfoldable pub encode_slots : List Context → List ℕ
encode_slots [] = []
encode_slots (c ∷ cs) = encode_context c ++ encode_slots cs

-- the image of a table
unfoldable pub encode_state : State → List ℕ
encode_state t =
    le_bytes 4 t.marker ++ le_bytes 4 t.version ++ encode_slots t.contexts ++ le_bytes 4 t.support ++ le_bytes 2 t.flags
    ++ (t.has_initialized ∷ t.reserved ∷ [])

-- what writing into l answers
unfoldable pub write_answer : List ℕ → Result Unit DpeErrorCode
write_answer l = if_whole l done

-- what l holds after writing: the image, or what it held where it is no image's length
unfoldable pub written : State → List ℕ → List ℕ
written t l = cond (eqb (length l) state_size) (encode_state t) l
