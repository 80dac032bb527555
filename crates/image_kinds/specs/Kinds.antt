-- The type byte and the state byte of a context of the image, and what reading them answers. Assumes nothing: these are definitions.
use Rattle.error.specs.Numbers.{done}
use Rattle.error.specs.declared.DpeErrorCode.{DpeErrorCode}
use Rattle.std.specs.Result.{result_and}
use Rattle.std.specs.Prelude.{ℕ, ◌+◌, ◌*◌, ◌%◌, Bool, cond, ◌&&◌, List, get_or, ltb, Result, Ok, Err}
use Rattle.error.specs.declared.DpeErrorCode.TheVariants.{Validation}
use Rattle.error.specs.declared.ValidationError.TheVariants.{BadContextState, BadContextType}

-- how many bytes a context has
abbrev pub context_size : ℕ
context_size = 144

-- the type byte and the state byte
abbrev pub type_byte_in : List ℕ → ℕ
type_byte_in l = get_or l 137 0

abbrev pub state_byte_in : List ℕ → ℕ
state_byte_in l = get_or l 138 0

-- a state byte is 0 to 2, and a type byte 0 or 1
abbrev pub state_answer : ℕ → Result Unit DpeErrorCode
state_answer b = cond (ltb b 3) done (Err (Validation BadContextState))

abbrev pub type_answer : ℕ → Result Unit DpeErrorCode
type_answer b = cond (ltb b 2) done (Err (Validation BadContextType))

-- what reading a context answers: the state byte is tested, and then the type byte
unfoldable pub context_answer : List ℕ → Result Unit DpeErrorCode
context_answer l = result_and (state_answer (state_byte_in l)) (type_answer (type_byte_in l))

-- both bytes are in range
unfoldable pub is_good : List ℕ → Bool
is_good l = ltb (state_byte_in l) 3 && ltb (type_byte_in l) 2

-- both bytes as one word, with one state more; a word whose type is below 2, and which has less than four states
abbrev pub kind_word : List ℕ → ℕ
kind_word l = type_byte_in l + 256 * state_byte_in l + 256

unfoldable pub good_word : ℕ → Bool
good_word w = ltb (w % 256) 2 && ltb w 1024
