-- What validating an image answers. Assumes nothing: these are definitions.
use Rattle.std.specs.Prelude.{List, ℕ, Result}
use Rattle.std.specs.Result.{result_and}
use Rattle.error.specs.declared.DpeErrorCode.{DpeErrorCode}
use Rattle.image.specs.State.{decode_state, readable_of}
use Rattle.verdict.specs.Tests.{verdict_of, outcome_of}

-- why the image does not read, or the verdict on its table
abbrev pub validate_at : List ℕ → Result Unit DpeErrorCode
validate_at l = result_and (readable_of l) (outcome_of (verdict_of (decode_state l)))
