-- What a walk answers its caller: the marks that it found, or a refusal. Assumes nothing: these are definitions.
use Rattle.std.specs.Prelude.{Result, Ok, Err, ℕ}
use Rattle.error.specs.declared.DpeErrorCode.{DpeErrorCode}
use Rattle.error.specs.declared.DpeErrorCode.TheVariants.{Added}
use Rattle.error.specs.declared.AddedErrorCode.TheVariants.{WalkLoops}
use Rattle.forest.specs.Walk.{loops, bad, ok}
use Rattle.forest.specs.Walk as walk

-- what a walk found, or its refusal: e where it met a slot that is refused
unfoldable pub told_of : DpeErrorCode → walk.Answer → Result ℕ DpeErrorCode
told_of e loops = Err (Added WalkLoops)
told_of e bad = Err e
told_of e (ok w) = Ok w
