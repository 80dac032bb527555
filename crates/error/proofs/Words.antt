-- An ending's word tells its numbers: the halves of a refusal's word are its two numbers, and the word is 0 for success alone. Assumes nothing.
use Rattle.std.specs.Prelude.{Result, Ok, Err}
use Prim.Native.Nat.{ℕ, ◌+◌, ◌*◌, ◌/◌, ◌%◌, ◌^◌, ◌<◌}
use mathlib.Core.Path.{◌≡◌, refl}
use native.Mathlib.Omega.{arith}
use Rattle.error.specs.declared.InternalErrorCode.{InternalErrorCode}
use Rattle.error.specs.declared.InternalErrorCode.TheVariants.{HandleGenerationExhausted, ChildIndexOob, ChildrenBitmapIndexOob, ContextIndexOob, TciNodeCountExceeded, DestroyParentIndexOob}
use Rattle.error.specs.declared.ValidationError.{ValidationError}
use Rattle.error.specs.declared.ValidationError.TheVariants.{MultipleNormalConnectedComponents, CyclesInTree, InactiveContextInvalidParent, InactiveContextWithChildren, BadContextState, BadContextType, InactiveContextWithMeasurement, MixedContextLocality, MultipleDefaultContexts, SimulationNotSupported, ParentDoesNotExist, InternalDiceNotSupported, InternalInfoNotSupported, ChildDoesNotExist, InactiveContextWithFlagSet, LocalityMismatch, DanglingRetiredContext, MixedContextTypeConnectedComponents, ChildWithMultipleParents, ParentChildLinksCorrupted, AllowCaNotSupported, AllowX509NotSupported, InactiveParent, InactiveChild, DpeNotMarkedInitialized, InvalidMarker, VersionMismatch}
use Rattle.error.specs.declared.AddedErrorCode.{AddedErrorCode}
use Rattle.error.specs.declared.AddedErrorCode.TheVariants.{BadLength, WalkLoops, CandidatesShort}
use Rattle.error.specs.declared.DpeErrorCode.{DpeErrorCode}
use Rattle.error.specs.declared.DpeErrorCode.TheVariants.{InternalError, InvalidCommand, InvalidArgument, InvalidHandle, InvalidLocality, ArgumentNotSupported, MaxTcis, Validation, Added}
use Rattle.error.specs.Numbers.{outer_of, internal_of, validation_of, added_of, inner_of, word_of}

-- an inner number fits the low half

internal-small : (x : InternalErrorCode) → internal_of x < 2 ^ 32
internal-small HandleGenerationExhausted = omega arith
internal-small ChildIndexOob = omega arith
internal-small ChildrenBitmapIndexOob = omega arith
internal-small ContextIndexOob = omega arith
internal-small TciNodeCountExceeded = omega arith
internal-small DestroyParentIndexOob = omega arith

validation-small : (x : ValidationError) → validation_of x < 2 ^ 32
validation-small MultipleNormalConnectedComponents = omega arith
validation-small CyclesInTree = omega arith
validation-small InactiveContextInvalidParent = omega arith
validation-small InactiveContextWithChildren = omega arith
validation-small BadContextState = omega arith
validation-small BadContextType = omega arith
validation-small InactiveContextWithMeasurement = omega arith
validation-small MixedContextLocality = omega arith
validation-small MultipleDefaultContexts = omega arith
validation-small SimulationNotSupported = omega arith
validation-small ParentDoesNotExist = omega arith
validation-small InternalDiceNotSupported = omega arith
validation-small InternalInfoNotSupported = omega arith
validation-small ChildDoesNotExist = omega arith
validation-small InactiveContextWithFlagSet = omega arith
validation-small LocalityMismatch = omega arith
validation-small DanglingRetiredContext = omega arith
validation-small MixedContextTypeConnectedComponents = omega arith
validation-small ChildWithMultipleParents = omega arith
validation-small ParentChildLinksCorrupted = omega arith
validation-small AllowCaNotSupported = omega arith
validation-small AllowX509NotSupported = omega arith
validation-small InactiveParent = omega arith
validation-small InactiveChild = omega arith
validation-small DpeNotMarkedInitialized = omega arith
validation-small InvalidMarker = omega arith
validation-small VersionMismatch = omega arith

added-small : (x : AddedErrorCode) → added_of x < 2 ^ 32
added-small BadLength = omega arith
added-small WalkLoops = omega arith
added-small CandidatesShort = omega arith

-- a refusal has an outer number, and its inner one fits
numbers : (e : DpeErrorCode) → (0 < outer_of e) × (inner_of e < 2 ^ 32)
numbers (InternalError x) = (omega arith, internal-small x)
numbers InvalidCommand = (omega arith, omega arith)
numbers InvalidArgument = (omega arith, omega arith)
numbers InvalidHandle = (omega arith, omega arith)
numbers InvalidLocality = (omega arith, omega arith)
numbers ArgumentNotSupported = (omega arith, omega arith)
numbers MaxTcis = (omega arith, omega arith)
numbers (Validation x) = (omega arith, validation-small x)
numbers (Added x) = (omega arith, added-small x)

halves : (a b : ℕ) → b < 2 ^ 32 → ((a * 2 ^ 32 + b) / 2 ^ 32 ≡ a) × ((a * 2 ^ 32 + b) % 2 ^ 32 ≡ b)
halves a b h = (omega arith, omega arith)

pub outer_half : (A : Type 0) (e : DpeErrorCode) → word_of {A = A} (Err e) / 2 ^ 32 ≡ outer_of e
outer_half A e = (halves (outer_of e) (inner_of e) (numbers e).1).0

pub inner_half : (A : Type 0) (e : DpeErrorCode) → word_of {A = A} (Err e) % 2 ^ 32 ≡ inner_of e
inner_half A e = (halves (outer_of e) (inner_of e) (numbers e).1).1

-- of an answer with any value: where the word is 0, there is a value
pub success-alone : {A : Type 0} (o : Result A DpeErrorCode) → word_of o ≡ 0 → (x : A) × (o ≡ Ok x)
success-alone (Ok x) z = (x, refl)
success-alone (Err e) z = absurd (omega (arith, (numbers e).0))
