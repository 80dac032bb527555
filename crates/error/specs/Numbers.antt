-- Document 01's numbers of every refusal: the outer one, and the inner one where the case carries an inner enum. Assumes nothing.
use Rattle.std.specs.Prelude.{ℕ, ◌+◌, ◌*◌, ◌^◌, Result, Ok, Err}
use Rattle.error.specs.declared.InternalErrorCode.{InternalErrorCode}
use Rattle.error.specs.declared.InternalErrorCode.TheVariants.{HandleGenerationExhausted, ChildIndexOob, ChildrenBitmapIndexOob, ContextIndexOob, TciNodeCountExceeded, DestroyParentIndexOob}
use Rattle.error.specs.declared.ValidationError.{ValidationError}
use Rattle.error.specs.declared.ValidationError.TheVariants.{MultipleNormalConnectedComponents, CyclesInTree, InactiveContextInvalidParent, InactiveContextWithChildren, BadContextState, BadContextType, InactiveContextWithMeasurement, MixedContextLocality, MultipleDefaultContexts, SimulationNotSupported, ParentDoesNotExist, InternalDiceNotSupported, InternalInfoNotSupported, ChildDoesNotExist, InactiveContextWithFlagSet, LocalityMismatch, DanglingRetiredContext, MixedContextTypeConnectedComponents, ChildWithMultipleParents, ParentChildLinksCorrupted, AllowCaNotSupported, AllowX509NotSupported, InactiveParent, InactiveChild, DpeNotMarkedInitialized, InvalidMarker, VersionMismatch}
use Rattle.error.specs.declared.AddedErrorCode.{AddedErrorCode}
use Rattle.error.specs.declared.AddedErrorCode.TheVariants.{BadLength, WalkLoops, CandidatesShort}
use Rattle.error.specs.declared.DpeErrorCode.{DpeErrorCode}
use Rattle.error.specs.declared.DpeErrorCode.TheVariants.{InternalError, InvalidCommand, InvalidArgument, InvalidHandle, InvalidLocality, ArgumentNotSupported, MaxTcis, Validation, Added}

-- success, where there is nothing more to tell
abbrev pub done : {E : Type 0} → Result (Unit {0}) E
done = Ok tt

abbrev pub outer_of : DpeErrorCode → ℕ
outer_of (InternalError x) = 1
outer_of InvalidCommand = 2
outer_of InvalidArgument = 3
outer_of InvalidHandle = 0x80
outer_of InvalidLocality = 0x81
outer_of ArgumentNotSupported = 0x83
outer_of MaxTcis = 0x91
outer_of (Validation x) = 0x03000000
outer_of (Added x) = 0x04000000

abbrev pub internal_of : InternalErrorCode → ℕ
internal_of HandleGenerationExhausted = 22
internal_of ChildIndexOob = 27
internal_of ChildrenBitmapIndexOob = 28
internal_of ContextIndexOob = 30
internal_of TciNodeCountExceeded = 34
internal_of DestroyParentIndexOob = 35

abbrev pub validation_of : ValidationError → ℕ
validation_of MultipleNormalConnectedComponents = 0x0
validation_of CyclesInTree = 0x1
validation_of InactiveContextInvalidParent = 0x2
validation_of InactiveContextWithChildren = 0x3
validation_of BadContextState = 0x4
validation_of BadContextType = 0x5
validation_of InactiveContextWithMeasurement = 0x6
validation_of MixedContextLocality = 0x7
validation_of MultipleDefaultContexts = 0x8
validation_of SimulationNotSupported = 0x9
validation_of ParentDoesNotExist = 0xA
validation_of InternalDiceNotSupported = 0xB
validation_of InternalInfoNotSupported = 0xC
validation_of ChildDoesNotExist = 0xD
validation_of InactiveContextWithFlagSet = 0xE
validation_of LocalityMismatch = 0xF
validation_of DanglingRetiredContext = 0x10
validation_of MixedContextTypeConnectedComponents = 0x11
validation_of ChildWithMultipleParents = 0x12
validation_of ParentChildLinksCorrupted = 0x13
validation_of AllowCaNotSupported = 0x14
validation_of AllowX509NotSupported = 0x15
validation_of InactiveParent = 0x16
validation_of InactiveChild = 0x17
validation_of DpeNotMarkedInitialized = 0x18
validation_of InvalidMarker = 0x19
validation_of VersionMismatch = 0x1A

abbrev pub added_of : AddedErrorCode → ℕ
added_of BadLength = 1
added_of WalkLoops = 2
added_of CandidatesShort = 3

abbrev pub inner_of : DpeErrorCode → ℕ
inner_of (InternalError x) = internal_of x
inner_of InvalidCommand = 0
inner_of InvalidArgument = 0
inner_of InvalidHandle = 0
inner_of InvalidLocality = 0
inner_of ArgumentNotSupported = 0
inner_of MaxTcis = 0
inner_of (Validation x) = validation_of x
inner_of (Added x) = added_of x

-- an ending as one word: the outer number in the high half, the inner in the low; 0 for success
abbrev pub word_of : {A : Type 0} → Result A DpeErrorCode → ℕ
word_of (Ok x) = 0
word_of (Err e) = outer_of e * 2 ^ 32 + inner_of e
