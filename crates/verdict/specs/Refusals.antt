-- Where each refusal is given, in document 01's words and in the rule's. Assumes nothing: these are definitions.
use Rattle.std.specs.Prelude.{◌≡◌, ◌≢◌, ℕ, suc, ◌<◌, Result, Ok, Err}
use Rattle.error.specs.declared.ValidationError.{ValidationError}
use Rattle.error.specs.declared.ValidationError.TheVariants.{MultipleNormalConnectedComponents, CyclesInTree, InactiveContextInvalidParent, InactiveContextWithChildren, BadContextState, BadContextType, InactiveContextWithMeasurement, MixedContextLocality, MultipleDefaultContexts, SimulationNotSupported, ParentDoesNotExist, InternalDiceNotSupported, InternalInfoNotSupported, ChildDoesNotExist, InactiveContextWithFlagSet, LocalityMismatch, DanglingRetiredContext, MixedContextTypeConnectedComponents, ChildWithMultipleParents, ParentChildLinksCorrupted, AllowCaNotSupported, AllowX509NotSupported, InactiveParent, InactiveChild, DpeNotMarkedInitialized, InvalidMarker, VersionMismatch}
use Rattle.children.specs.Below.{count}
use Rattle.context.specs.declared.Context.{Context}
use Rattle.context.specs.Context.{no_parent}
use Rattle.table.specs.State.{magic, version_number}
use Rattle.verdict.specs.Tests.{Header, slot_test, locality_at, default_at, other_at, within, mix_test, locality_of}
use Rattle.verdict.specs.Rule.{Sound, Live, NormalRoot, ancestor, Alone, HasRoot}

-- the parts of the validator, in their order
pub data Part : Type 0 where
  the_marker : Part
  the_version : Part
  slots : Part
  localities : Part
  trees : Part
  nowhere : Part

-- which part gives an error
abbrev pub part_of : ValidationError → Part
part_of MultipleNormalConnectedComponents = trees
part_of CyclesInTree = trees
part_of InactiveContextInvalidParent = slots
part_of InactiveContextWithChildren = slots
part_of BadContextState = nowhere
part_of BadContextType = nowhere
part_of InactiveContextWithMeasurement = slots
part_of MixedContextLocality = localities
part_of MultipleDefaultContexts = localities
part_of SimulationNotSupported = slots
part_of ParentDoesNotExist = slots
part_of InternalDiceNotSupported = slots
part_of InternalInfoNotSupported = slots
part_of ChildDoesNotExist = slots
part_of InactiveContextWithFlagSet = slots
part_of LocalityMismatch = slots
part_of DanglingRetiredContext = slots
part_of MixedContextTypeConnectedComponents = trees
part_of ChildWithMultipleParents = nowhere
part_of ParentChildLinksCorrupted = slots
part_of AllowCaNotSupported = nowhere
part_of AllowX509NotSupported = slots
part_of InactiveParent = slots
part_of InactiveChild = slots
part_of DpeNotMarkedInitialized = slots
part_of InvalidMarker = the_marker
part_of VersionMismatch = the_version

-- the slot whose tests give e: marker and version are right, and every slot before it is sound
pub record FirstSlot (n : ℕ) (h : Header) (s : ℕ → Context) (e : ValidationError) : Type 0 where
  pub marker : h.marker ≡ magic
  pub version : h.version ≡ version_number
  pub at : ℕ
  pub slot : at < n
  pub before : (j : ℕ) → j < at → Sound n h s j
  pub fails : slot_test n h s at ≡ Err e

-- the test of the locality l up to the slot k
abbrev pub up_to : (ℕ → Context) → ℕ → ℕ → Result Unit ValidationError
up_to s l k = mix_test (count (within (locality_at s) (default_at s) l) (suc k)) (count (within (locality_at s) (other_at s) l) (suc k))

-- all tests of the locality l
abbrev pub in_locality : ℕ → (ℕ → Context) → ℕ → Result Unit ValidationError
in_locality n s l = locality_of n (within (locality_at s) (default_at s) l) (within (locality_at s) (other_at s) l)

-- the slot `at` that gives e within the first locality at fault, which is that of the slot `of`
pub record FirstPlace (n : ℕ) (h : Header) (s : ℕ → Context) (e : ValidationError) : Type 0 where
  pub marker : h.marker ≡ magic
  pub version : h.version ≡ version_number
  pub sound : (i : ℕ) → i < n → Sound n h s i
  pub of : ℕ
  pub slot : of < n
  pub others : (j : ℕ) → j < of → in_locality n s (s j).locality ≡ Ok tt
  pub at : ℕ
  pub place : at < n
  pub before : (k : ℕ) → k < at → up_to s (s of).locality k ≡ Ok tt
  pub fails : up_to s (s of).locality at ≡ Err e

-- all tests before those of the trees hold
pub record Earlier (n : ℕ) (h : Header) (s : ℕ → Context) : Type 0 where
  pub marker : h.marker ≡ magic
  pub version : h.version ≡ version_number
  pub sound : (i : ℕ) → i < n → Sound n h s i
  pub alone : Alone n s

-- parent steps lead from x to y, none of them from a slot that has no parent
pub record Under (s : ℕ → Context) (x y : ℕ) : Type 0 where
  pub steps : ℕ
  pub ends : ancestor s steps x ≡ y
  pub links : (k : ℕ) → k < steps → (s (ancestor s k x)).parent_idx ≢ no_parent

-- a live slot below a root has another type than the root
pub record Mixed (n : ℕ) (s : ℕ → Context) : Type 0 where
  pub root : ℕ
  pub other : ℕ
  pub live_root : Live n s root
  pub top : (s root).parent_idx ≡ no_parent
  pub live_other : Live n s other
  pub below : Under s other root
  pub unlike : (s other).context_type ≢ (s root).context_type

-- two Normal live contexts have no parent
pub record TwoNormal (n : ℕ) (s : ℕ → Context) : Type 0 where
  pub one : ℕ
  pub two : ℕ
  pub is_one : NormalRoot n s one
  pub is_two : NormalRoot n s two
  pub apart : one ≢ two

-- a live slot from which no n - 1 parent steps lead to a slot that has no parent
pub record Cyclic (n : ℕ) (s : ℕ → Context) : Type 0 where
  pub at : ℕ
  pub live : Live n s at
  pub rootless : ¬ HasRoot n s at
