-- The validator's tests, each a condition on one slot, and the verdict: the first that fails, in document 01's order. A table is a header and a
-- function s from a slot to its context; n is the number of slots. Assumes nothing: these are definitions.
use Rattle.error.specs.declared.DpeErrorCode.{DpeErrorCode}
use Rattle.std.specs.Prelude.{Bool, true, false, not, ◌&&◌, ◌||◌, ℕ, zero, suc, eqb, ltb, replicate, Result, Ok, Err}
use Rattle.error.specs.declared.ValidationError.{ValidationError}
use Rattle.error.specs.declared.ValidationError.TheVariants.{MultipleNormalConnectedComponents, CyclesInTree, InactiveContextInvalidParent, InactiveContextWithChildren, InactiveContextWithMeasurement, MixedContextLocality, MultipleDefaultContexts, SimulationNotSupported, ParentDoesNotExist, InternalDiceNotSupported, InternalInfoNotSupported, ChildDoesNotExist, InactiveContextWithFlagSet, LocalityMismatch, DanglingRetiredContext, MixedContextTypeConnectedComponents, ParentChildLinksCorrupted, AllowX509NotSupported, InactiveParent, InactiveChild, DpeNotMarkedInitialized, InvalidMarker, VersionMismatch}
use Rattle.error.specs.declared.DpeErrorCode.TheVariants.{Validation}
use Rattle.children.specs.Below.{count}
use Rattle.children.specs.Marks.{slot_count, mark_count, marked, count_below}
use Rattle.context.specs.declared.ContextState.{ContextState}
use Rattle.context.specs.declared.ContextState.TheVariants.{Inactive, Active, Retired}
use Rattle.context.specs.declared.tci.TciNodeData.{TciNodeData}
use Rattle.context.specs.declared.Context.{Context}
use Rattle.table.specs.declared.state.State.{State}
use Rattle.handle.specs.Handle.{same_bytes, is_default}
use Rattle.context.specs.Bytes.{tci_size, is_on, byte_of}
use Rattle.table.specs.Flags.{simulation_bit, x509_bit, info_bit, dice_bit}
use Rattle.context.specs.Context.{no_parent, is_active, is_normal, slot_of}
use Rattle.table.specs.State.{magic, version_number}
use Rattle.forest.specs.Search.{Found, forest, mixed_types, many_normal, cyclic, find_fault}
use Rattle.links.specs.Summary.{live_at, simulation_at, parent_at, kids_at, table_of}

-- the fields beside the contexts that the validator reads
pub record Header : Type 0 where
  pub marker : ℕ
  pub version : ℕ
  pub support : ℕ
  pub initialized : ℕ

-- the header of a table
abbrev pub header_of : State → Header
header_of t = record { marker = t.marker; version = t.version; support = t.support; initialized = t.has_initialized }

-- ---- one test after the other

-- a test that must hold, or else the error
unfoldable pub need : Bool → ValidationError → Result Unit ValidationError
need true e = Ok tt
need false e = Err e

-- the first fault of two
unfoldable pub first : Result Unit ValidationError → Result Unit ValidationError → Result Unit ValidationError
first (Ok tt) b = b
first (Err e) b = Err e

-- the first fault of f 0, f 1, .. below n
unfoldable pub first_below : (ℕ → Result Unit ValidationError) → ℕ → Result Unit ValidationError
first_below f zero = Ok tt
first_below f (suc n) = first (first_below f n) (f n)

-- the verdict v where b holds
unfoldable pub where_of : Bool → Result Unit ValidationError → Result Unit ValidationError
where_of true v = v
where_of false v = Ok tt

-- ---- marker and version

-- the marker is the one that a table must have
abbrev pub marker_right : Header → Bool
marker_right h = eqb h.marker magic

-- the version is the one that a table must have
abbrev pub version_right : Header → Bool
version_right h = eqb h.version version_number

-- ---- support: the word w against what a context uses

-- the parent is not 0xff
abbrev pub has_parent : Context → Bool
has_parent c = not (eqb c.parent_idx no_parent)

-- a Simulation context needs the support bit
abbrev pub simulation_supported : ℕ → Context → Bool
simulation_supported w c = is_normal c.context_type || marked w simulation_bit

-- internal dice needs its bit
abbrev pub dice_supported : ℕ → Context → Bool
dice_supported w c = not (is_on c.uses_internal_input_dice) || marked w dice_bit

-- internal info needs its bit
abbrev pub info_supported : ℕ → Context → Bool
info_supported w c = not (is_on c.uses_internal_input_info) || marked w info_bit

-- x509 with a parent needs its bit
abbrev pub x509_supported : ℕ → Context → Bool
x509_supported w c = not (has_parent c) || (not (is_on c.allow_x509) || marked w x509_bit)

-- simulation, dice, info, then x509 with a parent
unfoldable pub support_of : ℕ → Context → Result Unit ValidationError
support_of w c =
    first (need (simulation_supported w c) SimulationNotSupported)
    (first (need (dice_supported w c) InternalDiceNotSupported)
    (first (need (info_supported w c) InternalInfoNotSupported)
    (need (x509_supported w c) AllowX509NotSupported)))

-- ---- inactive

-- parent 0xff
abbrev pub idle_parent : Context → Bool
idle_parent c = eqb c.parent_idx no_parent

-- no mark of 64
abbrev pub idle_children : Context → Bool
idle_children c = eqb c.children 0

-- every field of the measurements is zero
unfoldable pub is_zero_tci : TciNodeData → Bool
is_zero_tci d =
    eqb d.tci_type 0 && same_bytes d.tci_cumulative (replicate tci_size 0) && same_bytes d.tci_current (replicate tci_size 0)
    && eqb d.locality 0 && eqb d.svn 0

-- tci zero
abbrev pub idle_tci : Context → Bool
idle_tci c = is_zero_tci c.tci

-- none of dice, x509, info
abbrev pub idle_flags : Context → Bool
idle_flags c = not (is_on c.uses_internal_input_dice || is_on c.allow_x509 || is_on c.uses_internal_input_info)

-- parent, marks, tci, flags
unfoldable pub inactive_of : Context → Result Unit ValidationError
inactive_of c =
    first (need (idle_parent c) InactiveContextInvalidParent)
    (first (need (idle_children c) InactiveContextWithChildren)
    (first (need (idle_tci c) InactiveContextWithMeasurement)
    (need (idle_flags c) InactiveContextWithFlagSet)))

-- ---- links: of the slot i, where functions say which slots are live, which marks each stores, and its parent

-- the parent p is a slot
abbrev pub parent_exists : ℕ → ℕ → Bool
parent_exists n p = ltb p n

-- it is live
abbrev pub parent_live : (ℕ → Bool) → ℕ → Bool
parent_live live p = live p

-- it marks i
abbrev pub parent_marks : (ℕ → ℕ) → ℕ → ℕ → Bool
parent_marks kids p i = marked (kids p) i

-- the parent is 0xff; or it is a slot, live, and marks i
unfoldable pub parent_test : ℕ → (ℕ → Bool) → (ℕ → ℕ) → ℕ → ℕ → Result Unit ValidationError
parent_test n live kids i p =
    where_of (not (eqb p no_parent))
    (first (need (parent_exists n p) ParentDoesNotExist)
    (first (need (parent_live live p) InactiveParent)
    (need (parent_marks kids p i) ParentChildLinksCorrupted)))

-- the child c is a slot
abbrev pub child_exists : ℕ → ℕ → Bool
child_exists n c = ltb c n

-- it is live
abbrev pub child_live : (ℕ → Bool) → ℕ → Bool
child_live live c = live c

-- it names i as its parent
abbrev pub child_names : (ℕ → ℕ) → ℕ → ℕ → Bool
child_names parent c i = eqb (parent c) i

-- the mark c of the slot i, whose marks are m
unfoldable pub child_test : ℕ → (ℕ → Bool) → (ℕ → ℕ) → ℕ → ℕ → ℕ → Result Unit ValidationError
child_test n live parent i m c =
    where_of (marked m c)
    (first (need (child_exists n c) ChildDoesNotExist)
    (first (need (child_live live c) InactiveChild)
    (need (child_names parent c i) ParentChildLinksCorrupted)))

-- the parent, then each of all 64 marks upward
unfoldable pub links_test : ℕ → (ℕ → Bool) → (ℕ → ℕ) → (ℕ → ℕ) → ℕ → Result Unit ValidationError
links_test n live kids parent i = first (parent_test n live kids i (parent i)) (first_below (child_test n live parent i (kids i)) mark_count)

-- the same, as the contexts say
abbrev pub links_at : ℕ → (ℕ → Context) → ℕ → Result Unit ValidationError
links_at n s i = links_test n (live_at s) (kids_at s) (parent_at s) i

-- ---- one slot: support, then by its state, then its locality; v is what its links say

-- a Normal context needs the has_initialized byte
abbrev pub initialized_for : ℕ → Context → Bool
initialized_for init c = not (is_normal c.context_type) || is_on init

-- at least one child among the marks below n
abbrev pub has_child : ℕ → Context → Bool
has_child n c = not (eqb (count_below n c.children) 0)

-- the locality equals the tci locality
abbrev pub locality_right : Context → Bool
locality_right c = eqb c.locality c.tci.locality

-- by the state
unfoldable pub state_of : ContextState → ℕ → ℕ → Context → Result Unit ValidationError → Result Unit ValidationError
state_of Inactive n init c v = inactive_of c
state_of Active n init c v = first (need (initialized_for init c) DpeNotMarkedInitialized) v
state_of Retired n init c v = first v (need (has_child n c) DanglingRetiredContext)

-- a context, by the support word w and the has_initialized byte
unfoldable pub context_of : ℕ → ℕ → ℕ → Context → Result Unit ValidationError → Result Unit ValidationError
context_of n w init c v = first (support_of w c) (first (state_of c.state n init c v) (need (locality_right c) LocalityMismatch))

-- the tests of the slot i
abbrev pub slot_test : ℕ → Header → (ℕ → Context) → ℕ → Result Unit ValidationError
slot_test n h s i = context_of n h.support h.initialized (s i) (links_at n s i)

-- ---- localities

-- the locality of a slot
abbrev pub locality_at : (ℕ → Context) → ℕ → ℕ
locality_at s i = (s i).locality

-- an active default
abbrev pub default_at : (ℕ → Context) → ℕ → Bool
default_at s i = is_active (s i).state && is_default (s i).handle

-- an active other
abbrev pub other_at : (ℕ → Context) → ℕ → Bool
other_at s i = is_active (s i).state && not (is_default (s i).handle)

-- what passes f in the locality l, where `place` is the locality of a slot
abbrev pub within : (ℕ → ℕ) → (ℕ → Bool) → ℕ → ℕ → Bool
within place f l i = eqb (place i) l && f i

-- of d active defaults so far: not two
abbrev pub one_default : ℕ → Bool
one_default d = ltb d 2

-- of d active defaults and o active others so far: not both
abbrev pub not_mixed : ℕ → ℕ → Bool
not_mixed d o = eqb d 0 || eqb o 0

-- two defaults, then a default and another
unfoldable pub mix_test : ℕ → ℕ → Result Unit ValidationError
mix_test d o = first (need (one_default d) MultipleDefaultContexts) (need (not_mixed d o) MixedContextLocality)

-- within one locality, slots upward: its active defaults and others are def and oth
unfoldable pub locality_of : ℕ → (ℕ → Bool) → (ℕ → Bool) → Result Unit ValidationError
locality_of n def oth = first_below (λ k. mix_test (count def (suc k)) (count oth (suc k))) n

-- the localities of the slots, upward
unfoldable pub localities_test : ℕ → (ℕ → ℕ) → (ℕ → Bool) → (ℕ → Bool) → Result Unit ValidationError
localities_test n place def oth = first_below (λ j. locality_of n (within place def (place j)) (within place oth (place j))) n

-- the same, as the contexts say
abbrev pub localities_of : ℕ → (ℕ → Context) → Result Unit ValidationError
localities_of n s = localities_test n (locality_at s) (default_at s) (other_at s)

-- ---- the forest

-- the number of a slot's type: 0 for Normal, 1 for Simulation
abbrev pub kind_at : (ℕ → Context) → ℕ → ℕ
kind_at s i = byte_of (simulation_at s i)

-- the error of what the forest's tests find
unfoldable pub found_fault : Found → Result Unit ValidationError
found_fault forest = Ok tt
found_fault mixed_types = Err MixedContextTypeConnectedComponents
found_fault many_normal = Err MultipleNormalConnectedComponents
found_fault cyclic = Err CyclesInTree

-- types below a root, Normal roots, cycles
unfoldable pub forest_of : ℕ → (ℕ → Context) → Result Unit ValidationError
forest_of n s = found_fault (find_fault n (table_of n s) (kind_at s))

-- ---- the verdict

-- marker, version, each slot upward, localities, the forest
unfoldable pub verdict : ℕ → Header → (ℕ → Context) → Result Unit ValidationError
verdict n h s =
    first (need (marker_right h) InvalidMarker)
    (first (need (version_right h) VersionMismatch)
    (first (first_below (slot_test n h s) n)
    (first (localities_of n s)
    (forest_of n s))))

-- the verdict on a table
abbrev pub verdict_of : State → Result Unit ValidationError
verdict_of t = verdict slot_count (header_of t) (slot_of t.contexts)

-- how a call ends that answers the verdict
abbrev pub outcome_of : Result Unit ValidationError → Result Unit DpeErrorCode
outcome_of (Ok tt) = Ok tt
outcome_of (Err e) = Err (Validation e)
