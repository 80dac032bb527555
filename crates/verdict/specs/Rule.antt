-- The forest rule of document 01. No search stands in it. A table is a header and a function s from a slot to its context; n is the number of
-- slots. Assumes nothing: these are definitions.
use Rattle.std.specs.Prelude.{◌≡◌, ◌≢◌, true, ℕ, ◌<◌}
use Rattle.children.specs.Marks.{slot_count, mark_count, marked}
use Rattle.context.specs.declared.ContextState.{ContextState}
use Rattle.context.specs.declared.ContextState.TheVariants.{Inactive, Active, Retired}
use Rattle.context.specs.declared.ContextType.TheVariants.{Normal, Simulation}
use Rattle.context.specs.declared.Context.{Context}
use Rattle.table.specs.declared.state.State.{State}
use Rattle.handle.specs.Handle.{default_handle}
use Rattle.table.specs.Flags.{simulation_bit, x509_bit, info_bit, dice_bit}
use Rattle.context.specs.Context.{no_parent, zero_tci, slot_of}
use Rattle.table.specs.State.{magic, version_number}
use Rattle.links.specs.Summary.{parent_at, steps_up}
use Rattle.verdict.specs.Tests.{Header, header_of}

-- ---- the tests of a slot

-- what a context uses is supported
pub record Supported (h : Header) (c : Context) : Type 0 where
  pub simulation : c.context_type ≡ Simulation → marked h.support simulation_bit ≡ true
  pub dice : c.uses_internal_input_dice ≢ 0 → marked h.support dice_bit ≡ true
  pub info : c.uses_internal_input_info ≢ 0 → marked h.support info_bit ≡ true
  pub x509 : c.parent_idx ≢ no_parent → c.allow_x509 ≢ 0 → marked h.support x509_bit ≡ true

-- inactive: no parent, no mark, no measurement, no flag
pub record Idle (c : Context) : Type 0 where
  pub parent : c.parent_idx ≡ no_parent
  pub children : c.children ≡ 0
  pub tci : c.tci ≡ zero_tci
  pub dice : c.uses_internal_input_dice ≡ 0
  pub x509 : c.allow_x509 ≡ 0
  pub info : c.uses_internal_input_info ≡ 0

-- a slot that is not inactive
pub record Live (n : ℕ) (s : ℕ → Context) (i : ℕ) : Type 0 where
  pub slot : i < n
  pub live : (s i).state ≢ Inactive

-- links: the parent is live and marks this slot; each of 64 marks is of a live slot that names this one as parent
pub record Tied (n : ℕ) (s : ℕ → Context) (i : ℕ) : Type 0 where
  pub parent : (s i).parent_idx ≢ no_parent → Live n s (s i).parent_idx × (marked (s (s i).parent_idx).children i ≡ true)
  pub children : (c : ℕ) → c < mark_count → marked (s i).children c ≡ true → Live n s c × ((s c).parent_idx ≡ i)

-- at least one child among the marks below n
abbrev pub HasChild : ℕ → Context → Type 0
HasChild n c = (k : ℕ) × (k < n) × (marked c.children k ≡ true)

-- by the state
abbrev pub InState : ContextState → ℕ → Header → (ℕ → Context) → ℕ → Type 0
InState Inactive n h s i = Idle (s i)
InState Active n h s i = ((s i).context_type ≡ Normal → h.initialized ≢ 0) × Tied n s i
InState Retired n h s i = Tied n s i × HasChild n (s i)

-- the tests hold for the slot i
pub record Sound (n : ℕ) (h : Header) (s : ℕ → Context) (i : ℕ) : Type 0 where
  pub supported : Supported h (s i)
  pub in_state : InState (s i).state n h s i
  pub locality : (s i).locality ≡ (s i).tci.locality

-- ---- the rule

-- an active slot
pub record ActiveIn (n : ℕ) (s : ℕ → Context) (i : ℕ) : Type 0 where
  pub slot : i < n
  pub active : (s i).state ≡ Active

-- a Normal live context with no parent
pub record NormalRoot (n : ℕ) (s : ℕ → Context) (i : ℕ) : Type 0 where
  pub live : Live n s i
  pub root : (s i).parent_idx ≡ no_parent
  pub normal : (s i).context_type ≡ Normal

-- k parent steps
abbrev pub ancestor : (ℕ → Context) → ℕ → ℕ → ℕ
ancestor s k i = steps_up (parent_at s) k i

-- of two active contexts of one locality neither is a default
abbrev pub Alone : ℕ → (ℕ → Context) → Type 0
Alone n s = (i j : ℕ) → ActiveIn n s i → ActiveIn n s j → i ≢ j → (s i).locality ≡ (s j).locality → (s i).handle ≢ default_handle

-- along every link the type is equal
abbrev pub Alike : ℕ → (ℕ → Context) → Type 0
Alike n s = (i : ℕ) → Live n s i → (s i).parent_idx ≢ no_parent → (s i).context_type ≡ (s (s i).parent_idx).context_type

-- at most one Normal live context has no parent
abbrev pub OneNormal : ℕ → (ℕ → Context) → Type 0
OneNormal n s = (i j : ℕ) → NormalRoot n s i → NormalRoot n s j → i ≡ j

-- at most n - 1 parent steps lead from i to a slot that has no parent
abbrev pub HasRoot : ℕ → (ℕ → Context) → ℕ → Type 0
HasRoot n s i = (k : ℕ) × (k < n) × ((s (ancestor s k i)).parent_idx ≡ no_parent)

-- the forest rule, sentence by sentence
pub record ForestRule (n : ℕ) (h : Header) (s : ℕ → Context) : Type 0 where
  pub marker : h.marker ≡ magic
  pub version : h.version ≡ version_number
  pub sound : (i : ℕ) → i < n → Sound n h s i
  pub alone : Alone n s
  pub alike : Alike n s
  pub one_normal : OneNormal n s
  pub rooted : (i : ℕ) → Live n s i → HasRoot n s i

-- the rule of a table
abbrev pub Forest : State → Type 0
Forest t = ForestRule slot_count (header_of t) (slot_of t.contexts)
