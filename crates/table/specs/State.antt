-- The whole table: a new one, its updates, and what is counted and looked for in it. Where slots are looked through, a table is a function s
-- from a slot to its context, and n is the number of slots. Assumes nothing: these are definitions.
use Rattle.std.specs.Prelude.{Bool, cond, List, ℕ, ltb, replicate, set, Result, Ok, Err}
use Rattle.error.specs.declared.DpeErrorCode.{DpeErrorCode}
use Rattle.error.specs.declared.DpeErrorCode.TheVariants.{MaxTcis}
use Rattle.children.specs.Below.{count, lowest}
use Rattle.children.specs.Marks.{slot_count}
use Rattle.context.specs.declared.ContextState.{ContextState}
use Rattle.context.specs.declared.Context.{Context}
use Rattle.table.specs.declared.state.State.{State}
use Rattle.table.specs.declared.state.Outcome.{Outcome}
use Rattle.context.specs.Context.{new_context, same_state, is_inactive, slot_of}

-- the marker and the version that a table must have
abbrev pub magic : ℕ
magic = 0x44504553

abbrev pub version_number : ℕ
version_number = 1

-- a table with no context
abbrev pub new_state : ℕ → ℕ → State
new_state support flags = record {
  marker = magic;
  version = version_number;
  contexts = replicate slot_count new_context;
  support = support;
  flags = flags;
  has_initialized = 0;
  reserved = 0;
}

-- ---- updates

abbrev pub with_contexts : State → List Context → State
with_contexts t cs = record {
  marker = t.marker;
  version = t.version;
  contexts = cs;
  support = t.support;
  flags = t.flags;
  has_initialized = t.has_initialized;
  reserved = t.reserved;
}

abbrev pub with_slot : State → ℕ → Context → State
with_slot t i c = with_contexts t (set t.contexts i c)

abbrev pub with_initialized : State → State
with_initialized t = record {
  marker = t.marker;
  version = t.version;
  contexts = t.contexts;
  support = t.support;
  flags = t.flags;
  has_initialized = 1;
  reserved = t.reserved;
}

-- ---- how a call ends that may change the table

-- a refusal: the table as it was
abbrev pub refused_of : {A : Type 0} → State → DpeErrorCode → Outcome A
refused_of t e = record { answer = Err e; state = t }

-- a new handle was given, and the table is t
abbrev pub handed_of : State → List ℕ → Outcome (List ℕ)
handed_of t h = record { answer = Ok h; state = t }

-- ---- slots

-- the contexts of a table, as a function of the slot
abbrev pub contexts_in : State → ℕ → Context
contexts_in t = slot_of t.contexts

-- the contexts in a state
abbrev pub is_in_state : (ℕ → Context) → ContextState → ℕ → Bool
is_in_state s k i = same_state k (s i).state

abbrev pub idle_at : (ℕ → Context) → ℕ → Bool
idle_at s i = is_inactive (s i).state

-- how many contexts are in a state
abbrev pub count_in : ℕ → (ℕ → Context) → ContextState → ℕ
count_in n s k = count (is_in_state s k) n

-- the lowest inactive slot; none: MaxTcis
unfoldable pub free_in : ℕ → (ℕ → Context) → Result ℕ DpeErrorCode
free_in n s = cond (ltb (lowest (idle_at s) n) n) (Ok (lowest (idle_at s) n)) (Err MaxTcis)
