-- The worked examples of document 01 that are marked P, as one table: a table, what is asked of it, and what is expected. Assumes nothing: these
-- are definitions.
use Rattle.error.specs.declared.DpeErrorCode.{DpeErrorCode}
use Rattle.std.specs.Prelude.{List, [], ◌∷◌, ℕ, ◌+◌, ◌*◌, ◌^◌, replicate, Result, Ok, Err}
use Rattle.error.specs.Numbers.{word_of, done}
use Rattle.children.specs.Marks.{slot_count}
use Rattle.context.specs.declared.ContextState.{ContextState}
use Rattle.context.specs.declared.ContextState.TheVariants.{Active, Retired}
use Rattle.context.specs.declared.Context.{Context}
use Rattle.table.specs.declared.state.State.{State}
use Rattle.table.specs.declared.state.Outcome.{Outcome}
use Rattle.handle.specs.Handle.{handle_size}
use Rattle.context.specs.Context.{no_parent, new_context, slot_of}
use Rattle.table.specs.State.{new_state, with_slot, with_initialized}
use Rattle.links.specs.Summary.{live_at, kids_at, marks_of}
use Rattle.lookup.specs.Lookup.{lookup_in}
use Rattle.initialize_context.specs.Initialize.{initialized_of}
use Rattle.walks.specs.Walks.{descendants_in}
use Rattle.destroy_context.specs.Destroy.{destroy_of}
use Rattle.verdict.specs.Tests.{verdict_of, outcome_of}

-- ---- what is asked

pub data Asked : Type 0 where
  -- nothing but the verdict
  verdict_only : Asked
  -- initialise with these flags, in a locality, from these candidates; the value is the slot of the new context
  initialise : ℕ → ℕ → List ℕ → Asked
  -- destroy the context with the handle of sixteen times this byte, in locality 7; the values are the live slots and the children of slot 1
  destroy : ℕ → Asked
  -- the descendants of a slot; the value is their marks
  descendants : ℕ → Asked

-- what came of it: the answer's word, the values, and the word of the verdict afterwards
pub record Told : Type 0 where
  pub word : ℕ
  pub values : List ℕ
  pub verdict : ℕ

-- ---- how it is computed

abbrev pub verdict_word : State → ℕ
verdict_word t = word_of (outcome_of (verdict_of t))

-- the value of an answer; a refusal has none
abbrev pub value_of : Result ℕ DpeErrorCode → List ℕ
value_of (Ok i) = i ∷ []
value_of (Err e) = []

-- the slot of the context that was given the new handle
abbrev pub made_value : State → ℕ → Result (List ℕ) DpeErrorCode → List ℕ
made_value t l (Ok h) = value_of (lookup_in slot_count (slot_of t.contexts) h l)
made_value t l (Err e) = []

abbrev pub initialised : ℕ → Outcome (List ℕ) → Told
initialised l n = record {
  word = word_of n.answer;
  values = made_value n.state l n.answer;
  verdict = verdict_word n.state;
}

abbrev pub destroyed_result : Outcome (Unit {0}) → Told
destroyed_result d = record {
  word = word_of d.answer;
  values = marks_of (live_at (slot_of d.state.contexts)) slot_count ∷ kids_at (slot_of d.state.contexts) 1 ∷ [];
  verdict = verdict_word d.state;
}

abbrev pub marks_result : State → Result ℕ DpeErrorCode → Told
marks_result t m = record { word = word_of m; values = value_of m; verdict = verdict_word t }

abbrev pub handle_of : ℕ → List ℕ
handle_of b = replicate handle_size b

abbrev pub result_of : State → Asked → Told
result_of t verdict_only = record { word = word_of done; values = []; verdict = verdict_word t }
result_of t (initialise flags l b) = initialised l (initialized_of t flags l b)
result_of t (destroy b) = destroyed_result (destroy_of t (handle_of b) 7)
result_of t (descendants i) = marks_result t (descendants_in slot_count (slot_of t.contexts) i)

-- ---- the tables

abbrev pub simulation_support : ℕ
simulation_support = 2 ^ 31

abbrev pub ask_default : ℕ
ask_default = 2 ^ 30

abbrev pub ask_simulation : ℕ
ask_simulation = 2 ^ 31

-- a Normal context with no flags, in locality l, with the handle of sixteen times the byte b
abbrev pub link : ContextState → ℕ → ℕ → ℕ → ℕ → Context
link state parent marks b l = record {
  handle = handle_of b;
  tci = record { tci_type = 0; tci_cumulative = new_context.tci.tci_cumulative; tci_current = new_context.tci.tci_current; locality = l; svn = 0 };
  children = marks;
  locality = l;
  parent_idx = parent;
  context_type = new_context.context_type;
  state = state;
  uses_internal_input_info = 0;
  uses_internal_input_dice = 0;
  allow_x509 = 0;
  allow_export_cdi = 0;
  allow_recursive = 0;
}

-- a new table, initialised, with these contexts in its first slots
abbrev pub tabled : ℕ → List Context → State → State
tabled i [] t = t
tabled i (c ∷ cs) t = tabled (i + 1) cs (with_slot t i c)

abbrev pub initialised_with : List Context → State
initialised_with cs = tabled 0 cs (with_initialized (new_state 0 0))

-- a new table with simulation support, after initialise default in locality 7
abbrev pub one_default : State
one_default = (initialized_of (new_state simulation_support 0) ask_default 7 []).state

-- slot 0 its own parent and its own child
abbrev pub self_loop : State
self_loop = initialised_with (link Active 0 1 1 7 ∷ [])

-- retired 0 over retired 1 over active 2; and with active 3 also below 1
abbrev pub retired_chain : State
retired_chain = initialised_with (link Retired no_parent 2 1 7 ∷ link Retired 0 4 2 7 ∷ link Active 1 0 3 7 ∷ [])

abbrev pub retired_fork : State
retired_fork = initialised_with (link Retired no_parent 2 1 7 ∷ link Retired 0 12 2 7 ∷ link Active 1 0 3 7 ∷ link Active 1 0 4 7 ∷ [])

-- slot 0 at the root, with mark 32 only
abbrev pub far_mark : State
far_mark = initialised_with (link Active no_parent (2 ^ 32) 1 7 ∷ [])

-- active 0 below retired 1, and 1 its own parent and only child
abbrev pub retired_loop : State
retired_loop = initialised_with (link Active 1 0 1 7 ∷ link Retired 1 2 2 7 ∷ [])

-- two Normal roots in two localities
abbrev pub two_roots : State
two_roots = initialised_with (link Active no_parent 0 1 7 ∷ link Active no_parent 0 2 8 ∷ [])

-- ---- the table of examples

pub record Example : Type 0 where
  pub table : State
  pub asked : Asked
  pub expected : Told

-- outer and inner number as a word
abbrev pub refusal : ℕ → ℕ → ℕ
refusal outer inner = outer * 2 ^ 32 + inner

abbrev pub fault : ℕ → ℕ
fault inner = refusal 0x03000000 inner

abbrev pub row : State → Asked → ℕ → List ℕ → ℕ → Example
row t a w v d = record { table = t; asked = a; expected = record { word = w; values = v; verdict = d } }

unfoldable pub examples : List Example
examples =
    -- a new table is a yes
    row (new_state simulation_support 0) verdict_only 0 [] 0
    -- initialise default in 7: slot 0; again: 0x83
    ∷ row (new_state simulation_support 0) (initialise ask_default 7 []) 0 (0 ∷ []) 0
    ∷ row one_default (initialise ask_default 7 []) (refusal 0x83 0) [] 0
    -- then simulation in 7: slot 1, and the verdict is MixedContextLocality; in 8 it is a yes
    ∷ row one_default (initialise ask_simulation 7 (handle_of 5)) 0 (1 ∷ []) (fault 0x7)
    ∷ row one_default (initialise ask_simulation 8 (handle_of 5)) 0 (1 ∷ []) 0
    -- both flags without simulation support: 0x83; with it, not initialised: 3
    ∷ row (new_state 0 0) (initialise (ask_default + ask_simulation) 7 []) (refusal 0x83 0) [] 0
    ∷ row (new_state simulation_support 0) (initialise (ask_default + ask_simulation) 7 []) (refusal 3 0) [] 0
    -- parent 0, children mark 0: CyclesInTree
    ∷ row self_loop verdict_only 0 [] (fault 0x1)
    -- destroying 2 clears 0, 1, 2; with active 3 also below 1 only 2 goes, and 1 keeps mark 3, value 8
    ∷ row retired_chain (destroy 3) 0 (0 ∷ 0 ∷ []) 0
    ∷ row retired_fork (destroy 3) 0 (11 ∷ 8 ∷ []) 0
    -- mark 32 only: descendants 0x100000000, verdict ChildDoesNotExist
    ∷ row far_mark (descendants 0) 0 (0x100000000 ∷ []) (fault 0xD)
    -- destroying 0 gives WalkLoops, and nothing changes
    ∷ row retired_loop (destroy 1) (refusal 0x04000000 2) (3 ∷ 2 ∷ []) (fault 0x13)
    -- two Normal roots: inner 0, and still a refusal
    ∷ row two_roots verdict_only 0 [] (fault 0x0)
    ∷ []
