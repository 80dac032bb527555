-- Initialise, over the table t, the flags, the locality l and the bytes b of the lent candidates. Assumes nothing: these are definitions.
use Rattle.error.specs.declared.DpeErrorCode.{DpeErrorCode}
use Rattle.std.specs.Prelude.{Bool, true, false, cond, not, ◌&&◌, ◌||◌, List, ℕ, Result, Ok, Err}
use Rattle.error.specs.declared.DpeErrorCode.TheVariants.{ArgumentNotSupported, InvalidArgument}
use Rattle.children.specs.Marks.{slot_count, marked}
use Rattle.context.specs.declared.ContextType.{ContextType}
use Rattle.context.specs.declared.ContextType.TheVariants.{Normal, Simulation}
use Rattle.context.specs.declared.ActiveContextArgs.{ActiveContextArgs}
use Rattle.table.specs.declared.state.State.{State}
use Rattle.table.specs.declared.state.Outcome.{Outcome}
use Rattle.handle.specs.Handle.{default_handle}
use Rattle.context.specs.Bytes.{is_on}
use Rattle.table.specs.Flags.{simulation_bit, init_simulation_bit, init_default_bit}
use Rattle.context.specs.Context.{no_parent, active_context, slot_of}
use Rattle.table.specs.State.{with_slot, with_initialized, refused_of, handed_of, free_in}
use Rattle.candidates.specs.Candidates.{chosen_in}

-- default with has_initialized true, or simulation without support
abbrev pub not_supported : ℕ → ℕ → ℕ → Bool
not_supported support initialized flags =
    (marked flags init_default_bit && is_on initialized) || (marked flags init_simulation_bit && not (marked support simulation_bit))

-- both bits or neither
abbrev pub both_or_neither : ℕ → Bool
both_or_neither flags =
    (marked flags init_default_bit && marked flags init_simulation_bit) || not (marked flags init_default_bit || marked flags init_simulation_bit)

-- what the slot is activated with: type, handle and recursive by the flag; the rest is the same for both
abbrev pub root_args : ContextType → List ℕ → ℕ → Bool → ActiveContextArgs
root_args k h l recursive = record {
  context_type = k;
  locality = l;
  handle = h;
  tci_type = 0;
  parent_idx = no_parent;
  allow_x509 = true;
  uses_internal_input_info = false;
  uses_internal_input_dice = false;
  allow_export_cdi = true;
  svn = 0;
  allow_recursive = recursive;
}

-- default: slot i is activated with a handle that is all zero, and has_initialized is set
abbrev pub default_in : State → ℕ → ℕ → Outcome (List ℕ)
default_in t l i = handed_of (with_initialized (with_slot t i (active_context (root_args Normal default_handle l true)))) default_handle

-- simulation: slot i is activated with the candidate that was chosen
abbrev pub simulation_in : State → ℕ → ℕ → Result (List ℕ) DpeErrorCode → Outcome (List ℕ)
simulation_in t l i (Ok h) = handed_of (with_slot t i (active_context (root_args Simulation h l false))) h
simulation_in t l i (Err e) = refused_of t e

-- simulation: choose a candidate
abbrev pub simulation_of : State → ℕ → ℕ → List ℕ → Outcome (List ℕ)
simulation_of t l i b = simulation_in t l i (chosen_in slot_count (slot_of t.contexts) b)

-- the lowest inactive slot is activated; there is none: MaxTcis
abbrev pub activated_in : State → ℕ → ℕ → List ℕ → Result ℕ DpeErrorCode → Outcome (List ℕ)
activated_in t flags l b (Ok i) = cond (marked flags init_default_bit) (default_in t l i) (simulation_of t l i b)
activated_in t flags l b (Err e) = refused_of t e

-- in order: ArgumentNotSupported, InvalidArgument, the slot
unfoldable pub initialized_of : State → ℕ → ℕ → List ℕ → Outcome (List ℕ)
initialized_of t flags l b =
    cond (not_supported t.support t.has_initialized flags) (refused_of t ArgumentNotSupported)
    (cond (both_or_neither flags) (refused_of t InvalidArgument)
    (activated_in t flags l b (free_in slot_count (slot_of t.contexts))))
