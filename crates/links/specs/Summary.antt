-- The links of a table, read off its contexts and off a summary. A table is a function s from a slot to its context. Assumes nothing.
use Rattle.std.specs.Prelude.{Bool, not, List, ℕ, zero, suc, ◌^◌, ◌<◌, get_or}
use Rattle.children.specs.Below.{list_of}
use Rattle.children.specs.Marks.{slot_count, mark_count, with_if}
use Rattle.context.specs.declared.Context.{Context}
use Rattle.context.specs.Context.{is_live, is_retired, is_normal}
use Rattle.forest.specs.Links.{Table, links_in}
use Rattle.links.specs.declared.Links.{Links}

-- ---- what the contexts say

abbrev pub live_at : (ℕ → Context) → ℕ → Bool
live_at s i = is_live (s i).state

abbrev pub retired_at : (ℕ → Context) → ℕ → Bool
retired_at s i = is_retired (s i).state

abbrev pub simulation_at : (ℕ → Context) → ℕ → Bool
simulation_at s i = not (is_normal (s i).context_type)

abbrev pub parent_at : (ℕ → Context) → ℕ → ℕ
parent_at s i = (s i).parent_idx

abbrev pub kids_at : (ℕ → Context) → ℕ → ℕ
kids_at s i = (s i).children

-- j parent steps from the slot x
unfoldable pub steps_up : (ℕ → ℕ) → ℕ → ℕ → ℕ
steps_up parent zero x = x
steps_up parent (suc j) x = parent (steps_up parent j x)

-- the links of a table of n slots, as the theory has them
abbrev pub table_of : ℕ → (ℕ → Context) → Table
table_of n s = links_in n (live_at s) (retired_at s) (parent_at s) (kids_at s)

-- what 64 bits can hold: each stored word of marks
abbrev pub Words : ℕ → (ℕ → Context) → Type 0
Words n s = (i : ℕ) → i < n → (s i).children < 2 ^ mark_count

-- ---- the summary

-- the numbers below n that pass, as marks
unfoldable pub marks_of : (ℕ → Bool) → ℕ → ℕ
marks_of p zero = 0
marks_of p (suc n) = with_if (p n) (marks_of p n) n

unfoldable pub summary_of : (ℕ → Context) → Links
summary_of s = record {
  children = list_of (kids_at s) slot_count;
  parents = list_of (parent_at s) slot_count;
  live = marks_of (live_at s) slot_count;
  retired = marks_of (retired_at s) slot_count;
  simulations = marks_of (simulation_at s) slot_count;
}

-- what an array of the summary says of a slot
abbrev pub number_in : List ℕ → ℕ → ℕ
number_in a i = get_or a i 0
