-- A new table is a yes, whatever it supports and whatever its flags are. Assumes nothing.
use Rattle.std.specs.Prelude.{Ok}
use mathlib.Core.List.{List}
use mathlib.Core.Path.{◌≡◌, refl, ◌∙◌}
use Prim.Native.Nat.{ℕ}
use lib.ListN.{replicate}
use Rattle.children.specs.Below.{count, every}
use Rattle.children.specs.Marks.{slot_count, marked}
use Rattle.context.specs.declared.Context.{Context}
use Rattle.handle.specs.Handle.{same_bytes}
use Rattle.context.specs.Context.{new_context, slot_of}
use Rattle.table.specs.State.{new_state}
use Rattle.forest.specs.Search.{each, visit, search_roots, last_tests, judge, find_fault}
use Rattle.verdict.specs.Tests.{header_of, need, first, first_below, where_of, is_zero_tci, support_of, inactive_of, parent_test, child_test, links_test, state_of, context_of, slot_test, mix_test, locality_of, localities_test, localities_of, found_fault, forest_of, verdict, verdict_of}
use Rattle.verdict.proofs.Steps.{pass, onward}

abbrev new_slots : List Context
new_slots = replicate slot_count new_context

-- the tests of the slots, then the others, which look at the contexts alone
passes : (support flags : ℕ) → first_below (slot_test slot_count (header_of (new_state support flags)) (slot_of new_slots)) slot_count ≡ Ok tt
    → localities_of slot_count (slot_of new_slots) ≡ Ok tt → forest_of slot_count (slot_of new_slots) ≡ Ok tt → verdict_of (new_state support flags) ≡ Ok tt
unfolding verdict
passes support flags a b c = pass _ _ _ refl ∙ pass _ _ _ refl ∙ onward _ _ a ∙ onward _ _ b ∙ c

pub new-table : (support flags : ℕ) → verdict_of (new_state support flags) ≡ Ok tt
unfolding need first first_below where_of is_zero_tci support_of inactive_of parent_test child_test links_test state_of context_of mix_test locality_of localities_test found_fault forest_of verdict marked count every each visit search_roots last_tests judge find_fault same_bytes
new-table support flags = passes support flags refl refl refl
