-- Every example of the table comes out as expected: one proof, by computation. Assumes nothing.
use mathlib.Core.List.{map}
use mathlib.Core.Path.{◌≡◌, refl}
use Rattle.children.specs.Below.{count, some, every, lowest_from, list_of}
use Rattle.children.specs.Marks.{marked, has_below, with_if}
use Rattle.handle.specs.Handle.{same_bytes}
use Rattle.table.specs.State.{free_in}
use Rattle.links.specs.Summary.{marks_of}
use Rattle.forest.specs.Walk.{over, walk_down}
use Rattle.forest.specs.Run.{climb}
use Rattle.forest.specs.Search.{each, visit, search_roots, last_tests, judge, find_fault}
use Rattle.lookup.specs.Lookup.{lookup_in}
use Rattle.candidates.specs.Candidates.{usable, chosen_in}
use Rattle.initialize_context.specs.Initialize.{initialized_of}
use Rattle.forest.specs.Told.{told_of}
use Rattle.walks.specs.Walks.{descendants_in}
use Rattle.walks_run.specs.Run.{run_from}
use Rattle.clearing.specs.Clearing.{cleared_slot, cleared_by}
use Rattle.destroy_context.specs.Destroy.{on_down, on_run, doomed_of, on_doomed, destroy_slot_of, on_found, destroy_of}
use Rattle.verdict.specs.Tests.{need, first, first_below, where_of, is_zero_tci, support_of, inactive_of, parent_test, child_test, links_test, state_of, context_of, mix_test, locality_of, localities_test, found_fault, forest_of, verdict}
use Rattle.examples.specs.Examples.{Example, result_of, examples}

pub examples_hold : map (λ (e : Example). result_of e.table e.asked) examples ≡ map (λ (e : Example). e.expected) examples
unfolding examples need first first_below where_of is_zero_tci support_of inactive_of parent_test child_test links_test state_of context_of mix_test locality_of localities_test found_fault forest_of verdict marked has_below with_if count some every lowest_from list_of each visit search_roots last_tests judge find_fault same_bytes free_in marks_of over walk_down climb lookup_in usable chosen_in initialized_of told_of descendants_in run_from cleared_slot cleared_by on_down on_run doomed_of on_doomed destroy_slot_of on_found destroy_of
examples_hold = refl
