-- What the tests of the forest say of a table's summary: arrays and words of marks in place of the contexts. Assumes nothing: these are definitions.
use Rattle.error.specs.declared.ValidationError.{ValidationError}
use Rattle.std.specs.Prelude.{Bool, false, cond, not, ◌||◌, List, [], ℕ, Result, Ok, Err}
use Rattle.error.specs.declared.ValidationError.TheVariants.{CyclesInTree, MixedContextTypeConnectedComponents}
use Rattle.children.specs.Marks.{slot_count, marked}
use Rattle.context.specs.Bytes.{byte_of}
use Rattle.forest.specs.Links.{Table, links_in}
use Rattle.forest.specs.Search.{cycles, mixed, fine, visit, is_root}
use Rattle.forest.specs.Search as search
use Rattle.links.specs.declared.Links.{Links}
use Rattle.links.specs.Summary.{number_in}

-- the number of a slot's type, by the marks of the simulations
abbrev pub kind_in : ℕ → ℕ → ℕ
kind_in w i = byte_of (marked w i)

-- the links that two arrays and a word say; which slots are retired is no matter here
unfoldable pub table_in : List ℕ → List ℕ → ℕ → Table
table_in children parents live = links_in slot_count (marked live) (λ i. false) (number_in parents) (number_in children)

-- the same, as a summary says
abbrev pub table_by : Links → Table
table_by l = table_in l.children l.parents l.live

-- what the code answers for a search
unfoldable pub told : search.Verdict → Result ℕ ValidationError
told cycles = Err CyclesInTree
told mixed = Err MixedContextTypeConnectedComponents
told (fine z) = Ok z

-- the slot i where it is a root, after the slots z were seen
unfoldable pub root_step : Table → (ℕ → ℕ) → ℕ → ℕ → search.Verdict
root_step t kind z i = cond (is_root t i) (visit slot_count t kind (kind i) slot_count z i) (fine z)

-- not live, or seen
abbrev pub seen_in : ℕ → ℕ → ℕ → Bool
seen_in live seen i = not ((table_in [] [] live).live i) || marked seen i
