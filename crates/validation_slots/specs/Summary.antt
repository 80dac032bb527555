-- What the tests of a slot say of a table's summary: two arrays and a word of marks in place of the links. Assumes nothing: these are definitions.
use Rattle.error.specs.declared.ValidationError.{ValidationError}
use Rattle.std.specs.Prelude.{Bool, List, ℕ, eqb, Result}
use Rattle.error.specs.declared.ValidationError.TheVariants.{ParentChildLinksCorrupted, InactiveChild}
use Rattle.children.specs.Marks.{slot_count, marked}
use Rattle.context.specs.declared.Context.{Context}
use Rattle.links.specs.Summary.{number_in}
use Rattle.verdict.specs.Tests.{Header, need, first, links_test, context_of}

-- the tests of a child that is a slot: whether it is live, and its parent p against the slot i
abbrev pub slot_child : Bool → ℕ → ℕ → Result Unit ValidationError
slot_child alive p i = first (need alive InactiveChild) (need (eqb p i) ParentChildLinksCorrupted)

-- the tests of a slot's links, where two arrays and a word say the links
abbrev pub links_on : List ℕ → List ℕ → ℕ → ℕ → Result Unit ValidationError
links_on children parents live i = links_test slot_count (marked live) (number_in children) (number_in parents) i

-- the tests of a slot, likewise
abbrev pub slot_in : Header → (ℕ → Context) → List ℕ → List ℕ → ℕ → ℕ → Result Unit ValidationError
slot_in h s children parents live i = context_of slot_count h.support h.initialized (s i) (links_on children parents live i)
