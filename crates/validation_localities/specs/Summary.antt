-- What the tests of the localities say of a table's places: an array and words of marks in place of the contexts. Assumes nothing: these are definitions.
use Rattle.std.specs.Prelude.{Bool, cond, not, ◌&&◌, ◌||◌, ℕ, suc, eqb}
use Rattle.children.specs.Below.{some, list_of}
use Rattle.children.specs.Marks.{slot_count}
use Rattle.context.specs.declared.Context.{Context}
use Rattle.links.specs.Summary.{marks_of}
use Rattle.verdict.specs.Tests.{locality_at, default_at, other_at}
use Rattle.validation_localities.specs.declared.Places.{Places}

-- the localities of a table, its active defaults and its active others
unfoldable pub places_of : (ℕ → Context) → Places
places_of s = record {
  localities = list_of (locality_at s) slot_count;
  defaults = marks_of (default_at s) slot_count;
  others = marks_of (other_at s) slot_count;
}

-- slot k is in the locality of slot i, and an active default other than i, or an active other
abbrev pub beside_in : (ℕ → ℕ) → (ℕ → Bool) → (ℕ → Bool) → ℕ → ℕ → Bool
beside_in place def oth i k = eqb (place k) (place i) && ((def k && not (eqb k i)) || oth k)

-- slot i is an active default, and not alone in its locality
abbrev pub crowded_in : ℕ → (ℕ → ℕ) → (ℕ → Bool) → (ℕ → Bool) → ℕ → Bool
crowded_in n place def oth i = def i && some (beside_in place def oth i) n

-- one more where b holds
abbrev pub tally : Bool → ℕ → ℕ
tally b x = cond b (suc x) x
