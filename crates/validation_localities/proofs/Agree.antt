-- The tests of the localities over the places are those of the table. Assumes nothing.
use mathlib.Core.Path.{◌≡◌, ap, ◌∙◌}
use Prim.Native.Nat.{ℕ}
use Rattle.children.specs.Marks.{slot_count, marked}
use Rattle.children.proofs.Below.{list_of-at}
use Rattle.context.specs.declared.Context.{Context}
use Rattle.links.specs.Summary.{number_in}
use Rattle.links.proofs.Summary.{marks_of-at}
use Rattle.verdict.specs.Tests.{localities_test, localities_of, locality_at, default_at, other_at}
use Rattle.verdict.proofs.Same.{localities_same}
use Rattle.validation_localities.specs.declared.Places.{Places}
use Rattle.validation_localities.specs.Summary.{places_of}

places_are : (s : ℕ → Context)
    → localities_test slot_count (number_in (places_of s).localities) (marked (places_of s).defaults) (marked (places_of s).others) ≡ localities_of slot_count s
unfolding places_of
places_are s = localities_same slot_count _ (locality_at s) _ (default_at s) _ (other_at s) (λ j h. list_of-at (locality_at s) slot_count j 0 h)
    (marks_of-at (default_at s) slot_count) (marks_of-at (other_at s) slot_count)

pub places_by : (s : ℕ → Context) (p : Places) → p ≡ places_of s
    → localities_test slot_count (number_in p.localities) (marked p.defaults) (marked p.others) ≡ localities_of slot_count s
places_by s p e = ap (λ (x : Places). localities_test slot_count (number_in x.localities) (marked x.defaults) (marked x.others)) e ∙ places_are s
