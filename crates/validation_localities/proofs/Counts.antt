-- Counting in a locality, and the places of a table. Assumes nothing.
use Rattle.std.specs.Prelude.{Result}
use Rattle.error.specs.declared.ValidationError.{ValidationError}
use mathlib.Core.Bool.{Bool, true, false, not, ◌&&◌, ◌||◌}
use mathlib.Core.List.{List}
use mathlib.Core.Path.{◌≡◌, refl, sym, ap, ap₂, ◌∙◌}
use Prim.Native.Nat.{ℕ, suc, ◌+◌, ◌<◌}
use native.Mathlib.Numerals.{add-one}
use native.Mathlib.Omega.{arith}
use lib.Dec.{eqb}
use lib.ListN.{length, take}
use lib.Seq.{take_all}
use Rattle.children.specs.Below.{count, some, list_of}
use Rattle.children.specs.Marks.{slot_count, marked, has_below}
use Rattle.children.proofs.Cases.{clash, not-false, eqb-true, true-eqb}
use Rattle.children.proofs.Below.{count-le, some_next, none-at}
use Rattle.children.proofs.Marks.{has-is}
use Rattle.context.specs.declared.Context.{Context}
use Rattle.links.specs.Summary.{marks_of, number_in}
use Rattle.verdict.specs.Tests.{locality_at, default_at, other_at, within, mix_test}
use Rattle.verdict.proofs.Localities.{Lone}
use Rattle.validation_localities.specs.declared.Places.{Places}
use Rattle.validation_localities.specs.Summary.{places_of, beside_in, crowded_in, tally}

-- the tests of the slots of the locality l, up to each slot
abbrev pub tests_at : Places → ℕ → ℕ → Result Unit ValidationError
tests_at p l j = mix_test (count (within (number_in p.localities) (marked p.defaults) l) (suc j)) (count (within (number_in p.localities) (marked p.others) l) (suc j))

-- one slot more of a locality, where `has_child` told of its mark
pub count-more : (place : ℕ → ℕ) (w l k d r : ℕ) (b : Bool) → k < slot_count → d ≡ count (within place (marked w) l) k → b ≡ has_below slot_count w k
    → r ≡ tally (eqb (place k) l && b) d → r ≡ count (within place (marked w) l) (k + 1)
unfolding count
count-more place w l k d r b h e q p = p ∙ rw (add-one, e, q ∙ has-is slot_count w k h)

-- and its test
module _ (p : Places) (l k d o : ℕ) (h : k < slot_count) where
  pub counted : {a b : Bool} {x y : ℕ}
      → d ≡ count (within (number_in p.localities) (marked p.defaults) l) k → o ≡ count (within (number_in p.localities) (marked p.others) l) k
      → a ≡ has_below slot_count p.defaults k → b ≡ has_below slot_count p.others k
      → x ≡ tally (eqb (number_in p.localities k) l && a) d → y ≡ tally (eqb (number_in p.localities k) l && b) o
      → (x ≡ count (within (number_in p.localities) (marked p.defaults) l) (k + 1)) × (y ≡ count (within (number_in p.localities) (marked p.others) l) (k + 1))
      × (mix_test x y ≡ tests_at p l k)
  counted {a} {b} {x} {y} ed eo ea eb ex ey =
      let f = within (number_in p.localities) (marked p.defaults) l in
      let g = within (number_in p.localities) (marked p.others) l in
      let dx = count-more (number_in p.localities) p.defaults l k d x a h ed ea ex in
      let oy = count-more (number_in p.localities) p.others l k o y b h eo eb ey in
      (dx, oy, ap₂ mix_test (dx ∙ ap (count f) (add-one k)) (oy ∙ ap (count g) (add-one k)))

-- before the first slot
pub count_start : (f : ℕ → Bool) → 0 ≡ count f 0
unfolding count
count_start f = refl

pub some_start : (f : ℕ → Bool) → some f 0 ≡ false
unfolding some
some_start f = refl

-- what the check is given of the loops and of the marks
pub ruleset counts = (count_start, count-le)

pub ruleset somes = (some_start, some_next)

pub ruleset marks = (has-is)

module _ (s : ℕ → Context) (i : ℕ) (e : i ≡ slot_count) where
  pub places_made : (a : List ℕ) (l r : ℕ) → length a ≡ slot_count → take i a ≡ list_of (locality_at s) i
      → l ≡ marks_of (default_at s) i → r ≡ marks_of (other_at s) i → record { localities = a; defaults = l; others = r } ≡ places_of s
  unfolding places_of
  places_made a l r na ea el er =
      let ta : a ≡ list_of (locality_at s) slot_count =
      sym (take_all slot_count a (omega arith)) ∙ ap (λ (k : ℕ). take k a) (sym e) ∙ ea ∙ ap (list_of (locality_at s)) e in
      let tl : l ≡ marks_of (default_at s) slot_count = el ∙ ap (marks_of (default_at s)) e in
      let tr : r ≡ marks_of (other_at s) slot_count = er ∙ ap (marks_of (other_at s)) e in
      rw (ta, tl, tr)

-- ---- no default is crowded

part-false : {a b : Bool} → a ≡ true → (a && b) ≡ false → b ≡ false
part-false {a} {b} p e = sym (ap (λ (x : Bool). x && b) p) ∙ e

none_of_two : (a b : Bool) → (a || b) ≡ false → (a ≡ false) × (b ≡ false)
none_of_two true b e = clash refl e
none_of_two false b e = (refl, e)

-- then each is alone in its locality
pub lone_of : (n : ℕ) (place : ℕ → ℕ) (def oth : ℕ → Bool) → some (crowded_in n place def oth) n ≡ false → Lone n place def oth
lone_of n place def oth e i k hi hk d q =
    let none = part-false d (none-at (crowded_in n place def oth) n i e hi) in
    let w = none_of_two (def k && not (eqb k i)) (oth k) (part-false (true-eqb (place k) (place i) q) (none-at (beside_in place def oth i) n k none hk)) in
    (λ t. eqb-true k i (not-false _ (part-false t w.0)), w.1)
