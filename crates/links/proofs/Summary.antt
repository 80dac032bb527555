-- How a summary is filled, and that it says what the table says. Assumes nothing.
use mathlib.Core.Bool.{Bool, true, false}
use mathlib.Core.List.{List}
use mathlib.Core.Path.{◌≡◌, refl, sym, ap, ◌∙◌}
use Prim.Native.Nat.{ℕ, zero, suc, ◌+◌, ◌≤◌, ◌<◌}
use native.Mathlib.Decide.{ℕ_discrete}
use native.Mathlib.Numerals.{add-one}
use native.Mathlib.Omega.{arith}
use lib.ListN.{length, take}
use lib.Seq.{take_all}
use Rattle.children.specs.Below.{list_of}
use Rattle.children.specs.Marks.{slot_count, marked, with_if}
use Rattle.children.proofs.Below.{list_of-at}
use Rattle.children.proofs.Marks.{marked_none, marked-with_own, marked-with-other}
use Rattle.context.specs.declared.Context.{Context}
use Rattle.links.specs.declared.Links.{Links}
use Rattle.links.specs.Summary.{live_at, retired_at, simulation_at, parent_at, kids_at, marks_of, summary_of, number_in}

-- ---- the numbers that pass, as marks

marked_if : (b : Bool) (m k j : ℕ) → (j ≡ k → ⊥) → marked (with_if b m k) j ≡ marked m j
unfolding with_if
marked_if true m k j ne = marked-with-other m k j ne
marked_if false m k j ne = refl

marked_own : (b : Bool) (m k : ℕ) → marked m k ≡ false → marked (with_if b m k) k ≡ b
unfolding with_if
marked_own true m k e = marked-with_own m k
marked_own false m k e = e

pub marks_of-high : (p : ℕ → Bool) (n j : ℕ) → n ≤ j → marked (marks_of p n) j ≡ false
unfolding marks_of
marks_of-high p zero j h = marked_none j
marks_of-high p (suc n) j h = marked_if (p n) (marks_of p n) n j (λ e. omega arith) ∙ marks_of-high p n j (omega arith)

pub marks_of-at : (p : ℕ → Bool) (n i : ℕ) → i < n → marked (marks_of p n) i ≡ p i
unfolding marks_of
marks_of-at p zero i h = absurd (omega arith)
marks_of-at p (suc n) i h = elim (ℕ_discrete i n) [
  | yes q ↦ rw q (marked_own (p n) (marks_of p n) n (marks_of-high p n n (omega arith)))
  | no ne ↦ marked_if (p n) (marks_of p n) n i ne ∙ marks_of-at p n i (omega arith)
]

-- one number more
pub marks-more : (p : ℕ → Bool) (m r i : ℕ) (b : Bool) → m ≡ marks_of p i → b ≡ p i → r ≡ with_if b m i → r ≡ marks_of p (i + 1)
unfolding marks_of
marks-more p m r i b e q f = f ∙ rw (add-one, e, q)

-- ---- a summary whose every slot is filled

whole : (f : ℕ → ℕ) (a : List ℕ) (i : ℕ) → i ≡ slot_count → length a ≡ slot_count → take i a ≡ list_of f i → a ≡ list_of f slot_count
whole f a i e n t = sym (take_all slot_count a (omega arith)) ∙ ap (λ (k : ℕ). take k a) (sym e) ∙ t ∙ ap (list_of f) e

pub links_made : (s : ℕ → Context) (i : ℕ) (a b : List ℕ) (l r k : ℕ) → i ≡ slot_count → length a ≡ slot_count → length b ≡ slot_count
    → take i a ≡ list_of (kids_at s) i → take i b ≡ list_of (parent_at s) i
    → l ≡ marks_of (live_at s) i → r ≡ marks_of (retired_at s) i → k ≡ marks_of (simulation_at s) i
    → record { children = a; parents = b; live = l; retired = r; simulations = k } ≡ summary_of s
unfolding summary_of
links_made s i a b l r k e na nb ea eb el er ek =
    let ta = whole (kids_at s) a i e na ea in
    let tb = whole (parent_at s) b i e nb eb in
    let tl = el ∙ ap (marks_of (live_at s)) e in
    let tr = er ∙ ap (marks_of (retired_at s)) e in
    let tk = ek ∙ ap (marks_of (simulation_at s)) e in
    rw (ta, tb, tl, tr, tk)

-- ---- what a summary says of a slot is what the table says

module _ (s : ℕ → Context) (l : Links) (e : l ≡ summary_of s) (i : ℕ) (h : i < slot_count) where
  pub says_kids : number_in l.children i ≡ kids_at s i
  unfolding summary_of
  says_kids = ap (λ (x : Links). number_in x.children i) e ∙ list_of-at (kids_at s) slot_count i 0 h

  pub says-parent : number_in l.parents i ≡ parent_at s i
  unfolding summary_of
  says-parent = ap (λ (x : Links). number_in x.parents i) e ∙ list_of-at (parent_at s) slot_count i 0 h

  pub says-live : marked l.live i ≡ live_at s i
  unfolding summary_of
  says-live = ap (λ (x : Links). marked x.live i) e ∙ marks_of-at (live_at s) slot_count i h

  pub says-retired : marked l.retired i ≡ retired_at s i
  unfolding summary_of
  says-retired = ap (λ (x : Links). marked x.retired i) e ∙ marks_of-at (retired_at s) slot_count i h

  pub says-simulation : marked l.simulations i ≡ simulation_at s i
  unfolding summary_of
  says-simulation = ap (λ (x : Links). marked x.simulations i) e ∙ marks_of-at (simulation_at s) slot_count i h
