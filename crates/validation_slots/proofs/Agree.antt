-- The tests of the slots over a summary are those of the table. Assumes nothing.
use mathlib.Core.Path.{◌≡◌, ap}
use Prim.Native.Nat.{ℕ}
use Rattle.children.specs.Marks.{slot_count, marked}
use Rattle.context.specs.declared.Context.{Context}
use Rattle.links.specs.declared.Links.{Links}
use Rattle.links.specs.Summary.{live_at, parent_at, kids_at, summary_of, number_in}
use Rattle.links.proofs.Summary.{says_kids, says-parent, says-live}
use Rattle.verdict.specs.Tests.{Header, first_below, context_of, slot_test}
use Rattle.verdict.proofs.Steps.{below_same}
use Rattle.verdict.proofs.Same.{links_same}
use Rattle.validation_slots.specs.Summary.{slot_in}

module _ (s : ℕ → Context) (l : Links) (e : l ≡ summary_of s) where
  pub slots_by : (h : Header) → first_below (slot_in h s l.children l.parents l.live) slot_count ≡ first_below (slot_test slot_count h s) slot_count
  slots_by h = below_same _ _ slot_count (λ i k. ap (context_of slot_count h.support h.initialized (s i))
      (links_same slot_count (marked l.live) (live_at s) (number_in l.children) (kids_at s) (number_in l.parents) (parent_at s)
      (says-live s l e) (says_kids s l e) (says-parent s l e) i k))
