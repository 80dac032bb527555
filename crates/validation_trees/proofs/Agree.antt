-- The search over a summary is the search over the table. Assumes nothing.
use mathlib.Core.Bool.{true}
use mathlib.Core.Path.{◌≡◌, sym, ap, ◌∙◌}
use Prim.Native.Nat.{ℕ}
use native.Mathlib.Omega.{arith}
use borrow.Author.Tests.{lt-ltb}
use Rattle.children.specs.Marks.{slot_count, mark_count, marked}
use Rattle.context.specs.declared.Context.{Context}
use Rattle.context.specs.Bytes.{byte_of}
use Rattle.forest.specs.Search.{find_fault}
use Rattle.forest.proofs.Search.{Agree}
use Rattle.forest.proofs.Forest.{fault_same}
use Rattle.links.specs.declared.Links.{Links}
use Rattle.links.specs.Summary.{table_of, summary_of}
use Rattle.links.proofs.Summary.{says_kids, says-parent, says-live, says-simulation}
use Rattle.verdict.specs.Tests.{kind_at, found_fault, forest_of}
use Rattle.validation_trees.specs.Summary.{kind_in, table_in, table_by}

module _ (s : ℕ → Context) (l : Links) (e : l ≡ summary_of s) where
  agree : Agree slot_count (table_by l) (table_of slot_count s) (kind_in l.simulations) (kind_at s)
  unfolding table_in
  agree = record {
    live_is = λ i h. rw (lt-ltb i slot_count h) (says-live s l e i h);
    parent_is = λ i h a.
        let b = says-live s l e i h in
        let c : marked l.live i ≡ true = rw (lt-ltb i slot_count h) at a in
        rw (lt-ltb i slot_count h, c, sym b ∙ c) (says-parent s l e i h);
    mark_is = λ p c h k. rw (lt-ltb p slot_count h, lt-ltb c mark_count (omega arith)) (ap (λ (m : ℕ). marked m c) (says_kids s l e p h));
    kind_is = λ i h. ap byte_of (says-simulation s l e i h);
  }

  pub forest_by : found_fault (find_fault slot_count (table_by l) (kind_in l.simulations)) ≡ forest_of slot_count s
  unfolding forest_of
  forest_by = ap found_fault (fault_same slot_count _ _ _ _ agree)
