-- The path from a yes refuses no live slot. Assumes nothing.
use Rattle.std.specs.Prelude.{Ok}
use mathlib.Core.Path.{◌≡◌, sym, ap, ◌∙◌}
use mathlib.Core.Bool.{true}
use Prim.Native.Nat.{ℕ, zero, suc, ◌+◌, ◌-◌, ◌≤◌, ◌<◌}
use native.Mathlib.Omega.{arith}
use lib.Dec.{ltb}
use lib.ListN.{get_or}
use borrow.Author.Tests.{lt-ltb}
use Rattle.children.specs.Marks.{slot_count, mark_count}
use Rattle.children.proofs.Cases.{clash, and-true}
use Rattle.children.proofs.Below.{list_of-at}
use Rattle.context.specs.declared.Context.{Context}
use Rattle.table.specs.declared.state.State.{State}
use Rattle.context.specs.Context.{no_parent, slot_of}
use Rattle.forest.specs.Links.{Linked, up}
use Rattle.forest.proofs.Links.{up_in, no_slot, live_below, near_iff}
use Rattle.links.specs.Summary.{live_at, parent_at, steps_up, table_of}
use Rattle.walks_path.specs.declared.Path.{Path}
use Rattle.walks_path.specs.Path.{length_from, slots_of, laid_of, path_of, path_in}
use Rattle.walks_path.proofs.Steps.{parent-slot, parent_none, length-root, length_on}
use Rattle.verdict.specs.Tests.{Header, header_of}
use Rattle.verdict.specs.Rule.{Live, ancestor, ForestRule, Forest}
use Rattle.verdict.proofs.Trees.{live_is, parent_is, ancestor-is}
use Rattle.promises.specs.Keeps.{PathTo}
use Rattle.promises.proofs.Rule.{links, roots, few}
use Rattle.promises.proofs.Steps.{way-live}

module _ (n : ℕ) (s : ℕ → Context) where
  -- the slot k steps above the last of a path of m slots
  laid : (i m k : ℕ) → m ≤ n → k < m → get_or (slots_of n (λ j. steps_up (parent_at s) j i) m) (m - suc k) 0 ≡ ancestor s k i
  unfolding slots_of
  laid i m k few h =
      let q : m - suc (m - suc k) ≡ k = omega arith in
      list_of-at _ n (m - suc k) 0 (omega arith) ∙ rw (lt-ltb (m - suc k) m (omega arith), q)

  module _ (L : Linked n (table_of n s)) where
    live_here : (x : ℕ) → (table_of n s).live x ≡ true → live_at s x ≡ true
    live_here x l = (and-true (ltb x n) _ l).1

    -- m steps lead from x to a root, and there is room for more than m
    rises : (m g j x : ℕ) → m < g → (table_of n s).live (up (table_of n s) m x) ≡ true → (table_of n s).parent (up (table_of n s) m x) ≡ no_parent
        → length_from n (live_at s) (parent_at s) g j x ≡ Ok (j + suc m)
    unfolding up
    rises zero g j x h l e =
        let q = sym (parent_is n s x l) ∙ e in
        length-root n (live_at s) (parent_at s) x g j (parent_at s x) (omega arith) (parent_none n (live_at s) (parent_at s) x (L.small x l) (live_here x l) q) q
    rises (suc m) g j x h l e =
        let u = sym (up_in (table_of n s) m x) in
        let a = live_below n (table_of n s) L (suc m) x l in
        let l' : (table_of n s).live (up (table_of n s) m ((table_of n s).parent x)) ≡ true = rw u at l in
        let e' : (table_of n s).parent (up (table_of n s) m ((table_of n s).parent x)) ≡ no_parent = rw u at e in
        let b = live_below n (table_of n s) L m ((table_of n s).parent x) l' in
        let p = parent_is n s x a in
        let b' : (table_of n s).live (parent_at s x) ≡ true = rw p at b in
        length_on n (live_at s) (parent_at s) x g j (parent_at s x) (omega arith)
        (parent-slot n (live_at s) (parent_at s) x (L.small x a) (live_here x a) (L.small (parent_at s x) b'))
        (λ z. clash b' (rw z (no_slot n (table_of n s) L)))
        ∙ rises m (g - 1) (j + 1) (parent_at s x) (omega arith) (rw p at l') (rw p at e')
        ∙ ap Ok (let z : (j + 1) + suc m ≡ j + suc (suc m) = omega arith in z)

-- for any number of slots up to 64
pub path : (n : ℕ) (h : Header) (s : ℕ → Context) → n ≤ mark_count → ForestRule n h s → (i : ℕ) → Live n s i
    → (p : Path) × (path_in n s i ≡ Ok p) × PathTo n s i p
unfolding path_of laid_of
path n h s small F i v =
    let L = links n h s small F in
    let l = (live_is n s i).1 v in
    let a = (near_iff n (table_of n s) L i l).1 (roots n h s small F i l) in
    let f : length_from n (live_at s) (parent_at s) n 0 i ≡ Ok (suc a.steps) =
    rises n s L a.steps n 0 i a.few a.alive a.root ∙ ap Ok (let z : 0 + suc a.steps ≡ suc a.steps = omega arith in z) in
    let w = a.few in
    let q : suc a.steps - 1 ≡ a.steps = omega arith in (
      record { length = suc a.steps; slots = slots_of n (λ j. steps_up (parent_at s) j i) (suc a.steps) },
      rw f,
      record {
        some = omega arith;
        few = w;
        slots = λ k lt. laid n s i (suc a.steps) k w lt;
        live = λ k lt. way-live n s small L a.steps k i (omega arith) a.alive;
        root = rw (q, ancestor-is n s L a.steps i a.alive) (sym (parent_is n s (up (table_of n s) a.steps i) a.alive) ∙ a.root);
      },
    )

-- for a table
pub path_found : (t : State) → Forest t → (i : ℕ) → Live slot_count (slot_of t.contexts) i
    → (p : Path) × (path_in slot_count (slot_of t.contexts) i ≡ Ok p) × PathTo slot_count (slot_of t.contexts) i p
path_found t F i v = path slot_count (header_of t) (slot_of t.contexts) few F i v
