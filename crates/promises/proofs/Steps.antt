-- Below, the run above and what goes with a slot: in the rule's words they are what they are over the links. Assumes nothing.
use mathlib.Core.Path.{◌≡◌, refl, sym, ap, ◌∙◌}
use mathlib.Core.Logic.{◌↔◌}
use mathlib.Core.Bool.{true}
use Prim.Native.Nat.{ℕ, zero, suc, ◌+◌, ◌-◌, ◌≤◌, ◌<◌}
use native.Mathlib.Decide.{ℕ_discrete}
use native.Mathlib.Omega.{arith}
use lib.Dec.{ltb}
use borrow.Author.Tests.{lt-ltb}
use Rattle.children.specs.Below.{count}
use Rattle.children.specs.Marks.{mark_count, marked}
use Rattle.children.proofs.Cases.{and-true, and_both, eqb-true, true-eqb, ltb-true}
use Rattle.children.proofs.Below.{count_same}
use Rattle.context.specs.declared.Context.{Context}
use Rattle.forest.specs.Links.{Linked, up, Below}
use Rattle.forest.specs.Run.{single, Run, here, next}
use Rattle.forest.specs.Destroy.{Doomed}
use Rattle.forest.specs.Destroy as doomed
use Rattle.forest.proofs.Links.{up-add, live_below}
use Rattle.forest.proofs.Ascend.{single-live}
use Rattle.links.specs.Summary.{parent_at, table_of, steps_up}
use Rattle.verdict.specs.Rule.{Live, ancestor}
use Rattle.verdict.proofs.Trees.{live_is, parent_is, ancestor-is}
use Rattle.promises.specs.Keeps.{BelowIn, Lone, RunAbove, Cleared, itself, under, above}
use Rattle.promises.proofs.Rule.{retired_is, mark_same}

pub ancestor_in : (s : ℕ → Context) (k x : ℕ) → ancestor s k (parent_at s x) ≡ ancestor s (suc k) x
unfolding steps_up
ancestor_in s zero x = refl
ancestor_in s (suc k) x = ap (parent_at s) (ancestor_in s k x)

module _ (n : ℕ) (s : ℕ → Context) where
  -- steps from live slots are the steps of the links
  up_is : (k x : ℕ) → ((j : ℕ) → j < k → Live n s (ancestor s j x)) → up (table_of n s) k x ≡ ancestor s k x
  unfolding up steps_up
  up_is zero x f = refl
  up_is (suc k) x f =
      ap (table_of n s).parent (up_is k x (λ j h. f j (omega arith))) ∙ parent_is n s (ancestor s k x) ((live_is n s (ancestor s k x)).1 (f k (omega arith)))

  module _ (few : n ≤ mark_count) (L : Linked n (table_of n s)) where
    -- a slot on the way to a live slot is live
    pub way-live : (k j x : ℕ) → j ≤ k → (table_of n s).live (up (table_of n s) k x) ≡ true → Live n s (ancestor s j x)
    way-live k j x h l =
        let q : (k - j) + j ≡ k = omega arith in
        let a = live_below n (table_of n s) L (k - j) (up (table_of n s) j x) (rw (sym (up-add (table_of n s) (k - j) j x), q) l) in
        (live_is n s (ancestor s j x)).0 (rw (ancestor-is n s L j x a) a)

    pub below_iff : (x i : ℕ) → Live n s i → Below (table_of n s) x i ↔ BelowIn n s x i
    below_iff x i v = (
      λ b.
          let l : (table_of n s).live (up (table_of n s) (suc b.steps) x) ≡ true = rw b.ends b.alive in
          record {
            steps = b.steps;
            ends = ancestor-is n s L (suc b.steps) x l ∙ b.ends;
            live = λ k h. way-live (suc b.steps) k x (omega arith) l;
          },
      λ b. record {
        steps = b.steps;
        ends = up_is (suc b.steps) x (λ j h. b.live j (omega arith)) ∙ b.ends;
        alive = (live_is n s i).1 v;
      },
    )

    lone_iff : (p : ℕ) → (single n (table_of n s) p ≡ true) ↔ Lone n s p
    lone_iff p =
        let same : p < n → count (marked (s p).children) n ≡ count ((table_of n s).mark p) n =
        λ lt. count_same (marked (s p).children) ((table_of n s).mark p) n (λ c h. mark_same n s p c lt (omega arith)) in (
          λ e.
              let a = and-true ((table_of n s).retired p) _ e in
              let b = and-true (ltb p n) _ a.0 in
              let lt = ltb-true p n b.0 in
              record { slot = lt; retired = retired_is (s p).state b.1; one = same lt ∙ eqb-true _ 1 a.1 },
          λ r. and_both (and_both (lt-ltb p n r.slot) (rw r.retired)) (true-eqb _ 1 (sym (same r.slot) ∙ r.one)),
        )

    -- the run that begins at p
    record From (p x : ℕ) : Type 0 where
      steps : ℕ
      ends : ancestor s steps p ≡ x
      lone : (k : ℕ) → k ≤ steps → Lone n s (ancestor s k p)

    parent_lone : (p : ℕ) → single n (table_of n s) p ≡ true → (table_of n s).parent p ≡ parent_at s p
    parent_lone p e = parent_is n s p (single-live n (table_of n s) L p e)

    of_run : {p x : ℕ} → Run n (table_of n s) p x → From p x
    unfolding steps_up
    of_run (here {p} e) = record { steps = 0; ends = refl; lone = λ k h. let z : k ≡ 0 = omega arith in rw z ((lone_iff p).0 e) }
    of_run (next {p} {x} e r) =
        let f : From (parent_at s p) x = rw (parent_lone p e) at (of_run r) in
        record {
          steps = suc f.steps;
          ends = sym (ancestor_in s f.steps p) ∙ f.ends;
          lone = λ k h. elim (ℕ_discrete k 0) [
            | yes z ↦ rw z ((lone_iff p).0 e)
            | no nz ↦
                let q : k ≡ suc (k - 1) = omega arith in
                rw (q, sym (ancestor_in s (k - 1) p)) (f.lone (k - 1) (omega arith))
          ];
        }

    to_run : (k p x : ℕ) → ancestor s k p ≡ x → ((j : ℕ) → j ≤ k → Lone n s (ancestor s j p)) → Run n (table_of n s) p x
    unfolding steps_up
    to_run zero p x e f = rw (sym e) (here ((lone_iff p).1 (f 0 (omega arith))))
    to_run (suc k) p x e f =
        let g = (lone_iff p).1 (f 0 (omega arith)) in
        next {x = x} g (rw (parent_lone p g) (to_run k (parent_at s p) x (ancestor_in s k p ∙ e) (λ j h. rw (ancestor_in s j p) (f (suc j) (omega arith)))))

    run_iff : (i x : ℕ) → Live n s i → Run n (table_of n s) ((table_of n s).parent i) x ↔ RunAbove n s i x
    run_iff i x v =
        let e = parent_is n s i ((live_is n s i).1 v) in (
          λ r.
              let f : From (parent_at s i) x = rw e at (of_run r) in
              record {
                steps = f.steps;
                ends = sym (ancestor_in s f.steps i) ∙ f.ends;
                lone = λ k h. rw (sym (ancestor_in s k i)) (f.lone k h);
              },
          λ r. rw e (to_run r.steps (parent_at s i) x (ancestor_in s r.steps i ∙ r.ends) (λ k h. rw (ancestor_in s k i) (r.lone k h))),
        )

    -- what goes with i
    module _ (i : ℕ) (v : Live n s i) where
      there : {x : ℕ} → Doomed n (table_of n s) i x → Cleared n s i x
      there doomed.self = itself
      there (doomed.under {x} b) = under ((below_iff x i v).0 b)
      there (doomed.above {x} r) = above ((run_iff i x v).0 r)

      back : {x : ℕ} → Cleared n s i x → Doomed n (table_of n s) i x
      back itself = doomed.self
      back (under {x} b) = doomed.under ((below_iff x i v).1 b)
      back (above {x} r) = doomed.above ((run_iff i x v).1 r)

      pub cleared_iff : (x : ℕ) → Doomed n (table_of n s) i x ↔ Cleared n s i x
      cleared_iff x = (there, back)
