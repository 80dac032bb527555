-- Links with one more slot, a root that has no child. Assumes nothing.
use mathlib.Core.Path.{◌≡◌, refl, ap, ◌∙◌}
use mathlib.Core.Logic.{inl, inr}
use mathlib.Core.Bool.{true, false, ◌||◌}
use Prim.Native.Nat.{ℕ, zero, suc, ◌<◌}
use native.Mathlib.Omega.{arith}
use lib.Dec.{eqb}
use Rattle.children.proofs.Cases.{two, clash, or_cases, or_right, eqb-true}
use Rattle.forest.specs.Links.{Table, Linked, up, Rooted}
use Rattle.forest.proofs.Links.{stay}

-- i is live besides
abbrev pub grown : Table → ℕ → Table
grown t i = record { live = λ x. eqb x i || t.live x; retired = t.retired; parent = t.parent; mark = t.mark }

module _ (n : ℕ) (t : Table) (L : Linked n t) (i : ℕ) (lt : i < n) (off : t.live i ≡ false) where
  still : (x : ℕ) → t.live x ≡ true → (grown t i).live x ≡ true
  still x l = or_right (eqb x i) (t.live x) l

  pub grown-linked : Linked n (grown t i)
  grown-linked = record {
    few = L.few;
    small = λ x l. elim (or_cases (eqb x i) (t.live x) l) [ inl e ↦ let q = eqb-true x i e in omega arith | inr a ↦ L.small x a ];
    old = λ x e. still x (L.old x e);
    idle = λ x d. elim (two (t.live x)) [ inl a ↦ clash (still x a) d | inr a ↦ L.idle x a ];
    high = λ x l ne. elim (or_cases (eqb x i) (t.live x) l) [
      | inl e ↦ absurd (ne (rw (eqb-true x i e) (L.idle i off)))
      | inr a ↦ let r = L.high x a ne in (still (t.parent x) r.0, r.1)
    ];
    low = λ p c m. let r = L.low p c m in (still p r.0, still c r.1, r.2);
  }

  same_up : (k x : ℕ) → up (grown t i) k x ≡ up t k x
  unfolding up
  same_up zero x = refl
  same_up (suc k) x = ap t.parent (same_up k x)

  pub grown-rooted : Rooted n t → Rooted n (grown t i)
  unfolding up
  grown-rooted R x l = same_up n x ∙ elim (or_cases (eqb x i) (t.live x) l) [
    | inl e ↦ rw (eqb-true x i e) (stay n t L 1 n i (omega arith) (L.idle i off))
    | inr a ↦ R x a
  ]
