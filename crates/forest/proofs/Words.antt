-- Words of marks as sets of slots: what is in a join, and in a word with one mark more. Assumes nothing.
use mathlib.Core.Path.{◌≡◌, sym, ◌∙◌}
use mathlib.Core.Logic.{◌⊎◌, inl, inr}
use mathlib.Core.Bool.{true}
use Prim.Native.Nat.{ℕ}
use lib.Dec.{eqb}
use Rattle.children.specs.Marks.{marked, with, joined}
use Rattle.children.proofs.Cases.{eqb-true, or_cases, or_left, or_right}
use Rattle.children.proofs.Marks.{marked-joined, marked-with}

pub join_l : (a b x : ℕ) → marked a x ≡ true → marked (joined a b) x ≡ true
join_l a b x h = marked-joined a b x ∙ or_left (marked b x) h

pub join_r : (a b x : ℕ) → marked b x ≡ true → marked (joined a b) x ≡ true
join_r a b x h = marked-joined a b x ∙ or_right (marked a x) (marked b x) h

pub join_cases : (a b x : ℕ) → marked (joined a b) x ≡ true → (marked a x ≡ true) ⊎ (marked b x ≡ true)
join_cases a b x h = or_cases (marked a x) (marked b x) (sym (marked-joined a b x) ∙ h)

pub put_keep : (a p x : ℕ) → marked a x ≡ true → marked (with a p) x ≡ true
put_keep a p x h = marked-with a p x ∙ or_left (eqb x p) h

pub put_cases : (a p x : ℕ) → marked (with a p) x ≡ true → (marked a x ≡ true) ⊎ (x ≡ p)
put_cases a p x h = elim (or_cases (marked a x) (eqb x p) (sym (marked-with a p x) ∙ h)) [ inl k ↦ inl k | inr k ↦ inr (eqb-true x p k) ]
