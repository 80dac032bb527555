-- The marks of a slot, tested from mark to mark, and those above the slots in one test. Assumes nothing.
use Rattle.error.specs.declared.ValidationError.{ValidationError}
use Rattle.std.specs.Prelude.{Option, Some, None, unwrap_or, Result, Ok, Err}
use mathlib.Core.Bool.{Bool, true, false, not}
use mathlib.Core.Path.{◌≡◌, sym, ap, ◌∙◌}
use Prim.Native.Nat.{ℕ, ◌+◌, ◌-◌, ◌/◌, ◌%◌, ◌^◌, ◌≤◌, ◌<◌}
use native.Mathlib.Nat.{div-lt_iff_lt-mul, one-mul}
use native.Mathlib.Decide.{dec_lt}
use native.Mathlib.Omega.{arith}
use lib.Dec.{eqb}
use lib.Pow.{pow_pos, pow-add, shr-shr}
use borrow.Author.Tests.{lt-ltb, le-ltb, eq-eqb}
use Rattle.error.specs.declared.ValidationError.TheVariants.{ChildDoesNotExist}
use Rattle.children.specs.Below.{lowest_from}
use Rattle.children.specs.Marks.{mark_count, marked, next_below, next_of}
use Rattle.children.proofs.Cases.{clash, eqb-true, not-false}
use Rattle.children.proofs.Below.{low_ge, low_bare, low_passes}
use Rattle.children.proofs.Marks.{has-is, marked-high, no-marks, next-low, next-some}
use Rattle.verdict.specs.Tests.{first_below, child_test}
use Rattle.verdict.proofs.Steps.{pass, stop, where_on, where_off, below_iff, below_stop}
use Rattle.validation_slots.specs.Summary.{slot_child}

module _ (n : ℕ) (live : ℕ → Bool) (parent : ℕ → ℕ) (i m : ℕ) where
  abbrev pub Child : ℕ → Result Unit ValidationError
  Child = child_test n live parent i m

  child_none : (c : ℕ) → marked m c ≡ false → Child c ≡ Ok tt
  unfolding child_test
  child_none c e = where_off _ _ e

  pub child-slot : (c : ℕ) → c < n → marked m c ≡ true → Child c ≡ slot_child (live c) (parent c) i
  unfolding child_test
  child-slot c h e = where_on _ _ e ∙ pass _ _ _ (lt-ltb c n h)

  child-above : (c : ℕ) → n ≤ c → marked m c ≡ true → Child c ≡ Err ChildDoesNotExist
  unfolding child_test
  child-above c h e = where_on _ _ e ∙ stop _ _ _ (le-ltb c n h)

  -- slots that are not marked are passed over
  skip : (a b : ℕ) → ((j : ℕ) → a ≤ j → j < b → marked m j ≡ false) → first_below Child a ≡ Ok tt → first_below Child b ≡ Ok tt
  skip a b f e = (below_iff Child b).1 (λ j h. elim (dec_lt j a) [ yes l ↦ (below_iff Child a).0 e j l | no nl ↦ child_none j (f j (omega arith) h) ])

  -- what holds at each turn: no fault before the next mark, which is that of a slot
  abbrev pub Turn : Option ℕ → Type 0
  Turn next = (first_below Child (unwrap_or next n) ≡ Ok tt) × ((k : ℕ) → next ≡ Some k → (k < n) × (marked m k ≡ true))

  pub turn_on : (k : ℕ) {next : Option ℕ} → k ≤ n → first_below Child k ≡ Ok tt → next ≡ next_of n m k → Turn next
  turn_on k h e q = (
    ap (first_below Child) (next-low n m k h q) ∙ skip k (next_below n m k) (low_bare (marked m) (n - k) k) e,
    λ r s. let b = next-some n m k r q s in (b.2, b.3),
  )

  -- no fault before the mark at k; and none below n, where none is left
  pub turn_at : {next : Option ℕ} (k : ℕ) → Turn next → next ≡ Some k → first_below Child k ≡ Ok tt
  turn_at k t e = ap (λ (x : Option ℕ). first_below Child (unwrap_or x n)) (sym e) ∙ t.0

  pub turn_end : {next : Option ℕ} → Turn next → next ≡ None → first_below Child n ≡ Ok tt
  turn_end t e = ap (λ (x : Option ℕ). first_below Child (unwrap_or x n)) (sym e) ∙ t.0

  -- ---- above the slots

  above : (j : ℕ) → marked (m / 2 ^ n) j ≡ marked m (n + j)
  unfolding marked
  above j = ap (λ (x : ℕ). eqb (x % 2) 1) (shr-shr m n j)

  pub none_above : not (eqb (m / 2 ^ n) 0) ≡ false → first_below Child n ≡ Ok tt → first_below Child mark_count ≡ Ok tt
  none_above b e =
      let z = eqb-true (m / 2 ^ n) 0 (not-false _ b) in
      let small : m < 2 ^ n = rw (one-mul (2 ^ n)) at ((div-lt_iff_lt-mul {x = m} {y = 1} (pow_pos n)).0 (omega arith)) in
      skip n mark_count (λ j l h. marked-high n m j small l) e

  pub some-above : n ≤ mark_count → m < 2 ^ mark_count → not (eqb (m / 2 ^ n) 0) ≡ true → first_below Child n ≡ Ok tt → first_below Child mark_count ≡ Err ChildDoesNotExist
  some-above few word b e =
      let g = mark_count - n in
      let k = lowest_from (marked m) g n in
      let q : g + n ≡ mark_count = omega arith in
      let small : m / 2 ^ n < 2 ^ g = (div-lt_iff_lt-mul (pow_pos n)).1 (rw (sym (pow-add 2 g n), q) word) in
      elim (dec_lt k mark_count) [
        | yes l ↦ below_stop Child k mark_count ChildDoesNotExist l (skip n k (low_bare (marked m) g n) e)
            (child-above k (low_ge (marked m) g n) (low_passes (marked m) g n (omega arith)))
        | no nl ↦ clash b (rw (eq-eqb _ 0 (no-marks g (m / 2 ^ n) small (λ j h. above j ∙ low_bare (marked m) g n (n + j) (omega arith) (omega arith)))))
      ]

-- what the check is given of the marks
pub ruleset marks = (has-is)
