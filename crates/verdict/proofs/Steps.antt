-- A run of tests: one law for each way out of it, and what its answer says of each test. Assumes nothing.
use Rattle.std.specs.Prelude.{Result, Ok, Err}
use Rattle.std.specs.Result.{IsErrAnd}
use mathlib.Core.Path.{◌≡◌, refl, sym, ap₂, ◌∙◌}
use mathlib.Core.Logic.{◌≢◌, ◌↔◌}
use mathlib.Core.Bool.{Bool, true, false, not, ◌&&◌, ◌||◌}
use Prim.Native.Nat.{ℕ, zero, suc, ◌+◌, ◌<◌}
use native.Mathlib.Decide.{ℕ_discrete, le_ind}
use native.Mathlib.Numerals.{add-one}
use native.Mathlib.Omega.{arith}
use lib.Dec.{eqb, ltb}
use borrow.Author.Tests.{lt-ltb, eq-eqb, ne_eqb}
use Rattle.error.specs.declared.ValidationError.{ValidationError}
use Rattle.error.proofs.Exits.{passed_on}
use Rattle.children.proofs.Cases.{clash, eqb-true, ltb-true}
use Rattle.verdict.specs.Tests.{need, first, first_below, where_of}

pub fault_valid : {A : Type 0} {e : ValidationError} → ◌≡◌ {A = Result (Unit {0}) ValidationError} (Err e) (Ok tt) → A
fault_valid q = absurd (cc)

-- ---- one law for each way out

pub need_on : (b : Bool) (e : ValidationError) → b ≡ true → need b e ≡ Ok tt
unfolding need
need_on b e p = rw p

pub need_off : (b : Bool) (e : ValidationError) → b ≡ false → need b e ≡ Err e
unfolding need
need_off b e p = rw p

pub onward : (a v : Result Unit ValidationError) → a ≡ Ok tt → first a v ≡ v
unfolding first
onward a v p = rw p

pub halt : (a v : Result Unit ValidationError) (e : ValidationError) → a ≡ Err e → first a v ≡ Err e
unfolding first
halt a v e p = rw p

pub pass : (b : Bool) (e : ValidationError) (v : Result Unit ValidationError) → b ≡ true → first (need b e) v ≡ v
pass b e v p = onward (need b e) v (need_on b e p)

pub stop : (b : Bool) (e : ValidationError) (v : Result Unit ValidationError) → b ≡ false → first (need b e) v ≡ Err e
stop b e v p = halt (need b e) v e (need_off b e p)

pub where_on : (b : Bool) (v : Result Unit ValidationError) → b ≡ true → where_of b v ≡ v
unfolding where_of
where_on b v p = rw p

pub where_off : (b : Bool) (v : Result Unit ValidationError) → b ≡ false → where_of b v ≡ Ok tt
unfolding where_of
where_off b v p = rw p

pub below_none : (f : ℕ → Result Unit ValidationError) → first_below f 0 ≡ Ok tt
unfolding first_below
below_none f = refl

pub below_more : (f : ℕ → Result Unit ValidationError) (k : ℕ) → first_below f k ≡ Ok tt → f k ≡ Ok tt → first_below f (k + 1) ≡ Ok tt
unfolding first_below first
below_more f k e g = rw (add-one, first_below, e, g)

pub below_stop : (f : ℕ → Result Unit ValidationError) (k n : ℕ) (e : ValidationError) → k < n → first_below f k ≡ Ok tt → f k ≡ Err e → first_below f n ≡ Err e
unfolding first_below first
below_stop f k n e h p q = le_ind (λ (i : ℕ). first_below f i ≡ Err e) (rw (p, q)) (λ i l g. rw g) n h

-- the exit of a `?` at the k-th test
pub thrown_early : (f : ℕ → Result Unit ValidationError) (k n : ℕ) {r : Result Unit ValidationError} {e : ValidationError}
    → IsErrAnd r (λ y. y ≡ e) → k < n → first_below f k ≡ Ok tt → f k ≡ Err e → r ≡ first_below f n
thrown_early f k n p h a q = passed_on _ p ∙ sym (below_stop f k n _ h a q)

pub below_same : (f g : ℕ → Result Unit ValidationError) (n : ℕ) → ((i : ℕ) → i < n → f i ≡ g i) → first_below f n ≡ first_below g n
unfolding first_below
below_same f g zero h = refl
below_same f g (suc n) h = ap₂ first (below_same f g n (λ i l. h i (omega arith))) (h n (omega arith))

-- ---- a run of tests finds no fault just where each holds

pub same : {A : Type 0} → A ↔ A
same = (λ a. a, λ a. a)

first_iff : (a b : Result Unit ValidationError) → (first a b ≡ Ok tt) ↔ ((a ≡ Ok tt) × (b ≡ Ok tt))
unfolding first
first_iff (Ok tt) b = (λ e. (refl, e), λ p. p.1)
first_iff (Err e) b = (λ q. fault_valid q, λ p. fault_valid p.0)

pub seq : {a b : Result Unit ValidationError} {A B : Type 0} → (a ≡ Ok tt) ↔ A → (b ≡ Ok tt) ↔ B → (first a b ≡ Ok tt) ↔ (A × B)
seq {a} {b} p q = (λ e. let r = (first_iff a b).0 e in (p.0 r.0, q.0 r.1), λ r. (first_iff a b).1 (p.1 r.0, q.1 r.1))

need_iff : (b : Bool) (e : ValidationError) → (need b e ≡ Ok tt) ↔ (b ≡ true)
unfolding need
need_iff true e = (λ q. refl, λ q. refl)
need_iff false e = (λ q. fault_valid q, λ q. clash q refl)

pub test : {b : Bool} {A : Type 0} (e : ValidationError) → (b ≡ true) ↔ A → (need b e ≡ Ok tt) ↔ A
test {b} e p = (λ q. p.0 ((need_iff b e).0 q), λ a. (need_iff b e).1 (p.1 a))

pub guard : (b : Bool) {v : Result Unit ValidationError} {A B : Type 0} → (b ≡ true) ↔ A → (v ≡ Ok tt) ↔ B → (where_of b v ≡ Ok tt) ↔ (A → B)
unfolding where_of
guard true p q = (λ e a. q.0 e, λ f. q.1 (f (p.0 refl)))
guard false p q = (λ e a. clash (p.1 a) refl, λ f. refl)

pub below_iff : (f : ℕ → Result Unit ValidationError) (n : ℕ) → (first_below f n ≡ Ok tt) ↔ ((i : ℕ) → i < n → f i ≡ Ok tt)
unfolding first_below
below_iff f zero = (λ e i h. absurd (omega arith), λ g. refl)
below_iff f (suc n) = (
  λ e i h.
      let r = (first_iff (first_below f n) (f n)).0 e in
      elim (ℕ_discrete i n) [ yes q ↦ rw q r.1 | no ne ↦ (below_iff f n).0 r.0 i (omega arith) ],
  λ g. (first_iff (first_below f n) (f n)).1 ((below_iff f n).1 (λ i h. g i (omega arith)), g n (omega arith)),
)

pub all : {f : ℕ → Result Unit ValidationError} {A : ℕ → Type 0} (n : ℕ) → ((i : ℕ) → i < n → (f i ≡ Ok tt) ↔ A i) → (first_below f n ≡ Ok tt) ↔ ((i : ℕ) → i < n → A i)
all {f} n p = (λ e i h. (p i h).0 ((below_iff f n).0 e i h), λ g. (below_iff f n).1 (λ i h. (p i h).1 (g i h)))

-- ---- tests, and what they say

pub eqb_iff : (m n : ℕ) → (eqb m n ≡ true) ↔ (m ≡ n)
eqb_iff m n = (λ e. eqb-true m n e, λ e. eq-eqb m n e)

pub ltb_iff : (m n : ℕ) → (ltb m n ≡ true) ↔ (m < n)
ltb_iff m n = (λ e. ltb-true m n e, λ e. lt-ltb m n e)

pub ne_iff : (m n : ℕ) → (not (eqb m n) ≡ true) ↔ (m ≢ n)
ne_iff m n = elim (ℕ_discrete m n) [
  | yes e ↦ (λ q. clash q (rw (eq-eqb m n e)), λ f. absurd (f e))
  | no ne ↦ (λ q. ne, λ f. rw (ne_eqb m n ne))
]

pub not_iff : (b : Bool) {A : Type 0} → (b ≡ false) ↔ A → (not b ≡ true) ↔ A
not_iff true p = (λ e. clash e refl, λ a. clash refl (p.1 a))
not_iff false p = (λ e. p.0 refl, λ a. refl)

pub and_iff : {a b : Bool} {A B : Type 0} → (a ≡ true) ↔ A → (b ≡ true) ↔ B → (a && b ≡ true) ↔ (A × B)
and_iff {a = true} p q = (λ e. (p.0 refl, q.0 e), λ r. q.1 r.1)
and_iff {a = false} p q = (λ e. clash e refl, λ r. clash (p.1 r.0) refl)

pub if_iff : {a b : Bool} {A B : Type 0} → (a ≡ true) ↔ A → (b ≡ true) ↔ B → ((not a || b) ≡ true) ↔ (A → B)
if_iff {a = true} p q = (λ e a. q.0 e, λ f. q.1 (f (p.0 refl)))
if_iff {a = false} p q = (λ e a. clash (p.1 a) refl, λ f. refl)

pub or-ne : (m n : ℕ) {b : Bool} {B : Type 0} → (b ≡ true) ↔ B → ((eqb m n || b) ≡ true) ↔ (m ≢ n → B)
or-ne m n p = elim (ℕ_discrete m n) [
  | yes e ↦ rw (eq-eqb m n e) (λ q f. absurd (f e), λ f. refl)
  | no ne ↦ rw (ne_eqb m n ne) (λ q f. p.0 q, λ f. p.1 (f ne))
]
