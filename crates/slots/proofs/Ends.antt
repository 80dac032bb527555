-- How a call on a table ends, way by way. Assumes nothing.
use mathlib.Core.Path.{◌≡◌, refl, sym, ap, ap₂, ◌∙◌}
use Rattle.std.specs.Prelude.{Result, Ok, Err}
use Rattle.error.specs.declared.DpeErrorCode.{DpeErrorCode}
use Rattle.table.specs.declared.state.State.{State}
use Rattle.table.specs.declared.state.Outcome.{Outcome}
use Rattle.table.specs.State.{refused_of}
use Rattle.slots.specs.Ends.{Ends}

module _ {S A : Type 0} (state : S → State) (Reads : S → Type 0) where
  -- a refusal
  pub refusal : (s : S) (e : DpeErrorCode) {r : Result A DpeErrorCode} {o : Outcome A} → r ≡ Err e → o ≡ refused_of (state s) e → Reads s → Ends state Reads s s r o
  refusal s e p q h = record {
    answers = p ∙ sym (ap (λ (x : Outcome A). x.answer) q);
    table = sym (ap (λ (x : Outcome A). x.state) q);
    reads = h;
    untouched = rw p refl;
  }

  -- a success
  pub success : (s s' : S) (v : A) {o : Outcome A} → o ≡ record { answer = Ok v; state = state s' } → Reads s' → Ends state Reads s s' (Ok v) o
  success s s' v q h = record {
    answers = sym (ap (λ (x : Outcome A). x.answer) q);
    table = sym (ap (λ (x : Outcome A). x.state) q);
    reads = h;
    untouched = tt;
  }

  -- what is said of an outcome is said of its equal
  pub same : (s s' : S) {r : Result A DpeErrorCode} {o o' : Outcome A} → Ends state Reads s s' r o → o ≡ o' → Ends state Reads s s' r o'
  same s s' e q = rw q at e

-- a table by value: the answer and the table are the outcome
pub by_value : {A : Type 0} (Reads : State → Type 0) (t u : State) {r : Result A DpeErrorCode} {o : Outcome A} → Ends (λ x. x) Reads t u r o → ◌≡◌ {A = Outcome A} (record { answer = r; state = u }) o
by_value {A} Reads t u e = ap₂ (λ (a : Result A DpeErrorCode) (x : State). record { answer = a; state = x }) e.answers e.table
