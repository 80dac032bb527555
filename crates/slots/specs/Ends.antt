-- How a call ends that may change a table, by value or in place. Assumes nothing: these are definitions.
use Rattle.std.specs.Prelude.{◌≡◌, Result, OnErr}
use Rattle.error.specs.declared.DpeErrorCode.{DpeErrorCode}
use Rattle.table.specs.declared.state.State.{State}
use Rattle.table.specs.declared.state.Outcome.{Outcome}

-- it answers what o answers, and the table is then that of o; where it is a refusal, nothing was written
pub record Ends {S A : Type 0} (state : S → State) (Reads : S → Type 0) (old new : S) (answer : Result A DpeErrorCode) (o : Outcome A) : Type 0 where
  pub answers : answer ≡ o.answer
  pub table : state new ≡ o.state
  pub reads : Reads new
  pub untouched : OnErr answer (new ≡ old)
