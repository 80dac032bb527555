-- Results: what the exit of a `?` returns, where the refusal is passed on as it is; a success is no refusal. Assumes nothing.
use mathlib.Core.Path.{◌≡◌, ap}
use Prim.Native.Nat.{ℕ}
use native.Mathlib.Omega.{arith}
use Rattle.std.specs.Prelude.{Result, Ok, Err}
use Rattle.std.specs.Result.{IsErrAnd}

pub passed_on : {T E : Type 0} {e : E} (r : Result T E) → IsErrAnd r (λ x. x ≡ e) → r ≡ Err e
passed_on (Ok x) p = absurd p
passed_on (Err x) p = ap Err p

pub same_err : {T E : Type 0} {x y : E} → ◌≡◌ {A = Result T E} (Err x) (Err y) → x ≡ y
same_err p = cc

pub never : {T E A : Type 0} {x : T} {e : E} → ◌≡◌ {A = Result T E} (Ok x) (Err e) → A
never p = absurd (let z : ◌≡◌ {A = ℕ} 0 1 = cc in omega arith)
