-- What a walk answers its caller tells what it met. Assumes nothing.
use Rattle.std.specs.Prelude.{Err}
use mathlib.Core.Logic.{◌≢◌, ◌↔◌}
use mathlib.Core.Path.{◌≡◌, refl}
use Prim.Native.Nat.{ℕ}
use native.Mathlib.Omega.{arith}
use Rattle.error.specs.declared.DpeErrorCode.{DpeErrorCode}
use Rattle.error.specs.declared.DpeErrorCode.TheVariants.{Added}
use Rattle.error.specs.declared.AddedErrorCode.TheVariants.{WalkLoops}
use Rattle.forest.specs.Walk.{Answer, loops, bad, ok}
use Rattle.forest.specs.Told.{told_of}

-- WalkLoops tells of a walk that loops, and of nothing else
pub told-loops : (e : DpeErrorCode) → e ≢ Added WalkLoops → (a : Answer) → (told_of e a ≡ Err (Added WalkLoops)) ↔ (a ≡ loops)
unfolding told_of
told-loops e ne loops = (λ q. refl, λ q. refl)
told-loops e ne bad = (λ q. absurd (ne (let z : e ≡ Added WalkLoops = cc in z)), λ q. absurd (let z : ◌≡◌ {A = ℕ} 0 1 = cc in omega arith))
told-loops e ne (ok w) = (λ q. absurd (let z : ◌≡◌ {A = ℕ} 0 1 = cc in omega arith), λ q. absurd (let z : ◌≡◌ {A = ℕ} 0 1 = cc in omega arith))
