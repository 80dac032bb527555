-- `replay::run` meets what it asks of `write_state`. Assumes nothing.
use Prim.Native.Nat.{ℕ}
use lib.ListN.{length-replicate}
use Rattle.image.specs.State.{state_size}
use Rattle.image.proofs.Writing.{writes}
use Rattle.replay.proofs.run.Goals as goal

pub unwrap-requires : goal.unwrap-requires
unwrap-requires c = writes _ c.write_state.ensures.value (length-replicate {A = ℕ} state_size 0)
