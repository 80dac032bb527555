use mathlib.Core.Path.{◌≡◌}
use Prim.Native.Nat.{◌≤◌}
use Rattle.children.specs.Below.{every}
use Rattle.children.specs.Marks.{slot_count}
use Rattle.image_kinds.specs.Kinds.{good_word}
use Rattle.image.specs.State.{good_slot}
use Rattle.image.proofs.state.are_good.Given as goal

abbrev pub invariant-loop-i : goal.invariant-loop-i
invariant-loop-i l = (l.i ≤ slot_count) × (good_word l.kinds ≡ every (good_slot l.image) l.i)
