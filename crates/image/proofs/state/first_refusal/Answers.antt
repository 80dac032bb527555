-- `image::state::first_refusal` meets its contract. Assumes nothing.
use native.Mathlib.Omega.{arith}
use Prim.Native.Nat.{ℕ}
use mathlib.Core.Path.{◌≡◌, sym, ap, ◌∙◌}
use Rattle.error.proofs.Exits.{passed_on}
use Rattle.children.specs.Marks.{slot_count}
use Rattle.image.specs.State.{slots_answer}
use Rattle.image.proofs.Reading.{read-slots, slots_stop}
use Rattle.image.proofs.state.first_refusal.Goals as goal

pub returns-in_err-answer_at : goal.returns-in_err-answer_at
returns-in_err-answer_at c =
    let l = c.loop-slot in
    passed_on _ c.from_residual.ensures.1
    ∙ sym (slots_stop c.args.image.now _ l.slot slot_count (omega arith) l.invariant.1 (sym c.in_err-answer_at.ensures))
    ∙ read-slots c.args.image.now (omega arith)

pub returns : goal.returns
returns c =
    let l = c.args.image.now in
    let e : c.loop-slot.slot ≡ slot_count = omega arith in
    sym (ap (λ (n : ℕ). slots_answer n l) (sym e) ∙ c.loop-slot.invariant.1) ∙ read-slots l (omega arith)
