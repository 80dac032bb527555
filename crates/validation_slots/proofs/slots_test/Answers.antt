-- `validation_slots::slots_test` meets its contract. Assumes nothing.
use Rattle.children.specs.Marks.{slot_count}
use Rattle.context.specs.Context.{slot_of}
use Rattle.verdict.specs.Tests.{header_of}
use Rattle.verdict.proofs.Steps.{thrown_early}
use Rattle.validation_slots.specs.Summary.{slot_in}
use Rattle.validation_slots.proofs.slots_test.Goals as goal

pub returns-in_err-context_test : goal.returns-in_err-context_test
returns-in_err-context_test g c =
    let i = c.loop-i in
    let t = g.T.Slots.state c.args.t.now in
    let l = c.args.l.now in
    thrown_early (slot_in (header_of t) (slot_of t.contexts) l.children l.parents l.live) i.i slot_count c.from_residual.ensures.1 c.loop-i-test.true i.invariant.1
    (rw (c.context_test.ensures, c.support-word.ensures, c.has_initialized-init.ensures, c.context_at.ensures) at c.in_err-context_test.was)
