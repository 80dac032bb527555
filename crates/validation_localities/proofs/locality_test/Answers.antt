-- `validation_localities::locality_test` meets its contract. Assumes nothing.
use mathlib.Core.Path.{sym, ◌∙◌}
use native.Mathlib.Omega.{arith}
use Rattle.children.specs.Marks.{slot_count}
use Rattle.verdict.specs.Tests.{locality_of}
use Rattle.verdict.proofs.Steps.{below_more, thrown_early}
use Rattle.validation_localities.proofs.Counts.{counted}
use Rattle.validation_localities.proofs.locality_test.Goals as goal

pub returns-in_err-mix_test : goal.returns-in_err-mix_test
unfolding locality_of
returns-in_err-mix_test c =
    let a = c.args in
    let l = c.loop-k in
    let lt = c.loop-k-test.true in
    let t = counted a.p.now a.l l.k l.d l.o lt l.invariant.1 l.invariant.2 c.has_child.ensures c.has_child-in-loop-k.ensures c.one_more-d.ensures c.one_more-o.ensures in
    thrown_early _ l.k slot_count c.from_residual.ensures.1 lt l.invariant.3 (sym t.2 ∙ sym c.mix_test.ensures ∙ c.in_err-mix_test.was)

pub loop-k-preserved : goal.loop-k-preserved
loop-k-preserved c =
    let a = c.args in
    let l = c.loop-k in
    let t = counted a.p.now a.l l.k l.d l.o c.loop-k-test.true l.invariant.1 l.invariant.2 c.has_child.ensures c.has_child-in-loop-k.ensures c.one_more-d.ensures c.one_more-o.ensures in
    (omega arith, t.0, t.1, below_more _ l.k l.invariant.3 (sym t.2 ∙ sym c.mix_test.ensures ∙ c.in_ok-mix_test.was))
