-- `validation_localities::places_of` meets its contract. Assumes nothing.
use mathlib.Core.Path.{refl, ◌∙◌}
use native.Mathlib.Omega.{arith}
use lib.ListN.{length-set}
use Rattle.children.specs.Below.{list_of}
use Rattle.children.proofs.Below.{list_of_fill}
use Rattle.context.specs.Context.{slot_of}
use Rattle.links.specs.Summary.{marks_of}
use Rattle.links.proofs.Summary.{marks-more}
use Rattle.verdict.specs.Tests.{locality_at, default_at, other_at}
use Rattle.validation_localities.proofs.Counts.{places_made}
use Rattle.validation_localities.proofs.places_of.Goals as goal

pub loop-i-init : goal.loop-i-init
unfolding list_of marks_of
loop-i-init g c = (omega arith, refl, refl, c.empty-defaults.ensures, c.empty-others.ensures)

pub loop-i-preserved : goal.loop-i-preserved
loop-i-preserved g c =
    let l = c.loop-i in
    let s = slot_of (g.T.Slots.state c.args.t.now).contexts in
    let a = rw c.state_at.ensures at c.is_active-a.ensures in
    let d = rw c.handle_at.ensures at c.is_default-d.ensures in (
      omega arith,
      length-set l.localities _ _ ∙ l.invariant.1,
      list_of_fill (locality_at s) l.localities l.i _ (omega arith) l.invariant.2 c.locality_at.ensures,
      marks-more (default_at s) l.defaults _ l.i _ l.invariant.3 (rw (a, d)) c.with_if-defaults.ensures,
      marks-more (other_at s) l.others _ l.i _ l.invariant.4 (rw (a, d)) c.with_if-others.ensures,
    )

pub returns : goal.returns
returns g c =
    let l = c.loop-i in
    let s = slot_of (g.T.Slots.state c.args.t.now).contexts in
    places_made s l.i (omega arith) l.localities l.defaults l.others l.invariant.1 l.invariant.2 l.invariant.3 l.invariant.4
