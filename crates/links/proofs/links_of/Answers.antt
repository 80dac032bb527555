-- `links::links_of` meets its contract. Assumes nothing.
use mathlib.Core.Path.{refl, ◌∙◌}
use native.Mathlib.Omega.{arith}
use lib.ListN.{length-set}
use Rattle.children.specs.Below.{list_of}
use Rattle.children.proofs.Below.{list_of_fill}
use Rattle.context.specs.Context.{slot_of}
use Rattle.links.specs.Summary.{live_at, retired_at, simulation_at, parent_at, kids_at, marks_of}
use Rattle.links.proofs.Summary.{marks-more, links_made}
use Rattle.links.proofs.links_of.Goals as goal

pub loop-i-init : goal.loop-i-init
unfolding list_of marks_of
loop-i-init g c = (omega arith, refl, refl, refl, refl, c.empty-live.ensures, c.empty-retired.ensures, c.empty-simulations.ensures)

pub loop-i-preserved : goal.loop-i-preserved
loop-i-preserved g c =
    let l = c.loop-i in
    let s = slot_of (g.T.Slots.state c.args.t.now).contexts in
    let v = l.invariant in (
      omega arith,
      length-set l.children _ _ ∙ v.1,
      length-set l.parents _ _ ∙ v.2,
      list_of_fill (kids_at s) l.children l.i _ (omega arith) v.3 c.children_at.ensures,
      list_of_fill (parent_at s) l.parents l.i _ (omega arith) v.4 c.parent_at.ensures,
      marks-more (live_at s) l.live _ l.i _ v.5 (rw (c.is_inactive.ensures, c.state_at-s.ensures)) c.with_if-live.ensures,
      marks-more (retired_at s) l.retired _ l.i _ v.6 (rw c.state_at-s.ensures at c.is_retired.ensures) c.with_if-retired.ensures,
      marks-more (simulation_at s) l.simulations _ l.i _ v.7 (rw (c.is_normal.ensures, c.context_type_at.ensures)) c.with_if-simulations.ensures,
    )

pub returns : goal.returns
returns g c =
    let l = c.loop-i in
    let s = slot_of (g.T.Slots.state c.args.t.now).contexts in
    let v = l.invariant in
    links_made s l.i l.children l.parents l.live l.retired l.simulations (omega arith) v.1 v.2 v.3 v.4 v.5 v.6 v.7
