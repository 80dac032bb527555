-- `clearing::clear_slot` meets its contract. Assumes nothing.
use mathlib.Core.Path.{sym, ap, ◌∙◌}
use Prim.Native.Nat.{ℕ}
use Rattle.children.specs.Marks.{slot_count, without}
use Rattle.children.proofs.Marks.{seen}
use Rattle.context.specs.Context.{slot_of, destroyed, with_children}
use Rattle.table.specs.State.{with_slot}
use Rattle.clearing.proofs.Clearing.{cleared_in, cleared_out, marks_kept}
use Rattle.clearing.proofs.clear_slot.Goals as goal

pub returns-then-has_child-clause-state : goal.returns-then-has_child-clause-state
returns-then-has_child-clause-state g c =
    let t = g.T.Slots.state c.args.t.now in
    let set = seen slot_count _ _ c.requires.1 c.has_child.ensures c.if-has_child.true in
    c.put_context.ensures.state ∙ ap (with_slot t c.args.i) (c.destroy-cleared.ensures ∙ ap destroyed c.context_at.ensures ∙ sym (cleared_in _ _ _ set))

pub returns-then-left-kids-clause-state : goal.returns-then-left-kids-clause-state
returns-then-left-kids-clause-state g c =
    let t = g.T.Slots.state c.args.t.now in
    let clear = seen slot_count _ _ c.requires.1 c.has_child.ensures c.if-has_child.false in
    let kids = c.remove_children-left.ensures ∙ ap (λ (m : ℕ). without m c.args.set) c.children_at-kids.ensures in
    c.put_children.ensures.state
    ∙ ap (λ (m : ℕ). with_slot t c.args.i (with_children (slot_of t.contexts c.args.i) m)) kids
    ∙ ap (with_slot t c.args.i) (sym (cleared_out _ _ _ clear))

pub returns-else-left-kids-clause-state : goal.returns-else-left-kids-clause-state
returns-else-left-kids-clause-state g c =
    let t = g.T.Slots.state c.args.t.now in
    let clear = seen slot_count _ _ c.requires.1 c.has_child.ensures c.if-has_child.false in
    let own = c.children_at-kids.ensures in
    let kids = c.remove_children-left.ensures ∙ ap (λ (m : ℕ). without m c.args.set) own in
    sym (marks_kept t c.args.i _ (sym kids ∙ c.if-left-kids.false ∙ own)) ∙ ap (with_slot t c.args.i) (sym (cleared_out _ _ _ clear))
