-- The verdict is a yes just where the forest rule holds. Assumes nothing.
use Rattle.std.specs.Prelude.{Ok}
use mathlib.Core.Path.{◌≡◌}
use mathlib.Core.Logic.{◌↔◌}
use Prim.Native.Nat.{ℕ, ◌≤◌}
use native.Mathlib.Omega.{arith}
use Rattle.children.specs.Marks.{slot_count, mark_count}
use Rattle.context.specs.declared.Context.{Context}
use Rattle.table.specs.declared.state.State.{State}
use Rattle.context.specs.Context.{slot_of}
use Rattle.table.specs.State.{magic, version_number}
use Rattle.verdict.specs.Tests.{Header, header_of, verdict, verdict_of}
use Rattle.verdict.specs.Rule.{ForestRule, Forest}
use Rattle.verdict.proofs.Steps.{same, seq, test, all, eqb_iff}
use Rattle.verdict.proofs.Slots.{sound_iff}
use Rattle.verdict.proofs.Localities.{localities_iff}
use Rattle.verdict.proofs.Trees.{linked, forest_of_iff}

-- for any number of slots up to 64
pub verdict_iff : (n : ℕ) (h : Header) (s : ℕ → Context) → n ≤ mark_count → (verdict n h s ≡ Ok tt) ↔ ForestRule n h s
unfolding verdict
verdict_iff n h s few =
    let p = seq (test _ (eqb_iff h.marker magic)) (seq (test _ (eqb_iff h.version version_number))
    (seq (all n (λ i k. sound_iff n h s i)) (seq (localities_iff n s) same))) in (
      λ e.
          let r = p.0 e in
          let f = (forest_of_iff n s (linked n s h few r.1.1.0)).0 r.1.1.1.1 in record {
            marker = r.0;
            version = r.1.0;
            sound = r.1.1.0;
            alone = r.1.1.1.0;
            alike = f.0;
            one_normal = f.1.0;
            rooted = f.1.1;
          },
      λ r.
          let f = (forest_of_iff n s (linked n s h few r.sound)).1 (r.alike, (r.one_normal, r.rooted)) in
          p.1 (r.marker, (r.version, (r.sound, (r.alone, f)))),
    )

-- for a table
pub yes_iff : (t : State) → (verdict_of t ≡ Ok tt) ↔ Forest t
yes_iff t = verdict_iff slot_count (header_of t) (slot_of t.contexts) (omega arith)
