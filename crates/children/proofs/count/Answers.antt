-- `children::count` meets its contract. Assumes nothing.
use mathlib.Core.Path.{sym, ap, ◌∙◌}
use lib.Bits.{and_mask}
use lib.Count.{ones}
use Rattle.children.specs.Marks.{slot_count}
use Rattle.children.proofs.Marks.{count_ones}
use Rattle.children.proofs.count.Goals as goal

pub returns : goal.returns
returns c = ap ones (and_mask c.args.m slot_count) ∙ sym (count_ones slot_count c.args.m)
