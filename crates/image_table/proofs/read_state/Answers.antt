-- `image_table::read_state` meets its contract. Assumes nothing.
use mathlib.Core.Path.{sym, ap, ◌∙◌}
use Rattle.std.specs.Prelude.{Ok}
use Rattle.error.proofs.Exits.{passed_on}
use Rattle.image.proofs.Reading.{readable-size, read_done, read_refused}
use Rattle.image_table.proofs.read_state.Goals as goal

pub returns-in_err-readable : goal.returns-in_err-readable
returns-in_err-readable c = passed_on _ c.from_residual.ensures.1 ∙ sym (read_refused c.args.image.now _ (sym c.in_err-readable.ensures))

pub read_whole-requires : goal.read_whole-requires
read_whole-requires c = readable-size c.args.image.now (sym c.in_ok-readable.ensures)

pub returns : goal.returns
returns c = ap Ok c.read_whole.ensures ∙ sym (read_done c.args.image.now (sym c.in_ok-readable.ensures))
