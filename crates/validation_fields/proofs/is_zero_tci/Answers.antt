-- `validation_fields::is_zero_tci` meets its contract. Assumes nothing.
use Rattle.validation_fields.proofs.Measurements.{equal_zero}
use Rattle.validation_fields.proofs.is_zero_tci.Goals as goal

pub returns : goal.returns
returns c = rw (c.eq.ensures, c.new.ensures) (equal_zero c.args.d)
