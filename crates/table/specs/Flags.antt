-- The bits of the support word and of the commands' flags that the calls ask for. A bit of a word is a mark of it. Assumes nothing.
use Rattle.std.specs.Prelude.{ℕ}

-- support
abbrev pub simulation_bit : ℕ
simulation_bit = 31

abbrev pub rotate_bit : ℕ
rotate_bit = 27

abbrev pub x509_bit : ℕ
x509_bit = 26

abbrev pub info_bit : ℕ
info_bit = 22

abbrev pub dice_bit : ℕ
dice_bit = 21

-- initialise: simulation, default
abbrev pub init_simulation_bit : ℕ
init_simulation_bit = 31

abbrev pub init_default_bit : ℕ
init_default_bit = 30

-- rotate: the target gets the default handle
abbrev pub rotate_default_bit : ℕ
rotate_default_bit = 31
