-- The longest body that is written.
use Rattle.std.specs.Prelude.{ℕ, ◌-◌, ◌^◌}
use Rattle.ff_format.specs.declared.format.Rf64.{Rf64 as Mode}
use Rattle.ff_format.specs.declared.format.Rf64.TheVariants.{Never, Auto, Always}

-- where sizes have 32 bits
abbrev pub longest_riff : ℕ
longest_riff = 4294967200

-- in a mode: where RF64 may be, that of the longest file
abbrev pub longest_of : Mode → ℕ
longest_of Never = longest_riff
longest_of Auto = 2 ^ 63 - 1
longest_of Always = 2 ^ 63 - 1
