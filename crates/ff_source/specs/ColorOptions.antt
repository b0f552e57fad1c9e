-- `color` by its arguments.
use Rattle.std.specs.Prelude.{◌≡◌, ℕ, zero, suc, ◌&&◌, cond}
use Rattle.std.specs.Prelude.{Option, Some, None, List, [], ◌∷◌, codes, Result, Ok, Err}
use Rattle.ff_time.specs.Digits.{IsRate}
use Rattle.ff_time.specs.Fraction.{Fraction}
use Rattle.ff_frame.specs.Sizes.{sides_of, is_side}
use Rattle.ff_frame.specs.declared.config.ConfigError.{ConfigError}
use Rattle.ff_frame.specs.declared.config.ConfigError.TheVariants.{BadOption, BadSize}
use Rattle.ff_lang.specs.declared.graph.Arg.{Arg}
use Rattle.ff_filter.specs.Options.{Manual, IsTime}
use Rattle.ff_filter.specs.Ranges.{IsCeiling}
use Rattle.ff_source.specs.declared.color.Color.{Color}
use Rattle.ff_source.specs.declared.color.Color.TheVariants.{Black}
use Rattle.ff_source.specs.declared.color_options.ColorSettings.{ColorSettings}
use Rattle.ff_source.specs.declared.length.Length.{Length}
use Rattle.ff_source.specs.declared.made.Made.{Made}
use Rattle.ff_source.specs.declared.made.Made.TheVariants.{Pictures}
use Rattle.ff_source.specs.Bases.{one_over}
use Rattle.ff_source.specs.Colors.{color_named}
use Rattle.ff_source.specs.laws.Readings.{IsMadeBy}

-- a colour; a size; pictures a second, as `fps` reads them; a duration
abbrev pub SetsColor : ColorSettings → ℕ → List ℕ → ColorSettings → Type 0
SetsColor s zero value t = (color : Color) × (color_named value ≡ Some color) × (t ≡ record s { color = color })
SetsColor s (suc zero) value t = (size : ℕ × ℕ) × (sides_of value ≡ Some size) × (t ≡ record s { width = size.0; height = size.1 })
SetsColor s (suc (suc zero)) value t = (base : Fraction) × IsRate value base × (t ≡ record s { base = base })
SetsColor s (suc (suc (suc option))) value t = (length : Length) × IsTime value length.us × (t ≡ record s { duration = Some length })

abbrev pub color_manual : Manual ColorSettings
color_manual = record {
  names = (codes "c", 0) ∷ (codes "color", 0) ∷ (codes "s", 1) ∷ (codes "size", 1)
      ∷ (codes "r", 2) ∷ (codes "rate", 2) ∷ (codes "d", 3) ∷ (codes "duration", 3) ∷ [];
  places = 4;
  Sets = SetsColor;
}

-- where no argument is given: black, 320 by 240, 25 a second, and no duration
abbrev pub color_default : ColorSettings
color_default = record { color = Black; width = 320; height = 240; base = one_over 25; duration = None }

-- so many pictures, of 1 to 16,384 columns and rows
abbrev pub made_color : ColorSettings → ℕ → Result Made ConfigError
made_color s count =
    cond (is_side s.width && is_side s.height)
    (Ok (Pictures (record { color = s.color; width = s.width; height = s.height; base = s.base; count = count }))) (Err BadSize)

-- The duration has to be given. There are as many pictures as ticks are at least as long.
abbrev pub MakesColor : ColorSettings → Option Length → Result Made ConfigError → Type 0
MakesColor s None r = r ≡ Err BadOption
MakesColor s (Some length) r = (count : ℕ) × IsCeiling length.us s.base count × (r ≡ made_color s count)

abbrev pub IsColor : List Arg → Result Made ConfigError → Type 0
IsColor args r = IsMadeBy color_manual color_default (λ s q. MakesColor s s.duration q) args r
