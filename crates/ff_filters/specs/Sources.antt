-- What each source filter makes by its arguments, as a function.
use Rattle.std.specs.Prelude.{ℕ, zero, suc, ◌^◌, ◌-◌, ◌&&◌, cond, false, Option, Some, None, option_map, List, Result, Ok, Err}
use Rattle.ff_time.specs.Digits.{number_of}
use Rattle.ff_time.specs.Fraction.{Fraction}
use Rattle.ff_frame.specs.Sizes.{sides_of, is_side}
use Rattle.ff_frame.specs.declared.config.ConfigError.{ConfigError}
use Rattle.ff_frame.specs.declared.config.ConfigError.TheVariants.{BadOption, BadSize}
use Rattle.ff_lang.specs.declared.graph.Arg.{Arg}
use Rattle.ff_filter.specs.Options.{number_between}
use Rattle.ff_source.specs.declared.color.Color as colors
use Rattle.ff_source.specs.declared.color.Color.TheVariants.{Black}
use Rattle.ff_source.specs.declared.made.Made.{Made}
use Rattle.ff_source.specs.declared.made.Made.TheVariants.{Pictures, Silence}
use Rattle.ff_source.specs.Bases.{one_over}
use Rattle.ff_source.specs.Colors.{color_named}
use Rattle.ff_source.specs.ColorOptions.{color_manual}
use Rattle.ff_source.specs.Silences.{channels_named}
use Rattle.ff_source.specs.SilenceOptions.{silence_manual}
use Rattle.ff_filters.specs.ReadBy.{and_then, read_by}
use Rattle.ff_filters.specs.Texts.{rate_base, time_of}
use Rattle.ff_filters.specs.Ticks.{ticks_at}

-- ---- `color`

-- what its arguments say; a duration in microseconds
pub record ColorSaid : Type 0 where
  pub color : colors.Color
  pub width : ℕ
  pub height : ℕ
  pub base : Fraction
  pub duration : Option ℕ

-- a colour, a size, pictures a second, or a duration
abbrev pub set_color : ColorSaid → ℕ → List ℕ → Option ColorSaid
set_color s zero value = option_map (λ color. record s { color = color }) (color_named value)
set_color s (suc zero) value = option_map (λ size. record s { width = size.0; height = size.1 }) (sides_of value)
set_color s (suc (suc zero)) value = option_map (λ base. record s { base = base }) (rate_base value)
set_color s (suc (suc (suc option))) value = option_map (λ us. record s { duration = Some us }) (time_of value)

-- where no argument is given: black, 320 by 240, 25 a second, and no duration
abbrev pub no_color_said : ColorSaid
no_color_said = record { color = Black; width = 320; height = 240; base = one_over 25; duration = None }

-- so many pictures, of 1 to 16,384 columns and rows
abbrev pub pictures_of : ColorSaid → ℕ → Result Made ConfigError
pictures_of s count =
    cond (is_side s.width && is_side s.height)
    (Ok (Pictures (record { color = s.color; width = s.width; height = s.height; base = s.base; count = count }))) (Err BadSize)

-- The duration has to be given. There are as many pictures as ticks are at least as long.
abbrev pub pictures_as : ColorSaid → Option ℕ → Result Made ConfigError
pictures_as s None = Err BadOption
pictures_as s (Some us) = pictures_of s (ticks_at s.base us)

abbrev pub color_by : List Arg → Result Made ConfigError
color_by args = and_then (λ s. pictures_as s s.duration) (read_by color_manual set_color false 0 no_color_said args)

-- ---- `anullsrc`

-- what its arguments say; a duration in microseconds
pub record SilenceSaid : Type 0 where
  pub channels : ℕ
  pub base : Fraction
  pub duration : Option ℕ

-- a layout, a whole number from 1 to 2^31 - 1 of at most 10 digits, or a duration
abbrev pub set_silence : SilenceSaid → ℕ → List ℕ → Option SilenceSaid
set_silence s zero value = option_map (λ channels. record s { channels = channels }) (channels_named value)
set_silence s (suc zero) value = option_map (λ rate. record s { base = one_over rate }) (number_between 1 (2 ^ 31 - 1) (number_of 10 value))
set_silence s (suc (suc option)) value = option_map (λ us. record s { duration = Some us }) (time_of value)

-- where no argument is given: two channels, 44,100 sample frames a second, and no duration
abbrev pub no_silence_said : SilenceSaid
no_silence_said = record { channels = 2; base = one_over 44100; duration = None }

-- so many sample frames
abbrev pub silence_of : SilenceSaid → ℕ → Result Made ConfigError
silence_of s count = Ok (Silence (record { base = s.base; channels = s.channels; count = count }))

-- The duration has to be given. There are as many sample frames as ticks are at least as long.
abbrev pub silence_as : SilenceSaid → Option ℕ → Result Made ConfigError
silence_as s None = Err BadOption
silence_as s (Some us) = silence_of s (ticks_at s.base us)

abbrev pub silence_by : List Arg → Result Made ConfigError
silence_by args = and_then (λ s. silence_as s s.duration) (read_by silence_manual set_silence false 0 no_silence_said args)
