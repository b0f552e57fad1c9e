-- `anullsrc` by its arguments.
use Rattle.std.specs.Prelude.{◌≡◌, ◌≤◌, ◌<◌, ◌^◌, ℕ, zero, suc, Option, Some, None, List, [], ◌∷◌, codes, Result, Ok, Err}
use Rattle.ff_time.specs.Digits.{number_of}
use Rattle.ff_frame.specs.declared.config.ConfigError.{ConfigError}
use Rattle.ff_frame.specs.declared.config.ConfigError.TheVariants.{BadOption}
use Rattle.ff_lang.specs.declared.graph.Arg.{Arg}
use Rattle.ff_filter.specs.Options.{Manual, IsTime}
use Rattle.ff_filter.specs.Ranges.{IsCeiling}
use Rattle.ff_source.specs.declared.length.Length.{Length}
use Rattle.ff_source.specs.declared.silence_options.SilenceSettings.{SilenceSettings}
use Rattle.ff_source.specs.declared.made.Made.{Made}
use Rattle.ff_source.specs.declared.made.Made.TheVariants.{Silence}
use Rattle.ff_source.specs.Bases.{one_over}
use Rattle.ff_source.specs.Silences.{channels_named}
use Rattle.ff_source.specs.laws.Readings.{IsMadeBy}

-- a text is a whole number from 1 to 2^31 - 1, of at most 10 digits
abbrev pub IsRate : List ℕ → ℕ → Type 0
IsRate text rate = (number_of 10 text ≡ Some rate) × (1 ≤ rate) × (rate < 2 ^ 31)

-- a layout; a rate; a duration
abbrev pub SetsSilence : SilenceSettings → ℕ → List ℕ → SilenceSettings → Type 0
SetsSilence s zero value t = (channels : ℕ) × (channels_named value ≡ Some channels) × (t ≡ record s { channels = channels })
SetsSilence s (suc zero) value t = (rate : ℕ) × IsRate value rate × (t ≡ record s { base = one_over rate })
SetsSilence s (suc (suc option)) value t = (length : Length) × IsTime value length.us × (t ≡ record s { duration = Some length })

abbrev pub silence_manual : Manual SilenceSettings
silence_manual = record {
  names = (codes "cl", 0) ∷ (codes "channel_layout", 0) ∷ (codes "r", 1) ∷ (codes "sample_rate", 1) ∷ (codes "d", 2) ∷ (codes "duration", 2) ∷ [];
  places = 3;
  Sets = SetsSilence;
}

-- where no argument is given: two channels, 44,100 sample frames a second, and no duration
abbrev pub silence_default : SilenceSettings
silence_default = record { channels = 2; base = one_over 44100; duration = None }

-- The duration has to be given. There are as many sample frames as ticks are at least as long.
abbrev pub MakesSilence : SilenceSettings → Option Length → Result Made ConfigError → Type 0
MakesSilence s None r = r ≡ Err BadOption
MakesSilence s (Some length) r =
    (count : ℕ) × IsCeiling length.us s.base count × (r ≡ Ok (Silence (record { base = s.base; channels = s.channels; count = count })))

abbrev pub IsSilence : List Arg → Result Made ConfigError → Type 0
IsSilence args r = IsMadeBy silence_manual silence_default (λ s q. MakesSilence s s.duration q) args r
