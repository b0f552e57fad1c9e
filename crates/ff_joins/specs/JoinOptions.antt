-- `join` by its arguments, and the head of its output.
use Rattle.std.specs.Prelude.{◌≡◌, ℕ, ◌+◌, ◌==◌, ◌&&◌, nat_le, Bool, Some, List, [], ◌∷◌, codes, length, Result, Ok, Err}
use Rattle.ff_frame.specs.declared.config.ConfigError.{ConfigError}
use Rattle.ff_frame.specs.declared.config.ConfigError.TheVariants.{Pads, Kind, Mismatch, BadSize}
use Rattle.ff_frame.specs.declared.head.StreamHead.{StreamHead}
use Rattle.ff_frame.specs.declared.head.StreamHead.TheVariants.{Audio, Video}
use Rattle.ff_lang.specs.declared.graph.Arg.{Arg}
use Rattle.ff_filter.specs.Options.{Manual, ranged, Checked, is_sound}
use Rattle.ff_joins.specs.declared.join_options.JoinSettings.{JoinSettings}
use Rattle.ff_joins.specs.Arguments.{last_number, AfterRead, each_head}

-- `inputs` is 2 to 8
abbrev pub join_manual : Manual JoinSettings
join_manual = record {
  names = (codes "inputs", 0) ∷ [];
  places = 1;
  Sets = λ s option value t. ranged 2 8 value ≡ Some t.inputs;
}

-- how many inputs the arguments ask for: 2 where they don't say
abbrev pub inputs_said : List Arg → ℕ
inputs_said args = last_number join_manual 0 2 8 2 args

abbrev pub rate_of : StreamHead → ℕ
rate_of (Audio tb rate bits channels codec) = rate
rate_of (Video tb format width height sar_num sar_den) = 0

abbrev pub bits_of : StreamHead → ℕ
bits_of (Audio tb rate bits channels codec) = bits
bits_of (Video tb format width height sar_num sar_den) = 0

abbrev pub channels_of : StreamHead → ℕ
channels_of (Audio tb rate bits channels codec) = channels
channels_of (Video tb format width height sar_num sar_den) = 0

-- of one rate and of one size of samples
abbrev pub is_like : StreamHead → StreamHead → Bool
is_like h g = (rate_of g == rate_of h) && (bits_of g == bits_of h)

-- the channels of all
abbrev pub channels_in : List StreamHead → ℕ
channels_in [] = 0
channels_in (h ∷ hs) = channels_of h + channels_in hs

abbrev pub with_channels : StreamHead → ℕ → StreamHead
with_channels (Audio tb rate bits channels codec) n = Audio tb rate bits n codec
with_channels (Video tb format width height sar_num sar_den) n = Video tb format width height sar_num sar_den

-- The head of the output: that of the first input, with the channels of all. First it is refused where rates or bits differ, then
-- where there are more than 8 channels.
abbrev pub AreAlike : List StreamHead → Result StreamHead ConfigError → Type 0
AreAlike [] r = r ≡ Err Pads
AreAlike (h ∷ hs) r =
    Checked (each_head (is_like h) hs) Mismatch (λ q. Checked (nat_le (channels_in (h ∷ hs)) 8) BadSize (λ u. u ≡ Ok (with_channels h (channels_in (h ∷ hs)))) q) r

-- `join`: first the number of inputs and their kind decide, then the arguments in their order, then whether the heads go together
abbrev pub IsJoin : List Arg → List StreamHead → Result StreamHead ConfigError → Type 0
IsJoin args heads r =
    Checked (length heads == inputs_said args) Pads (λ q. Checked (each_head is_sound heads) Kind
    (λ u. AfterRead join_manual (record { inputs = 2 }) args (λ s w. AreAlike heads w) u) q) r
