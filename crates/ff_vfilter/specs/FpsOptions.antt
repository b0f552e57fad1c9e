-- `fps` by its arguments.
use Rattle.std.specs.Prelude.{◌≡◌, ℕ, false, List, [], ◌∷◌, codes, Result, Ok}
use Rattle.ff_time.specs.Digits.{IsRate}
use Rattle.ff_time.specs.Fraction.{Fraction}
use Rattle.ff_frame.specs.declared.config.ConfigError.{ConfigError}
use Rattle.ff_frame.specs.declared.head.StreamHead.{StreamHead}
use Rattle.ff_frame.specs.Heads.{base_of_head}
use Rattle.ff_stream.specs.declared.item.Lane.TheVariants.{Frames}
use Rattle.ff_stream.specs.Within.{within, passes_limits}
use Rattle.ff_stream.specs.Times.{with_base}
use Rattle.ff_lang.specs.declared.graph.Arg.{Arg}
use Rattle.ff_filter.specs.Views.{View}
use Rattle.ff_filter.specs.Options.{Manual, is_video, IsConfigured}
use Rattle.ff_vfilter.specs.declared.fps.FpsSettings.{FpsSettings}
use Rattle.ff_vfilter.specs.Rates.{even}

-- `fps` is N or N/D pictures a second
abbrev pub SetsFps : List ℕ → FpsSettings → Type 0
SetsFps value t = IsRate value t.base

abbrev pub fps_manual : Manual FpsSettings
fps_manual = record {
  names = (codes "fps", 0) ∷ [];
  places = 1;
  Sets = λ s option value t. SetsFps value t;
}

-- the head of the input, and the time base of the output: 1/25 where it isn't given
abbrev pub IsFps : List Arg → List StreamHead → Result (StreamHead × Fraction) ConfigError → Type 0
IsFps args heads r = IsConfigured is_video fps_manual (record { base = record { num = 1; den = 25 } }) (λ head s q. q ≡ Ok (head, s.base)) args heads r

-- the same pictures in another time base
abbrev pub fps_head : StreamHead × Fraction → StreamHead
fps_head m = with_base m.1 m.0

abbrev pub fps_view : StreamHead × Fraction → View
fps_view m = record {
  ins = Frames m.0 ∷ [];
  outs = Frames (fps_head m) ∷ [];
  rest = λ ext q. within (passes_limits (Frames (fps_head m))) (even (record { from = base_of_head m.0; to = m.1 }) (ext 0));
  shut = λ p. false;
  ended = λ q. false;
  stopped = λ q. false;
}
