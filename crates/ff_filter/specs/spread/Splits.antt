-- The same stream on several outputs.
use Rattle.std.specs.Prelude.{◌≡◌, ◌≤◌, ℕ, Bool, false, List, [], ◌∷◌, codes, replicate, Some, Result, Ok}
use Rattle.ff_time.specs.Digits.{number_of}
use Rattle.ff_frame.specs.declared.config.ConfigError.{ConfigError}
use Rattle.ff_frame.specs.declared.head.StreamHead.{StreamHead}
use Rattle.ff_stream.specs.declared.item.Lane.TheVariants.{Frames}
use Rattle.ff_lang.specs.declared.graph.Arg.{Arg}
use Rattle.ff_filter.specs.Views.{View}
use Rattle.ff_filter.specs.Options.{Manual, IsConfigured}
use Rattle.ff_filter.specs.declared.spread.copies.SplitSettings.{SplitSettings}
use Rattle.ff_filter.specs.spread.Spreads.{on_output}

-- `outputs` is a whole number of 1 to 16
pub record SetsOutputs (value : List ℕ) (t : SplitSettings) : Type 0 where
  pub number : number_of 5 value ≡ Some t.outputs
  pub some : 1 ≤ t.outputs
  pub few : t.outputs ≤ 16

abbrev pub split_manual : Manual SplitSettings
split_manual = record {
  names = (codes "outputs", 0) ∷ [];
  places = 1;
  Sets = λ s option value t. SetsOutputs value t;
}

-- `split` and `asplit`, of inputs of this kind: the head, and how many outputs there are, 2 where that isn't given
abbrev pub IsSplit : (StreamHead → Bool) → List Arg → List StreamHead → Result (StreamHead × ℕ) ConfigError → Type 0
IsSplit wanted args heads r = IsConfigured wanted split_manual (record { outputs = 2 }) (λ head s q. q ≡ Ok (head, s.outputs)) args heads r

-- the stream on each output
abbrev pub split_view : StreamHead × ℕ → View
split_view m = record {
  ins = Frames m.0 ∷ [];
  outs = replicate m.1 (Frames m.0);
  rest = λ ext q. on_output m.1 q (ext 0);
  shut = λ p. false;
  ended = λ q. false;
  stopped = λ q. false;
}

-- the head of each output
abbrev pub split_heads : StreamHead × ℕ → List StreamHead
split_heads m = replicate m.1 m.0
