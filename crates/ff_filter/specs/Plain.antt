-- The options of filters that have none or one, and what they make with the head of the input.
use Rattle.std.specs.Prelude.{◌≡◌, true, false, cond, None, [], ◌∷◌, codes, List, Bool, Result, Ok, Err}
use Rattle.std.specs.Str.{bytes_eq}
use Rattle.ff_frame.specs.declared.config.ConfigError.{ConfigError}
use Rattle.ff_frame.specs.declared.config.ConfigError.TheVariants.{BadOption}
use Rattle.ff_frame.specs.declared.head.StreamHead.{StreamHead}
use Rattle.ff_stream.specs.declared.item.Lane.TheVariants.{Frames}
use Rattle.ff_lang.specs.declared.graph.Arg.{Arg}
use Rattle.ff_filter.specs.declared.after.After.TheVariants.{More}
use Rattle.ff_filter.specs.declared.pass.Pass.{Pass}
use Rattle.ff_filter.specs.declared.plain.NoSettings.{NoSettings}
use Rattle.ff_filter.specs.declared.plain.ExprSettings.{ExprSettings}
use Rattle.ff_filter.specs.declared.rebase.Rebase.{Rebase}
use Rattle.ff_filter.specs.Views.{View}
use Rattle.ff_filter.specs.Options.{Manual, IsConfigured}
use Rattle.ff_filter.specs.Shifts.{shifted}
use Rattle.ff_filter.specs.Singles.{single_view}

abbrev pub no_manual : Manual NoSettings
no_manual = record { names = []; places = 0; Sets = λ s option value t. ⊥ }

-- the option `expr`, whose only value is PTS-STARTPTS
abbrev pub expr_manual : Manual ExprSettings
expr_manual = record {
  names = (codes "expr", 0) ∷ [];
  places = 1;
  Sets = λ s option value t. (bytes_eq value (codes "PTS-STARTPTS") ≡ true) × (t.given ≡ true);
}

-- `null` and `anull`, of inputs of this kind
abbrev pub IsPass : (StreamHead → Bool) → List Arg → List StreamHead → Result Pass ConfigError → Type 0
IsPass wanted args heads r = IsConfigured wanted no_manual (record {}) (λ head s q. q ≡ Ok (record { head = head })) args heads r

abbrev pub pass_view : Pass → View
pass_view m = single_view (Frames m.head) m.head (λ s. s) More

-- `setpts` and `asetpts`, of inputs of this kind; the expression has to be given
abbrev pub IsRebase : (StreamHead → Bool) → List Arg → List StreamHead → Result Rebase ConfigError → Type 0
IsRebase wanted args heads r =
    IsConfigured wanted expr_manual (record { given = false }) (λ head s q. q ≡ cond s.given (Ok (record { head = head; first = None })) (Err BadOption)) args heads r

abbrev pub rebase_view : Rebase → View
rebase_view m = single_view (Frames m.head) m.head (λ s. shifted None s) More
