-- What a value of an option makes of settings, filter by filter.
use Rattle.std.specs.Prelude.{ℕ, zero, suc, ◌==◌, true, if◌then◌else◌, Option, Some, None, option_map, List, codes}
use Rattle.std.specs.Str.{bytes_eq}
use Rattle.ff_time.specs.Digits.{number_of}
use Rattle.ff_filter.specs.declared.plain.NoSettings.{NoSettings}
use Rattle.ff_filter.specs.declared.plain.ExprSettings.{ExprSettings}
use Rattle.ff_filter.specs.declared.spread.copies.SplitSettings.{SplitSettings}
use Rattle.ff_vfilter.specs.declared.crop.CropSettings.{CropSettings}
use Rattle.ff_vfilter.specs.declared.pad.PadSettings.{PadSettings}
use Rattle.ff_vfilter.specs.declared.fps.FpsSettings.{FpsSettings}
use Rattle.ff_vfilter.specs.Sizes.{put}
use Rattle.ff_fsync.specs.declared.stacks.options.StackSettings.{StackSettings}
use Rattle.ff_joins.specs.declared.join_options.JoinSettings.{JoinSettings}
use Rattle.ff_filter.specs.Options.{ranged}
use Rattle.ff_filters.specs.Texts.{rate_base}

-- there is no option
abbrev pub set_none : NoSettings → ℕ → List ℕ → Option NoSettings
set_none s option value = None

-- the only expression is PTS-STARTPTS
abbrev pub set_expr : ExprSettings → ℕ → List ℕ → Option ExprSettings
set_expr s option value = if bytes_eq value (codes "PTS-STARTPTS") then Some (record { given = true }) else None

-- a whole number of 1 to 5 digits
abbrev pub set_crop : CropSettings → ℕ → List ℕ → Option CropSettings
set_crop s option value = option_map (λ n. record { sizes = put s.sizes option n }) (number_of 5 value)

abbrev pub set_pad : PadSettings → ℕ → List ℕ → Option PadSettings
set_pad s option value = option_map (λ n. record { sizes = put s.sizes option n }) (number_of 5 value)

-- N or N/D pictures a second
abbrev pub set_fps : FpsSettings → ℕ → List ℕ → Option FpsSettings
set_fps s option value = option_map (λ base. record { base = base }) (rate_base value)

-- 1 to 16 outputs
abbrev pub set_split : SplitSettings → ℕ → List ℕ → Option SplitSettings
set_split s option value = option_map (λ n. record { outputs = n }) (ranged 1 16 value)

-- 2 to 16 inputs; then 0 or 1
abbrev pub set_stack : StackSettings → ℕ → List ℕ → Option StackSettings
set_stack s zero value = option_map (λ n. record { inputs = n; shortest = s.shortest }) (ranged 2 16 value)
set_stack s (suc option) value = option_map (λ n. record { inputs = s.inputs; shortest = n == 1 }) (ranged 0 1 value)

-- 2 to 8 inputs
abbrev pub set_join : JoinSettings → ℕ → List ℕ → Option JoinSettings
set_join s option value = option_map (λ n. record { inputs = n }) (ranged 2 8 value)
