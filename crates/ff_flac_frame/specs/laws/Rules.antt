-- Which values a rule passes.
use Rattle.std.specs.Prelude.{ℕ, Bool}
use Rattle.ff_flac_frame.specs.declared.rule.Rule.{Rule}
use Rattle.ff_flac_frame.specs.declared.rule.Rule.TheVariants as rule
use Rattle.ff_flac_frame.specs.Codes.{any, equal, below, not_zero, rate_fits, form_fits, depth_fits, kind_fits, order_fits}

abbrev pub passes : Rule → ℕ → Bool
passes rule.Any = any
passes (rule.Equal w) = equal w
passes (rule.Below limit) = below limit
passes rule.NotZero = not_zero
passes (rule.Rate rate) = rate_fits rate
passes (rule.Form channels) = form_fits channels
passes (rule.Depth depth) = depth_fits depth
passes (rule.Kind block) = kind_fits block
passes (rule.Order block order) = order_fits block order
