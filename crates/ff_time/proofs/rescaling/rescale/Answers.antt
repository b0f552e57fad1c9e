use Rattle.std.proofs.Common.{rules}
use Rattle.std.specs.Int.{w64}
use Rattle.std.specs.Int.RustNames.{FitsSigned}
use Rattle.ff_time.specs.Rescale.{IsRescaled}
use Rattle.ff_time.proofs.Nearest.{IsRescaled-fits}
use Rattle.ff_time.proofs.rescaling.rescale.Goals as goal

pub returns-clause-overflow : goal.returns-clause-overflow
returns-clause-overflow c =
    let v = c.nearest-value.result in
    let near : IsRescaled c.args.a c.args.from c.args.to v = search rules in
    let fits : FitsSigned w64 v = search rules in
    (λ e. cc, λ h. absurd (h.2 (IsRescaled-fits c.args.a c.args.from c.args.to v h.0 c.parts-from_num.ensures.base c.parts-to_num.ensures.base near h.1 fits)))
