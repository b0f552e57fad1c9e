use Rattle.std.proofs.Common.{ℕ, ap, ◌∙◌}
use Rattle.std.specs.Prelude.{slice_get}
use Rattle.ff_plan_layout.proofs.wanting.next_source.Goals as goal

pub returns : goal.returns
returns c = c.source_at.ensures ∙ ap (λ (n : ℕ). slice_get c.args.sources.now n) c.sources_before.ensures
