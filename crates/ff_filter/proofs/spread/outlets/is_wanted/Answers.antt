use Rattle.std.proofs.Common.{◌<◌, length, arith, ap, ◌∙◌}
use Rattle.ff_filter.specs.laws.spread.Lines.{Line}
use Rattle.ff_filter.specs.laws.spread.LineLaws.{lines_read}
use Rattle.ff_filter.proofs.SpreadLemmas.Putting.{stopped_more}
use Rattle.ff_filter.proofs.spread.outlets.is_wanted.Goals as goal

pub stopped-preserved : goal.stopped-preserved
stopped-preserved c =
    let os = c.args.outlets.now.items in
    let lt : c.stopped.port < length os = omega arith in
    stopped_more os c.args.from c.stopped.port c.stopped.invariant (ap (λ (l : Line). l.stopped) (lines_read os c.stopped.port c.index.result.now c.index.result.now lt c.index.ensures) ∙ c.if-not-index.false)
