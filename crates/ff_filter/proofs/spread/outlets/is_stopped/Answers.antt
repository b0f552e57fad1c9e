use Rattle.std.proofs.Common.{ap, sym}
use Rattle.ff_filter.specs.laws.spread.Lines.{Line}
use Rattle.ff_filter.specs.laws.spread.LineLaws.{lines_read}
use Rattle.ff_filter.proofs.spread.outlets.is_stopped.Goals as goal

pub returns : goal.returns
returns c = sym (ap (λ (l : Line). l.stopped) (lines_read c.args.outlets.now.items c.args.port c.index.result.now c.index.result.now c.requires c.index.ensures))
