use Rattle.std.proofs.Common.{ap, sym, ◌∙◌}
use Rattle.ff_filter.specs.laws.spread.Lines.{Line}
use Rattle.ff_filter.specs.laws.spread.LineLaws.{lines_read, lines_set, lines_other}
use Rattle.ff_filter.proofs.spread.outlets.stop_one.Goals as goal

pub returns-clause-others : goal.returns-clause-others
returns-clause-others c q n = lines_other c.args.outlets.now.items c.args.port q c.stop.new.self n

pub returns-clause-stopped : goal.returns-clause-stopped
returns-clause-stopped c = ap (λ (l : Line). l.stopped) (lines_set c.args.outlets.now.items c.args.port c.stop.new.self c.requires) ∙ c.stop.ensures.stopped

pub returns-clause-ended : goal.returns-clause-ended
returns-clause-ended c =
    ap (λ (l : Line). l.ended) (lines_set c.args.outlets.now.items c.args.port c.stop.new.self c.requires)
    ∙ (c.stop.ensures.ended ∙ sym (ap (λ (l : Line). l.ended) (lines_read c.args.outlets.now.items c.args.port c.index_mut.result.now c.index_mut.result.now c.requires c.index_mut.ensures.value)))
