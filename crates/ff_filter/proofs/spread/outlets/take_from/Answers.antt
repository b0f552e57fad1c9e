use Rattle.std.proofs.Common.{ap, sym, ◌∙◌}
use Rattle.ff_filter.specs.laws.spread.Lines.{Line}
use Rattle.ff_filter.specs.laws.spread.LineLaws.{lines_read, lines_set, lines_other}
use Rattle.ff_filter.proofs.SpreadLemmas.Putting.{took_by, has_all_by}
use Rattle.ff_filter.proofs.spread.outlets.take_from.Goals as goal

pub returns-clause-others : goal.returns-clause-others
returns-clause-others c q n = lines_other c.args.outlets.now.items c.args.port q c.take.new.self n

pub returns-clause-gives : goal.returns-clause-gives
returns-clause-gives c x e =
    let os = c.args.outlets.now.items in
    let o = c.index_mut.result.now in
    took_by _ _ o c.take.new.self c.args.after x (lines_read os c.args.port o o c.requires c.index_mut.ensures.value) (lines_set os c.args.port c.take.new.self c.requires) (c.take.ensures.gives x e)

pub returns-clause-waits : goal.returns-clause-waits
returns-clause-waits c e =
    let os = c.args.outlets.now.items in
    let o = c.index_mut.result.now in
    has_all_by _ _ o c.take.new.self c.args.after (lines_read os c.args.port o o c.requires c.index_mut.ensures.value) (lines_set os c.args.port c.take.new.self c.requires) (c.take.ensures.waits e)

pub returns-clause-stopped : goal.returns-clause-stopped
returns-clause-stopped c =
    ap (λ (l : Line). l.stopped) (lines_set c.args.outlets.now.items c.args.port c.take.new.self c.requires)
    ∙ (c.take.ensures.stopped ∙ sym (ap (λ (l : Line). l.stopped) (lines_read c.args.outlets.now.items c.args.port c.index_mut.result.now c.index_mut.result.now c.requires c.index_mut.ensures.value)))
