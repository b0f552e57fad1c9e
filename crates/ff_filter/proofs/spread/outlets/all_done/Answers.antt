use Rattle.std.proofs.Common.{◌<◌, length, arith, sym, ap, ◌∙◌}
use Rattle.ff_filter.specs.laws.spread.Lines.{Line, is_done}
use Rattle.ff_filter.specs.laws.spread.LineLaws.{lines_read, all_of, none_of}
use Rattle.ff_filter.proofs.SpreadLemmas.Putting.{done_more}
use Rattle.ff_filter.proofs.spread.outlets.all_done.Goals as goal

pub returns-then-not-is_done : goal.returns-then-not-is_done
returns-then-not-is_done c =
    let os = c.args.outlets.now.items in
    let lt : c.done.port < length os = omega arith in
    sym (none_of os c.done.port lt (ap (λ (l : Line). is_done l) (lines_read os c.done.port c.index.result.now c.index.result.now lt c.index.ensures) ∙ (sym c.is_done.ensures ∙ c.if-not-is_done.true)))

pub done-preserved : goal.done-preserved
done-preserved c =
    let os = c.args.outlets.now.items in
    let lt : c.done.port < length os = omega arith in
    done_more os c.done.port c.done.invariant (ap (λ (l : Line). is_done l) (lines_read os c.done.port c.index.result.now c.index.result.now lt c.index.ensures) ∙ (sym c.is_done.ensures ∙ c.if-not-is_done.false))

pub returns : goal.returns
returns c =
    let os = c.args.outlets.now.items in
    sym (all_of os (λ q lt. c.done.invariant q (omega (arith, lt))))
