use Rattle.std.proofs.Common.{arith}
use Rattle.ff_flac_subframe.proofs.RiceLemmas.SpanLemmas.{best_in_span, best_by_ends}
use Rattle.ff_flac_subframe.proofs.rice.parameter.best_parameter.Goals as goal

pub returns-then-low-best-clause-is : goal.returns-then-low-best-clause-is
returns-then-low-best-clause-is c =
    let span = c.span_at-span.ensures in
    best_in_span c.args.method _ c.span_at-span.result.high _ c.best_between-best.result c.args.part.now
    (λ k l. omega (arith, span.low k (omega (arith, l)), c.wide_quotients.ensures))
    (λ k l last. omega (arith, span.high k l last, c.wide_quotients.ensures))
    c.if-low-best.true (omega (arith, c.min.ensures, c.parameter_count-count.ensures)) c.best_between-best.ensures.below c.best_between-best.ensures.before c.best_between-best.ensures.behind

pub returns-clause-is : goal.returns-clause-is
returns-clause-is c =
    best_by_ends c.args.method c.best_between.result c.args.part.now (omega (arith, c.best_between.ensures.below, c.parameter_count-count.ensures))
    (λ j l. c.best_between.ensures.before j (omega arith) l) (λ j g l. c.best_between.ensures.behind j g (omega (arith, l, c.parameter_count-count.ensures)))
