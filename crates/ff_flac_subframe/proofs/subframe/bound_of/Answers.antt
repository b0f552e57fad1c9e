use Rattle.std.proofs.Common.{true≢false, sym, ◌∙◌, arith}
use Rattle.ff_flac_subframe.proofs.Outlooks.{bound_is}
use Rattle.ff_flac_subframe.proofs.subframe.bound_of.Goals as goal

pub returns-then-are_equal-clause-below : goal.returns-then-are_equal-clause-below
returns-then-are_equal-clause-below c =
    bound_is c.args.depth c.min.result c.args.least c.args.samples.now (omega (arith, c.min.ensures, c.min-bound.ensures)) (λ e. omega (arith, c.min.ensures))
    (omega (arith, c.min.ensures, c.min-bound.ensures)) c.requires.least

pub returns-clause-below : goal.returns-clause-below
returns-clause-below c =
    bound_is c.args.depth c.min-bound.result c.args.least c.args.samples.now (omega (arith, c.min-bound.ensures))
    (λ e. absurd (true≢false (sym e ∙ sym c.are_equal.ensures ∙ c.if-are_equal.false))) (omega (arith, c.min-bound.ensures)) c.requires.least
