use Rattle.std.proofs.Common.{sym, ◌∙◌, arith}
use Rattle.ff_afilter.specs.laws.LastingLaws.{lasting_skips}
use Rattle.ff_afilter.proofs.lasting_atrim.LastingATrim.cut.Goals as goal

pub returns-then-not-ends_after-clause-made : goal.returns-then-not-ends_after-clause-made
returns-then-not-ends_after-clause-made c t =
    lasting_skips c.args.self.now.trim.range c.args.self.now.lasting c.args.frame (λ e. omega (arith, e, c.if-self-eq0.false)) (sym c.ends_after.ensures ∙ c.if-not-ends_after.true) t
