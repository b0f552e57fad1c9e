use Rattle.std.proofs.Common.{◌≡◌, ◌<◌, ℕ, nat_le, false, arith}
use Rattle.std.proofs.lemmas.Bool.Decides.{nat_tests}
use Rattle.ff_vfilter.specs.laws.LastingLaws.{lasting_skips}
use Rattle.ff_vfilter.proofs.lasting_trim.LastingTrimStep.step.Goals as goal

before_start : (start time at : ℕ) → time < start → time ≡ at → nat_le start at ≡ false
before_start start time at lt e = grind (arith, nat_tests)

pub returns-then-time-self-clause-made : goal.returns-then-time-self-clause-made
returns-then-time-self-clause-made c t =
    let range = c.args.self.now.trim.range in
    lasting_skips range c.args.self.now.lasting c.args.item c.requires.goes_on (λ e. omega (arith, e, c.if-self-eq0.false))
    (before_start range.start c.time_of-time.result _ (omega (arith, c.if-time-self.true)) c.time_of-time.ensures.is) t
