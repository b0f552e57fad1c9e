use Rattle.std.proofs.Common.{Some, sym, ◌∙◌}
use Rattle.ff_trim.specs.laws.Taps.{way_of}
use Rattle.ff_trim.proofs.Tapping.{resumed}
use Rattle.ff_trim.proofs.tap.Tap.resume.Goals as goal

pub returns-clause-gave : goal.returns-clause-gave
returns-clause-gave c y e = resumed (way_of c.args.self.now) (way_of c.step_on.new.self) c.take.new.self c.in-Some.item (Some y) c.take.ensures.after (sym c.take.ensures.value ∙ c.in-Some.is)
    c.requires.more (c.step_on.ensures.gave y e)
