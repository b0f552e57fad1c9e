use Rattle.std.proofs.Common.{subst, sym}
use Rattle.ff_wav.specs.Heads.{IsReached}
use Rattle.ff_wav.proofs.FormLaws.{told_not_yet, told_decided, told_stays, told_sound, reached_on}
use Rattle.ff_input.proofs.formats.BothFormsHeadWalkRiffWaveHeadWalkRf64WaveHeadReader.read.Goals as goal

pub returns-clause-answers : goal.returns-clause-answers
returns-clause-answers c = λ h.
    let walk = c.args.self.now in
    let r = c.read.ensures.exact (subst (λ xs. IsReached walk xs) (sym h.2) (reached_on walk h.0 h.1 h.3.1)) in
    record {
      not_yet = told_not_yet c.args.whole c.args.bytes.now c.read.result r;
      decided = told_decided c.args.whole c.args.bytes.now c.read.result r;
      stays = told_stays c.args.whole c.args.bytes.now c.read.result r;
      sound = told_sound c.args.whole c.args.bytes.now c.read.result r;
    }

pub returns-clause-goes_on : goal.returns-clause-goes_on
returns-clause-goes_on c = λ h e.
    let walk = c.args.self.now in
    let on = c.read.ensures.goes_on (subst (λ xs. IsReached walk xs) (sym h.2) (reached_on walk h.0 h.1 h.3.1)) e in
    (on.0, (on.0, on.1))
