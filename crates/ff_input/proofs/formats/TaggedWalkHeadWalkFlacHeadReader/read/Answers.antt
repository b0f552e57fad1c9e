use Rattle.ff_flac_dec.proofs.HeadLemmas.{told_not_yet, told_decided, told_stays, told_sound}
use Rattle.ff_input.proofs.formats.TaggedWalkHeadWalkFlacHeadReader.read.Goals as goal

pub returns-clause-answers : goal.returns-clause-answers
returns-clause-answers c = λ h.
    let r = c.read.ensures.exact (h.0, h.1, h.2, h.3.0, h.3.1) in
    record {
      not_yet = told_not_yet c.args.whole c.args.bytes.now c.read.result r;
      decided = told_decided c.args.whole c.args.bytes.now c.read.result r;
      stays = told_stays c.args.whole c.args.bytes.now c.read.result r;
      sound = told_sound c.args.whole c.args.bytes.now c.read.result r;
    }
