use Rattle.std.proofs.Common.{refl}
use Rattle.ff_pcm.proofs.BodyLemmas.CutState.{on_ok, fed_cuts}
use Rattle.ff_pcm.proofs.body.cut.PcmCutPacketCut.feed.Goals as goal

pub returns-clause-ok : goal.returns-clause-ok
returns-clause-ok c = on_ok c.push.result _ _ c.push.ensures.ok (λ k head fed n cuts. fed_cuts c.args.self.now _ head fed c.args.bytes.now n c.requires cuts refl refl refl refl refl refl k)
