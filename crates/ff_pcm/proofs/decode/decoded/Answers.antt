use Rattle.std.proofs.Common.{arith, rules}
use Rattle.std.proofs.lemmas.Grind.{common_steps}
use Rattle.ff_pcm.specs.Samples.{StandFor}
use Rattle.ff_pcm.proofs.SampleLaws.{all_stand_fit}
use Rattle.ff_pcm.proofs.decode.decoded.Goals as goal

pub returns-clause-fit : goal.returns-clause-fit
returns-clause-fit c =
    let stands : StandFor c.args.codec c.args.bytes.now c.new.result = first_of (search rules, grind (arith, common_steps)) in
    all_stand_fit c.args.codec c.args.bytes.now c.new.result stands (λ i. (c.type_inv.bytes i).fits)
