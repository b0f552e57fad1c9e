use Rattle.std.proofs.Common.{arith, rules}
use Rattle.std.proofs.lemmas.Grind.{common_steps}
use Rattle.ff_pcm.specs.Samples.{StandFor}
use Rattle.ff_pcm.proofs.ByteLaws.{only_bytes}
use Rattle.ff_pcm.proofs.encode.pcm_encode_into.Goals as goal

pub returns-clause-value : goal.returns-clause-value
returns-clause-value c =
    let stands : StandFor c.args.codec c.encode_into.new.bytes c.args.frame.now.samples = first_of (search rules, grind (arith, common_steps)) in
    only_bytes c.args.codec c.encode_into.new.bytes c.args.frame.now.samples c.requires.pcm c.know_bytes.ensures.all stands
