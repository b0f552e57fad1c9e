use Rattle.std.proofs.Common.{rules}
use Rattle.ff_wav.specs.Header.{written_head, written_mode, body_size}
use Rattle.ff_selfrun.proofs.GeneratedLemmas.Lengths.{generated}
use Rattle.ff_selfrun.proofs.generated.sound.gen_wav.Goals as goal

pub returns : goal.returns
returns c =
    generated c.args.seconds (body_size c.add.new.self) (written_mode c.add.new.self) (written_head c.add.new.self) c.in_ok-bytes.bytes.items c.push_sound.new.out.items
    (search rules) (search rules) (search rules) (search rules) (search rules)
