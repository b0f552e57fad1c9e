use Rattle.ff_flac_subframe.proofs.RiceLemmas.Writing.{part_end}
use Rattle.ff_flac_subframe.proofs.rice.write.write_part.Goals as goal

pub returns : goal.returns
returns c =
    part_end c.args.out.now c.put.new.self c.put_values.new.out c.args.method c.best_parameter-k.result c.args.part.now
    c.best_parameter-k.ensures.is c.in_ok-put.ensures.ok c.in_ok-put_values.ensures
