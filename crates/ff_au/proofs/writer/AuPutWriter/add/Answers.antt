use Rattle.std.proofs.Common.{ap, arith, length}
use Rattle.ff_format.specs.laws.Bodies.{size_then}
use Rattle.ff_au.proofs.writer.AuPutWriter.add.Goals as goal

pub returns-clause-ok : goal.returns-clause-ok
returns-clause-ok c = λ packets counted.
    let size = size_then packets c.args._stream c.args.packet.now in
    omega (arith, counted, size, c.add.ensures.size, ap length c.as_slice.ensures)
