use Rattle.ff_bits.proofs.FirstByte.{first_alone, first_marked}
use Rattle.ff_bits.proofs.code.first.Goals as goal

pub returns-then-further-eq0-clause-byte : goal.returns-then-further-eq0-clause-byte
returns-then-further-eq0-clause-byte c = first_alone c.args.further c.args.value c.if-further-eq0.true c.requires.few c.requires.room

pub returns-clause-byte : goal.returns-clause-byte
returns-clause-byte c = (first_marked c.args.further c.args.value c.if-further-eq0.false c.requires.few c.requires.room).0

pub returns-clause-small : goal.returns-clause-small
returns-clause-small c = (first_marked c.args.further c.args.value c.if-further-eq0.false c.requires.few c.requires.room).1
