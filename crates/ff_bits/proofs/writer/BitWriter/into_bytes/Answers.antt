use Rattle.std.proofs.Common.{length, ap, ◌∙◌, arith}
use Rattle.ff_bits.proofs.BitsLemmas.{length-bits}
use Rattle.ff_bits.proofs.WriterLemmas.{whole_count}
use Rattle.ff_bits.proofs.writer.BitWriter.into_bytes.Goals as goal

pub flushed-requires-clause-whole : goal.flushed-requires-clause-whole
flushed-requires-clause-whole c = whole_count c.self.inside.bytes.items c.self.inside.count c.self.inside.word c.args.self c.self.view_is c.requires

pub returns-clause-len : goal.returns-clause-len
returns-clause-len c =
    let v = c.flushed.result in
    let e = ap length (c.flushed.ensures ∙ c.self.view_is) in
    omega (arith, e, length-bits v.items, v.ok)
