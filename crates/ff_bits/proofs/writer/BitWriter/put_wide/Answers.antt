use Rattle.std.proofs.Common.{◌++◌, ◌-◌, ap, ◌∙◌}
use Rattle.ff_bits.specs.Bits.{bits_of, bits}
use Rattle.ff_bits.proofs.WriterLemmas.{wide}
use Rattle.ff_bits.proofs.writer.BitWriter.put_wide.Goals as goal

pub returns-clause-ok : goal.returns-clause-ok
returns-clause-ok c =
    let r = c.self.inside in
    wide c.args.self.now _ _ c.args.value c.args.n c.requires c.ranges.value.fits
    (c.add_zeros-word.ensures.bits ∙ ap (λ l. bits l ++ bits_of r.count r.word ++ bits_of (c.args.n - 64) 0) c.in_ok-reserve.ensures.items ∙ ap (λ l. l ++ bits_of (c.args.n - 64) 0) c.self.view_is)
    c.add-word.ensures.bits
