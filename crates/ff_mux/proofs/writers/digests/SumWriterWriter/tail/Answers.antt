use Rattle.std.proofs.Common.{◌++◌, ◌+◌, ◌*◌, ◌%◌, ◌∙◌, ℕ, ap, codes}
use Rattle.std.proofs.lemmas.Result.{IfOk-weaker}
use Rattle.ff_lists.specs.Text.{line}
use Rattle.ff_format.specs.Layouts.{bytes_in}
use Rattle.ff_mux.specs.Adler.{adler32, byte_sum}
use Rattle.ff_mux.specs.CrcTexts.{sum_text}
use Rattle.ff_mux.specs.DigestTexts.{sum_line}
use Rattle.ff_mux.proofs.writers.digests.SumWriterWriter.tail.Goals as goal

pub returns : goal.returns
unfolding sum_line adler32
returns c = IfOk-weaker c.sum_line.result _ _
    (λ text is. λ packets summed. is
    ∙ (ap (λ (b : ℕ). line (codes "CRC=" ++ sum_text (c.args.self.now.sums.sums * 65536 + b))) summed.0
    ∙ ap (λ (s : ℕ). line (codes "CRC=" ++ sum_text (s * 65536 + byte_sum 1 (bytes_in packets) % 65521))) summed.1))
    c.sum_line.ensures
