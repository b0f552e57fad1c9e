use Rattle.std.proofs.lemmas.Result.{IfOk-weaker}
use Rattle.ff_format.specs.Layouts.{bytes_in}
use Rattle.ff_mux.specs.DigestTexts.{joined_text}
use Rattle.ff_mux.proofs.writers.digests.JoinedWriterWriter.tail.Goals as goal

pub returns : goal.returns
unfolding joined_text
returns c = IfOk-weaker c.joined_line.result _ _ (λ text is. λ packets taken. is (bytes_in packets) taken) c.joined_line.ensures
