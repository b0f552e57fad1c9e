use Rattle.std.proofs.Common.{◌++◌, ◌∙◌, ℕ, List, ap, sym, subst}
use Rattle.ff_format.specs.laws.Bodies.{bytes_then}
use Rattle.ff_format.specs.Layouts.{bytes_in}
use Rattle.ff_mux.specs.laws.Hashers.{AreSums}
use Rattle.ff_mux.proofs.AdlerRuns.{sums-more}
use Rattle.ff_mux.proofs.writers.digests.SumWriterWriter.add.Goals as goal

pub returns-clause-ok : goal.returns-clause-ok
returns-clause-ok c = λ packets summed.
    let all = ap (λ (xs : List ℕ). bytes_in packets ++ xs) c.as_slice.ensures ∙ sym (bytes_then packets c.args._stream c.args.packet.now) in
    subst (λ (xs : List ℕ). AreSums c.sums_after-self.result xs) all
    (sums-more c.args.self.now.sums c.sums_after-self.result (bytes_in packets) c.as_slice.result.now summed c.sums_after-self.ensures.bytes c.sums_after-self.ensures.sums)
