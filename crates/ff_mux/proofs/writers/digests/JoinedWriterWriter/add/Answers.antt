use Rattle.std.proofs.Common.{◌++◌, ◌∙◌, ℕ, List, ap, sym, subst}
use Rattle.ff_format.specs.laws.Bodies.{bytes_then}
use Rattle.ff_format.specs.Layouts.{bytes_in}
use Rattle.ff_mux.specs.laws.Hashers.{HasTaken}
use Rattle.ff_mux.proofs.writers.digests.JoinedWriterWriter.add.Goals as goal

pub returns-clause-ok : goal.returns-clause-ok
returns-clause-ok c = λ packets taken.
    let all = ap (λ (xs : List ℕ). bytes_in packets ++ xs) c.as_slice.ensures ∙ sym (bytes_then packets c.args._stream c.args.packet.now) in
    subst (λ (xs : List ℕ). HasTaken c.update.new.self xs) all (c.update.ensures.taken (bytes_in packets) taken)
