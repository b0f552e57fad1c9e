use Rattle.std.proofs.Common.{◌↔◌, ℕ, ◌<◌, ap, subst, arith, length}
use Rattle.std.specs.Prelude.{IsErr}
use Rattle.std.proofs.lemmas.Result.{on_ok_weaker, on_err_weaker}
use Rattle.ff_format.specs.laws.Bodies.{size_then}
use Rattle.ff_wav.specs.Header.{written_mode}
use Rattle.ff_wav.specs.Limits.{longest_of}
use Rattle.ff_wav.proofs.writer.WavPutWriter.add.Goals as goal

pub returns-clause-too_large : goal.returns-clause-too_large
returns-clause-too_large c = λ packets counted.
    let size = size_then packets c.args._stream c.args.packet.now in
    subst (λ (n : ℕ). IsErr c.add.result ↔ (longest_of (written_mode c.args.self.now) < n))
    (omega (arith, counted, size, ap length c.as_slice.ensures)) c.add.ensures.too_large

pub returns-clause-ok : goal.returns-clause-ok
returns-clause-ok c =
    on_ok_weaker c.add.result
    (λ more. λ packets counted. let size = size_then packets c.args._stream c.args.packet.now in omega (arith, more, counted, size, ap length c.as_slice.ensures))
    c.add.ensures.ok

pub returns-clause-err : goal.returns-clause-err
returns-clause-err c = on_err_weaker c.add.result (λ same. λ packets counted. omega (arith, same, counted)) c.add.ensures.err
