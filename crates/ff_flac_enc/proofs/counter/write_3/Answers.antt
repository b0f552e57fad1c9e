use Rattle.std.proofs.Common.{◌≡◌, ℕ, ◌+◌, ◌*◌, ℤ, List, pos, length, get_or, set, ap, sym, ◌∙◌, arith, rules, w32}
use Rattle.std.specs.Prelude.{FitsSigned}
use Rattle.std.proofs.lemmas.Int.{to_z-of_z}
use Rattle.std.proofs.lemmas.List.{length-set, take_all}
use Rattle.ff_flac_enc.specs.Totals.{sample_bytes, samples_bytes}
use Rattle.ff_flac_enc.proofs.TotalLemmas.{three_more}
use Rattle.ff_flac_enc.proofs.counter.write_3.Goals as goal

pub loop-i-preserved : goal.loop-i-preserved
loop-i-preserved c =
    let i : ℕ = c.loop-i.i in
    let samples : List ℤ = c.args.samples.now in
    let z : ℤ = get_or samples i (pos 0) in
    let bytes : List ℕ = c.bytes_3-bytes.result in
    let fits : FitsSigned w32 z = search rules in
    let three : length bytes ≡ 3 = ap length c.bytes_3-bytes.ensures in
    let is : bytes ≡ sample_bytes 3 z = c.bytes_3-bytes.ensures ∙ ap (sample_bytes 3) (to_z-of_z w32 z fits) in
    let once : List ℕ = set c.loop-i.out (3 * i) (get_or bytes 0 0) in
    let twice : List ℕ = set once (3 * i + 1) (get_or bytes 1 0) in
    record {
      len = length-set twice (3 * i + 2) (get_or bytes 2 0) ∙ length-set once (3 * i + 1) (get_or bytes 1 0)
          ∙ length-set c.loop-i.out (3 * i) (get_or bytes 0 0) ∙ c.loop-i.invariant.len;
      bytes = three_more c.loop-i.out bytes samples i
          (omega (arith, c.loop-i.invariant.len, c.loop-i-test.true)) c.loop-i-test.true three is c.loop-i.invariant.bytes;
    }

pub returns : goal.returns
returns c =
    sym (take_all (3 * c.loop-i.i) c.loop-i.out (omega (arith, c.loop-i.invariant.len, c.loop-i-test.false)))
    ∙ c.loop-i.invariant.bytes
    ∙ ap (samples_bytes 3) (take_all c.loop-i.i c.args.samples.now (omega (arith, c.loop-i-test.false)))
