use Rattle.std.proofs.Common.{◌≡◌, ◌+◌, ◌%◌, drop, ap, ◌∙◌, arith, rules}
use Rattle.std.specs.List.{slice_range}
use Rattle.ff_mux.specs.Adler.{byte_sum, sum_of_sums}
use Rattle.ff_mux.proofs.AdlerRuns.{bytes-next, sums-next}
use Rattle.ff_mux.proofs.adler.sums_after.Goals as goal

pub runs-preserved : goal.runs-preserved
runs-preserved c =
    let run = slice_range c.args.bytes.now c.runs.at (c.runs.at + c.min.result) in
    let rest = drop (c.runs.at + c.min.result) c.args.bytes.now in
    let bytes : c.reduced-sums.result.bytes ≡ byte_sum c.runs.sums.bytes run % 65521 = c.reduced-sums.ensures.bytes ∙ ap (λ n. n % 65521) c.after_run.ensures.bytes in
    let sums : c.reduced-sums.result.sums ≡ sum_of_sums c.runs.sums.bytes c.runs.sums.sums run % 65521 = c.reduced-sums.ensures.sums ∙ ap (λ n. n % 65521) c.after_run.ensures.sums in
    record {
      inside = search rules;
      small_bytes = omega (arith, c.reduced-sums.ensures.bytes);
      small_sums = omega (arith, c.reduced-sums.ensures.sums);
      bytes = ap (λ n. byte_sum n rest % 65521) bytes ∙ bytes-next c.args.bytes.now c.runs.at c.min.result c.runs.sums.bytes (byte_sum c.args.begun.bytes c.args.bytes.now % 65521) c.runs.invariant.bytes;
      sums = ap (λ n. sum_of_sums n c.reduced-sums.result.sums rest % 65521) bytes
          ∙ (ap (λ n. sum_of_sums (byte_sum c.runs.sums.bytes run % 65521) n rest % 65521) sums
          ∙ sums-next c.args.bytes.now c.runs.at c.min.result c.runs.sums.bytes c.runs.sums.sums (sum_of_sums c.args.begun.bytes c.args.begun.sums c.args.bytes.now % 65521) c.runs.invariant.sums);
    }
