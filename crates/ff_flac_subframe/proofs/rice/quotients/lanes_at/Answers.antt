use Rattle.std.proofs.Common.{◌/◌, ◌^◌, length, take, map, ap, ◌∙◌, arith}
use Rattle.std.proofs.lemmas.List.{take_all}
use Rattle.std.proofs.lemmas.Simd.{zip2_splat}
use Rattle.ff_flac_subframe.proofs.rice.quotients.lanes_at.Goals as goal

pub returns : goal.returns
returns c =
    let whole = take_all 16 c.args.part.now (omega (arith, c.requires.len)) in
    zip2_splat (λ u j. u / 2 ^ j) (take 16 c.args.part.now) 16 c.args.k (ap length whole ∙ c.requires.len) ∙ ap (map (λ u. u / 2 ^ c.args.k)) whole
