use Rattle.std.proofs.Common.{◌≡◌, ◌+◌, ◌*◌, ◌/◌, ℕ, ℤ, List, sym, subst, arith}
use Rattle.std.specs.List.{All}
use Rattle.ff_frame.specs.Audio.{FitsBits}
use Rattle.ff_flac_enc.proofs.TotalLemmas.{all_wider}
use Rattle.ff_flac_enc.proofs.counter.bytes_of.Goals as goal

pub push_all-requires-clause-fit : goal.push_all-requires-clause-fit
push_all-requires-clause-fit c =
    subst (λ (b : ℕ). All (FitsBits (8 * ((b + 7) / 8))) c.as_slice-samples.result.now) (sym c.from.ensures)
    (subst (λ (xs : List ℤ). All (FitsBits (8 * ((c.args.frame.now.bits + 7) / 8))) xs) (sym c.as_slice-samples.ensures) (all_wider c.args.frame.now.bits c.args.frame.now.samples c.requires.within_bits))

pub bytes_of_3-requires : goal.bytes_of_3-requires
bytes_of_3-requires c =
    let bits : ℕ = c.args.frame.now.bits in
    let fit : All (FitsBits (8 * ((bits + 7) / 8))) c.as_slice-samples.result.now =
    subst (λ (xs : List ℤ). All (FitsBits (8 * ((bits + 7) / 8))) xs) (sym c.as_slice-samples.ensures) (all_wider bits c.args.frame.now.samples c.requires.within_bits) in
    let wide : 8 * ((bits + 7) / 8) ≡ 24 = omega (arith, c.from.ensures, c.if-width-eq3.true) in
    subst (λ (n : ℕ). All (FitsBits n) c.as_slice-samples.result.now) wide fit
