use Rattle.std.proofs.Common.{◌≡◌, ◌+◌, ◌-◌, ◌*◌, ◌<◌, ◌≤◌, ◌∙◌, ℕ, Bool, List, sym, ap, subst, length, drop, arith, length-drop}
use lib.Count.{count_leading_zeros}
use Rattle.ff_bits.specs.Bits.{bits}
use Rattle.ff_bits.specs.laws.Reads.{IsCounted}
use Rattle.ff_bits.proofs.BitsLemmas.{length-bits}
use Rattle.ff_bits.proofs.Windows.{no_one}
use Rattle.ff_bits.proofs.window.BitWindow.code.Goals as goal

pub returns-in-None-high_in-clause-none : goal.returns-in-None-high_in-clause-none
returns-in-None-high_in-clause-none c =
    let i = c.self.inside in
    let bytes : List ℕ = i.bytes.now in
    let word : ℕ = c.filled-word.result.0 in
    let more : ℕ = c.filled-word.result.1 in
    let before : i.held ≤ 8 * i.at = c.self.invariant.before in
    let w = c.filled-word.ensures.window in
    let all : i.held + 8 * more ≤ w.seen = w.all in
    let place : 8 * (i.at + more) - (i.held + 8 * more) ≡ 8 * i.at - i.held = omega arith in
    let list : List Bool = drop (8 * (i.at + more) - (i.held + 8 * more)) (bits bytes) in
    let same : list ≡ c.args.self.now = ap (λ (k : ℕ). drop k (bits bytes)) place ∙ c.self.view_is in
    let len : length c.args.self.now ≡ 8 * length bytes - (8 * i.at - i.held) = ap length (sym c.self.view_is) ∙ omega (arith, length-drop (8 * i.at - i.held) (bits bytes), length-bits bytes) in
    let less : i.held + 8 * more < count_leading_zeros 64 word + 1 + c.args.n = c.in-None-high_in.ensures.none in
    λ zeros small long counted.
    let room : i.at + 8 ≤ length bytes = omega arith in
    let full : 56 ≤ i.held + 8 * more = c.filled-word.ensures.full room in
    no_one list w.seen w.fits w.there word zeros w.value (omega arith) (omega arith) (subst (λ (xs : List Bool). IsCounted xs zeros (drop (zeros + 1) xs)) (sym same) counted)
