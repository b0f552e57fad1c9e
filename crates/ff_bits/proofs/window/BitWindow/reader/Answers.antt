use Rattle.std.proofs.Common.{◌≡◌, ◌+◌, ◌-◌, ◌*◌, ◌/◌, ◌≤◌, ◌∙◌, ℕ, Bool, List, sym, ap, length, drop, arith}
use Rattle.std.proofs.lemmas.List.{take_rest, drop-drop}
use Rattle.ff_bits.specs.Bits.{bits}
use Rattle.ff_bits.proofs.BitsLemmas.{drop-bits}
use Rattle.ff_bits.proofs.window.BitWindow.reader.Goals as goal

pub returns : goal.returns
returns c =
    let r = c.self.inside in
    let back : ℕ = (r.held + 7) / 8 in
    let q : ℕ = r.at - back in
    let u : ℕ = 8 * back - r.held in
    let before : r.held ≤ 8 * r.at = c.self.invariant.before in
    let within : r.at ≤ length r.bytes.now = c.self.invariant.within in
    let place : 8 * q + u ≡ 8 * r.at - r.held = omega arith in
    c.past.ensures ∙ ap (λ (m : List ℕ). drop u (bits m)) (take_rest r.bytes.now q) ∙ ap (λ (xs : List Bool). drop u xs) (sym (drop-bits q r.bytes.now (omega arith)))
    ∙ drop-drop u (8 * q) (bits r.bytes.now) ∙ ap (λ (k : ℕ). drop k (bits r.bytes.now)) place ∙ c.self.view_is
