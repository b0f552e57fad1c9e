use Rattle.std.proofs.Common.{◌≡◌, ◌+◌, ◌-◌, ◌*◌, ◌∙◌, ℕ, Bool, List, sym, ap, subst, drop, arith}
use Rattle.std.proofs.lemmas.List.{drop-drop}
use Rattle.ff_bits.specs.Bits.{bits}
use Rattle.ff_bits.specs.laws.Reads.{IsCoded}
use Rattle.ff_bits.proofs.Fronts.{window_front}
use Rattle.ff_bits.proofs.Windows.{window_behind, place}
use Rattle.ff_bits.proofs.window.BitWindow.four.Goals as goal

pub invariant_of-self : goal.invariant_of-self
invariant_of-self c =
    let i = c.self.inside in
    let len : ℕ = c.turned-word.result.2 + c.turned-word-2.result.2 + c.turned-word-3.result.2 + c.turned-fourth.result.2 in
    window_behind i.bytes.now i.at i.word i.held len c.self.invariant c.if-len-self.false

pub returns-clause-read : goal.returns-clause-read
returns-clause-read c =
    let i = c.self.inside in
    let n : ℕ = c.args.n in
    let held : ℕ = i.held in
    let a : ℕ = c.turned-word.result.2 in
    let b : ℕ = c.turned-word-2.result.2 in
    let d : ℕ = c.turned-word-3.result.2 in
    let e : ℕ = c.turned-fourth.result.2 in
    let p : ℕ = 8 * i.at - held in
    let xs : List Bool = bits i.bytes.now in
    let list : List Bool = drop p xs in
    let one = c.turned-word.ensures.read held (omega arith) list (window_front i.bytes.now i.at i.word held c.self.invariant) in
    let two = c.turned-word-2.ensures.read (held - a) (omega arith) (drop a list) one.0 in
    let three = c.turned-word-3.ensures.read (held - a - b) (omega arith) (drop b (drop a list)) two.0 in
    let four = c.turned-fourth.ensures.read (held - a - b - d) (omega arith) (drop d (drop b (drop a list))) three.0 in
    let left : drop e (drop d (drop b (drop a list))) ≡ drop (8 * i.at - (held - (a + b + d + e))) xs =
    ap (λ (ys : List Bool). drop e (drop d (drop b ys))) (drop-drop a p xs) ∙ ap (λ (ys : List Bool). drop e (drop d ys)) (drop-drop b (p + a) xs)
    ∙ ap (λ (ys : List Bool). drop e ys) (drop-drop d (p + a + b) xs) ∙ drop-drop e (p + a + b + d) xs
    ∙ ap (λ (k : ℕ). drop k xs) (let same : p + a + b + d + e ≡ p + (a + b + d + e) = omega arith in same)
    ∙ ap (λ (k : ℕ). drop k xs) (sym (place i.bytes.now i.at i.word held (a + b + d + e) c.self.invariant c.if-len-self.false)) in (
      drop a list,
      drop b (drop a list),
      drop d (drop b (drop a list)),
      subst (λ (ys : List Bool). IsCoded n ys c.turned-word.result.0.0 c.turned-word.result.0.1 (drop a list)) c.self.view_is one.1,
      two.1,
      three.1,
      subst (λ (ys : List Bool). IsCoded n (drop d (drop b (drop a list))) c.turned-fourth.result.0.0 c.turned-fourth.result.0.1 ys) left four.1,
    )
