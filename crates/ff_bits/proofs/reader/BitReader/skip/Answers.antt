use Rattle.std.proofs.Common.{◌≡◌, ◌+◌, ◌*◌, ◌%◌, ◌/◌, ◌∙◌, ℕ, Bool, List, ap, length, drop, arith, length-drop}
use Rattle.std.proofs.lemmas.List.{take_rest}
use Rattle.ff_bits.specs.Bits.{bits}
use Rattle.ff_bits.proofs.BitsLemmas.{left_is}
use Rattle.ff_bits.proofs.Words.{moved}
use Rattle.ff_bits.proofs.reader.BitReader.skip.Goals as goal

pub slice_bounds-self-count : goal.slice_bounds-self-count
slice_bounds-self-count c =
    let r = c.self.inside in
    let e : length c.args.self.now + r.used ≡ 8 * length r.bytes.now = rw (← c.self.view_is) (left_is r.used r.bytes.now c.self.invariant.1) in
    omega arith

pub slice_bounds-self-start : goal.slice_bounds-self-start
slice_bounds-self-start c =
    let r = c.self.inside in
    let e : length c.args.self.now + r.used ≡ 8 * length r.bytes.now = rw (← c.self.view_is) (left_is r.used r.bytes.now c.self.invariant.1) in
    omega arith

pub invariant_of-self : goal.invariant_of-self
invariant_of-self c =
    let r = c.self.inside in
    let e : length c.args.self.now + r.used ≡ 8 * length r.bytes.now = rw (← c.self.view_is) (left_is r.used r.bytes.now c.self.invariant.1) in
    (omega arith, omega (arith, length-drop ((r.used + c.args.n) / 8) r.bytes.now))

pub returns : goal.returns
returns c =
    let r = c.self.inside in
    let e : length c.args.self.now + r.used ≡ 8 * length r.bytes.now = rw (← c.self.view_is) (left_is r.used r.bytes.now c.self.invariant.1) in
    let q : ℕ = (r.used + c.args.n) / 8 in
    ap (λ (m : List ℕ). drop ((r.used + c.args.n) % 8) (bits m)) (take_rest r.bytes.now q) ∙ moved r.used c.args.n r.bytes.now (omega arith) ∙ ap (λ (xs : List Bool). drop c.args.n xs) c.self.view_is
