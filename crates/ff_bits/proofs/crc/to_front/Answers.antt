use Rattle.std.proofs.Common.{◌≡◌, ◌≤◌, ◌<◌, ℕ, List, length, take, drop, ap, subst, ◌∙◌, arith, length-drop}
use Rattle.std.proofs.lemmas.List.{drop-set-lt, take_all}
use Rattle.ff_bits.proofs.Carried.{front_on}
use Rattle.ff_bits.proofs.crc.to_front.Goals as goal

pub loop-i-preserved : goal.loop-i-preserved
loop-i-preserved c =
    let i : ℕ = c.loop-i.i in
    let words : List ℕ = c.loop-i.words in
    let old : List ℕ = c.args.words.now in
    let lt : i < 30 = c.loop-i-test.true in
    let long : length words ≡ 94 = omega (arith, ap length c.loop-i.invariant.same, length-drop 30 words, length-drop 30 old) in
    record {
      moved = front_on words old i long c.told-words lt c.loop-i.invariant.moved c.loop-i.invariant.same;
      same = drop-set-lt 30 words i _ lt ∙ c.loop-i.invariant.same;
    }

pub returns : goal.returns
returns c =
    let all : c.loop-i.i ≡ 30 = omega arith in
    let few : length (drop 64 c.args.words.now) ≤ 30 = omega (arith, length-drop 64 c.args.words.now) in
    subst (λ (i : ℕ). take i c.loop-i.words ≡ take i (drop 64 c.args.words.now)) all c.loop-i.invariant.moved ∙ take_all 30 (drop 64 c.args.words.now) few
