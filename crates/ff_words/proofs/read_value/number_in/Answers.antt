use Rattle.std.proofs.Common.{suc, ◌≡◌, ◌+◌, ◌-◌, ◌*◌, ◌^◌, ◌<◌, ◌≤◌, ℕ, [], ◌∷◌, ◌++◌, length, take, get_or, sym, ap, subst, ◌∙◌, arith}
use Rattle.std.proofs.lemmas.List.{take_more, take_all}
use Rattle.std.proofs.Math.Nat.{pow-le-pow_right, pow-suc}
use Rattle.std.specs.List.{AllByRecursion}
use Rattle.ff_time.specs.Duration.{IsDigit, number}
use Rattle.ff_words.proofs.MapsLemmas.Numbers.{digits_append, number-push}
use Rattle.ff_words.proofs.MapsLemmas.Numbered.{all-at}
use Rattle.ff_words.proofs.read_value.number_in.Goals as goal

small : (k n : ℕ) → k < 9 → n < 10 ^ k → n < 100000000
small k n short below =
    let high : 10 ^ k ≤ 10 ^ 8 = pow-le-pow_right {n = 10} (omega arith) {i = k} {j = 8} (omega (arith, short)) in
    omega (arith, below, high)

power : (i : ℕ) → 10 ^ (i + 1) ≡ 10 ^ i * 10
power i = let more : i + 1 ≡ suc i = omega arith in ap (λ n. 10 ^ n) more ∙ pow-suc 10 i

pub overflow_mul-number : goal.overflow_mul-number
overflow_mul-number c =
    let inside : c.loop-byte.byte-index < 9 = omega arith in
    omega (arith, small c.loop-byte.byte-index c.loop-byte.number inside c.loop-byte.invariant.small)

pub overflow_add-number : goal.overflow_add-number
overflow_add-number c =
    let inside : c.loop-byte.byte-index < 9 = omega arith in
    let worth : c.in-Some.digit ≡ get_or c.args.text.now c.loop-byte.byte-index 0 - 48 = c.in-Some.ensures.1 in
    let high : get_or c.args.text.now c.loop-byte.byte-index 0 ≤ 57 = c.in-Some.ensures.0.1 in
    omega (arith, worth, high, small c.loop-byte.byte-index c.loop-byte.number inside c.loop-byte.invariant.small)

pub loop-byte-preserved : goal.loop-byte-preserved
loop-byte-preserved c =
    let inside : c.loop-byte.byte-index < length c.args.text.now = omega arith in
    let worth : c.in-Some.digit ≡ get_or c.args.text.now c.loop-byte.byte-index 0 - 48 = c.in-Some.ensures.1 in
    let low : 48 ≤ get_or c.args.text.now c.loop-byte.byte-index 0 = c.in-Some.ensures.0.0 in
    let high : get_or c.args.text.now c.loop-byte.byte-index 0 ≤ 57 = c.in-Some.ensures.0.1 in
    let more : take (c.loop-byte.byte-index + 1) c.args.text.now ≡ take c.loop-byte.byte-index c.args.text.now ++ get_or c.args.text.now c.loop-byte.byte-index 0 ∷ [] =
    take_more c.args.text.now c.loop-byte.byte-index 0 inside in
    let sum : number (take (c.loop-byte.byte-index + 1) c.args.text.now) ≡ number (take c.loop-byte.byte-index c.args.text.now) * 10 + (get_or c.args.text.now c.loop-byte.byte-index 0 - 48) =
    ap number more ∙ number-push (take c.loop-byte.byte-index c.args.text.now) (get_or c.args.text.now c.loop-byte.byte-index 0) in
    record {
      digits = subst (AllByRecursion IsDigit) (sym more) (digits_append IsDigit (take c.loop-byte.byte-index c.args.text.now) (get_or c.args.text.now c.loop-byte.byte-index 0 ∷ []) c.loop-byte.invariant.digits (c.in-Some.ensures.0, tt));
      value = omega (arith, sum, c.loop-byte.invariant.value, worth);
      small = omega (arith, power c.loop-byte.byte-index, c.loop-byte.invariant.small, worth, high);
    }

pub returns-in-None : goal.returns-in-None
returns-in-None c n h =
    let inside : c.loop-byte.byte-index < length c.args.text.now = omega arith in
    c.in-None.ensures (all-at IsDigit c.args.text.now c.loop-byte.byte-index 0 inside h.digits.each)

pub returns : goal.returns
returns c =
    let past : length c.args.text.now ≤ c.loop-byte.byte-index = omega arith in
    let whole : take c.loop-byte.byte-index c.args.text.now ≡ c.args.text.now = take_all c.loop-byte.byte-index c.args.text.now past in
    record {
      digits = record { some = c.requires.some; each = subst (AllByRecursion IsDigit) whole c.loop-byte.invariant.digits };
      short = c.requires.short;
      value = c.loop-byte.invariant.value ∙ ap number whole;
    }
