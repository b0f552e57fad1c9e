-- A coded number as the code reads it, and what its answers mean.
use Rattle.std.proofs.Common.{◌≡◌, ℕ, zero, suc, ◌+◌, ◌-◌, ◌*◌, ◌^◌, ◌<◌, ◌≤◌, Bool, List, [], ◌∷◌, ◌++◌, length, refl, sym, ap, ◌∙◌, arith}
use Rattle.std.proofs.Math.Nat.{pow-le-pow_right}
use Rattle.std.proofs.lemmas.Nat.{pow-add}
use Rattle.std.proofs.lemmas.List.{append-nil}
use Rattle.ff_bits.specs.Number.{capacity, code_with, IsCode, IsPartOfCode, BeginsNoCode}
use Rattle.std.specs.Prelude.{Err}
use Rattle.ff_bits.specs.laws.Reads.{IsNumber}
use Rattle.ff_bits.specs.declared.reader.BitEnd.{BitEnd}
use Rattle.ff_bits.specs.declared.reader.BitEnd.TheVariants.{Short, BadNumber}
use Rattle.ff_bits.specs.Reading.{Answer, Done, More, Bad, on, field}
use Rattle.ff_bits.specs.NumberGrammar.{Answers, is_within, follow, opened, first, further, sixes, coded, coded_below}
use Rattle.ff_bits.proofs.NumberLemmas.{coded-forward, coded-backward, IsSound-coded}

-- k further bytes on, one of them read
module _ (count i value : ℕ) (now after : List Bool) (total : Answer ℕ) (so_far : sixes (count - i) value now ≡ total) where
  pub six_goes_on : i < count → (byte : ℕ) → further now ≡ Done byte after → sixes (count - (i + 1)) (value * 64 + (byte - 128)) after ≡ total
  unfolding sixes
  six_goes_on lt byte h =
      let k : count - i ≡ suc (count - (i + 1)) = omega arith in
      let one : sixes (count - i) value now ≡ sixes (count - (i + 1)) (value * 64 + (byte - 128)) after =
      ap (λ (n : ℕ). sixes n value now) k ∙ ap (λ (a : Answer ℕ). on a (λ b. sixes (count - (i + 1)) (value * 64 + (b - 128)))) h in
      sym one ∙ so_far

  pub six_fails : i < count → (e : BitEnd) → Answers (Err e) (further now) after → (rest : List Bool) → Answers (Err e) total rest
  unfolding sixes
  six_fails lt Short h rest =
      let k : count - i ≡ suc (count - (i + 1)) = omega arith in
      sym so_far ∙ ap (λ (n : ℕ). sixes n value now) k ∙ ap (λ (a : Answer ℕ). on a (λ b. sixes (count - (i + 1)) (value * 64 + (b - 128)))) h
  six_fails lt BadNumber h rest =
      let k : count - i ≡ suc (count - (i + 1)) = omega arith in
      sym so_far ∙ ap (λ (n : ℕ). sixes n value now) k ∙ ap (λ (a : Answer ℕ). on a (λ b. sixes (count - (i + 1)) (value * 64 + (b - 128)))) h

  pub sixes_done : count ≤ i → total ≡ Done value now
  unfolding sixes
  sixes_done le = let k : count - i ≡ 0 = omega arith in sym so_far ∙ ap (λ (n : ℕ). sixes n value now) k

-- six bits more
pub six_below : (value i x : ℕ) → value < 2 ^ (7 + 6 * i) → x < 64 → value * 64 + x < 2 ^ (7 + 6 * (i + 1))
six_below value i x h l =
    let e : 7 + 6 * (i + 1) ≡ 7 + 6 * i + 6 = omega arith in
    let p : 2 ^ (7 + 6 * (i + 1)) ≡ 2 ^ (7 + 6 * i) * 2 ^ 6 = ap (λ (k : ℕ). 2 ^ k) e ∙ pow-add 2 (7 + 6 * i) 6 in
    omega arith

pub sixes_fit : (value i : ℕ) → i ≤ 6 → value < 2 ^ (7 + 6 * i) → value < 2 ^ 43
sixes_fit value i h l =
    let two : 0 < 2 = omega arith in
    let le : 7 + 6 * i ≤ 43 = omega arith in
    let m : 2 ^ (7 + 6 * i) ≤ 2 ^ 43 = pow-le-pow_right two le in
    omega arith

-- the whole number
pub coded_goes_on : (now after : List Bool) (byte count value : ℕ) → first now ≡ Done byte after → count ≡ follow byte → value ≡ opened byte → coded now ≡ sixes count value after
unfolding coded
coded_goes_on now after byte count value h c v =
    ap (λ (a : Answer ℕ). on a (λ b. sixes (follow b) (opened b))) h ∙ ap (λ (k : ℕ). sixes k (opened byte) after) (sym c) ∙ ap (λ (x : ℕ). sixes count x after) (sym v)

pub coded_fails : (now : List Bool) (e : BitEnd) (after rest : List Bool) → Answers (Err e) (first now) after → Answers (Err e) (coded now) rest
unfolding coded
coded_fails now Short after rest h = ap (λ (a : Answer ℕ). on a (λ b. sixes (follow b) (opened b))) h
coded_fails now BadNumber after rest h = ap (λ (a : Answer ℕ). on a (λ b. sixes (follow b) (opened b))) h

-- ---- what the answers mean

-- nothing makes it whole only where it is whole
longer : (xs more : List Bool) (v : ℕ) → coded xs ≡ More → coded (xs ++ more) ≡ Done v [] → 0 < length more
longer xs [] v e h = absurd (let same : coded (xs ++ []) ≡ coded xs = ap coded (append-nil xs) in cc)
longer xs (b ∷ more) v e h = omega arith

pub code_is_part : (xs : List Bool) → coded xs ≡ More → IsPartOfCode xs
code_is_part xs e =
    let t = IsSound-coded.completes xs e in
    let b = coded-backward t.1 (xs ++ t.0) [] t.2 in
    let text : xs ++ t.0 ≡ code_with b.0 t.1 = b.3 ∙ append-nil (code_with b.0 t.1) in
    (t.0, t.1, longer xs t.0 t.1 e t.2, (b.0, b.1, b.2, text))

pub begins_no_code : (xs : List Bool) → coded xs ≡ Bad → BeginsNoCode xs
begins_no_code xs e more code rest v h k =
    let f : coded (code ++ rest) ≡ Done v rest = ap (λ (c : List Bool). coded (c ++ rest)) h.3 ∙ coded-forward h.0 v rest h.1 h.2 in
    let g : coded (xs ++ more) ≡ Bad = IsSound-coded.stays_bad xs more e in
    let same : coded (xs ++ more) ≡ coded (code ++ rest) = ap coded k in
    cc

pub code_below : (code : List Bool) (v : ℕ) → IsCode code v → v < 2 ^ 36
code_below code v h =
    let two : 0 < 2 = omega arith in
    let le : capacity h.0 ≤ 36 = at_most h.0 h.1 in
    let m : 2 ^ capacity h.0 ≤ 2 ^ 36 = pow-le-pow_right two le in
    let l = h.2 in
    omega arith
  where
    at_most : (k : ℕ) → k ≤ 6 → capacity k ≤ 36
    at_most zero l = omega arith
    at_most (suc k) l = omega arith

pub number_read : (now ahead rest : List Bool) (v : ℕ) → ahead ≡ now → coded ahead ≡ Done v rest → IsNumber now v rest
number_read now ahead rest v e h = let b = coded-backward v ahead rest h in (code_with b.0 v, (b.0, b.1, b.2, refl), sym e ∙ b.3)

-- ---- the same in a form of fewer bytes

pub below_goes_on : (end : ℕ) (now after : List Bool) (byte count value : ℕ) → field 8 (is_within 0x80 0xc0 end) now ≡ Done byte after → count ≡ follow byte → value ≡ opened byte → coded_below end now ≡ sixes count value after
unfolding coded_below
below_goes_on end now after byte count value h c v =
    ap (λ (a : Answer ℕ). on a (λ b. sixes (follow b) (opened b))) h ∙ ap (λ (k : ℕ). sixes k (opened byte) after) (sym c) ∙ ap (λ (x : ℕ). sixes count x after) (sym v)

pub below_fails : (end : ℕ) (now : List Bool) (e : BitEnd) (after rest : List Bool) → Answers (Err e) (field 8 (is_within 0x80 0xc0 end) now) after → Answers (Err e) (coded_below end now) rest
unfolding coded_below
below_fails end now Short after rest h = ap (λ (a : Answer ℕ). on a (λ b. sixes (follow b) (opened b))) h
below_fails end now BadNumber after rest h = ap (λ (a : Answer ℕ). on a (λ b. sixes (follow b) (opened b))) h
