-- What the code of a field knows.
use Rattle.std.proofs.Common.{◌≡◌, ℕ, ◌-◌, ◌^◌, ◌<◌, ◌≤◌, Bool, true, false, cond, List, length, take, drop, sym, ap, subst, ◌∙◌, arith}
use Rattle.std.proofs.lemmas.List.{take_all, length-take}
use Rattle.std.proofs.Math.Nat.{pow-le-pow_right}
use Rattle.ff_bits.specs.Bits.{value_of}
use Rattle.ff_bits.specs.Reading.{Answer, Done, More, Bad, Reader, times, some, field}
use Rattle.ff_flac_frame.proofs.Loops.{with_front, times_more, times_bad}
use Rattle.ff_flac_frame.specs.declared.end.FrameEnd.{FrameEnd}
use Rattle.ff_flac_frame.specs.declared.end.FrameEnd.TheVariants.{NotYet, Never, NoMemory}
use Rattle.ff_flac_frame.specs.laws.Gives.{Fails}
use Rattle.ff_bits.proofs.Fields.{field-whole, field-part}
use Rattle.ff_bits.proofs.BitsLemmas.{value_below}

module _ (n : ℕ) (p : ℕ → Bool) (bits : List Bool) (v : ℕ) where
  pub took : (rest : List Bool) → n ≤ length bits → v ≡ value_of (take n bits) → rest ≡ drop n bits → p v ≡ true → field n p bits ≡ Done v rest
  took rest le v-is rest-is h =
      let passed : p (value_of (take n bits)) ≡ true = subst (λ (w : ℕ). p w ≡ true) v-is h in
      field-whole n p 0 bits le ∙ ap (λ b. cond b (Done (value_of (take n bits)) (drop n bits)) Bad) passed ∙ ap (λ (w : ℕ). Done w (drop n bits)) (sym v-is) ∙ ap (λ (r : List Bool). Done v r) (sym rest-is)

  pub refused : n ≤ length bits → v ≡ value_of (take n bits) → p v ≡ false → field n p bits ≡ Bad
  refused le v-is h =
      let passed : p (value_of (take n bits)) ≡ false = subst (λ (w : ℕ). p w ≡ false) v-is h in
      field-whole n p 0 bits le ∙ ap (λ b. cond b (Done (value_of (take n bits)) (drop n bits)) Bad) passed

  -- a part of a field
  in_part : (have : ℕ) (b : Bool) → have ≡ length bits → length bits < n → v ≡ value_of (take have bits) → b ≡ some (n - have) p v → field n p bits ≡ cond b More Bad
  in_part have b have-is lt v-is b-is =
      let all : v ≡ value_of bits = v-is ∙ ap (λ (xs : List Bool). value_of xs) (take_all have bits (omega arith)) in
      let s : some (n - length bits) p (value_of bits) ≡ b = ap (λ (k : ℕ). some (n - k) p (value_of bits)) (sym have-is) ∙ ap (λ (w : ℕ). some (n - have) p w) (sym all) ∙ sym b-is in
      field-part n p 0 bits lt ∙ ap (λ c. cond c More Bad) s

  pub more_comes : (have : ℕ) (b : Bool) → have ≡ length bits → length bits < n → v ≡ value_of (take have bits) → b ≡ some (n - have) p v → b ≡ true → field n p bits ≡ More
  more_comes have b have-is lt v-is b-is h = in_part have b have-is lt v-is b-is ∙ ap (λ c. cond c More Bad) h

  pub none_comes : (have : ℕ) (b : Bool) → have ≡ length bits → length bits < n → v ≡ value_of (take have bits) → b ≡ some (n - have) p v → b ≡ false → field n p bits ≡ Bad
  none_comes have b have-is lt v-is b-is h = in_part have b have-is lt v-is b-is ∙ ap (λ c. cond c More Bad) h

  pub has_room : (have : ℕ) → n ≤ 63 → have < n → have ≤ length bits → v ≡ value_of (take have bits) → v < 2 ^ (64 - (n - have))
  has_room have le lt le_have v-is =
      let two : 0 < 2 = omega arith in
      let k : length (take have bits) ≤ 64 - (n - have) = omega (arith, length-take have bits) in
      let m : 2 ^ length (take have bits) ≤ 2 ^ (64 - (n - have)) = pow-le-pow_right two k in
      let b = value_below (take have bits) in
      let c : v < 2 ^ length (take have bits) = subst (λ (w : ℕ). w < 2 ^ length (take have bits)) (sym v-is) b in
      omega arith

-- ---- loops that end early

pub times_fails : {A : Type 0} (e : FrameEnd) (r : Reader A) (front : List A) (count i : ℕ) (bits : List Bool) (total : Answer (List A)) → i < count → Fails e (r bits) → with_front front (times (count - i) r bits) ≡ total → Fails e total
times_fails NotYet r front count i bits total lt h so_far = times_more r front count i bits total lt h so_far
times_fails Never r front count i bits total lt h so_far = times_bad r front count i bits total lt h so_far
times_fails NoMemory r front count i bits total lt h so_far = tt

pub times_left_fails : {A : Type 0} (e : FrameEnd) (r : Reader A) (front : List A) (left : ℕ) (bits : List Bool) (total : Answer (List A)) → 0 < left
    → Fails e (r bits) → with_front front (times left r bits) ≡ total → Fails e total
times_left_fails e r front left bits total lt h so_far =
    let all : left - 0 ≡ left = omega arith in
    times_fails e r front left 0 bits total lt h (ap (λ (k : ℕ). with_front front (times k r bits)) all ∙ so_far)
