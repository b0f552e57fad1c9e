-- Rates of frames as time bases: which there is, that there is one at most, and how it is written.
use Rattle.std.proofs.Common.{◌≡◌, ℕ, suc, ◌+◌, ◌-◌, ◌*◌, ◌^◌, ◌<◌, ◌≤◌, ◌⊎◌, inl, inr, ℤ, pos, true, false, cond, Option, Some, None, List, [], ◌∷◌, ◌++◌, take, drop, length, refl, sym, ap, subst, ◌∙◌, arith, length-append, decimal}
use Rattle.std.specs.Prelude.{not, unwrap_or, nat_le, nat_lt, ◌==◌, ◌&&◌, if◌then◌else◌}
use Rattle.std.specs.Int.{◌∣◌}
use Rattle.std.specs.List.{position_or_len, before_first, after_first}
use Rattle.std.proofs.lemmas.Bool.Decides.{nat_tests}
use Rattle.std.proofs.Math.Nat.{one-dvd}
use Rattle.std.proofs.lemmas.Fmt.{decimal_is_IsNumeral, length-decimal-le}
use Rattle.std.proofs.lemmas.Str.Parse.{digit_from_value}
use Rattle.std.proofs.lemmas.Str.{digit_value_digit}
use Rattle.std.specs.Str.Parse.{AllDigits, digits_value_after}
use Rattle.std.specs.Char.{digit_value}
use Rattle.ff_frame.specs.Sizes.{sides_of, is_side}
use Rattle.ff_time.specs.Digits.{is_digit, digits_from, number_of, over_one, both, IsRate}
use Rattle.ff_time.specs.Fraction.{Fraction, IsBase, IsLowestOf, IsReduced}
use Rattle.ff_time.proofs.Lowest.{IsReduced-num, IsReduced-den}
use Rattle.ff_words.specs.declared.job.Size.{Size}
use Rattle.ff_words.specs.Numbers.{sized, size_of}
use Rattle.ff_words.specs.laws.Writing.{rate_text, size_text, IsFineSize, IsFineText}

-- ---- one at most

same_pos : (a b : ℕ) (z : ℤ) → z ≡ pos a → z ≡ pos b → a ≡ b
same_pos a b z p q = cc

fraction_is : (f g : Fraction) → f.num ≡ g.num → f.den ≡ g.den → f ≡ g
fraction_is f g p q = ap (λ n. (let x : Fraction = record { num = n; den = f.den } in x)) p ∙ ap (λ d. (let x : Fraction = record { num = g.num; den = d } in x)) q

lowest_one : (num den : ℤ) (f g : Fraction) → IsLowestOf num den f → IsLowestOf num den g → f ≡ g
lowest_one num den f g r s =
    let same_n : s.n ≡ r.n = same_pos s.n r.n num s.num_is r.num_is in
    let same_d : s.d ≡ r.d = same_pos s.d r.d den s.den_is r.den_is in
    let other : IsReduced r.n r.d g = subst (λ n. IsReduced n r.d g) same_n (subst (λ d. IsReduced s.n d g) same_d s.reduced) in
    fraction_is f g (IsReduced-num r.n r.d f g r.num_positive r.reduced other) (IsReduced-den r.n r.d f g r.num_positive r.reduced other)

pub IsRate-unique : (text : List ℕ) (f g : Fraction) → IsRate text f → IsRate text g → f ≡ g
IsRate-unique text f g h k =
    let same : Some (k.n, k.d) ≡ Some (h.n, h.d) = sym k.ratio ∙ h.ratio in
    let n : k.n ≡ h.n = ap (λ (o : Option (ℕ × ℕ)). (unwrap_or o (0, 0)).0) same in
    let d : k.d ≡ h.d = ap (λ (o : Option (ℕ × ℕ)). (unwrap_or o (0, 0)).1) same in
    lowest_one (pos h.d) (pos h.n) f g h.lowest (subst (λ m. IsLowestOf (pos h.d) (pos m) g) n (subst (λ e. IsLowestOf (pos e) (pos k.n) g) d k.lowest))

-- ---- numbers that are written

digits_read : (n : ℕ) (ds : List ℕ) → AllDigits 10 ds → digits_from n ds ≡ Some (digits_value_after 10 n ds)
digits_read n [] d = refl
digits_read n (c ∷ cs) d =
    let k = digit_from_value c d.0 in
    let t : is_digit c ≡ true = digit_yes c k.0 k.1 in
    let e : 10 * n + (c - 48) ≡ n * 10 + digit_value c = omega (arith, digit_value_digit c k) in
    ap (λ x. cond x (digits_from (10 * n + (c - 48)) cs) None) t ∙ (ap (λ m. digits_from m cs) e ∙ digits_read (n * 10 + digit_value c) cs d.1)
  where
    digit_yes : (b : ℕ) → 48 ≤ b → b ≤ 57 → is_digit b ≡ true
    digit_yes b p q = grind (arith, nat_tests)

number_at : (most : ℕ) (bs : List ℕ) → 1 ≤ length bs → length bs ≤ most → number_of most bs ≡ digits_from 0 bs
number_at most bs some few = let t : (nat_le 1 (length bs) && nat_le (length bs) most) ≡ true = grind (arith, nat_tests) in ap (λ c. cond c (digits_from 0 bs) None) t

number_decimal : (most n : ℕ) → n < 2 ^ 32 → length (decimal n) ≤ most → number_of most (decimal n) ≡ Some n
number_decimal most n lt few =
    let d = decimal_is_IsNumeral n (omega (arith, lt)) in
    number_at most (decimal n) (omega (arith, d.0.0)) few ∙ (digits_read 0 (decimal n) d.0.1 ∙ ap Some d.1)

-- no byte of a number is the one that is looked for
abbrev Lacks : ℕ → List ℕ → Type 0
Lacks x [] = Unit {0}
Lacks x (b ∷ bs) = ((b == x) ≡ false) × Lacks x bs

digits_lack : (x : ℕ) (ds : List ℕ) → (x < 48) ⊎ (57 < x) → AllDigits 10 ds → Lacks x ds
digits_lack x [] o d = tt
digits_lack x (c ∷ cs) o d = (other x c o (digit_from_value c d.0).0 (digit_from_value c d.0).1, digits_lack x cs o d.1)
  where
    other : (x c : ℕ) → (x < 48) ⊎ (57 < x) → 48 ≤ c → c ≤ 57 → (c == x) ≡ false
    other x c (inl p) a b = grind (arith, nat_tests)
    other x c (inr p) a b = grind (arith, nat_tests)

-- where the byte is found, and what stands before and behind it
place_lacks : (x : ℕ) (xs ys : List ℕ) → Lacks x xs → position_or_len (λ b. b == x) (xs ++ x ∷ ys) ≡ length xs
place_lacks x [] ys l = let t : (x == x) ≡ true = grind (arith, nat_tests) in ap (λ c. cond (not c) (1 + position_or_len (λ b. b == x) ys) 0) t
place_lacks x (b ∷ xs) ys l =
    let rest : position_or_len (λ c. c == x) (xs ++ x ∷ ys) ≡ length xs = place_lacks x xs ys l.1 in
    ap (λ c. cond (not c) (1 + position_or_len (λ d. d == x) (xs ++ x ∷ ys)) 0) l.0 ∙ omega (arith, rest)

take_front : {A : Type 0} (xs ys : List A) → take (length xs) (xs ++ ys) ≡ xs
take_front [] ys = refl
take_front (x ∷ xs) ys = ap (λ zs. x ∷ zs) (take_front xs ys)

drop_one : {A : Type 0} (xs ys : List A) (y : A) → drop (length xs + 1) (xs ++ y ∷ ys) ≡ ys
drop_one [] ys y = refl
drop_one (x ∷ xs) ys y = let e : length (x ∷ xs) + 1 ≡ suc (length xs + 1) = omega arith in ap (λ k. drop k (x ∷ (xs ++ y ∷ ys))) e ∙ drop_one xs ys y

-- two numbers with a byte between are those two
pair_read : (x most m n : ℕ) (none : Option (ℕ × ℕ)) → (x < 48) ⊎ (57 < x) → m < 2 ^ 32 → n < 2 ^ 32 → length (decimal m) ≤ most → length (decimal n) ≤ most
    → (let text = decimal m ++ x ∷ decimal n in
    (if nat_lt (position_or_len (λ b. b == x) text) (length text) then both (number_of most (before_first (λ b. b == x) text)) (number_of most (after_first (λ b. b == x) text)) else none)) ≡ Some (m, n)
pair_read x most m n none o p q a b =
    let text : List ℕ = decimal m ++ x ∷ decimal n in
    let place : position_or_len (λ b. b == x) text ≡ length (decimal m) = place_lacks x (decimal m) (decimal n) (digits_lack x (decimal m) o (decimal_is_IsNumeral m (omega (arith, p))).0.1) in
    let inside : nat_lt (length (decimal m)) (length text) ≡ true = within (length (decimal m)) (length text) (omega (arith, length-append (decimal m) (x ∷ decimal n))) in
    ap (λ k. if nat_lt k (length text) then both (number_of most (take k text)) (number_of most (drop (k + 1) text)) else none) place
    ∙ (ap (λ c. if c then both (number_of most (take (length (decimal m)) text)) (number_of most (drop (length (decimal m) + 1) text)) else none) inside
    ∙ (ap (λ xs. both (number_of most xs) (number_of most (drop (length (decimal m) + 1) text))) (take_front (decimal m) (x ∷ decimal n))
    ∙ (ap (λ xs. both (number_of most (decimal m)) (number_of most xs)) (drop_one (decimal m) (decimal n) x)
    ∙ (ap (λ t. both t (number_of most (decimal n))) (number_decimal most m p a) ∙ ap (both (Some m)) (number_decimal most n q b)))))
  where
    within : (i n : ℕ) → i < n → nat_lt i n ≡ true
    within i n h = grind (arith, nat_tests)

decimal_few : (n : ℕ) → n < 2 ^ 32 → length (decimal n) ≤ 10
decimal_few n lt = length-decimal-le 10 n (omega arith) (omega (arith, lt)) (omega (arith, lt))

side_few : (n : ℕ) → n ≤ 16384 → length (decimal n) ≤ 5
side_few n le = length-decimal-le 5 n (omega arith) (omega (arith, le)) (omega (arith, le))

-- ---- rates

common_one : (f : Fraction) → IsBase f → IsReduced f.num f.den f
common_one f h = record {
  common = 1;
  greatest = (one-dvd f.num, one-dvd f.den, λ k p q. subst (λ x. x ∣ 1) (sym (h.lowest k p q)) (one-dvd 1));
  num = omega arith;
  den = omega arith;
}

pub is-rate : (f : Fraction) → IsBase f → IsRate (rate_text f) f
is-rate f h =
    let num : f.num < 2 ^ 32 = omega (arith, h.num_small) in
    let den : f.den < 2 ^ 32 = omega (arith, h.den_small) in
    record {
      n = f.den;
      d = f.num;
      ratio = pair_read 47 10 f.den f.num (over_one (number_of 10 (rate_text f))) (inl (omega arith)) den num (decimal_few f.den den) (decimal_few f.num num);
      lowest = record { n = f.num; d = f.den; num_is = refl; den_is = refl; num_positive = h.num_positive; den_positive = h.den_positive; reduced = common_one f h };
      small = h;
    }

pub rate-short : (f : Fraction) → IsBase f → IsFineText (rate_text f)
rate-short f h =
    omega (arith, length-append (decimal f.den) (47 ∷ decimal f.num), decimal_few f.den (omega (arith, h.den_small)), decimal_few f.num (omega (arith, h.num_small)))

-- ---- sizes

pub is-size : (s : Size) → IsFineSize s → size_of (size_text s) ≡ Some s
is-size s h =
    let width : s.width < 2 ^ 32 = omega (arith, h.1) in
    let height : s.height < 2 ^ 32 = omega (arith, h.3) in
    let sides : sides_of (size_text s) ≡ Some (s.width, s.height) = pair_read 120 5 s.width s.height None (inr (omega arith)) width height (side_few s.width h.1) (side_few s.height h.3) in
    let fits : (is_side s.width && is_side s.height) ≡ true = both_fit s.width s.height h.0 h.1 h.2 h.3 in
    ap sized sides ∙ ap (λ b. if b then Some (record { width = s.width; height = s.height }) else None) fits
  where
    both_fit : (w v : ℕ) → 1 ≤ w → w ≤ 16384 → 1 ≤ v → v ≤ 16384 → (is_side w && is_side v) ≡ true
    both_fit w v a b c d = grind (arith, nat_tests)

pub size-short : (s : Size) → IsFineSize s → IsFineText (size_text s)
size-short s h = omega (arith, length-append (decimal s.width) (120 ∷ decimal s.height), side_few s.width h.1, side_few s.height h.3)
