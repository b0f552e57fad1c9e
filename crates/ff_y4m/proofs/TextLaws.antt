-- Numbers and words that are written, read again.
use Rattle.std.proofs.Common.{◌≡◌, ℕ, zero, suc, ◌+◌, ◌-◌, ◌*◌, ◌^◌, ◌<◌, ◌≤◌, ◌⊎◌, inl, inr, true, false, cond, List, [], ◌∷◌, ◌++◌, take, drop, length, Some, None, Ok, refl, ap, ◌∙◌, arith, length-append, decimal}
use Rattle.std.specs.Prelude.{nat_le, ◌==◌, ◌&&◌, unwrap_or}
use Rattle.std.specs.Option.{option_map}
use Rattle.std.proofs.lemmas.Bool.Decides.{nat_tests}
use Rattle.std.proofs.lemmas.Fmt.{decimal_is_IsNumeral, length-decimal-le}
use Rattle.std.proofs.lemmas.Str.Parse.{digit_from_value}
use Rattle.std.proofs.lemmas.Str.{digit_value_digit}
use Rattle.std.specs.Str.Parse.{AllDigits, digits_value_after}
use Rattle.std.specs.Char.{digit_value}
use Rattle.ff_y4m.specs.declared.parameters.Parameters.{Parameters}
use Rattle.ff_y4m.specs.Lines.{line_end}
use Rattle.ff_time.specs.Digits.{is_digit, digits_from}
use Rattle.ff_y4m.specs.Numbers.{whole, first_place, both, around, pair}
use Rattle.ff_y4m.specs.Parameters.{lettered}
use Rattle.ff_y4m.specs.Heads.{word_len, parameters}
use Rattle.ff_y4m.proofs.NumberLaws.{digit_yes}
use Rattle.ff_y4m.proofs.ReadLaws.{parameters-drop, after, at_byte}

-- ---- lists

pub take_front : {A : Type 0} (xs ys : List A) → take (length xs) (xs ++ ys) ≡ xs
take_front [] ys = refl
take_front (x ∷ xs) ys = ap (λ zs. x ∷ zs) (take_front xs ys)

pub drop_front : {A : Type 0} (xs ys : List A) → drop (length xs) (xs ++ ys) ≡ ys
drop_front [] ys = refl
drop_front (x ∷ xs) ys = drop_front xs ys

drop_one : {A : Type 0} (xs ys : List A) (y : A) → drop (length xs + 1) (xs ++ y ∷ ys) ≡ ys
drop_one [] ys y = refl
drop_one (x ∷ xs) ys y = let e : length (x ∷ xs) + 1 ≡ suc (length xs + 1) = omega arith in ap (λ k. drop k (x ∷ (xs ++ y ∷ ys))) e ∙ drop_one xs ys y

-- none of the bytes is this one
abbrev pub Lacks : ℕ → List ℕ → Type 0
Lacks x [] = Unit {0}
Lacks x (b ∷ bs) = ((b == x) ≡ false) × Lacks x bs

pub lacks-append : (x : ℕ) (xs ys : List ℕ) → Lacks x xs → Lacks x ys → Lacks x (xs ++ ys)
lacks-append x [] ys a b = b
lacks-append x (c ∷ xs) ys a b = (a.0, lacks-append x xs ys a.1 b)

pub place_lacks : (x : ℕ) (xs ys : List ℕ) → Lacks x xs → first_place x (xs ++ x ∷ ys) ≡ Some (length xs)
place_lacks x [] ys l = let t : (x == x) ≡ true = grind (arith, nat_tests) in ap (λ c. cond c (Some 0) (option_map suc (first_place x ys))) t
place_lacks x (b ∷ xs) ys l = ap (λ c. cond c (Some 0) (option_map suc (first_place x (xs ++ x ∷ ys)))) l.0 ∙ ap (option_map suc) (place_lacks x xs ys l.1)

pub none_lacks : (x : ℕ) (xs : List ℕ) → Lacks x xs → first_place x xs ≡ None
none_lacks x [] l = refl
none_lacks x (b ∷ xs) l = ap (λ c. cond c (Some 0) (option_map suc (first_place x xs))) l.0 ∙ ap (option_map suc) (none_lacks x xs l.1)

pub end_lacks : (room : ℕ) (xs ys : List ℕ) → Lacks 10 xs → length xs < room → line_end room (xs ++ 10 ∷ ys) ≡ Some (length xs)
end_lacks zero xs ys l lt = absurd (omega arith)
end_lacks (suc room) [] ys l lt = refl
end_lacks (suc room) (b ∷ xs) ys l lt = ap (λ c. cond c (Some 0) (option_map suc (line_end room (xs ++ 10 ∷ ys)))) l.0 ∙ ap (option_map suc) (end_lacks room xs ys l.1 (omega arith))

-- ---- digits

digits_read : (n : ℕ) (ds : List ℕ) → AllDigits 10 ds → digits_from n ds ≡ Some (digits_value_after 10 n ds)
digits_read n [] d = refl
digits_read n (c ∷ cs) d =
    let k = digit_from_value c d.0 in
    let t : is_digit c ≡ true = digit_yes c k.0 k.1 in
    let e : 10 * n + (c - 48) ≡ n * 10 + digit_value c = omega (arith, digit_value_digit c k) in
    ap (λ x. cond x (digits_from (10 * n + (c - 48)) cs) None) t ∙ (ap (λ m. digits_from m cs) e ∙ digits_read (n * 10 + digit_value c) cs d.1)

digits_lack : (x : ℕ) (ds : List ℕ) → (x < 48) ⊎ (57 < x) → AllDigits 10 ds → Lacks x ds
digits_lack x [] o d = tt
digits_lack x (c ∷ cs) o d = (other x c o (digit_from_value c d.0).0 (digit_from_value c d.0).1, digits_lack x cs o d.1)
  where
    other : (x c : ℕ) → (x < 48) ⊎ (57 < x) → 48 ≤ c → c ≤ 57 → (c == x) ≡ false
    other x c (inl p) a b = grind (arith, nat_tests)
    other x c (inr p) a b = grind (arith, nat_tests)

pub decimal_lacks : (x n : ℕ) → n < 2 ^ 32 → (x < 48) ⊎ (57 < x) → Lacks x (decimal n)
decimal_lacks x n lt o = digits_lack x (decimal n) o (decimal_is_IsNumeral n (omega (arith, lt))).0.1

pub decimal_few : (n : ℕ) → n < 2 ^ 32 → length (decimal n) ≤ 10
decimal_few n lt = length-decimal-le 10 n (omega arith) (omega (arith, lt)) (omega (arith, lt))

whole_at : (bs : List ℕ) → 1 ≤ length bs → length bs ≤ 10 → whole bs ≡ digits_from 0 bs
unfolding whole
whole_at bs some few = let t : (nat_le 1 (length bs) && nat_le (length bs) 10) ≡ true = grind (arith, nat_tests) in ap (λ c. cond c (digits_from 0 bs) None) t

pub whole_decimal : (n : ℕ) → n < 2 ^ 32 → whole (decimal n) ≡ Some n
whole_decimal n lt =
    let d = decimal_is_IsNumeral n (omega (arith, lt)) in
    whole_at (decimal n) (omega (arith, d.0.0)) (decimal_few n lt) ∙ (digits_read 0 (decimal n) d.0.1 ∙ ap Some d.1)

pair_at : (bs : List ℕ) (k : ℕ) → first_place 58 bs ≡ Some k → pair bs ≡ both (whole (take k bs)) (whole (drop (k + 1) bs))
unfolding pair
pair_at bs k e = ap (around bs) e

-- two numbers joined by a colon
abbrev pub joined : ℕ → ℕ → List ℕ
joined m n = decimal m ++ 58 ∷ decimal n

pub pair_joined : (m n : ℕ) → m < 2 ^ 32 → n < 2 ^ 32 → pair (joined m n) ≡ Some (m, n)
pair_joined m n p q =
    let place = place_lacks 58 (decimal m) (decimal n) (decimal_lacks 58 m p (inr (omega arith))) in
    pair_at (joined m n) (length (decimal m)) place
    ∙ (ap (λ xs. both (whole xs) (whole (drop (length (decimal m) + 1) (joined m n)))) (take_front (decimal m) (58 ∷ decimal n))
    ∙ (ap (λ xs. both (whole (decimal m)) (whole xs)) (drop_one (decimal m) (decimal n) 58)
    ∙ (ap (λ o. both o (whole (decimal n))) (whole_decimal m p) ∙ ap (both (Some m)) (whole_decimal n q))))

pub joined_lacks : (x m n : ℕ) → m < 2 ^ 32 → n < 2 ^ 32 → (x < 48) ⊎ (58 < x) → Lacks x (joined m n)
joined_lacks x m n p q o = lacks-append x (decimal m) (58 ∷ decimal n) (decimal_lacks x m p (beside o)) (no_colon o, decimal_lacks x n q (beside o))
  where
    beside : (x < 48) ⊎ (58 < x) → (x < 48) ⊎ (57 < x)
    beside (inl a) = inl a
    beside (inr a) = inr (omega (arith, a))

    no_colon : (x < 48) ⊎ (58 < x) → (58 == x) ≡ false
    no_colon (inl a) = grind (arith, nat_tests)
    no_colon (inr a) = grind (arith, nat_tests)

-- ---- words

-- what stands behind a word: nothing, or a space and more
pub data Tail : List ℕ → Type 0 where
  tail_end : Tail []
  tail_space : (rest : List ℕ) → Tail (32 ∷ rest)

word_before : (v t : List ℕ) → Lacks 32 v → Tail t → word_len (v ++ t) ≡ length v
word_before v t l tail_end = ap (λ o. unwrap_or o (length (v ++ []))) (nothing v l) ∙ length-nil v
  where
    nothing : (v : List ℕ) → Lacks 32 v → first_place 32 (v ++ []) ≡ None
    nothing [] l = refl
    nothing (b ∷ v) l = ap (λ c. cond c (Some 0) (option_map suc (first_place 32 (v ++ [])))) l.0 ∙ ap (option_map suc) (nothing v l.1)

    length-nil : (v : List ℕ) → length (v ++ []) ≡ length v
    length-nil v = omega (arith, length-append v [])
word_before v t l (tail_space rest) = ap (λ o. unwrap_or o (length (v ++ 32 ∷ rest))) (place_lacks 32 v rest l)

-- a space and a parameter
pub word_step : (at letter : ℕ) (p next : Parameters) (v t : List ℕ) → (letter == 32) ≡ false → Lacks 32 v → Tail t → lettered (at + 1) letter v p ≡ Ok next
    → parameters 0 at p (32 ∷ letter ∷ (v ++ t)) ≡ parameters 0 (at + 2 + length v) next t
word_step at letter p next v t ne l tail e =
    let ys = v ++ t in
    let n : word_len ys ≡ length v = word_before v t l tail in
    let value : take (word_len ys) ys ≡ v = ap (λ k. take k ys) n ∙ take_front v t in
    let good : lettered (at + 1) letter (take (word_len ys) ys) p ≡ Ok next = ap (λ xs. lettered (at + 1) letter xs p) value ∙ e in
    let place : at + 1 + 1 + word_len ys ≡ at + 2 + length v = omega (arith, n) in
    at_byte letter (at + 1) p ys ∙ (ap (λ c. cond c (parameters 0 (at + 1 + 1) p ys) (after (lettered (at + 1) letter (take (word_len ys) ys) p) (at + 1) ys)) ne
    ∙ (ap (λ r. after r (at + 1) ys) good ∙ (parameters-drop ys (word_len ys) (at + 1 + 1) next
    ∙ (ap (λ k. parameters 0 k next (drop (word_len ys) ys)) place ∙ ap (parameters 0 (at + 2 + length v) next) (ap (λ k. drop k ys) n ∙ drop_front v t)))))
