-- Some bits of a word.
use Rattle.std.proofs.Common.{◌≡◌, ℕ, zero, suc, ◌+◌, ◌-◌, ◌*◌, ◌/◌, ◌%◌, ◌^◌, ◌<◌, ◌≤◌, ◌==◌, Bool, List, [], ◌∷◌, ◌++◌, length, take, drop, get_or, refl, sym, ap, subst, ◌∙◌, append_assoc, arith, length-append, length-drop}
use Rattle.std.proofs.lemmas.Nat.{shr_high, mod_low, mod-pow-add}
use Rattle.std.proofs.lemmas.List.{length-take, take-append-drop, drop-drop, take-append-le, drop-append-le, drop_more}
use Rattle.ff_bits.specs.Bits.{digit, value_from, value_of, bits_of, bits}
use Rattle.ff_bits.proofs.BitsLemmas.{value_from-split, value_below, length-bits, length-bits_of, digit_is, bits-append, drop-bits}

pub value_from-append : (v : ℕ) (a b : List Bool) → value_from v (a ++ b) ≡ value_from (value_from v a) b
value_from-append v [] b = refl
value_from-append v (x ∷ a) b = value_from-append (2 * v + digit x) a b

pub value_of-append : (a b : List Bool) → value_of (a ++ b) ≡ value_of a * 2 ^ length b + value_of b
value_of-append a b = value_from-append 0 a b ∙ value_from-split (value_of a) b

-- n bits of a list, u bits in
pub window : (n u s : ℕ) (xs : List Bool) → length xs ≡ u + n + s → value_of (take n (drop u xs)) ≡ value_of xs / 2 ^ s % 2 ^ n
window n u s xs h =
    let front : List Bool = take u xs in
    let mid : List Bool = take n (drop u xs) in
    let back : List Bool = drop n (drop u xs) in
    let parts : xs ≡ front ++ (mid ++ back) = sym (ap (λ (m : List Bool). front ++ m) (take-append-drop n (drop u xs)) ∙ take-append-drop u xs) in
    let lb : length back ≡ s = omega (arith, length-drop n (drop u xs), length-drop u xs) in
    let lm : length mid ≡ n = omega (arith, length-take n (drop u xs), length-drop u xs) in
    let lf : length (front ++ mid) ≡ length front + n = omega (arith, length-append front mid) in
    let e : value_of xs ≡ value_of (front ++ mid) * 2 ^ s + value_of back = ap value_of (parts ∙ sym (append_assoc front mid back)) ∙ value_of-append (front ++ mid) back ∙ ap (λ (k : ℕ). value_of (front ++ mid) * 2 ^ k + value_of back) lb in
    let low : value_of back < 2 ^ s = subst (λ (k : ℕ). value_of back < 2 ^ k) lb (value_below back) in
    let f : value_of (front ++ mid) ≡ value_of front * 2 ^ n + value_of mid = value_of-append front mid ∙ ap (λ (k : ℕ). value_of front * 2 ^ k + value_of mid) lm in
    let small : value_of mid < 2 ^ n = subst (λ (k : ℕ). value_of mid < 2 ^ k) lm (value_below mid) in
    sym (ap (λ (k : ℕ). k / 2 ^ s % 2 ^ n) e ∙ ap (λ (k : ℕ). k % 2 ^ n) (shr_high (value_of (front ++ mid)) s (value_of back) low) ∙ ap (λ (k : ℕ). k % 2 ^ n) f ∙ mod_low (value_of front) n (value_of mid) small)

-- the same in the bits that follow
pub window_of : (n u s : ℕ) (xs after : List Bool) → length xs ≡ u + n + s → value_of (take n (drop u (xs ++ after))) ≡ value_of xs / 2 ^ s % 2 ^ n
window_of n u s xs after h =
    let le : u ≤ length xs = omega arith in
    let d = drop-append-le u xs after le in
    let le2 : n ≤ length (drop u xs) = omega (arith, length-drop u xs) in
    let t = take-append-le n (drop u xs) after le2 in
    ap (λ (m : List Bool). value_of (take n m)) d ∙ ap value_of t ∙ window n u s xs h

-- ---- a byte's digits

pub value_of-bits_of : (n v : ℕ) → value_of (bits_of n v) ≡ v % 2 ^ n
unfolding bits_of
value_of-bits_of zero v = omega arith
value_of-bits_of (suc n) v =
    let b : Bool = (v / 2 ^ n % 2 == 1) in
    let s = value_from-split (2 * 0 + digit b) (bits_of n v) in
    let l = length-bits_of n v in
    let m = mod-pow-add v 1 n in
    let one : 1 + n ≡ suc n = omega arith in
    let d : digit b ≡ v / 2 ^ n % 2 ^ 1 = digit_is (v / 2 ^ n) in
    s ∙ ap (λ (k : ℕ). (2 * 0 + digit b) * 2 ^ k + value_of (bits_of n v)) l ∙ ap (λ (k : ℕ). (2 * 0 + digit b) * 2 ^ n + k) (value_of-bits_of n v) ∙ ap (λ (x : ℕ). x * 2 ^ n + v % 2 ^ n) (let k : 2 * 0 + digit b ≡ v / 2 ^ n % 2 ^ 1 = omega (arith, d) in k) ∙ sym m ∙ ap (λ (k : ℕ). v % 2 ^ k) one

-- ---- eight bytes

pub byte_step : (v k i : ℕ) (xs : List ℕ) → i < length xs → get_or xs i 0 < 256
    → value_from v (bits (take (suc k) (drop i xs))) ≡ value_from (v * 256 + get_or xs i 0) (bits (take k (drop (i + 1) xs)))
unfolding bits
byte_step v k i xs lt fits =
    let b : ℕ = get_or xs i 0 in
    let d : drop i xs ≡ b ∷ drop (i + 1) xs = drop_more xs i 0 lt in
    let e : bits (take (suc k) (drop i xs)) ≡ bits_of 8 b ++ bits (take k (drop (i + 1) xs)) = ap (λ (m : List ℕ). bits (take (suc k) m)) d in
    let l = length-bits_of 8 b in
    let nb : value_of (bits_of 8 b) ≡ b % 2 ^ 8 = value_of-bits_of 8 b in
    let sp = value_from-split v (bits_of 8 b) in
    let one : value_from v (bits_of 8 b) ≡ v * 256 + b = sp ∙ (let f : v * 2 ^ length (bits_of 8 b) + value_of (bits_of 8 b) ≡ v * 256 + b = ap (λ (k : ℕ). v * 2 ^ k + value_of (bits_of 8 b)) l ∙ (let g : v * 2 ^ 8 + value_of (bits_of 8 b) ≡ v * 256 + b = omega arith in g) in f) in
    ap (λ (m : List Bool). value_from v m) e ∙ value_from-append v (bits_of 8 b) (bits (take k (drop (i + 1) xs))) ∙ ap (λ (w : ℕ). value_from w (bits (take k (drop (i + 1) xs)))) one

pub word_number : (xs : List ℕ) → 8 ≤ length xs → ((i : ℕ) → get_or xs i 0 < 256)
    → value_of (bits (take 8 xs)) ≡ (((((((get_or xs 0 0 * 256 + get_or xs 1 0) * 256 + get_or xs 2 0) * 256 + get_or xs 3 0) * 256 + get_or xs 4 0) * 256 + get_or xs 5 0) * 256 + get_or xs 6 0) * 256 + get_or xs 7 0)
unfolding bits
word_number xs h fits =
    let a0 : ℕ = 0 * 256 + get_or xs 0 0 in
    let a1 : ℕ = a0 * 256 + get_or xs 1 0 in
    let a2 : ℕ = a1 * 256 + get_or xs 2 0 in
    let a3 : ℕ = a2 * 256 + get_or xs 3 0 in
    let a4 : ℕ = a3 * 256 + get_or xs 4 0 in
    let a5 : ℕ = a4 * 256 + get_or xs 5 0 in
    let a6 : ℕ = a5 * 256 + get_or xs 6 0 in
    let a7 : ℕ = a6 * 256 + get_or xs 7 0 in
    let s : value_of (bits (take 8 xs)) ≡ a7 =
    byte_step 0 7 0 xs (omega arith) (fits 0) ∙ byte_step a0 6 1 xs (omega arith) (fits 1) ∙ byte_step a1 5 2 xs (omega arith) (fits 2) ∙ byte_step a2 4 3 xs (omega arith) (fits 3)
    ∙ byte_step a3 3 4 xs (omega arith) (fits 4) ∙ byte_step a4 2 5 xs (omega arith) (fits 5) ∙ byte_step a5 1 6 xs (omega arith) (fits 6) ∙ byte_step a6 0 7 xs (omega arith) (fits 7) in
    s ∙ (let z : a0 ≡ get_or xs 0 0 = omega arith in ap (λ (a : ℕ). ((((((a * 256 + get_or xs 1 0) * 256 + get_or xs 2 0) * 256 + get_or xs 3 0) * 256 + get_or xs 4 0) * 256 + get_or xs 5 0) * 256 + get_or xs 6 0) * 256 + get_or xs 7 0) z)

-- the place after some bits more
pub moved : (used n : ℕ) (bytes : List ℕ) → used + n ≤ 8 * length bytes → drop ((used + n) % 8) (bits (drop ((used + n) / 8) bytes)) ≡ drop n (drop used (bits bytes))
moved used n bytes h =
    let q : ℕ = (used + n) / 8 in
    let r : ℕ = (used + n) % 8 in
    let le : q ≤ length bytes = omega arith in
    let e : 8 * q + r ≡ used + n = omega arith in
    ap (λ (m : List Bool). drop r m) (sym (drop-bits q bytes le)) ∙ drop-drop r (8 * q) (bits bytes) ∙ ap (λ (k : ℕ). drop k (bits bytes)) e ∙ sym (drop-drop n used (bits bytes))

pub word_window : (used n word : ℕ) (bytes : List ℕ) → 8 ≤ length bytes → used + n ≤ 64 → word ≡ value_of (bits (take 8 bytes)) → word / 2 ^ (64 - (used + n)) % 2 ^ n ≡ value_of (take n (drop used (bits bytes)))
word_window used n word bytes h le w =
    let e : bits bytes ≡ bits (take 8 bytes) ++ bits (drop 8 bytes) = ap bits (sym (take-append-drop 8 bytes)) ∙ bits-append (take 8 bytes) (drop 8 bytes) in
    let l : length (bits (take 8 bytes)) ≡ used + n + (64 - (used + n)) = omega (arith, length-bits (take 8 bytes), length-take 8 bytes) in
    ap (λ (k : ℕ). k / 2 ^ (64 - (used + n)) % 2 ^ n) w ∙ sym (window_of n used (64 - (used + n)) (bits (take 8 bytes)) (bits (drop 8 bytes)) l) ∙ ap (λ (m : List Bool). value_of (take n (drop used m))) (sym e)
