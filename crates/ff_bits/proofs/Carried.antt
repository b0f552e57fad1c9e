-- Words that are added to later words: what they stand for stays the same.
use Rattle.std.proofs.Common.{◌≡◌, ℕ, zero, suc, ◌+◌, ◌-◌, ◌*◌, ◌/◌, ◌%◌, ◌^◌, ◌<◌, ◌≤◌, ◌==◌, Bool, false, cond, arith}
use Rattle.std.proofs.Common.{List, [], ◌∷◌, ◌++◌, length, take, drop, set, get_or, refl, sym, ap, subst, ◌∙◌, append_assoc, bit_xor, length-append, length-drop}
use Rattle.std.specs.Prelude.{replicate}
use Rattle.std.proofs.Math.Seq.{take-add}
use Rattle.std.proofs.Math.Nat.{pow-suc, pow-le-pow_right}
use Rattle.std.proofs.lemmas.Nat.{xor_comm, xor_lt, xor_shr, xor_mod}
use Rattle.std.specs.Int.Bits.{xor_assoc, xor_self, xor_zero_r, xor_shifted}
use Rattle.std.proofs.lemmas.Bool.{lt-ltb}
use Rattle.std.proofs.lemmas.List.{replicate-append-replicate, length-replicate, append-nil, length-take-le, take-take, get_or-drop}
use Rattle.std.proofs.lemmas.List.{drop_more, drop-set-add, take_more, take_more_set, take-set-le, take_rest, take-append-drop}
use Rattle.ff_bits.specs.Bits.{value_of, bits_of, bits}
use Rattle.ff_bits.specs.Crc.{reduced, remainder_from, crc16_of}
use Rattle.ff_bits.specs.laws.Carried.{word_bits, carried}
use Rattle.ff_bits.proofs.BitsLemmas.{length-bits, length-bits_of, bits-append}
use Rattle.ff_bits.proofs.BitsOf.{bits_of-zeros, bits_of-value_of}
use Rattle.ff_bits.proofs.CrcLemmas.{xor_double, brought_below, reduced_below, remainder_from-append}
use Rattle.ff_bits.proofs.Slices.{xor_zero_l, reduced-xor, remainder_from-xor, remainder_below}

-- ---- sums

pair : (a b : ℕ) → bit_xor a (bit_xor a b) ≡ b
pair a b = sym (xor_assoc a a b) ∙ ap (λ (x : ℕ). bit_xor x b) (xor_self a) ∙ xor_zero_l b

swap : (a b c : ℕ) → bit_xor a (bit_xor b c) ≡ bit_xor b (bit_xor a c)
swap a b c = sym (xor_assoc a b c) ∙ ap (λ (x : ℕ). bit_xor x c) (xor_comm a b) ∙ xor_assoc b a c

-- two sums of two
four : (a b c d : ℕ) → bit_xor (bit_xor a b) (bit_xor c d) ≡ bit_xor (bit_xor a c) (bit_xor b d)
four a b c d = xor_assoc a b (bit_xor c d) ∙ ap (bit_xor a) (swap b c d) ∙ sym (xor_assoc a c (bit_xor b d))

both : (a b c d : ℕ) → a ≡ b → c ≡ d → bit_xor a c ≡ bit_xor b d
both a b c d e f = ap (λ (x : ℕ). bit_xor x c) e ∙ ap (bit_xor b) f

-- ---- the division is linear

abbrev left : ℕ → List Bool → ℕ
left r xs = remainder_from 0x18005 16 r xs

-- with so many zeros behind
abbrev later : ℕ → ℕ → ℕ
later n r = remainder_from 0x18005 16 r (replicate n false)

top : (x y : ℕ) → x < 2 → y < 2 → cond (bit_xor x y == 1) (2 ^ 16) 0 ≡ bit_xor (cond (x == 1) (2 ^ 16) 0) (cond (y == 1) (2 ^ 16) 0)
top zero zero hx hy = refl
top zero (suc zero) hx hy = refl
top (suc zero) zero hx hy = refl
top (suc zero) (suc zero) hx hy = refl
top (suc (suc x)) y hx hy = absurd (omega arith)
top x (suc (suc y)) hx hy = absurd (omega arith)

left-xor : (n v w r s : ℕ) → r < 2 ^ 16 → s < 2 ^ 16 → left (bit_xor r s) (bits_of n (bit_xor v w)) ≡ bit_xor (left r (bits_of n v)) (left s (bits_of n w))
unfolding bits_of
left-xor zero v w r s hr hs = refl
left-xor (suc n) v w r s hr hs =
    let x : ℕ = v / 2 ^ n % 2 in
    let y : ℕ = w / 2 ^ n % 2 in
    let digit : bit_xor v w / 2 ^ n % 2 ≡ bit_xor x y = ap (λ (z : ℕ). z % 2) (xor_shr v w n) ∙ xor_mod (v / 2 ^ n) (w / 2 ^ n) 1 in
    let c : ℕ = cond (x == 1) (2 ^ 16) 0 in
    let d : ℕ = cond (y == 1) (2 ^ 16) 0 in
    let p : ℕ = bit_xor (2 * r) c in
    let q : ℕ = bit_xor (2 * s) d in
    let hp : p < 2 ^ (16 + 1) = brought_below 0x18005 16 (omega arith) (omega arith) r (x == 1) hr in
    let hq : q < 2 ^ (16 + 1) = brought_below 0x18005 16 (omega arith) (omega arith) s (y == 1) hs in
    let at_top : cond (bit_xor v w / 2 ^ n % 2 == 1) (2 ^ 16) 0 ≡ bit_xor c d =
    ap (λ (z : ℕ). cond (z == 1) (2 ^ 16) 0) digit ∙ top x y (omega arith) (omega arith) in
    let sum : bit_xor (2 * bit_xor r s) (cond (bit_xor v w / 2 ^ n % 2 == 1) (2 ^ 16) 0) ≡ bit_xor p q =
    both _ _ _ _ (sym (xor_double r s)) at_top ∙ four (2 * r) (2 * s) c d in
    ap (λ (z : ℕ). left (reduced 0x18005 16 z) (bits_of n (bit_xor v w))) sum
    ∙ ap (λ (z : ℕ). left z (bits_of n (bit_xor v w))) (reduced-xor 0x18005 16 (omega arith) (omega arith) p q hp hq)
    ∙ left-xor n v w (reduced 0x18005 16 p) (reduced 0x18005 16 q)
    (reduced_below 0x18005 16 (omega arith) (omega arith) p hp) (reduced_below 0x18005 16 (omega arith) (omega arith) q hq)

below : (xs : List Bool) (r : ℕ) → r < 2 ^ 16 → left r xs < 2 ^ 16
below xs r h = remainder_below 0x18005 16 (omega arith) (omega arith) xs r h

left-from : (xs : List Bool) (r s : ℕ) → r < 2 ^ 16 → s < 2 ^ 16 → left (bit_xor r s) xs ≡ bit_xor (left r xs) (later (length xs) s)
left-from xs r s hr hs = remainder_from-xor 0x18005 16 (omega arith) (omega arith) xs r s hr hs

later-xor : (n r s : ℕ) → r < 2 ^ 16 → s < 2 ^ 16 → later n (bit_xor r s) ≡ bit_xor (later n r) (later n s)
later-xor n r s hr hs = left-from (replicate n false) r s hr hs ∙ ap (λ (m : ℕ). bit_xor (later n r) (later m s)) (length-replicate n false)

later-later : (m n r : ℕ) → later n (later m r) ≡ later (m + n) r
later-later m n r = sym (remainder_from-append 0x18005 16 r (replicate m false) (replicate n false)) ∙ ap (left r) (replicate-append-replicate m n false)

-- ---- the power that is a sum of three

abbrev Agrees : ℕ → Type 0
Agrees r = later 1920 r ≡ bit_xor (bit_xor (later 1024 r) (later 64 r)) r

agrees-xor : (r s : ℕ) → r < 2 ^ 16 → s < 2 ^ 16 → Agrees r → Agrees s → Agrees (bit_xor r s)
agrees-xor r s hr hs e f =
    later-xor 1920 r s hr hs ∙ both _ _ _ _ e f
    ∙ four (bit_xor (later 1024 r) (later 64 r)) r (bit_xor (later 1024 s) (later 64 s)) s
    ∙ ap (λ (x : ℕ). bit_xor x (bit_xor r s))
    (four (later 1024 r) (later 64 r) (later 1024 s) (later 64 s) ∙ sym (both _ _ _ _ (later-xor 1024 r s hr hs) (later-xor 64 r s hr hs)))

later-swap : (m n r : ℕ) → later m (later n r) ≡ later n (later m r)
later-swap m n r = later-later n m r ∙ ap (λ (k : ℕ). later k r) (let e : n + m ≡ m + n = omega arith in e) ∙ sym (later-later m n r)

agrees-later : (n r : ℕ) → r < 2 ^ 16 → Agrees r → Agrees (later n r)
agrees-later n r h e =
    let a : ℕ = later 1024 r in
    let b : ℕ = later 64 r in
    let ha : a < 2 ^ 16 = below (replicate 1024 false) r h in
    let hb : b < 2 ^ 16 = below (replicate 64 false) r h in
    later-swap 1920 n r ∙ ap (later n) e ∙ later-xor n (bit_xor a b) r (xor_lt 16 a b ha hb) h
    ∙ ap (λ (x : ℕ). bit_xor x (later n r)) (later-xor n a b ha hb ∙ both _ _ _ _ (later-swap n 1024 r) (later-swap n 64 r))

doubled : (q : ℕ) → 2 * q < 2 ^ 16 → later 1 q ≡ 2 * q
doubled q h = ap (reduced 0x18005 16) (xor_zero_r (2 * q)) ∙ ap (λ (b : Bool). cond b (2 * q) (bit_xor (2 * q) 0x18005)) (lt-ltb (2 * q) (2 ^ 16) h)

agrees-digit : (d : ℕ) → d < 2 → Agrees d
agrees-digit zero h = refl
agrees-digit (suc zero) h = refl
agrees-digit (suc (suc d)) h = absurd (omega arith)

agrees-below : (n r : ℕ) → n ≤ 16 → r < 2 ^ n → Agrees r
agrees-below zero r le h = agrees-digit r (omega arith)
agrees-below (suc n) r le h =
    let two : 2 ^ suc n ≡ 2 ^ n * 2 = pow-suc 2 n in
    let more : 2 ^ suc n ≤ 2 ^ 16 = pow-le-pow_right (let t : 0 < 2 = omega arith in t) le in
    let q : ℕ = r / 2 in
    let d : ℕ = r % 2 in
    let hq : q < 2 ^ n = omega arith in
    let hd : d < 2 = omega arith in
    let h2 : 2 * q < 2 ^ 16 = omega arith in
    let parts : bit_xor (2 * q) d ≡ r =
    ap (λ (x : ℕ). bit_xor x d) (let e : 2 * q ≡ q * 2 ^ 1 = omega arith in e) ∙ xor_shifted q 1 d hd ∙ (let e : q * 2 ^ 1 + d ≡ r = omega arith in e) in
    let twice : Agrees (2 * q) = subst Agrees (doubled q h2) (agrees-later 1 q (omega arith) (agrees-below n q (omega arith) hq)) in
    subst Agrees parts (agrees-xor (2 * q) d h2 (omega arith) twice (agrees-digit d hd))

-- ---- words

abbrev word : ℕ → ℕ
word w = remainder_from 0x18005 16 0 (bits_of 64 w)

none : 0 < 2 ^ 16
none = omega arith

word_below : (w : ℕ) → word w < 2 ^ 16
word_below w = below (bits_of 64 w) 0 none

word-xor : (v w : ℕ) → word (bit_xor v w) ≡ bit_xor (word v) (word w)
word-xor v w = left-xor 64 v w 0 0 none none

taken : (r w : ℕ) → r < 2 ^ 16 → left r (bits_of 64 w) ≡ bit_xor (later 64 r) (word w)
taken r w h =
    ap (λ (x : ℕ). left x (bits_of 64 w)) (sym (xor_zero_r r)) ∙ ap (λ (x : ℕ). left (bit_xor r 0) (bits_of 64 x)) (sym (xor_zero_l w))
    ∙ left-xor 64 0 w r 0 h none ∙ ap (λ (xs : List Bool). bit_xor (left r xs) (word w)) (bits_of-zeros 64)

abbrev sum_of : List ℕ → ℕ
sum_of words = crc16_of (word_bits words)

sum_below : (words : List ℕ) → sum_of words < 2 ^ 16
unfolding crc16_of
sum_below words = below (word_bits words) 0 none

length-word_bits : (words : List ℕ) → length (word_bits words) ≡ 64 * length words
unfolding word_bits
length-word_bits [] = refl
length-word_bits (w ∷ words) =
    length-append (bits_of 64 w) (word_bits words)
    ∙ (let e : length (bits_of 64 w) + length (word_bits words) ≡ 64 * suc (length words) = omega (arith, length-bits_of 64 w, length-word_bits words) in e)

word_bits-append : (a b : List ℕ) → word_bits (a ++ b) ≡ word_bits a ++ word_bits b
unfolding word_bits
word_bits-append [] b = refl
word_bits-append (w ∷ a) b = ap (λ (m : List Bool). bits_of 64 w ++ m) (word_bits-append a b) ∙ sym (append_assoc (bits_of 64 w) (word_bits a) (word_bits b))

word_bits-one : (w : ℕ) → word_bits (w ∷ []) ≡ bits_of 64 w
unfolding word_bits
word_bits-one w = append-nil (bits_of 64 w)

sum_of-one : (w : ℕ) → sum_of (w ∷ []) ≡ word w
unfolding crc16_of
sum_of-one w = ap (left 0) (word_bits-one w)

sum_of-first : (w n : ℕ) (words : List ℕ) → length words ≡ n → sum_of (w ∷ words) ≡ bit_xor (sum_of words) (later (64 * n) (word w))
unfolding crc16_of word_bits
sum_of-first w n words len =
    remainder_from-append 0x18005 16 0 (bits_of 64 w) (word_bits words) ∙ ap (λ (x : ℕ). left x (word_bits words)) (sym (xor_zero_l (word w)))
    ∙ left-from (word_bits words) 0 (word w) none (word_below w)
    ∙ ap (λ (m : ℕ). bit_xor (sum_of words) (later m (word w))) (length-word_bits words ∙ ap (λ (m : ℕ). 64 * m) len)

sum_of-last : (words : List ℕ) (w : ℕ) → sum_of (words ++ w ∷ []) ≡ bit_xor (later 64 (sum_of words)) (word w)
unfolding crc16_of
sum_of-last words w =
    ap (left 0) (word_bits-append words (w ∷ []) ∙ ap (λ (m : List Bool). word_bits words ++ m) (word_bits-one w))
    ∙ remainder_from-append 0x18005 16 0 (word_bits words) (bits_of 64 w) ∙ taken (sum_of words) w (sum_below words)

-- ---- a word that is brought in

-- what the word leaves in the sums, and what it leaves where it is dropped
settled : (p q a f g w a1 a2 a3 : ℕ) → a3 ≡ bit_xor (bit_xor a2 a1) a
    → bit_xor (bit_xor (bit_xor p (bit_xor (bit_xor (bit_xor w a) f) g)) (bit_xor q g)) f ≡ bit_xor (bit_xor (bit_xor (bit_xor p a3) (bit_xor q a2)) a1) w
settled p q a f g w a1 a2 a3 e =
    let x : ℕ = bit_xor p q in
    let wa : ℕ = bit_xor w a in
    let g_out : bit_xor (bit_xor p (bit_xor (bit_xor wa f) g)) (bit_xor q g) ≡ bit_xor x (bit_xor wa f) =
    four p (bit_xor (bit_xor wa f) g) q g ∙ ap (bit_xor x) (xor_assoc (bit_xor wa f) g g ∙ ap (bit_xor (bit_xor wa f)) (xor_self g) ∙ xor_zero_r (bit_xor wa f)) in
    let f_out : bit_xor (bit_xor x (bit_xor wa f)) f ≡ bit_xor x wa =
    xor_assoc x (bit_xor wa f) f ∙ ap (bit_xor x) (xor_assoc wa f f ∙ ap (bit_xor wa) (xor_self f) ∙ xor_zero_r wa) in
    let inner : bit_xor (bit_xor a3 a2) a1 ≡ a =
    ap (λ (y : ℕ). bit_xor (bit_xor y a2) a1) (e ∙ xor_assoc a2 a1 a)
    ∙ ap (λ (y : ℕ). bit_xor y a1) (xor_comm (bit_xor a2 (bit_xor a1 a)) a2 ∙ pair a2 (bit_xor a1 a)) ∙ xor_comm (bit_xor a1 a) a1 ∙ pair a1 a in
    let right : bit_xor (bit_xor (bit_xor p a3) (bit_xor q a2)) a1 ≡ bit_xor x a =
    ap (λ (y : ℕ). bit_xor y a1) (four p a3 q a2) ∙ xor_assoc x (bit_xor a3 a2) a1 ∙ ap (bit_xor x) inner in
    ap (λ (y : ℕ). bit_xor y f) g_out ∙ f_out ∙ ap (bit_xor x) (xor_comm w a) ∙ sym (xor_assoc x a w) ∙ sym (ap (λ (y : ℕ). bit_xor y w) right)

brought : (ps qs : List ℕ) (a f g w : ℕ) → length ps ≡ 29 → length qs ≡ 15
    → bit_xor (bit_xor (sum_of (ps ++ bit_xor (bit_xor (bit_xor w a) f) g ∷ [])) (sum_of (qs ++ g ∷ []))) (sum_of (f ∷ []))
    ≡ left (bit_xor (bit_xor (sum_of (a ∷ ps)) (sum_of (a ∷ qs))) (sum_of (a ∷ []))) (bits_of 64 w)
brought ps qs a f g w lp lq =
    let p : ℕ = sum_of ps in
    let q : ℕ = sum_of qs in
    let hp : p < 2 ^ 16 = sum_below ps in
    let hq : q < 2 ^ 16 = sum_below qs in
    let wa : ℕ = word a in
    let ha : wa < 2 ^ 16 = word_below a in
    let a2 : ℕ = later 960 wa in
    let a3 : ℕ = later 1856 wa in
    let h2 : a2 < 2 ^ 16 = below (replicate 960 false) wa ha in
    let h3 : a3 < 2 ^ 16 = below (replicate 1856 false) wa ha in
    let pa : ℕ = bit_xor p a3 in
    let qa : ℕ = bit_xor q a2 in
    let hpa : pa < 2 ^ 16 = xor_lt 16 p a3 hp h3 in
    let hqa : qa < 2 ^ 16 = xor_lt 16 q a2 hq h2 in
    let hpq : bit_xor pa qa < 2 ^ 16 = xor_lt 16 pa qa hpa hqa in
    let added : word (bit_xor (bit_xor (bit_xor w a) f) g) ≡ bit_xor (bit_xor (bit_xor (word w) wa) (word f)) (word g) =
    word-xor (bit_xor (bit_xor w a) f) g ∙ ap (λ (x : ℕ). bit_xor x (word g)) (word-xor (bit_xor w a) f ∙ ap (λ (x : ℕ). bit_xor x (word f)) (word-xor w a)) in
    let before : bit_xor (bit_xor (sum_of (a ∷ ps)) (sum_of (a ∷ qs))) (sum_of (a ∷ [])) ≡ bit_xor (bit_xor pa qa) wa =
    both _ _ _ _ (both _ _ _ _ (sum_of-first a 29 ps lp) (sum_of-first a 15 qs lq)) (sum_of-one a) in
    let moved : later 64 (bit_xor (bit_xor pa qa) wa) ≡ bit_xor (bit_xor (bit_xor (later 64 p) (later 1920 wa)) (bit_xor (later 64 q) (later 1024 wa))) (later 64 wa) =
    later-xor 64 (bit_xor pa qa) wa hpq ha
    ∙ ap (λ (x : ℕ). bit_xor x (later 64 wa)) (later-xor 64 pa qa hpa hqa ∙ both _ _ _ _
    (later-xor 64 p a3 hp h3 ∙ ap (bit_xor (later 64 p)) (later-later 1856 64 wa)) (later-xor 64 q a2 hq h2 ∙ ap (bit_xor (later 64 q)) (later-later 960 64 wa))) in
    both _ _ _ _ (both _ _ _ _ (sum_of-last ps (bit_xor (bit_xor (bit_xor w a) f) g) ∙ ap (bit_xor (later 64 p)) added) (sum_of-last qs g)) (sum_of-one f)
    ∙ settled (later 64 p) (later 64 q) wa (word f) (word g) (word w) (later 64 wa) (later 1024 wa) (later 1920 wa) (agrees-below 16 wa (omega arith) ha)
    ∙ sym (ap (λ (x : ℕ). left x (bits_of 64 w)) before ∙ taken (bit_xor (bit_xor pa qa) wa) w (xor_lt 16 (bit_xor pa qa) wa hpq ha)
    ∙ ap (λ (x : ℕ). bit_xor x (word w)) moved)

-- a word behind the thirty
pub carried-step : (words : List ℕ) (i w x : ℕ) → i + 30 < length words
    → x ≡ bit_xor (bit_xor (bit_xor w (get_or words i 0)) (get_or words (i + 1) 0)) (get_or words (i + 16) 0)
    → carried (drop (i + 1) (set words (i + 30) x)) ≡ remainder_from 0x18005 16 (carried (drop i words)) (bits_of 64 w)
unfolding carried
carried-step words i w x lt e =
    let ys : List ℕ = drop (i + 1) words in
    let len : 29 < length ys = omega (arith, length-drop (i + 1) words) in
    let a : ℕ = get_or words i 0 in
    let f : ℕ = get_or ys 0 0 in
    let g : ℕ = get_or ys 15 0 in
    let f-is : get_or words (i + 1) 0 ≡ f = sym (get_or-drop (i + 1) words 0 0 ∙ ap (λ (k : ℕ). get_or words k 0) (let k : i + 1 + 0 ≡ i + 1 = omega arith in k)) in
    let g-is : get_or words (i + 16) 0 ≡ g = sym (get_or-drop (i + 1) words 15 0 ∙ ap (λ (k : ℕ). get_or words k 0) (let k : i + 1 + 15 ≡ i + 16 = omega arith in k)) in
    let x-is : x ≡ bit_xor (bit_xor (bit_xor w a) f) g = e ∙ both _ _ _ _ (ap (bit_xor (bit_xor w a)) f-is) g-is in
    let now : drop i words ≡ a ∷ ys = drop_more words i 0 (omega arith) in
    let at : i + 30 ≡ i + 1 + 29 = omega arith in
    let next : drop (i + 1) (set words (i + 30) x) ≡ set ys 29 x = ap (λ (k : ℕ). drop (i + 1) (set words k x)) at ∙ drop-set-add (i + 1) words 29 x in
    let thirty : take 30 (set ys 29 x) ≡ take 29 ys ++ bit_xor (bit_xor (bit_xor w a) f) g ∷ [] = take_more_set ys 29 x len ∙ ap (λ (y : ℕ). take 29 ys ++ y ∷ []) x-is in
    let sixteen : take 16 (set ys 29 x) ≡ take 15 ys ++ g ∷ [] = take-set-le 16 ys 29 x (omega arith) ∙ take_more ys 15 0 (omega arith) in
    let first : take 1 (set ys 29 x) ≡ f ∷ [] = take-set-le 1 ys 29 x (omega arith) ∙ take_more ys 0 0 (omega arith) in
    ap (λ (zs : List ℕ). bit_xor (bit_xor (sum_of (take 30 zs)) (sum_of (take 16 zs))) (sum_of (take 1 zs))) next
    ∙ both _ _ _ _ (both _ _ _ _ (ap sum_of thirty) (ap sum_of sixteen)) (ap sum_of first)
    ∙ brought (take 29 ys) (take 15 ys) a f g w (length-take-le 29 ys (omega arith)) (length-take-le 15 ys (omega arith))
    ∙ sym (ap (λ (zs : List ℕ). left (bit_xor (bit_xor (sum_of (take 30 zs)) (sum_of (take 16 zs))) (sum_of (take 1 zs))) (bits_of 64 w)) now)

-- the step with the bytes of the word
pub bring_on : (words bytes : List ℕ) (i w x total : ℕ) → i + 30 < length words → 8 * i + 8 ≤ length bytes
    → w ≡ value_of (bits (take 8 (take (length bytes - 8 * i) (drop (8 * i) bytes))))
    → x ≡ bit_xor (bit_xor (bit_xor w (get_or words i 0)) (get_or words (i + 1) 0)) (get_or words (i + 16) 0)
    → carried (drop i words) ≡ remainder_from 0x18005 16 total (bits (take (8 * i) bytes))
    → carried (drop (i + 1) (set words (i + 30) x)) ≡ remainder_from 0x18005 16 total (bits (take (8 * (i + 1)) bytes))
bring_on words bytes i w x total lt le v e h =
    let rest : List ℕ = drop (8 * i) bytes in
    let len : length (bits (take 8 rest)) ≡ 64 = length-bits (take 8 rest) ∙ ap (λ (n : ℕ). 8 * n) (length-take-le 8 rest (omega (arith, length-drop (8 * i) bytes))) in
    let same : bits_of 64 w ≡ bits (take 8 rest) =
    ap (bits_of 64) (v ∙ ap (λ (ys : List ℕ). value_of (bits (take 8 ys))) (take_rest bytes (8 * i))) ∙ bits_of-value_of 64 (bits (take 8 rest)) len in
    let more : take (8 * i) bytes ++ take 8 rest ≡ take (8 * (i + 1)) bytes =
    sym (take-add (8 * i) 8 bytes) ∙ ap (λ (n : ℕ). take n bytes) (let k : 8 * i + 8 ≡ 8 * (i + 1) = omega arith in k) in
    carried-step words i w x lt e ∙ ap (λ (y : ℕ). left y (bits_of 64 w)) h ∙ ap (left (left total (bits (take (8 * i) bytes)))) same
    ∙ sym (remainder_from-append 0x18005 16 total (bits (take (8 * i) bytes)) (bits (take 8 rest)))
    ∙ ap (left total) (sym (bits-append (take (8 * i) bytes) (take 8 rest)) ∙ ap bits more)

-- ---- the words move to the front

pub front_on : (words old : List ℕ) (i : ℕ) → length words ≡ 94 → length old ≡ 94 → i < 30 → take i words ≡ take i (drop 64 old) → drop 30 words ≡ drop 30 old
    → take (i + 1) (set words i (get_or words (i + 64) 0)) ≡ take (i + 1) (drop 64 old)
front_on words old i l m lt h e =
    let p : 30 + (i + 34) ≡ i + 64 = omega arith in
    let q : 64 + i ≡ 30 + (i + 34) = omega arith in
    let same : get_or words (i + 64) 0 ≡ get_or (drop 64 old) i 0 =
    ap (λ (k : ℕ). get_or words k 0) (sym p) ∙ sym (get_or-drop 30 words (i + 34) 0) ∙ ap (λ (ys : List ℕ). get_or ys (i + 34) 0) e
    ∙ get_or-drop 30 old (i + 34) 0 ∙ ap (λ (k : ℕ). get_or old k 0) (sym q) ∙ sym (get_or-drop 64 old i 0) in
    take_more_set words i (get_or words (i + 64) 0) (omega arith) ∙ ap (λ (ys : List ℕ). ys ++ get_or words (i + 64) 0 ∷ []) h
    ∙ ap (λ (y : ℕ). take i (drop 64 old) ++ y ∷ []) same ∙ sym (take_more (drop 64 old) i 0 (omega (arith, length-drop 64 old)))

-- what thirty words stand for depends on them alone
pub carried-front : (words next : List ℕ) → take 30 words ≡ next → carried words ≡ carried next
unfolding carried
carried-front words next e =
    let part : (n : ℕ) → n ≤ 30 → take n words ≡ take n next = λ (n : ℕ) (le : n ≤ 30). (sym (take-take n 30 words le) ∙ ap (take n) e) in
    both _ _ _ _ (both _ _ _ _ (ap sum_of (part 30 (omega arith))) (ap sum_of (part 16 (omega arith)))) (ap sum_of (part 1 (omega arith)))

-- ---- the words are taken in

pub word_on : (r next i : ℕ) (words : List ℕ) (total : ℕ) → i < length words → next ≡ remainder_from 0x18005 16 r (bits_of 64 (get_or words i 0))
    → r ≡ remainder_from 0x18005 16 total (word_bits (take i words)) → next ≡ remainder_from 0x18005 16 total (word_bits (take (i + 1) words))
word_on r next i words total lt n e =
    let w : ℕ = get_or words i 0 in
    let more : word_bits (take (i + 1) words) ≡ word_bits (take i words) ++ bits_of 64 w =
    ap word_bits (take_more words i 0 lt) ∙ word_bits-append (take i words) (w ∷ []) ∙ ap (λ (m : List Bool). word_bits (take i words) ++ m) (word_bits-one w) in
    n ∙ ap (λ (x : ℕ). left x (bits_of 64 w)) e ∙ sym (ap (left total) more ∙ remainder_from-append 0x18005 16 total (word_bits (take i words)) (bits_of 64 w))

-- the sum of a longer part from the sum of a shorter one
pub sum_on : (a n : ℕ) (words : List ℕ) (r next : ℕ) → r ≡ crc16_of (word_bits (take a words))
    → next ≡ remainder_from 0x18005 16 r (word_bits (take n (drop a words))) → next ≡ crc16_of (word_bits (take (a + n) words))
unfolding crc16_of
sum_on a n words r next e f =
    let ys : List Bool = word_bits (take n (drop a words)) in
    f ∙ ap (λ (x : ℕ). left x ys) e
    ∙ sym (ap (λ (zs : List ℕ). left 0 (word_bits zs)) (take-add a n words)
    ∙ ap (left 0) (word_bits-append (take a words) (take n (drop a words))) ∙ remainder_from-append 0x18005 16 0 (word_bits (take a words)) ys)

-- ---- all of it

-- zeros before a message change nothing
carried-zeros : carried (replicate 94 0) ≡ 0
unfolding carried word_bits crc16_of bits_of
carried-zeros = refl

pub many_start : (bytes : List ℕ) → remainder_from 0x18005 16 (carried (replicate 94 0)) (bits bytes) ≡ crc16_of (bits bytes)
unfolding crc16_of
many_start bytes = ap (λ (x : ℕ). left x (bits bytes)) carried-zeros

pub many_on : (words between next bytes : List ℕ) (total : ℕ)
    → carried (drop 64 between) ≡ remainder_from 0x18005 16 (carried words) (bits (take 512 bytes)) → take 30 next ≡ drop 64 between
    → remainder_from 0x18005 16 (carried words) (bits bytes) ≡ total
    → remainder_from 0x18005 16 (carried next) (bits (take (length bytes - 512) (drop 512 bytes))) ≡ total
many_on words between next bytes total e f h =
    let now : carried next ≡ left (carried words) (bits (take 512 bytes)) = carried-front next (drop 64 between) f ∙ e in
    ap (λ (ys : List ℕ). left (carried next) (bits ys)) (take_rest bytes 512) ∙ ap (λ (x : ℕ). left x (bits (drop 512 bytes))) now
    ∙ sym (ap (left (carried words)) (ap bits (sym (take-append-drop 512 bytes)) ∙ bits-append (take 512 bytes) (drop 512 bytes))
    ∙ remainder_from-append 0x18005 16 (carried words) (bits (take 512 bytes)) (bits (drop 512 bytes))) ∙ h
