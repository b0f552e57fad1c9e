-- Which bytes are which.
use Rattle.std.proofs.Common.{◌≡◌, ◌≢◌, ℕ, ◌<◌, ◌≤◌, Bool, true, false, ◌&&◌, nat_lt, refl, arith}
use Rattle.std.specs.Prelude.{◌==◌}
use Rattle.std.proofs.lemmas.Bool.Decides.{nat_tests}
use Rattle.ff_lang.specs.Letters.{is_word_byte, is_label_byte, is_blank, is_special, is_escaped}

pub word_91 : is_word_byte 91 ≡ false
unfolding is_word_byte
word_91 = refl

pub word_44 : is_word_byte 44 ≡ false
unfolding is_word_byte
word_44 = refl

pub word_59 : is_word_byte 59 ≡ false
unfolding is_word_byte
word_59 = refl

pub word_58 : is_word_byte 58 ≡ false
unfolding is_word_byte
word_58 = refl

pub word_61 : is_word_byte 61 ≡ false
unfolding is_word_byte
word_61 = refl

pub word_39 : is_word_byte 39 ≡ false
unfolding is_word_byte
word_39 = refl

pub word_92 : is_word_byte 92 ≡ false
unfolding is_word_byte
word_92 = refl

pub blank_91 : is_blank 91 ≡ false
unfolding is_blank
blank_91 = refl

pub blank_44 : is_blank 44 ≡ false
unfolding is_blank
blank_44 = refl

pub blank_59 : is_blank 59 ≡ false
unfolding is_blank
blank_59 = refl

pub blank_61 : is_blank 61 ≡ false
unfolding is_blank
blank_61 = refl

pub label_93 : is_label_byte 93 ≡ false
unfolding is_label_byte is_word_byte
label_93 = refl

pub special_39 : is_special 39 ≡ true
unfolding is_special
special_39 = refl

pub special_92 : is_special 92 ≡ true
unfolding is_special
special_92 = refl

pub special_58 : is_special 58 ≡ true
unfolding is_special
special_58 = refl

pub special_44 : is_special 44 ≡ true
unfolding is_special
special_44 = refl

pub special_59 : is_special 59 ≡ true
unfolding is_special
special_59 = refl

pub special_91 : is_special 91 ≡ true
unfolding is_special
special_91 = refl

pub special_61 : is_special 61 ≡ false
unfolding is_special
special_61 = refl

pub both_true : (a b : Bool) → a ≡ true → b ≡ true → (a && b) ≡ true
both_true a b p q = grind (arith, nat_tests)

pub lt_true : (k n : ℕ) → k < n → nat_lt k n ≡ true
lt_true k n h = grind (arith, nat_tests)

pub eq_false : (k n : ℕ) → k ≢ n → (k == n) ≡ false
eq_false k n h = grind (arith, nat_tests)

pub eq_out : (k n : ℕ) → (k == n) ≡ true → k ≡ n
eq_out k n h = grind (arith, nat_tests)

pub lt_out : (k n : ℕ) → nat_lt k n ≡ true → k < n
lt_out k n h = grind (arith, nat_tests)

pub word_blank : (b : ℕ) → is_blank b ≡ true → is_word_byte b ≡ false
unfolding is_blank is_word_byte
word_blank b h = grind (arith, nat_tests)

pub special_word : (b : ℕ) → is_special b ≡ true → is_word_byte b ≡ false
unfolding is_special is_word_byte
special_word b h = grind (arith, nat_tests)

pub special_not_61 : (b : ℕ) → is_special b ≡ true → (b == 61) ≡ false
unfolding is_special
special_not_61 b h = grind (arith, nat_tests)

pub word_plain : (b : ℕ) → is_word_byte b ≡ true → is_special b ≡ false
unfolding is_special is_word_byte
word_plain b h = grind (arith, nat_tests)

pub eq_differs : (k n : ℕ) → (k == n) ≡ false → k ≢ n
eq_differs k n h = grind (arith, nat_tests)

pub both_out : (a b : Bool) → (a && b) ≡ true → (a ≡ true) × (b ≡ true)
both_out true b e = (refl, e)
both_out false b e = cc

pub high_word : (b : ℕ) → 128 ≤ b → is_word_byte b ≡ false
unfolding is_word_byte
high_word b h = grind (arith, nat_tests)

pub high_label : (b : ℕ) → 128 ≤ b → is_label_byte b ≡ false
unfolding is_label_byte is_word_byte
high_label b h = grind (arith, nat_tests)

pub high_blank : (b : ℕ) → 128 ≤ b → is_blank b ≡ false
unfolding is_blank
high_blank b h = grind (arith, nat_tests)

pub high_special : (b : ℕ) → 128 ≤ b → is_special b ≡ false
unfolding is_special
high_special b h = grind (arith, nat_tests)

pub high_eq : (b n : ℕ) → 128 ≤ b → n < 128 → (b == n) ≡ false
high_eq b n h k = grind (arith, nat_tests)

pub word_97 : is_word_byte 97 ≡ true
unfolding is_word_byte
word_97 = refl

pub label_97 : is_label_byte 97 ≡ true
unfolding is_label_byte is_word_byte
label_97 = refl

pub plain_out : (b : ℕ) → is_escaped b ≡ false → is_special b ≡ false
unfolding is_escaped
plain_out b h = grind (arith, nat_tests)

pub escaped_61 : is_escaped 61 ≡ true
unfolding is_escaped is_special
escaped_61 = refl

pub high_escaped : (b : ℕ) → 128 ≤ b → is_escaped b ≡ false
unfolding is_escaped is_special
high_escaped b h = grind (arith, nat_tests)
