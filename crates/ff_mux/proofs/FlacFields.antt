-- The bits of STREAMINFO, field by field.
use Rattle.std.proofs.Common.{◌≡◌, ℕ, ◌+◌, ◌-◌, ◌*◌, ◌/◌, ◌%◌, ◌^◌, ◌<◌, Bool, true, false, List, [], ◌++◌, refl, ap, sym, ◌∙◌, arith, append-nil, append_assoc}
use Rattle.std.specs.Prelude.{nat_lt, if◌then◌else◌}
use Rattle.std.specs.Int.{bytes_high_first}
use Rattle.std.proofs.lemmas.Bool.Decides.{nat_tests}
use Rattle.ff_bits.specs.Bits.{bits, bits_of}
use Rattle.ff_bits.proofs.BitsLemmas.{bits-append}
use Rattle.ff_bits.proofs.BitsOf.{bits_of-split, bits_of-mod, bits_of-add, bits-to_be_bytes}
use Rattle.ff_mux.specs.FlacHead.{HasRoom, told, sound_of, digest_of, stream_info}
use Rattle.ff_mux.specs.laws.FlacLaws.{InfoIsFields}

-- what is told in 36 bits has no more
below_by : (n : ℕ) (b : Bool) → nat_lt n (2 ^ 36) ≡ b → (if b then n else 0) < 2 ^ 36
below_by n true e = grind (arith, nat_tests)
below_by n false e = omega arith

pub told_below : (n : ℕ) → told 36 n < 2 ^ 36
told_below n = below_by n (nat_lt n (2 ^ 36)) refl

block_bits : bits (bytes_high_first 2 4096) ≡ bits_of 16 4096
unfolding bits bits_of
block_bits = refl

-- three bytes, the highest first
size_bits : (n : ℕ) → bits (bytes_high_first 3 n) ≡ bits_of 24 n
unfolding bits
size_bits n =
    let low : bits_of 8 (n % 256) ++ [] ≡ bits_of 8 n = append-nil (bits_of 8 (n % 256)) ∙ sym (bits_of-mod 8 n) in
    let middle : bits_of 8 (n / 256 % 256) ++ (bits_of 8 (n % 256) ++ []) ≡ bits_of 16 n =
    ap (λ (xs : List Bool). bits_of 8 (n / 256 % 256) ++ xs) low
    ∙ (ap (λ (xs : List Bool). xs ++ bits_of 8 n) (sym (bits_of-mod 8 (n / 256))) ∙ sym (bits_of-split 8 8 n)) in
    ap (λ (xs : List Bool). bits_of 8 (n / 65536 % 256) ++ xs) middle
    ∙ (ap (λ (xs : List Bool). xs ++ bits_of 16 n) (sym (bits_of-mod 8 (n / 65536))) ∙ sym (bits_of-split 8 16 n))

-- four texts, in whatever order they are put together
four : (p q r s : List Bool) → p ++ (q ++ (r ++ s)) ≡ p ++ q ++ r ++ s
four p q r s = sym (append_assoc p q (r ++ s)) ∙ sym (append_assoc (p ++ q) r s)

-- rate, channels, bits and the number of sample frames
pub sound_bits : (rate depth channels samples : ℕ) → HasRoom rate depth channels
    → bits (bytes_high_first 8 (sound_of rate depth channels samples))
    ≡ bits_of 20 rate ++ bits_of 3 (channels - 1) ++ bits_of 5 (depth - 1) ++ bits_of 36 (told 36 samples)
sound_bits rate depth channels samples room =
    let s : ℕ = told 36 samples in
    let small : s < 2 ^ 36 = told_below samples in
    let d : (depth - 1) * 2 ^ 36 + s < 2 ^ 41 = omega (arith, small, room.few_bits) in
    let c : (channels - 1) * 2 ^ 41 + ((depth - 1) * 2 ^ 36 + s) < 2 ^ 44 = omega (arith, d, room.few_channels) in
    let parts : rate * 2 ^ 44 + (channels - 1) * 2 ^ 41 + (depth - 1) * 2 ^ 36 + s
    ≡ rate * 2 ^ 44 + ((channels - 1) * 2 ^ 41 + ((depth - 1) * 2 ^ 36 + s)) = omega arith in
    bits-to_be_bytes (sound_of rate depth channels samples)
    ∙ (ap (bits_of 64) parts
    ∙ (bits_of-add 20 44 rate ((channels - 1) * 2 ^ 41 + ((depth - 1) * 2 ^ 36 + s)) c
    ∙ (ap (λ (xs : List Bool). bits_of 20 rate ++ xs) (bits_of-add 3 41 (channels - 1) ((depth - 1) * 2 ^ 36 + s) d
    ∙ ap (λ (xs : List Bool). bits_of 3 (channels - 1) ++ xs) (bits_of-add 5 36 (depth - 1) s small))
    ∙ four (bits_of 20 rate) (bits_of 3 (channels - 1)) (bits_of 5 (depth - 1)) (bits_of 36 s))))

-- six texts one behind the other
six : (a b c d e f : List ℕ) → bits (a ++ b ++ c ++ d ++ e ++ f) ≡ bits a ++ bits b ++ bits c ++ bits d ++ bits e ++ bits f
six a b c d e f =
    bits-append (a ++ b ++ c ++ d ++ e) f
    ∙ (ap (λ (xs : List Bool). xs ++ bits f) (bits-append (a ++ b ++ c ++ d) e)
    ∙ (ap (λ (xs : List Bool). (xs ++ bits e) ++ bits f) (bits-append (a ++ b ++ c) d)
    ∙ (ap (λ (xs : List Bool). ((xs ++ bits d) ++ bits e) ++ bits f) (bits-append (a ++ b) c)
    ∙ ap (λ (xs : List Bool). (((xs ++ bits c) ++ bits d) ++ bits e) ++ bits f) (bits-append a b))))

-- four texts in the place of one
four_in : (x y p q r s : List Bool) → (x ++ (p ++ q ++ r ++ s)) ++ y ≡ x ++ p ++ q ++ r ++ s ++ y
four_in x y p q r s =
    ap (λ (xs : List Bool). xs ++ y) (sym (append_assoc x (p ++ q ++ r) s) ∙ ap (λ (xs : List Bool). xs ++ s) (sym (append_assoc x (p ++ q) r)
    ∙ ap (λ (xs : List Bool). xs ++ r) (sym (append_assoc x p q))))

pub info_is_fields : InfoIsFields
unfolding stream_info
info_is_fields rate depth channels totals room =
    let block : List ℕ = bytes_high_first 2 4096 in
    let least : List ℕ = bytes_high_first 3 (told 24 totals.min_frame) in
    let greatest : List ℕ = bytes_high_first 3 (told 24 totals.max_frame) in
    let sound : List ℕ = bytes_high_first 8 (sound_of rate depth channels totals.samples) in
    let digest : List ℕ = digest_of totals in
    let blocks : List Bool = bits_of 16 4096 ++ bits_of 16 4096 in
    let before : List Bool = blocks ++ bits_of 24 (told 24 totals.min_frame) ++ bits_of 24 (told 24 totals.max_frame) in
    six block block least greatest sound digest
    ∙ (ap (λ (xs : List Bool). xs ++ xs ++ bits least ++ bits greatest ++ bits sound ++ bits digest) block_bits
    ∙ (ap (λ (xs : List Bool). blocks ++ xs ++ bits greatest ++ bits sound ++ bits digest) (size_bits (told 24 totals.min_frame))
    ∙ (ap (λ (xs : List Bool). blocks ++ bits_of 24 (told 24 totals.min_frame) ++ xs ++ bits sound ++ bits digest) (size_bits (told 24 totals.max_frame))
    ∙ (ap (λ (xs : List Bool). before ++ xs ++ bits digest) (sound_bits rate depth channels totals.samples room)
    ∙ four_in before (bits digest) (bits_of 20 rate) (bits_of 3 (channels - 1)) (bits_of 5 (depth - 1)) (bits_of 36 (told 36 totals.samples))))))
