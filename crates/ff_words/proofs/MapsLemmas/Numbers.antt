-- Numbers read digit by digit.
use Rattle.std.proofs.Common.{suc, ◌≡◌, ℕ, ◌+◌, ◌-◌, ◌*◌, ◌^◌, ◌<◌, List, [], ◌∷◌, ◌++◌, length, sym, ap, ◌∙◌, arith, length-append}
use Rattle.std.proofs.Math.Nat.{add-mul, mul_assoc, pow-suc}
use Rattle.std.specs.List.{AllByRecursion}
use Rattle.ff_time.specs.Duration.{IsDigit, number}
use Rattle.ff_words.specs.maps.Grammar.{IsNumber}

pub digits_append : (P : ℕ → Type 0) (xs ys : List ℕ) → AllByRecursion P xs → AllByRecursion P ys → AllByRecursion P (xs ++ ys)
digits_append P [] ys h k = k
digits_append P (x ∷ xs) ys h k = (h.0, digits_append P xs ys h.1 k)

pushed_power : (d : ℕ) (ds : List ℕ) (b : ℕ) → d * 10 ^ length (ds ++ b ∷ []) ≡ d * 10 ^ length ds * 10
pushed_power d ds b =
    let more : length (ds ++ b ∷ []) ≡ suc (length ds) = omega (arith, length-append ds (b ∷ [])) in
    ap (λ n. d * 10 ^ n) more ∙ (ap (λ n. d * n) (pow-suc 10 (length ds)) ∙ sym (mul_assoc d (10 ^ length ds) 10))

pub number-push : (ds : List ℕ) (b : ℕ) → number (ds ++ b ∷ []) ≡ number ds * 10 + (b - 48)
number-push [] b = omega arith
number-push (d ∷ ds) b = omega (arith, pushed_power (d - 48) ds b, number-push ds b, add-mul ((d - 48) * 10 ^ length ds) (number ds) 10)

pub one-digit : (b : ℕ) → IsDigit b → IsNumber (b ∷ []) (b - 48)
one-digit b h = record { digits = record { some = omega arith; each = (h, tt) }; short = omega arith; value = omega arith }

pub digit-push : (text : List ℕ) (n b : ℕ) → IsDigit b → length text < 9 → IsNumber text n → IsNumber (text ++ b ∷ []) (n * 10 + (b - 48))
digit-push text n b h short is =
    record {
      digits = record { some = omega (arith, length-append text (b ∷ [])); each = digits_append IsDigit text (b ∷ []) is.digits.each (h, tt) };
      short = omega (arith, length-append text (b ∷ []), short);
      value = ap (λ m. m * 10 + (b - 48)) is.value ∙ sym (number-push text b);
    }
