use Rattle.std.proofs.Common.{◌≡◌, ◌<◌, ℕ, true, false, nat_lt, List, [], ◌∷◌, ◌++◌, length, Some, inl, inr, refl, sym, ap, ◌∙◌, arith}
use Rattle.std.proofs.lemmas.Bool.{cases_lt}
use Rattle.std.proofs.lemmas.Str.{encode_ascii}
use Rattle.std.proofs.Math.Utf8.{encode}
use Rattle.ff_lang.specs.Letters.{is_label_byte}
use Rattle.ff_lang.proofs.Bytes.{both_true, lt_true, high_label}
use Rattle.ff_words.specs.maps.Reading.{label_next}
use Rattle.ff_words.specs.declared.maps.reading.Reading.TheVariants.{Label}
use Rattle.ff_words.proofs.maps.reading.after_label.Goals as goal

narrow : (b : ℕ) → is_label_byte b ≡ true → b < 128
narrow b h = elim (cases_lt b 128) [ inl lt ↦ lt | inr ge ↦ (let no : is_label_byte b ≡ false = high_label b ge in cc) ]

more : (l : List ℕ) (b : ℕ) → is_label_byte b ≡ true → length l < 64 → label_next l b ≡ Some (Label (l ++ b ∷ []))
more l b h short = simp (both_true (is_label_byte b) (nat_lt (length l) 64) h (lt_true (length l) 64 short)) refl

pub returns-in_ok-push-clause-next : goal.returns-in_ok-push-clause-next
returns-in_ok-push-clause-next c =
    let yes : is_label_byte c.args.byte ≡ true = sym c.is_label.ensures ∙ c.if-is_label.true in
    let short : length c.args.label < 64 = omega arith in
    let one : encode c.from.result ≡ c.args.byte ∷ [] = ap encode c.from.ensures ∙ encode_ascii c.args.byte (narrow c.args.byte yes) in
    ap (λ t. Some (Label t)) (c.in_ok-push.ensures.ok ∙ ap (λ t. c.args.label ++ t) one) ∙ sym (more c.args.label c.args.byte yes short)
