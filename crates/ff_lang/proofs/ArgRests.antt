-- What may follow in an argument, and what one byte more in front makes of it.
use Rattle.std.proofs.Common.{◌≡◌, ◌≢◌, ℕ, ◌+◌, ◌<◌, ◌≤◌, inl, inr, true, false, ◌&&◌, Some, None, nat_lt, List, [], ◌∷◌, ◌++◌, length, refl, sym, ap, subst, ◌∙◌, append_assoc, arith}
use Rattle.std.specs.Prelude.{◌==◌}
use Rattle.std.proofs.lemmas.List.{append-nil}
use Rattle.std.specs.List.{AllByRecursion}
use Rattle.ff_lang.specs.Letters.{is_word_byte, is_special}
use Rattle.ff_lang.specs.laws.Reading.{empty_arg}
use Rattle.ff_lang.specs.declared.graph.Arg.{Arg}
use Rattle.ff_lang.specs.declared.graph.Filter.{Filter}
use Rattle.ff_lang.specs.Grammar.{IsValue, HasKey, IsArg}
use Rattle.ff_lang.specs.Grammar.IsValue.{ends, itself, escaped, quoted}
use Rattle.ff_lang.proofs.Bytes.{word_61, word_plain, lt_true, both_true}
use Rattle.ff_lang.proofs.Rests.{OutsRest, OutLabelRest, ValueRest, KeyRest, KeyFits, QuotedRest, EscapedRest, outs_open, empty_fits}

-- an argument whose value is as it stands
same_arg : (a : Arg) → a ≡ record { key = a.key; value = a.value ++ [] }
same_arg a = ap (λ x. record { key = a.key; value = x }) (sym (append-nil a.value))

with_arg : Filter → Arg → Filter
with_arg f0 a = record f0 { args = f0.args ++ a ∷ [] }

pub value_end : (f0 : Filter) (a : Arg) → ValueRest f0 a [] (record f0 { args = f0.args ++ a ∷ [] })
value_end f0 a =
    record {
      here = [];
      value = [];
      led = [];
      args = [];
      back = [];
      labels = [];
      spelled = refl;
      is = ends;
      args_are = refl;
      tight = inl refl;
      labels_are = tt;
      filter_is = ap (λ x. record f0 { args = f0.args ++ x ∷ [] }) (same_arg a) ∙ ap (λ x. record f0 { args = f0.args ++ (record { key = a.key; value = a.value ++ [] }) ∷ []; outs = x }) (sym (append-nil f0.outs));
    }

pub value_open : (f0 : Filter) (a : Arg) (text : List ℕ) (f : Filter) → OutLabelRest (record f0 { args = f0.args ++ a ∷ [] }) [] text f → ValueRest f0 a (91 ∷ text) f
value_open f0 a text f h =
    let o : OutsRest (record f0 { args = f0.args ++ a ∷ [] }) (91 ∷ text) f = outs_open (record f0 { args = f0.args ++ a ∷ [] }) text f h in
    record {
      here = [];
      value = [];
      led = [];
      args = [];
      back = 91 ∷ text;
      labels = o.labels;
      spelled = refl;
      is = ends;
      args_are = refl;
      tight = inr (text, refl);
      labels_are = o.labels_are;
      filter_is = o.filter_is ∙ ap (λ x. record f0 { args = f0.args ++ x ∷ []; outs = f0.outs ++ o.labels }) (same_arg a);
    }

pub value_colon : (f0 : Filter) (a : Arg) (text : List ℕ) (f : Filter) → (KeyFits empty_arg → KeyRest (record f0 { args = f0.args ++ a ∷ [] }) empty_arg text f) → ValueRest f0 a (58 ∷ text) f
value_colon f0 a text f k =
    let h : KeyRest (record f0 { args = f0.args ++ a ∷ [] }) empty_arg text f = k empty_fits in
    record {
      here = [];
      value = [];
      led = 58 ∷ (h.here ++ h.led);
      args = h.arg ∷ h.args;
      back = h.back;
      labels = h.labels;
      spelled = ap (λ t. 58 ∷ t) (h.spelled ∙ sym (append_assoc h.here h.led h.back));
      is = ends;
      args_are = (h.here, h.led, refl, h.is, h.args_are);
      tight = h.tight;
      labels_are = h.labels_are;
      filter_is = h.filter_is ∙ (ap (λ x. record f0 { args = x; outs = f0.outs ++ h.labels }) (append_assoc f0.args (a ∷ []) (h.arg ∷ h.args)) ∙ ap (λ x. record f0 { args = f0.args ++ (x ∷ (h.arg ∷ h.args)); outs = f0.outs ++ h.labels }) (same_arg a));
    }

pub value_plain : (f0 : Filter) (a : Arg) (b : ℕ) (text : List ℕ) (f : Filter) → is_special b ≡ false → ValueRest f0 (record a { value = a.value ++ b ∷ [] }) text f → ValueRest f0 a (b ∷ text) f
value_plain f0 a b text f e h =
    record {
      here = b ∷ h.here;
      value = b ∷ h.value;
      led = h.led;
      args = h.args;
      back = h.back;
      labels = h.labels;
      spelled = ap (λ t. b ∷ t) h.spelled;
      is = itself b h.here h.value e h.is;
      args_are = h.args_are;
      tight = h.tight;
      labels_are = h.labels_are;
      filter_is = h.filter_is ∙ ap (λ x. record f0 { args = f0.args ++ ((record { key = a.key; value = x }) ∷ h.args); outs = f0.outs ++ h.labels }) (append_assoc a.value (b ∷ []) h.value);
    }

pub value_escape : (f0 : Filter) (a : Arg) (text : List ℕ) (f : Filter) → EscapedRest f0 a text f → ValueRest f0 a (92 ∷ text) f
value_escape f0 a text f e =
    let h : ValueRest f0 (record a { value = a.value ++ e.byte ∷ [] }) e.rest f = e.then in
    record {
      here = 92 ∷ e.byte ∷ h.here;
      value = e.byte ∷ h.value;
      led = h.led;
      args = h.args;
      back = h.back;
      labels = h.labels;
      spelled = ap (λ t. 92 ∷ t) (e.spelled ∙ ap (λ t. e.byte ∷ t) h.spelled);
      is = escaped e.byte h.here h.value h.is;
      args_are = h.args_are;
      tight = h.tight;
      labels_are = h.labels_are;
      filter_is = h.filter_is ∙ ap (λ x. record f0 { args = f0.args ++ ((record { key = a.key; value = x }) ∷ h.args); outs = f0.outs ++ h.labels }) (append_assoc a.value (e.byte ∷ []) h.value);
    }

pub value_quote : (f0 : Filter) (a : Arg) (text : List ℕ) (f : Filter) → QuotedRest f0 a text f → ValueRest f0 a (39 ∷ text) f
value_quote f0 a text f q =
    let h : ValueRest f0 (record a { value = a.value ++ q.inner }) q.rest f = q.then in
    record {
      here = 39 ∷ (q.inner ++ (39 ∷ h.here));
      value = q.inner ++ h.value;
      led = h.led;
      args = h.args;
      back = h.back;
      labels = h.labels;
      spelled = ap (λ t. 39 ∷ t) (q.spelled ∙ (ap (λ t. q.inner ++ (39 ∷ t)) h.spelled ∙ sym (append_assoc q.inner (39 ∷ h.here) (h.led ++ h.back))));
      is = quoted q.inner h.here h.value q.each h.is;
      args_are = h.args_are;
      tight = h.tight;
      labels_are = h.labels_are;
      filter_is = h.filter_is ∙ ap (λ x. record f0 { args = f0.args ++ ((record { key = a.key; value = x }) ∷ h.args); outs = f0.outs ++ h.labels }) (append_assoc a.value q.inner h.value);
    }

pub quoted_more : (f0 : Filter) (a : Arg) (b : ℕ) (text : List ℕ) (f : Filter) → b ≢ 39 → QuotedRest f0 (record a { value = a.value ++ b ∷ [] }) text f → QuotedRest f0 a (b ∷ text) f
quoted_more f0 a b text f e h =
    record {
      inner = b ∷ h.inner;
      rest = h.rest;
      spelled = ap (λ t. b ∷ t) h.spelled;
      each = (e, h.each);
      then = subst (λ x. ValueRest f0 (record a { value = x }) h.rest f) (append_assoc a.value (b ∷ []) h.inner) h.then;
    }

pub quoted_close : (f0 : Filter) (a : Arg) (text : List ℕ) (f : Filter) → ValueRest f0 a text f → QuotedRest f0 a (39 ∷ text) f
quoted_close f0 a text f h =
    record {
      inner = [];
      rest = text;
      spelled = refl;
      each = tt;
      then = subst (λ x. ValueRest f0 (record a { value = x }) text f) (sym (append-nil a.value)) h;
    }

pub escaped_byte : (f0 : Filter) (a : Arg) (b : ℕ) (text : List ℕ) (f : Filter) → ValueRest f0 (record a { value = a.value ++ b ∷ [] }) text f → EscapedRest f0 a (b ∷ text) f
escaped_byte f0 a b text f h = record { byte = b; rest = text; spelled = refl; then = h }

-- ---- what may be a key

pub key_more : (f0 : Filter) (a : Arg) (b : ℕ) (text : List ℕ) (f : Filter) → (KeyFits a → KeyFits (record a { value = a.value ++ b ∷ [] }))
    → (KeyFits (record a { value = a.value ++ b ∷ [] }) → KeyRest f0 (record a { value = a.value ++ b ∷ [] }) text f) → KeyFits a → KeyRest f0 a (b ∷ text) f
key_more f0 a b text f more k fits =
    let h : KeyRest f0 (record a { value = a.value ++ b ∷ [] }) text f = k (more fits) in
    record {
      here = b ∷ h.here;
      arg = h.arg;
      led = h.led;
      args = h.args;
      back = h.back;
      labels = h.labels;
      spelled = ap (λ t. b ∷ t) h.spelled;
      is = subst (λ t. IsArg t h.arg) (append_assoc a.value (b ∷ []) h.here) h.is;
      args_are = h.args_are;
      tight = h.tight;
      labels_are = h.labels_are;
      filter_is = h.filter_is;
    }

pub key_equals : (f0 : Filter) (a : Arg) (text : List ℕ) (f : Filter) → 0 < length a.value → ValueRest f0 (record { key = Some a.value; value = [] }) text f → KeyFits a → KeyRest f0 a (61 ∷ text) f
key_equals f0 a text f some h fits =
    record {
      here = 61 ∷ h.here;
      arg = record { key = Some a.value; value = h.value };
      led = h.led;
      args = h.args;
      back = h.back;
      labels = h.labels;
      spelled = ap (λ t. 61 ∷ t) h.spelled;
      is = (h.here, refl, record { some = some; short = fits.short; each = fits.each }, h.is);
      args_are = h.args_are;
      tight = h.tight;
      labels_are = h.labels_are;
      filter_is = h.filter_is;
    }

words_value : (w text value : List ℕ) → AllByRecursion (λ b. is_word_byte b ≡ true) w → IsValue text value → IsValue (w ++ text) (w ++ value)
words_value [] text value each h = h
words_value (b ∷ w) text value each h = itself b (w ++ text) (w ++ value) (word_plain b each.0) (words_value w text value each.1 h)

pub key_value : (f0 : Filter) (a : Arg) (text : List ℕ) (f : Filter) → ((here rest : List ℕ) → text ≡ here ++ rest → HasKey (a.value ++ here) → ⊥) → ValueRest f0 a text f → KeyFits a → KeyRest f0 a text f
key_value f0 a text f none h fits =
    record {
      here = h.here;
      arg = record { key = None; value = a.value ++ h.value };
      led = h.led;
      args = h.args;
      back = h.back;
      labels = h.labels;
      spelled = h.spelled;
      is = (words_value a.value h.here h.value fits.each h.is, none h.here (h.led ++ h.back) h.spelled);
      args_are = h.args_are;
      tight = h.tight;
      labels_are = h.labels_are;
      filter_is = h.filter_is ∙ ap (λ x. record f0 { args = f0.args ++ ((record { key = x; value = a.value ++ h.value }) ∷ h.args); outs = f0.outs ++ h.labels }) fits.none;
    }

not_word_61 : (b : ℕ) → b ≡ 61 → is_word_byte b ≡ true → ⊥
not_word_61 b e h =
    let here : is_word_byte 61 ≡ true = subst (λ x. is_word_byte x ≡ true) e h in
    cc word_61

no_equals : (w key rest : List ℕ) → AllByRecursion (λ b. is_word_byte b ≡ true) w → w ≡ key ++ (61 ∷ rest) → ⊥
no_equals [] [] rest each e = cc
no_equals [] (k ∷ key) rest each e = cc
no_equals (b ∷ w) [] rest each e = not_word_61 b (cc) each.0
no_equals (b ∷ w) (k ∷ key) rest each e = no_equals w key rest each.1 (cc)

not_here : (n : ℕ) (w key text rest : List ℕ) (b : ℕ) → AllByRecursion (λ b. is_word_byte b ≡ true) w → AllByRecursion (λ b. is_word_byte b ≡ true) key
    → n + length key ≤ 64 → 0 < n + length key → (is_word_byte b ≡ true → n + length w < 64 → ⊥) → (b ≡ 61 → 0 < n + length w → ⊥) → w ++ (b ∷ text) ≡ key ++ (61 ∷ rest) → ⊥
not_here n [] [] text rest b each keys short some words equals e = equals (cc) some
not_here n [] (k ∷ key) text rest b each keys short some words equals e =
    let same : k ≡ b = cc in
    words (subst (λ x. is_word_byte x ≡ true) same keys.0) (omega (arith, short))
not_here n (x ∷ w) [] text rest b each keys short some words equals e = not_word_61 x (cc) each.0
not_here n (x ∷ w) (k ∷ key) text rest b each keys short some words equals e =
    not_here (n + 1) w key text rest b each.1 keys.1 (omega (arith, short)) (omega arith) (λ p q. words p (omega (arith, q))) (λ p q. equals p (omega arith)) (cc)

pub no_key_end : (w here rest : List ℕ) → AllByRecursion (λ b. is_word_byte b ≡ true) w → [] ≡ here ++ rest → HasKey (w ++ here) → ⊥
no_key_end w [] rest each e h = no_equals w h.0 h.1 each (sym (append-nil w) ∙ h.3)
no_key_end w (x ∷ here) rest each e h = cc

pub no_key_byte : (w here rest text : List ℕ) (b : ℕ) → AllByRecursion (λ b. is_word_byte b ≡ true) w → (is_word_byte b && nat_lt (length w) 64) ≡ false → ((b == 61) && nat_lt 0 (length w)) ≡ false
    → b ∷ text ≡ here ++ rest → HasKey (w ++ here) → ⊥
no_key_byte w [] rest text b each e f spelled h = no_equals w h.0 h.1 each (sym (append-nil w) ∙ h.3)
no_key_byte w (x ∷ here) rest text b each e f spelled h =
    let same : x ≡ b = cc in
    let words : is_word_byte x ≡ true → 0 + length w < 64 → ⊥ = λ p q.
    (let p2 : (is_word_byte b && nat_lt (length w) 64) ≡ true = both_true (is_word_byte b) (nat_lt (length w) 64) (subst (λ y. is_word_byte y ≡ true) same p) (lt_true (length w) 64 (omega (arith, q))) in cc) in
    let equals : x ≡ 61 → 0 < 0 + length w → ⊥ = λ p q.
    (let p2 : ((b == 61) && nat_lt 0 (length w)) ≡ true = both_true (b == 61) (nat_lt 0 (length w)) (subst (λ y. (y == 61) ≡ true) (sym p ∙ same) refl) (lt_true 0 (length w) (omega (arith, q))) in cc) in
    not_here 0 w h.0 here h.1 x each h.2.each (omega (arith, h.2.short)) (omega (arith, h.2.some)) words equals h.3
