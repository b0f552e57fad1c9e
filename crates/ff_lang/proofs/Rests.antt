-- What may follow in each place, up to the end of a filter, and what one byte more in front makes of it.
use Rattle.std.proofs.Common.{◌≡◌, ◌≢◌, ℕ, ◌+◌, ◌<◌, ◌≤◌, true, None, List, [], ◌∷◌, ◌++◌, length, refl, sym, ap, subst, ◌∙◌, append_assoc, length-append, arith}
use Rattle.std.proofs.lemmas.List.{append-nil}
use Rattle.std.specs.List.{AllByRecursion}
use Rattle.ff_lang.specs.Letters.{is_word_byte, is_label_byte, is_blank}
use Rattle.ff_lang.specs.laws.Reading.{empty_arg}
use Rattle.ff_lang.specs.declared.graph.Arg.{Arg}
use Rattle.ff_lang.specs.declared.graph.Filter.{Filter}
use Rattle.ff_lang.specs.declared.parser.Place.{Place}
use Rattle.ff_lang.specs.declared.parser.Place.TheVariants.{Front, InLabel, Name, Named, Key, Value, Quoted, Escaped, OutLabel, Back}
use Rattle.ff_lang.specs.Grammar.{AreLabels, IsLabel, IsValue, IsArg, AreLed, AreArgs, IsTight}

pub record OutsRest (f0 : Filter) (text : List ℕ) (f : Filter) : Type 0 where
  pub labels : List (List ℕ)
  pub labels_are : AreLabels text labels
  pub filter_is : f ≡ record f0 { outs = f0.outs ++ labels }

pub record OutLabelRest (f0 : Filter) (l text : List ℕ) (f : Filter) : Type 0 where
  pub more : List ℕ
  pub rest : List ℕ
  pub spelled : text ≡ more ++ (93 ∷ rest)
  pub each : AllByRecursion (λ b. is_label_byte b ≡ true) more
  pub some : 0 < length l + length more
  pub short : length l ≤ 64 → length l + length more ≤ 64
  pub then : OutsRest (record f0 { outs = f0.outs ++ (l ++ more) ∷ [] }) rest f

pub record HeadRest (f0 : Filter) (text : List ℕ) (f : Filter) : Type 0 where
  pub args : List Arg
  pub labels : List (List ℕ)
  pub middle : List ℕ
  pub back : List ℕ
  pub spelled : text ≡ middle ++ back
  pub args_are : AreArgs middle args
  pub tight : IsTight args back
  pub labels_are : AreLabels back labels
  pub filter_is : f ≡ record f0 { args = f0.args ++ args; outs = f0.outs ++ labels }

pub record NameRest (f0 : Filter) (text : List ℕ) (f : Filter) : Type 0 where
  pub more : List ℕ
  pub rest : List ℕ
  pub spelled : text ≡ more ++ rest
  pub each : AllByRecursion (λ b. is_word_byte b ≡ true) more
  pub short : length f0.name ≤ 64 → length f0.name + length more ≤ 64
  pub then : HeadRest (record f0 { name = f0.name ++ more }) rest f

pub record FrontRest (f0 : Filter) (text : List ℕ) (f : Filter) : Type 0 where
  pub labels : List (List ℕ)
  pub front : List ℕ
  pub byte : ℕ
  pub rest : List ℕ
  pub spelled : text ≡ front ++ (byte ∷ rest)
  pub labels_are : AreLabels front labels
  pub word : is_word_byte byte ≡ true
  pub then : NameRest (record f0 { ins = f0.ins ++ labels; name = byte ∷ [] }) rest f

pub record InLabelRest (f0 : Filter) (l text : List ℕ) (f : Filter) : Type 0 where
  pub more : List ℕ
  pub rest : List ℕ
  pub spelled : text ≡ more ++ (93 ∷ rest)
  pub each : AllByRecursion (λ b. is_label_byte b ≡ true) more
  pub some : 0 < length l + length more
  pub short : length l ≤ 64 → length l + length more ≤ 64
  pub then : FrontRest (record f0 { ins = f0.ins ++ (l ++ more) ∷ [] }) rest f

pub record ValueRest (f0 : Filter) (a : Arg) (text : List ℕ) (f : Filter) : Type 0 where
  pub here : List ℕ
  pub value : List ℕ
  pub led : List ℕ
  pub args : List Arg
  pub back : List ℕ
  pub labels : List (List ℕ)
  pub spelled : text ≡ here ++ (led ++ back)
  pub is : IsValue here value
  pub args_are : AreLed IsArg 58 led args
  pub tight : IsTight (a ∷ args) back
  pub labels_are : AreLabels back labels
  pub filter_is : f ≡ record f0 { args = f0.args ++ ((record { key = a.key; value = a.value ++ value }) ∷ args); outs = f0.outs ++ labels }

pub record KeyRest (f0 : Filter) (a : Arg) (text : List ℕ) (f : Filter) : Type 0 where
  pub here : List ℕ
  pub arg : Arg
  pub led : List ℕ
  pub args : List Arg
  pub back : List ℕ
  pub labels : List (List ℕ)
  pub spelled : text ≡ here ++ (led ++ back)
  pub is : IsArg (a.value ++ here) arg
  pub args_are : AreLed IsArg 58 led args
  pub tight : IsTight (a ∷ args) back
  pub labels_are : AreLabels back labels
  pub filter_is : f ≡ record f0 { args = f0.args ++ (arg ∷ args); outs = f0.outs ++ labels }

pub record KeyFits (a : Arg) : Type 0 where
  pub none : a.key ≡ None
  pub each : AllByRecursion (λ b. is_word_byte b ≡ true) a.value
  pub short : length a.value ≤ 64

pub record QuotedRest (f0 : Filter) (a : Arg) (text : List ℕ) (f : Filter) : Type 0 where
  pub inner : List ℕ
  pub rest : List ℕ
  pub spelled : text ≡ inner ++ (39 ∷ rest)
  pub each : AllByRecursion (λ b. b ≢ 39) inner
  pub then : ValueRest f0 (record a { value = a.value ++ inner }) rest f

pub record EscapedRest (f0 : Filter) (a : Arg) (text : List ℕ) (f : Filter) : Type 0 where
  pub byte : ℕ
  pub rest : List ℕ
  pub spelled : text ≡ byte ∷ rest
  pub then : ValueRest f0 (record a { value = a.value ++ byte ∷ [] }) rest f

abbrev pub Rest : Place → Filter → Arg → List ℕ → List ℕ → Filter → Type 0
Rest Front f0 a l text f = FrontRest f0 text f
Rest InLabel f0 a l text f = InLabelRest f0 l text f
Rest Name f0 a l text f = NameRest f0 text f
Rest Named f0 a l text f = HeadRest f0 text f
Rest Key f0 a l text f = KeyFits a → KeyRest f0 a text f
Rest Value f0 a l text f = ValueRest f0 a text f
Rest Quoted f0 a l text f = QuotedRest f0 a text f
Rest Escaped f0 a l text f = EscapedRest f0 a text f
Rest OutLabel f0 a l text f = OutLabelRest f0 l text f
Rest Back f0 a l text f = OutsRest f0 text f

-- ---- labels

pub blank_labels : (labels : List (List ℕ)) (text : List ℕ) (b : ℕ) → is_blank b ≡ true → AreLabels text labels → AreLabels (b ∷ text) labels
blank_labels [] text b e h = (e, h)
blank_labels (label ∷ labels) text b e h = (b ∷ h.0, h.1, ap (λ t. b ∷ t) h.2, (e, h.3), h.4, h.5)

opened : (label rest : List ℕ) (labels : List (List ℕ)) → IsLabel label → AreLabels rest labels → AreLabels (91 ∷ (label ++ (93 ∷ rest))) (label ∷ labels)
opened label rest labels is h = ([], rest, refl, tt, is, h)

-- ---- behind labels that follow the name

pub outs_end : (f0 : Filter) → OutsRest f0 [] f0
outs_end f0 = record { labels = []; labels_are = tt; filter_is = ap (λ x. record f0 { outs = x }) (sym (append-nil f0.outs)) }

pub outs_blank : (f0 : Filter) (b : ℕ) (text : List ℕ) (f : Filter) → is_blank b ≡ true → OutsRest f0 text f → OutsRest f0 (b ∷ text) f
outs_blank f0 b text f e h = record { labels = h.labels; labels_are = blank_labels h.labels text b e h.labels_are; filter_is = h.filter_is }

pub outs_open : (f0 : Filter) (text : List ℕ) (f : Filter) → OutLabelRest f0 [] text f → OutsRest f0 (91 ∷ text) f
outs_open f0 text f h =
    record {
      labels = h.more ∷ h.then.labels;
      labels_are = subst (λ t. AreLabels (91 ∷ t) (h.more ∷ h.then.labels)) (sym h.spelled) (opened h.more h.rest h.then.labels (record { some = omega (arith, h.some); short = omega (arith, h.short (omega arith)); each = h.each }) h.then.labels_are);
      filter_is = h.then.filter_is ∙ ap (λ x. record f0 { outs = x }) (append_assoc f0.outs (h.more ∷ []) h.then.labels);
    }

pub out_label_more : (f0 : Filter) (l : List ℕ) (b : ℕ) (text : List ℕ) (f : Filter) → is_label_byte b ≡ true → length l < 64 → OutLabelRest f0 (l ++ b ∷ []) text f → OutLabelRest f0 l (b ∷ text) f
out_label_more f0 l b text f e lt h =
    record {
      more = b ∷ h.more;
      rest = h.rest;
      spelled = ap (λ t. b ∷ t) h.spelled;
      each = (e, h.each);
      some = omega arith;
      short = λ _. omega (arith, lt, length-append l (b ∷ []), h.short (omega (arith, lt, length-append l (b ∷ []))));
      then = subst (λ x. OutsRest (record f0 { outs = f0.outs ++ x ∷ [] }) h.rest f) (append_assoc l (b ∷ []) h.more) h.then;
    }

pub out_label_close : (f0 : Filter) (l text : List ℕ) (f : Filter) → 0 < length l → OutsRest (record f0 { outs = f0.outs ++ l ∷ [] }) text f → OutLabelRest f0 l (93 ∷ text) f
out_label_close f0 l text f some h =
    record {
      more = [];
      rest = text;
      spelled = refl;
      each = tt;
      some = omega (arith, some);
      short = λ k. omega (arith, k);
      then = subst (λ x. OutsRest (record f0 { outs = f0.outs ++ x ∷ [] }) text f) (sym (append-nil l)) h;
    }

-- ---- behind the name

pub head_of_outs : (f0 : Filter) (text : List ℕ) (f : Filter) → OutsRest f0 text f → HeadRest f0 text f
head_of_outs f0 text f h =
    record {
      args = [];
      labels = h.labels;
      middle = [];
      back = text;
      spelled = refl;
      args_are = refl;
      tight = tt;
      labels_are = h.labels_are;
      filter_is = h.filter_is ∙ ap (λ x. record f0 { args = x; outs = f0.outs ++ h.labels }) (sym (append-nil f0.args));
    }

head_blank_at : (f0 : Filter) (b : ℕ) (text : List ℕ) (f : Filter) (args : List Arg) (labels : List (List ℕ)) (middle back : List ℕ) → is_blank b ≡ true → text ≡ middle ++ back → AreArgs middle args → IsTight args back → AreLabels back labels
    → f ≡ record f0 { args = f0.args ++ args; outs = f0.outs ++ labels } → HeadRest f0 (b ∷ text) f
head_blank_at f0 b text f [] labels middle back e spelled args_are tight labels_are filter_is =
    record {
      args = [];
      labels = labels;
      middle = [];
      back = b ∷ back;
      spelled = ap (λ t. b ∷ t) (spelled ∙ ap (λ t. t ++ back) args_are);
      args_are = refl;
      tight = tt;
      labels_are = blank_labels labels back b e labels_are;
      filter_is = filter_is;
    }
head_blank_at f0 b text f (arg ∷ args) labels middle back e spelled args_are tight labels_are filter_is =
    record {
      args = arg ∷ args;
      labels = labels;
      middle = b ∷ middle;
      back = back;
      spelled = ap (λ t. b ∷ t) spelled;
      args_are = (b ∷ args_are.0, args_are.1, ap (λ t. b ∷ t) args_are.2, (e, args_are.3), args_are.4);
      tight = tight;
      labels_are = labels_are;
      filter_is = filter_is;
    }

pub head_blank : (f0 : Filter) (b : ℕ) (text : List ℕ) (f : Filter) → is_blank b ≡ true → HeadRest f0 text f → HeadRest f0 (b ∷ text) f
head_blank f0 b text f e h = head_blank_at f0 b text f h.args h.labels h.middle h.back e h.spelled h.args_are h.tight h.labels_are h.filter_is

pub empty_fits : KeyFits empty_arg
empty_fits = record { none = refl; each = tt; short = omega arith }

pub head_equals : (f0 : Filter) (text : List ℕ) (f : Filter) → (KeyFits empty_arg → KeyRest f0 empty_arg text f) → HeadRest f0 (61 ∷ text) f
head_equals f0 text f k =
    let h : KeyRest f0 empty_arg text f = k empty_fits in
    record {
      args = h.arg ∷ h.args;
      labels = h.labels;
      middle = 61 ∷ (h.here ++ h.led);
      back = h.back;
      spelled = ap (λ t. 61 ∷ t) (h.spelled ∙ sym (append_assoc h.here h.led h.back));
      args_are = ([], h.here ++ h.led, refl, tt, (h.here, h.led, refl, h.is, h.args_are));
      tight = h.tight;
      labels_are = h.labels_are;
      filter_is = h.filter_is;
    }

pub name_of_head : (f0 : Filter) (text : List ℕ) (f : Filter) → HeadRest f0 text f → NameRest f0 text f
name_of_head f0 text f h =
    record {
      more = [];
      rest = text;
      spelled = refl;
      each = tt;
      short = λ k. omega (arith, k);
      then = subst (λ x. HeadRest (record f0 { name = x }) text f) (sym (append-nil f0.name)) h;
    }

pub name_more : (f0 : Filter) (b : ℕ) (text : List ℕ) (f : Filter) → is_word_byte b ≡ true → length f0.name < 64 → NameRest (record f0 { name = f0.name ++ b ∷ [] }) text f → NameRest f0 (b ∷ text) f
name_more f0 b text f e lt h =
    record {
      more = b ∷ h.more;
      rest = h.rest;
      spelled = ap (λ t. b ∷ t) h.spelled;
      each = (e, h.each);
      short = λ _. omega (arith, lt, length-append f0.name (b ∷ []), h.short (omega (arith, lt, length-append f0.name (b ∷ []))));
      then = subst (λ x. HeadRest (record f0 { name = x }) h.rest f) (append_assoc f0.name (b ∷ []) h.more) h.then;
    }

-- ---- before the name

pub front_word : (f0 : Filter) (b : ℕ) (text : List ℕ) (f : Filter) → is_word_byte b ≡ true → NameRest (record f0 { name = b ∷ [] }) text f → FrontRest f0 (b ∷ text) f
front_word f0 b text f e h =
    record {
      labels = [];
      front = [];
      byte = b;
      rest = text;
      spelled = refl;
      labels_are = tt;
      word = e;
      then = subst (λ x. NameRest (record f0 { ins = x; name = b ∷ [] }) text f) (sym (append-nil f0.ins)) h;
    }

pub front_blank : (f0 : Filter) (b : ℕ) (text : List ℕ) (f : Filter) → is_blank b ≡ true → FrontRest f0 text f → FrontRest f0 (b ∷ text) f
front_blank f0 b text f e h =
    record {
      labels = h.labels;
      front = b ∷ h.front;
      byte = h.byte;
      rest = h.rest;
      spelled = ap (λ t. b ∷ t) h.spelled;
      labels_are = blank_labels h.labels h.front b e h.labels_are;
      word = h.word;
      then = h.then;
    }

pub front_open : (f0 : Filter) (text : List ℕ) (f : Filter) → InLabelRest f0 [] text f → FrontRest f0 (91 ∷ text) f
front_open f0 text f h =
    record {
      labels = h.more ∷ h.then.labels;
      front = 91 ∷ (h.more ++ (93 ∷ h.then.front));
      byte = h.then.byte;
      rest = h.then.rest;
      spelled = ap (λ t. 91 ∷ t) (h.spelled ∙ (ap (λ t. h.more ++ (93 ∷ t)) h.then.spelled ∙ sym (append_assoc h.more (93 ∷ h.then.front) (h.then.byte ∷ h.then.rest))));
      labels_are = opened h.more h.then.front h.then.labels (record { some = omega (arith, h.some); short = omega (arith, h.short (omega arith)); each = h.each }) h.then.labels_are;
      word = h.then.word;
      then = subst (λ x. NameRest (record f0 { ins = x; name = h.then.byte ∷ [] }) h.then.rest f) (append_assoc f0.ins (h.more ∷ []) h.then.labels) h.then.then;
    }

pub in_label_more : (f0 : Filter) (l : List ℕ) (b : ℕ) (text : List ℕ) (f : Filter) → is_label_byte b ≡ true → length l < 64 → InLabelRest f0 (l ++ b ∷ []) text f → InLabelRest f0 l (b ∷ text) f
in_label_more f0 l b text f e lt h =
    record {
      more = b ∷ h.more;
      rest = h.rest;
      spelled = ap (λ t. b ∷ t) h.spelled;
      each = (e, h.each);
      some = omega arith;
      short = λ _. omega (arith, lt, length-append l (b ∷ []), h.short (omega (arith, lt, length-append l (b ∷ []))));
      then = subst (λ x. FrontRest (record f0 { ins = f0.ins ++ x ∷ [] }) h.rest f) (append_assoc l (b ∷ []) h.more) h.then;
    }

pub in_label_close : (f0 : Filter) (l text : List ℕ) (f : Filter) → 0 < length l → FrontRest (record f0 { ins = f0.ins ++ l ∷ [] }) text f → InLabelRest f0 l (93 ∷ text) f
in_label_close f0 l text f some h =
    record {
      more = [];
      rest = text;
      spelled = refl;
      each = tt;
      some = omega (arith, some);
      short = λ k. omega (arith, k);
      then = subst (λ x. FrontRest (record f0 { ins = f0.ins ++ x ∷ [] }) text f) (sym (append-nil l)) h;
    }
