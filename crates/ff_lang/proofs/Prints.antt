-- The text that a sound graph is printed as stands for it.
use Rattle.std.proofs.Common.{◌≡◌, ◌≢◌, ℕ, true, false, Option, Some, None, List, [], ◌∷◌, ◌++◌, length, inl, inr, refl, sym, ap, subst, ◌∙◌, append_assoc, arith}
use Rattle.std.specs.Prelude.{if◌then◌else◌}
use Rattle.std.specs.List.{AllByRecursion}
use Rattle.ff_lang.specs.Letters.{is_word_byte, is_escaped}
use Rattle.ff_lang.specs.Grammar.{AreLabels, IsLabel, IsValue, IsKeyed, IsArg, AreLed, IsSeries, AreArgs, IsTight, IsFilter, IsChain, IsGraph}
use Rattle.ff_lang.specs.Grammar.IsValue.{ends, itself, escaped}
use Rattle.ff_lang.specs.laws.Printing.{escaped_value, printed_key, printed_arg, led, series, printed_args, printed_labels, printed_filter, printed_chain, printed, IsSoundKey, IsSoundFilter, IsSoundChain, IsSound}
use Rattle.ff_lang.specs.declared.graph.Arg.{Arg}
use Rattle.ff_lang.specs.declared.graph.Filter.{Filter}
use Rattle.ff_lang.specs.declared.graph.Chain.{Chain}
use Rattle.ff_lang.specs.declared.graph.Graph.{Graph}
use Rattle.std.proofs.Common.{◌≤◌, ◌<◌}
use Rattle.std.proofs.lemmas.Bool.{cases_lt}
use Rattle.std.proofs.lemmas.Str.{encode_ascii}
use Rattle.std.proofs.Math.Utf8.{encode}
use Rattle.ff_lang.proofs.Bytes.{word_92, plain_out, escaped_61, high_escaped}
use Rattle.ff_lang.proofs.Wide.{AreHigh, are_high}

labels_print : (labels : List (List ℕ)) → AllByRecursion IsLabel labels → AreLabels (printed_labels labels) labels
labels_print [] h = tt
labels_print (label ∷ labels) h = ([], printed_labels labels, refl, tt, h.0, labels_print labels h.1)

-- ---- values

value_prints : (value : List ℕ) → IsValue (escaped_value value) value
value_prints [] = ends
value_prints (b ∷ value) =
    elim (is_escaped b) as (λ e. is_escaped b ≡ e → IsValue ((if e then 92 ∷ b ∷ [] else b ∷ []) ++ escaped_value value) (b ∷ value)) [
      | true ↦ λ e. escaped b (escaped_value value) value (value_prints value)
      | false ↦ λ e. itself b (escaped_value value) value (plain_out b e) (value_prints value)
    ] refl

abbrev AllWord : List ℕ → Type 0
AllWord key = AllByRecursion (λ b. is_word_byte b ≡ true) key

-- a byte that is neither `=` nor in a key begins no key with `=`
begins_no_key : (b : ℕ) (bs key rest : List ℕ) → is_word_byte b ≡ false → b ≢ 61 → AllWord key → b ∷ bs ≡ key ++ (61 ∷ rest) → ⊥
begins_no_key b bs [] rest no_word other words e = other (cc)
begins_no_key b bs (k ∷ key) rest no_word other words e =
    let same : k ≡ b = cc in
    let word : is_word_byte b ≡ true = subst (λ x. is_word_byte x ≡ true) same words.0 in
    cc

after_plain : (b : ℕ) (bs key rest : List ℕ) → is_escaped b ≡ false → ((next : List ℕ) → AllWord next → bs ≡ next ++ (61 ∷ rest) → ⊥)
    → AllWord key → b ∷ bs ≡ key ++ (61 ∷ rest) → ⊥
after_plain b bs [] rest plain later words e =
    let same : b ≡ 61 = cc in
    let plain_61 : is_escaped 61 ≡ false = subst (λ x. is_escaped x ≡ false) same plain in
    cc escaped_61
after_plain b bs (k ∷ key) rest plain later words e = later key words.1 (cc)

-- before the first `=` of a printed value stands `\`, which is in no key
no_equals : (value key rest : List ℕ) → AllWord key → escaped_value value ≡ key ++ (61 ∷ rest) → ⊥
no_equals [] [] rest words e = cc
no_equals [] (k ∷ key) rest words e = cc
no_equals (b ∷ value) key rest words e =
    elim (is_escaped b) as (λ x. is_escaped b ≡ x → (if x then 92 ∷ b ∷ [] else b ∷ []) ++ escaped_value value ≡ key ++ (61 ∷ rest) → ⊥) [
      | true ↦ λ x. begins_no_key 92 (b ∷ escaped_value value) key rest word_92 (λ e. omega (arith, e)) words
      | false ↦ λ x. after_plain b (escaped_value value) key rest x (λ next. no_equals value next rest) words
    ] refl e

keyed_prints : (key : Option (List ℕ)) (value : List ℕ) → IsSoundKey key → IsKeyed (printed_key key ++ escaped_value value) key value
keyed_prints None value h = (value_prints value, λ k. no_equals value k.0 k.1 k.2.each k.3)
keyed_prints (Some key) value h = (escaped_value value, append_assoc key (61 ∷ []) (escaped_value value), h, value_prints value)

arg_prints : (arg : Arg) → IsSoundKey arg.key → IsArg (printed_arg arg) arg
arg_prints arg h = keyed_prints arg.key arg.value h

-- ---- series

led_prints : {X : Type 0} (Is : List ℕ → X → Type 0) (P : X → Type 0) (print : X → List ℕ) (separator : ℕ) → ((x : X) → P x → Is (print x) x)
    → (xs : List X) → AllByRecursion P xs → AreLed Is separator (led print separator xs) xs
led_prints Is P print separator prints [] h = refl
led_prints Is P print separator prints (x ∷ xs) h =
    (print x, led print separator xs, refl, prints x h.0, led_prints Is P print separator prints xs h.1)

series_prints : {X : Type 0} (Is : List ℕ → X → Type 0) (P : X → Type 0) (print : X → List ℕ) (separator : ℕ) → ((x : X) → P x → Is (print x) x)
    → (xs : List X) → 0 < length xs → AllByRecursion P xs → IsSeries Is separator (series print separator xs) xs
series_prints Is P print separator prints [] some h = absurd (omega (arith, some))
series_prints Is P print separator prints (x ∷ xs) some h =
    (print x, led print separator xs, refl, prints x h.0, led_prints Is P print separator prints xs h.1)

args_print : (args : List Arg) → AllByRecursion (λ (arg : Arg). IsSoundKey arg.key) args → AreArgs (printed_args args) args
args_print [] h = refl
args_print (arg ∷ args) h =
    ([], series printed_arg 58 (arg ∷ args), refl, tt, series_prints IsArg (λ (x : Arg). IsSoundKey x.key) printed_arg 58 arg_prints (arg ∷ args) (omega arith) h)

tight_labels : (arg : Arg) (args : List Arg) (labels : List (List ℕ)) → IsTight (arg ∷ args) (printed_labels labels)
tight_labels arg args [] = inl refl
tight_labels arg args (label ∷ labels) = inr (label ++ (93 ∷ printed_labels labels), refl)

tight_prints : (args : List Arg) (labels : List (List ℕ)) → IsTight args (printed_labels labels)
tight_prints [] labels = tt
tight_prints (arg ∷ args) labels = tight_labels arg args labels

filter_prints : (f : Filter) → IsSoundFilter f → IsFilter (printed_filter f) f
filter_prints f h =
    record {
      front = printed_labels f.ins;
      middle = printed_args f.args;
      back = printed_labels f.outs;
      spelled = refl;
      ins_are = labels_print f.ins h.ins;
      name_is = h.name;
      args_are = args_print f.args h.args;
      tight = tight_prints f.args f.outs;
      outs_are = labels_print f.outs h.outs;
    }

chain_prints : (c : Chain) → IsSoundChain c → IsChain (printed_chain c) c
chain_prints c h = series_prints IsFilter IsSoundFilter printed_filter 44 filter_prints c.filters h.some h.each

-- the printed text of a sound graph stands for it
pub printed_is : (graph : Graph) → IsSound graph → IsGraph (printed graph) graph
printed_is graph h = series_prints IsChain IsSoundChain printed_chain 59 chain_prints graph.chains h.some h.each

-- ---- the printed text of a value, a character at a time

escaped-append : (xs ys : List ℕ) → escaped_value (xs ++ ys) ≡ escaped_value xs ++ escaped_value ys
escaped-append [] ys = refl
escaped-append (x ∷ xs) ys =
    ap (λ t. (if is_escaped x then 92 ∷ x ∷ [] else x ∷ []) ++ t) (escaped-append xs ys)
    ∙ sym (append_assoc (if is_escaped x then 92 ∷ x ∷ [] else x ∷ []) (escaped_value xs) (escaped_value ys))

escaped_high : (bytes : List ℕ) → AreHigh bytes → escaped_value bytes ≡ bytes
escaped_high [] h = refl
escaped_high (b ∷ bytes) h = simp (high_escaped b h.0) (ap (λ t. b ∷ t) (escaped_high bytes h.1))

escaped_low : (c : ℕ) → is_escaped c ≡ true → 128 ≤ c → ⊥
escaped_low c e h = let plain : is_escaped c ≡ false = high_escaped c h in cc

pub plain_char : (c : ℕ) → is_escaped c ≡ false → escaped_value (encode c) ≡ encode c
plain_char c e =
    elim (cases_lt c 128) [
      | inl lt ↦ (let one : encode c ≡ c ∷ [] = encode_ascii c lt in ap escaped_value one ∙ (simp e (sym one)))
      | inr ge ↦ escaped_high (encode c) (are_high c ge)
    ]

pub escaped_char : (c : ℕ) → is_escaped c ≡ true → escaped_value (encode c) ≡ 92 ∷ encode c
escaped_char c e =
    elim (cases_lt c 128) [
      | inl lt ↦ (let one : encode c ≡ c ∷ [] = encode_ascii c lt in ap escaped_value one ∙ (simp e (ap (λ t. 92 ∷ t) (sym one))))
      | inr ge ↦ absurd (escaped_low c e ge)
    ]

pub value_step : (out text rest : List ℕ) (c : ℕ) → text ≡ encode c ++ rest → out ++ escaped_value text ≡ (out ++ escaped_value (encode c)) ++ escaped_value rest
value_step out text rest c split =
    ap (λ t. out ++ escaped_value t) split
    ∙ (ap (λ t. out ++ t) (escaped-append (encode c) rest) ∙ sym (append_assoc out (escaped_value (encode c)) (escaped_value rest)))
