-- A value is read as it stands for, with a key or without.
use Rattle.std.proofs.Common.{◌≡◌, ◌≢◌, ℕ, ◌+◌, ◌≤◌, true, false, ◌&&◌, Option, Some, None, nat_lt, List, [], ◌∷◌, ◌++◌, length, refl, sym, ap, subst, ◌∙◌, append_assoc, length-append, arith}
use Rattle.std.specs.Prelude.{◌==◌}
use Rattle.std.proofs.lemmas.List.{append-nil}
use Rattle.std.specs.List.{AllByRecursion}
use Rattle.ff_lang.specs.Letters.{is_word_byte, is_special}
use Rattle.ff_lang.specs.laws.Reading.{empty_arg}
use Rattle.ff_lang.specs.declared.graph.Arg.{Arg}
use Rattle.ff_lang.specs.declared.graph.Filter.{Filter}
use Rattle.ff_lang.specs.declared.graph.Chain.{Chain}
use Rattle.ff_lang.specs.declared.graph.Graph.{Graph}
use Rattle.ff_lang.specs.declared.parser.Parser.{Parser}
use Rattle.ff_lang.specs.declared.parser.Place.{Place}
use Rattle.ff_lang.specs.declared.parser.Place.TheVariants.{Key, Value, Quoted, Escaped}
use Rattle.ff_lang.specs.Grammar.{IsValue, HasKey, IsKeyed, IsArg}
use Rattle.ff_lang.specs.Grammar.IsValue.{ends, itself, escaped, quoted}
use Rattle.ff_lang.proofs.Bytes.{word_61, special_39, special_92, both_true, lt_true, lt_out, eq_out, eq_false, special_word, special_not_61, both_out}
use Rattle.ff_lang.proofs.Runs.{reads, reads_byte, at}

-- in an argument, with a key and a value so far
abbrev pub arg_at : Place → Graph → Chain → Filter → Option (List ℕ) → List ℕ → Parser
arg_at place graph chain filter key w = at place graph chain filter (record { key = key; value = w }) []

reads_quoted : (graph : Graph) (chain : Chain) (filter : Filter) (key : Option (List ℕ)) (w inner y : List ℕ) → AllByRecursion (λ b. b ≢ 39) inner
    → reads (inner ++ (39 ∷ y)) (arg_at Quoted graph chain filter key w) ≡ reads y (arg_at Value graph chain filter key (w ++ inner))
reads_quoted graph chain filter key w [] y h =
    reads_byte 39 y (arg_at Quoted graph chain filter key w) (arg_at Value graph chain filter key w) refl
    ∙ ap (λ x. reads y (arg_at Value graph chain filter key x)) (sym (append-nil w))
reads_quoted graph chain filter key w (b ∷ inner) y h =
    reads_byte b (inner ++ (39 ∷ y)) (arg_at Quoted graph chain filter key w) (arg_at Quoted graph chain filter key (w ++ b ∷ [])) (simp (eq_false b 39 h.0) refl)
    ∙ (reads_quoted graph chain filter key (w ++ b ∷ []) inner y h.1
    ∙ ap (λ x. reads y (arg_at Value graph chain filter key x)) (append_assoc w (b ∷ []) inner))

pub reads_value : (graph : Graph) (chain : Chain) (filter : Filter) (key : Option (List ℕ)) (text value : List ℕ) → IsValue text value → (w y : List ℕ)
    → reads (text ++ y) (arg_at Value graph chain filter key w) ≡ reads y (arg_at Value graph chain filter key (w ++ value))
reads_value graph chain filter key _ _ ends w y = ap (λ x. reads y (arg_at Value graph chain filter key x)) (sym (append-nil w))
reads_value graph chain filter key _ _ (itself b text value plain h) w y =
    reads_byte b (text ++ y) (arg_at Value graph chain filter key w) (arg_at Value graph chain filter key (w ++ b ∷ [])) (simp plain refl)
    ∙ (reads_value graph chain filter key text value h (w ++ b ∷ []) y
    ∙ ap (λ x. reads y (arg_at Value graph chain filter key x)) (append_assoc w (b ∷ []) value))
reads_value graph chain filter key _ _ (escaped b text value h) w y =
    reads_byte 92 (b ∷ (text ++ y)) (arg_at Value graph chain filter key w) (arg_at Escaped graph chain filter key w) (simp special_92 refl)
    ∙ (reads_byte b (text ++ y) (arg_at Escaped graph chain filter key w) (arg_at Value graph chain filter key (w ++ b ∷ [])) refl
    ∙ (reads_value graph chain filter key text value h (w ++ b ∷ []) y
    ∙ ap (λ x. reads y (arg_at Value graph chain filter key x)) (append_assoc w (b ∷ []) value)))
reads_value graph chain filter key _ _ (quoted inner text value each h) w y =
    ap (λ t. reads (39 ∷ t) (arg_at Value graph chain filter key w)) (append_assoc inner (39 ∷ text) y)
    ∙ (reads_byte 39 (inner ++ (39 ∷ (text ++ y))) (arg_at Value graph chain filter key w) (arg_at Quoted graph chain filter key w) (simp special_39 refl)
    ∙ (reads_quoted graph chain filter key w inner (text ++ y) each
    ∙ (reads_value graph chain filter key text value h (w ++ inner) y
    ∙ ap (λ x. reads y (arg_at Value graph chain filter key x)) (append_assoc w inner value))))

-- what may follow a value: nothing, or a byte that ends it
pub data Stop : List ℕ → Type 0 where
  nothing : Stop []
  byte : (b : ℕ) (rest : List ℕ) → is_special b ≡ true → Stop (b ∷ rest)

same_byte : (graph : Graph) (chain : Chain) (filter : Filter) (key : Option (List ℕ)) (w y : List ℕ) (b : ℕ) → is_special b ≡ true
    → reads (b ∷ y) (arg_at Key graph chain filter key w) ≡ reads (b ∷ y) (arg_at Value graph chain filter key w)
same_byte graph chain filter key w y b h = simp (special_word b h, special_not_61 b h, h) refl

stop_same : (graph : Graph) (chain : Chain) (filter : Filter) (key : Option (List ℕ)) (w y : List ℕ) → Stop y
    → reads y (arg_at Key graph chain filter key w) ≡ reads y (arg_at Value graph chain filter key w)
stop_same graph chain filter key w _ nothing = refl
stop_same graph chain filter key w _ (byte b rest h) = same_byte graph chain filter key w rest b h

pub all_snoc : (P : ℕ → Type 0) (xs : List ℕ) (x : ℕ) → AllByRecursion P xs → P x → AllByRecursion P (xs ++ x ∷ [])
all_snoc P [] x h p = (p, tt)
all_snoc P (y ∷ xs) x h p = (h.0, all_snoc P xs x h.1 p)

abbrev AllWord : List ℕ → Type 0
AllWord w = AllByRecursion (λ b. is_word_byte b ≡ true) w

no_key_here : (w text : List ℕ) (b : ℕ) → AllWord w → length w ≤ 64 → (HasKey (w ++ (b ∷ text)) → ⊥) → ((b == 61) && nat_lt 0 (length w)) ≡ true → ⊥
no_key_here w text b words short none e =
    let tests : ((b == 61) ≡ true) × (nat_lt 0 (length w) ≡ true) = both_out (b == 61) (nat_lt 0 (length w)) e in
    none (w, text, record { some = lt_out 0 (length w) tests.1; short = short; each = words }, ap (λ x. w ++ (x ∷ text)) (eq_out b 61 tests.0))

key_moved : (w text : List ℕ) (b : ℕ) → (HasKey (w ++ (b ∷ text)) → ⊥) → HasKey ((w ++ b ∷ []) ++ text) → ⊥
key_moved w text b none h = none (subst HasKey (append_assoc w (b ∷ []) text) h)

reads_plain : (graph : Graph) (chain : Chain) (filter : Filter) (text value : List ℕ) → IsValue text value → (w y : List ℕ) → AllWord w → length w ≤ 64 → (HasKey (w ++ text) → ⊥) → Stop y
    → reads (text ++ y) (arg_at Key graph chain filter None w) ≡ reads y (arg_at Value graph chain filter None (w ++ value))
reads_plain graph chain filter _ _ ends w y words short none stop =
    stop_same graph chain filter None w y stop ∙ ap (λ x. reads y (arg_at Value graph chain filter None x)) (sym (append-nil w))
reads_plain graph chain filter _ _ (itself b text value plain h) w y words short none stop =
    let Goal : Type 0 = reads ((b ∷ text) ++ y) (arg_at Key graph chain filter None w) ≡ reads y (arg_at Value graph chain filter None (w ++ (b ∷ value))) in
    let more : (is_word_byte b && nat_lt (length w) 64) ≡ true → Goal = λ e.
    (reads_byte b (text ++ y) (arg_at Key graph chain filter None w) (arg_at Key graph chain filter None (w ++ b ∷ [])) (simp e refl)
    ∙ (reads_plain graph chain filter text value h (w ++ b ∷ []) y (all_snoc (λ x. is_word_byte x ≡ true) w b words (both_out (is_word_byte b) (nat_lt (length w) 64) e).0)
    (omega (arith, length-append w (b ∷ []), lt_out (length w) 64 (both_out (is_word_byte b) (nat_lt (length w) 64) e).1)) (key_moved w text b none) stop
    ∙ ap (λ x. reads y (arg_at Value graph chain filter None x)) (append_assoc w (b ∷ []) value))) in
    let other : (is_word_byte b && nat_lt (length w) 64) ≡ false → ((b == 61) && nat_lt 0 (length w)) ≡ false → Goal = λ e f.
    (reads_byte b (text ++ y) (arg_at Key graph chain filter None w) (arg_at Value graph chain filter None (w ++ b ∷ [])) (simp (e, f, plain) refl)
    ∙ (reads_value graph chain filter None text value h (w ++ b ∷ []) y
    ∙ ap (λ x. reads y (arg_at Value graph chain filter None x)) (append_assoc w (b ∷ []) value))) in
    elim (is_word_byte b && nat_lt (length w) 64) as (λ v. (is_word_byte b && nat_lt (length w) 64) ≡ v → Goal) [
      | true ↦ more
      | false ↦ λ e. elim ((b == 61) && nat_lt 0 (length w)) as (λ v. ((b == 61) && nat_lt 0 (length w)) ≡ v → Goal) [
        | true ↦ λ f. absurd (no_key_here w text b words short none f)
        | false ↦ λ f. other e f
      ] refl
    ] refl
reads_plain graph chain filter _ _ (escaped b text value h) w y words short none stop =
    same_byte graph chain filter None w (b ∷ (text ++ y)) 92 special_92 ∙ reads_value graph chain filter None (92 ∷ b ∷ text) (b ∷ value) (escaped b text value h) w y
reads_plain graph chain filter _ _ (quoted inner text value each h) w y words short none stop =
    same_byte graph chain filter None w ((inner ++ (39 ∷ text)) ++ y) 39 special_39 ∙ reads_value graph chain filter None (39 ∷ (inner ++ (39 ∷ text))) (inner ++ value) (quoted inner text value each h) w y

reads_key : (graph : Graph) (chain : Chain) (filter : Filter) (key w y : List ℕ) → AllWord key → length w + length key ≤ 64
    → reads (key ++ y) (arg_at Key graph chain filter None w) ≡ reads y (arg_at Key graph chain filter None (w ++ key))
reads_key graph chain filter [] w y h short = ap (λ x. reads y (arg_at Key graph chain filter None x)) (sym (append-nil w))
reads_key graph chain filter (b ∷ key) w y h short =
    reads_byte b (key ++ y) (arg_at Key graph chain filter None w) (arg_at Key graph chain filter None (w ++ b ∷ [])) (simp (both_true (is_word_byte b) (nat_lt (length w) 64) h.0 (lt_true (length w) 64 (omega (arith, short)))) refl)
    ∙ (reads_key graph chain filter key (w ++ b ∷ []) y h.1 (omega (arith, short, length-append w (b ∷ [])))
    ∙ ap (λ x. reads y (arg_at Key graph chain filter None x)) (append_assoc w (b ∷ []) key))

reads_keyed : (graph : Graph) (chain : Chain) (filter : Filter) (text : List ℕ) (key : Option (List ℕ)) (value y : List ℕ) → IsKeyed text key value → Stop y
    → reads (text ++ y) (arg_at Key graph chain filter None []) ≡ reads y (arg_at Value graph chain filter key value)
reads_keyed graph chain filter text None value y h stop = reads_plain graph chain filter text value h.0 [] y tt (omega arith) h.1 stop
reads_keyed graph chain filter text (Some key) value y h stop =
    ap (λ t. reads t (arg_at Key graph chain filter None [])) (ap (λ t. t ++ y) h.1 ∙ append_assoc key (61 ∷ h.0) y)
    ∙ (reads_key graph chain filter key [] (61 ∷ (h.0 ++ y)) h.2.each (omega (arith, h.2.short))
    ∙ (reads_byte 61 (h.0 ++ y) (arg_at Key graph chain filter None key) (arg_at Value graph chain filter (Some key) []) (simp (word_61, lt_true 0 (length key) h.2.some) refl)
    ∙ reads_value graph chain filter (Some key) h.0 value h.3 [] y))

pub reads_arg : (graph : Graph) (chain : Chain) (filter : Filter) (text : List ℕ) (arg : Arg) (y : List ℕ) → IsArg text arg → Stop y
    → reads (text ++ y) (at Key graph chain filter empty_arg []) ≡ reads y (at Value graph chain filter arg [])
reads_arg graph chain filter text arg y h stop = reads_keyed graph chain filter text arg.key arg.value y h stop
