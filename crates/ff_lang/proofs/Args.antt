-- Arguments are read as they stand for, up to what may follow a filter.
use Rattle.std.proofs.Common.{◌≡◌, ℕ, inl, inr, true, Some, List, [], ◌∷◌, ◌++◌, refl, sym, ap, subst, ◌∙◌, append_assoc}
use Rattle.std.proofs.lemmas.List.{append-nil}
use Rattle.ff_lang.specs.Letters.{is_blank}
use Rattle.ff_lang.specs.laws.Reading.{byte_next, empty_arg}
use Rattle.ff_lang.specs.declared.graph.Arg.{Arg}
use Rattle.ff_lang.specs.declared.graph.Filter.{Filter}
use Rattle.ff_lang.specs.declared.graph.Chain.{Chain}
use Rattle.ff_lang.specs.declared.graph.Graph.{Graph}
use Rattle.ff_lang.specs.declared.parser.Place.TheVariants.{Name, Named, Key, Value, Back}
use Rattle.ff_lang.specs.Grammar.{AreBlanks, AreLabels, AreArgs, AreLed, IsArg, IsTight}
use Rattle.ff_lang.proofs.Bytes.{word_44, word_59, word_91, word_61, blank_44, blank_59, blank_91, blank_61, special_44, special_59, special_91, special_58, word_blank}
use Rattle.ff_lang.proofs.Runs.{reads, reads_byte, blanks_stay, at}
use Rattle.ff_lang.proofs.Values.{Stop, reads_arg}
use Rattle.ff_lang.proofs.Values.Stop.{nothing, byte}

-- what may follow arguments: nothing, `,`, `;` or `[`
pub data Close : List ℕ → Type 0 where
  end : Close []
  comma : (rest : List ℕ) → Close (44 ∷ rest)
  semicolon : (rest : List ℕ) → Close (59 ∷ rest)
  bracket : (rest : List ℕ) → Close (91 ∷ rest)

-- what may follow a filter: nothing, `,` or `;`
pub data Tail : List ℕ → Type 0 where
  last : Tail []
  next_filter : (rest : List ℕ) → Tail (44 ∷ rest)
  next_chain : (rest : List ℕ) → Tail (59 ∷ rest)

pub tail_closes : (y : List ℕ) → Tail y → Close y
tail_closes _ last = end
tail_closes _ (next_filter rest) = comma rest
tail_closes _ (next_chain rest) = semicolon rest

close_stops : (y : List ℕ) → Close y → Stop y
close_stops _ end = nothing
close_stops _ (comma rest) = byte 44 rest special_44
close_stops _ (semicolon rest) = byte 59 rest special_59
close_stops _ (bracket rest) = byte 91 rest special_91

abbrev pub with_args : Filter → List Arg → Filter
with_args f args = record f { args = f.args ++ args }

value_closes : (graph : Graph) (chain : Chain) (f : Filter) (arg : Arg) (y : List ℕ) → Close y
    → reads y (at Value graph chain f arg []) ≡ reads y (at Back graph chain (with_args f (arg ∷ [])) empty_arg [])
value_closes graph chain f arg _ end = refl
value_closes graph chain f arg _ (comma rest) = simp (special_44, blank_44) refl
value_closes graph chain f arg _ (semicolon rest) = simp (special_59, blank_59) refl
value_closes graph chain f arg _ (bracket rest) = simp (special_91, blank_91) refl

name_closes : (graph : Graph) (chain : Chain) (f : Filter) (arg : Arg) (y : List ℕ) → Close y
    → reads y (at Name graph chain f arg []) ≡ reads y (at Back graph chain f arg [])
name_closes graph chain f arg _ end = refl
name_closes graph chain f arg _ (comma rest) = simp (word_44, blank_44) refl
name_closes graph chain f arg _ (semicolon rest) = simp (word_59, blank_59) refl
name_closes graph chain f arg _ (bracket rest) = simp (word_91, blank_91) refl

named_closes : (graph : Graph) (chain : Chain) (f : Filter) (arg : Arg) (y : List ℕ) → Close y
    → reads y (at Named graph chain f arg []) ≡ reads y (at Back graph chain f arg [])
named_closes graph chain f arg _ end = refl
named_closes graph chain f arg _ (comma rest) = simp blank_44 refl
named_closes graph chain f arg _ (semicolon rest) = simp blank_59 refl
named_closes graph chain f arg _ (bracket rest) = simp blank_91 refl

-- blanks behind a name

name_blank : (graph : Graph) (chain : Chain) (f : Filter) (arg : Arg) (b : ℕ) → is_blank b ≡ true → byte_next (at Name graph chain f arg []) b ≡ Some (at Named graph chain f arg [])
name_blank graph chain f arg b h = simp (word_blank b h, h) refl

named_blank : (graph : Graph) (chain : Chain) (f : Filter) (arg : Arg) (b : ℕ) → is_blank b ≡ true → byte_next (at Named graph chain f arg []) b ≡ Some (at Named graph chain f arg [])
named_blank graph chain f arg b h = simp h refl

back_blank : (graph : Graph) (chain : Chain) (f : Filter) (arg : Arg) (b : ℕ) → is_blank b ≡ true → byte_next (at Back graph chain f arg []) b ≡ Some (at Back graph chain f arg [])
back_blank graph chain f arg b h = simp h refl

named_back : (graph : Graph) (chain : Chain) (f : Filter) (arg : Arg) (text y : List ℕ) → AreBlanks text → Close y
    → reads (text ++ y) (at Named graph chain f arg []) ≡ reads (text ++ y) (at Back graph chain f arg [])
named_back graph chain f arg text y h close =
    blanks_stay (at Named graph chain f arg []) (named_blank graph chain f arg) text y h
    ∙ (named_closes graph chain f arg y close
    ∙ sym (blanks_stay (at Back graph chain f arg []) (back_blank graph chain f arg) text y h))

name_back : (graph : Graph) (chain : Chain) (f : Filter) (arg : Arg) (text y : List ℕ) → AreBlanks text → Close y
    → reads (text ++ y) (at Name graph chain f arg []) ≡ reads (text ++ y) (at Back graph chain f arg [])
name_back graph chain f arg [] y h close = name_closes graph chain f arg y close
name_back graph chain f arg (b ∷ text) y h close =
    reads_byte b (text ++ y) (at Name graph chain f arg []) (at Named graph chain f arg []) (name_blank graph chain f arg b h.0)
    ∙ (named_back graph chain f arg text y h.1 close
    ∙ sym (reads_byte b (text ++ y) (at Back graph chain f arg []) (at Back graph chain f arg []) (back_blank graph chain f arg b h.0)))

labels_back : (graph : Graph) (chain : Chain) (f : Filter) (arg : Arg) (outs : List (List ℕ)) (text y : List ℕ) → AreLabels text outs → Tail y
    → reads (text ++ y) (at Name graph chain f arg []) ≡ reads (text ++ y) (at Back graph chain f arg [])
labels_back graph chain f arg [] text y h tail = name_back graph chain f arg text y h (tail_closes y tail)
labels_back graph chain f arg (label ∷ outs) text y h tail =
    let whole : text ++ y ≡ h.0 ++ (91 ∷ ((label ++ (93 ∷ h.1)) ++ y)) = ap (λ t. t ++ y) h.2 ∙ append_assoc h.0 (91 ∷ (label ++ (93 ∷ h.1))) y in
    ap (λ t. reads t (at Name graph chain f arg [])) whole
    ∙ (name_back graph chain f arg h.0 (91 ∷ ((label ++ (93 ∷ h.1)) ++ y)) h.3 (bracket ((label ++ (93 ∷ h.1)) ++ y))
    ∙ ap (λ t. reads t (at Back graph chain f arg [])) (sym whole))

-- `=` behind a name

name_equals : (graph : Graph) (chain : Chain) (f : Filter) (arg : Arg) (text y : List ℕ) → AreBlanks text
    → reads (text ++ (61 ∷ y)) (at Name graph chain f arg []) ≡ reads y (at Key graph chain f empty_arg [])
name_equals graph chain f arg [] y h = reads_byte 61 y (at Name graph chain f arg []) (at Key graph chain f empty_arg []) (simp (word_61, blank_61) refl)
name_equals graph chain f arg (b ∷ text) y h =
    reads_byte b (text ++ (61 ∷ y)) (at Name graph chain f arg []) (at Named graph chain f arg []) (name_blank graph chain f arg b h.0)
    ∙ (blanks_stay (at Named graph chain f arg []) (named_blank graph chain f arg) text (61 ∷ y) h.1
    ∙ reads_byte 61 y (at Named graph chain f arg []) (at Key graph chain f empty_arg []) (simp blank_61 refl))

-- arguments

led_stops : (args : List Arg) (text y : List ℕ) → AreLed IsArg 58 text args → Close y → Stop (text ++ y)
led_stops [] text y h close = subst (λ t. Stop (t ++ y)) (sym h) (close_stops y close)
led_stops (arg ∷ args) text y h close = subst (λ t. Stop (t ++ y)) (sym h.2) (byte 58 ((h.0 ++ h.1) ++ y) special_58)

reads_led : (graph : Graph) (chain : Chain) (f : Filter) (arg : Arg) (args : List Arg) (text y : List ℕ) → AreLed IsArg 58 text args → Close y
    → reads (text ++ y) (at Value graph chain f arg []) ≡ reads y (at Back graph chain (with_args f (arg ∷ args)) empty_arg [])
reads_led graph chain f arg [] text y h close =
    ap (λ t. reads (t ++ y) (at Value graph chain f arg [])) h ∙ value_closes graph chain f arg y close
reads_led graph chain f arg (next ∷ args) text y h close =
    ap (λ t. reads t (at Value graph chain f arg [])) (ap (λ t. t ++ y) h.2 ∙ ap (λ t. 58 ∷ t) (append_assoc h.0 h.1 y))
    ∙ (reads_byte 58 (h.0 ++ (h.1 ++ y)) (at Value graph chain f arg []) (at Key graph chain (with_args f (arg ∷ [])) empty_arg []) (simp special_58 refl)
    ∙ (reads_arg graph chain (with_args f (arg ∷ [])) h.0 next (h.1 ++ y) h.3 (led_stops args h.1 y h.4 close)
    ∙ (reads_led graph chain (with_args f (arg ∷ [])) next args h.1 y h.4 close
    ∙ ap (λ x. reads y (at Back graph chain (record f { args = x }) empty_arg [])) (append_assoc f.args (arg ∷ []) (next ∷ args)))))

tight_closes : (arg : Arg) (args : List Arg) (back y : List ℕ) → IsTight (arg ∷ args) back → Tail y → Close (back ++ y)
tight_closes arg args back y (inl e) tail = subst (λ t. Close (t ++ y)) (sym e) (tail_closes y tail)
tight_closes arg args back y (inr h) tail = subst (λ t. Close (t ++ y)) (sym h.1) (bracket (h.0 ++ y))

pub reads_args : (graph : Graph) (chain : Chain) (f : Filter) (args : List Arg) (outs : List (List ℕ)) (middle back y : List ℕ) → AreArgs middle args → IsTight args back → AreLabels back outs → Tail y
    → reads (middle ++ (back ++ y)) (at Name graph chain f empty_arg []) ≡ reads (back ++ y) (at Back graph chain (with_args f args) empty_arg [])
reads_args graph chain f [] outs middle back y h tight labels tail =
    ap (λ t. reads (t ++ (back ++ y)) (at Name graph chain f empty_arg [])) h
    ∙ (labels_back graph chain f empty_arg outs back y labels tail
    ∙ ap (λ x. reads (back ++ y) (at Back graph chain (record f { args = x }) empty_arg [])) (sym (append-nil f.args)))
reads_args graph chain f (arg ∷ args) outs middle back y h tight labels tail =
    let first : List ℕ = h.4.0 in
    let rest : List ℕ = h.4.1 in
    ap (λ t. reads t (at Name graph chain f empty_arg [])) (ap (λ t. t ++ (back ++ y)) h.2 ∙ append_assoc h.0 (61 ∷ h.1) (back ++ y))
    ∙ (name_equals graph chain f empty_arg h.0 (h.1 ++ (back ++ y)) h.3
    ∙ (ap (λ t. reads t (at Key graph chain f empty_arg [])) (ap (λ t. t ++ (back ++ y)) h.4.2 ∙ append_assoc first rest (back ++ y))
    ∙ (reads_arg graph chain f first arg (rest ++ (back ++ y)) h.4.3 (led_stops args rest (back ++ y) h.4.4 (tight_closes arg args back y tight tail))
    ∙ reads_led graph chain f arg args rest (back ++ y) h.4.4 (tight_closes arg args back y tight tail))))
