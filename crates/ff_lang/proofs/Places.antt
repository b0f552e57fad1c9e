-- The place of a fault, and what the call's answer says of the text.
use Rattle.std.proofs.Common.{◌≡◌, ℕ, ◌+◌, ◌<◌, ◌≤◌, ◌⊎◌, inl, inr, Bool, true, false, Option, Some, None, List, [], ◌∷◌, ◌++◌, length, refl, sym, ap, subst, ◌∙◌, append_assoc, length-append, arith}
use Rattle.std.proofs.lemmas.List.{append-nil}
use Rattle.ff_lang.specs.laws.Reading.{byte_next, end_of, with_filter, with_chain}
use Rattle.ff_lang.specs.declared.graph.Arg.{Arg}
use Rattle.ff_lang.specs.declared.graph.Filter.{Filter}
use Rattle.ff_lang.specs.declared.graph.Chain.{Chain}
use Rattle.ff_lang.specs.declared.graph.Graph.{Graph}
use Rattle.ff_lang.specs.declared.parser.Parser.{Parser}
use Rattle.ff_lang.specs.declared.parser.Place.{Place}
use Rattle.ff_lang.specs.declared.parser.Place.TheVariants.{Front, InLabel, Name, Named, Key, Value, Quoted, Escaped, OutLabel, Back}
use Rattle.std.proofs.Common.{Result, Ok, Err, take, drop, IsErrOf}
use Rattle.std.proofs.lemmas.List.{take-append-drop, take-take, take_all}
use Rattle.std.proofs.lemmas.Bool.{cases_lt}
use Rattle.std.proofs.Math.Seq.{take-append_seam, take-append-add}
use Rattle.std.proofs.Math.Utf8.{encode, encodes}
use Rattle.std.proofs.lemmas.Str.{encodes-append}
use Rattle.ff_lang.specs.Grammar.{IsGraph, GoesOn, IsBadAt}
use Rattle.ff_lang.specs.laws.Reading.{start, char_next, Goes}
use Rattle.ff_lang.specs.declared.error.LangError.{LangError}
use Rattle.ff_lang.specs.declared.error.LangError.TheVariants.{Bad, NoMemory}
use Rattle.ff_lang.proofs.Bytes.{word_97, label_97, label_93, lt_true}
use Rattle.ff_lang.proofs.Runs.{and_run, reads, run, reads_run, reads_stop, run_append, at}
use Rattle.ff_lang.proofs.Filters.{reads_graph}
use Rattle.ff_lang.proofs.Sound.{read_is_graph}
use Rattle.ff_lang.proofs.Wide.{char_some, char_none, encode_some}

-- ---- from each place some text leads to a graph

abbrev Ends : Parser → Type 0
Ends s = (text : List ℕ) × (g : Graph) × (reads text s ≡ Some g)

abbrev made : Graph → Chain → Filter → Graph
made g c f = with_chain g (with_filter c f)

label_ends : (g : Graph) (c : Chain) (f : Filter) (a : Arg) (l : List ℕ) → Ends (at InLabel g c f a l)
label_ends g c f a [] = (97 ∷ 93 ∷ 97 ∷ [], made g c (record f { ins = f.ins ++ (97 ∷ []) ∷ []; name = 97 ∷ [] }), simp (label_97, label_93, word_97) refl)
label_ends g c f a (b ∷ l) = (93 ∷ 97 ∷ [], made g c (record f { ins = f.ins ++ (b ∷ l) ∷ []; name = 97 ∷ [] }), simp (label_93, lt_true 0 (length (b ∷ l)) (omega arith), word_97) refl)

out_label_ends : (g : Graph) (c : Chain) (f : Filter) (a : Arg) (l : List ℕ) → Ends (at OutLabel g c f a l)
out_label_ends g c f a [] = (97 ∷ 93 ∷ [], made g c (record f { outs = f.outs ++ (97 ∷ []) ∷ [] }), simp (label_97, label_93) refl)
out_label_ends g c f a (b ∷ l) = (93 ∷ [], made g c (record f { outs = f.outs ++ (b ∷ l) ∷ [] }), simp (label_93, lt_true 0 (length (b ∷ l)) (omega arith)) refl)

ends_from : (p : Place) (g : Graph) (c : Chain) (f : Filter) (a : Arg) (l : List ℕ) → Ends (at p g c f a l)
ends_from Front g c f a l = (97 ∷ [], made g c (record f { name = 97 ∷ [] }), simp word_97 refl)
ends_from InLabel g c f a l = label_ends g c f a l
ends_from Name g c f a l = ([], _, refl)
ends_from Named g c f a l = ([], _, refl)
ends_from Key g c f a l = ([], _, refl)
ends_from Value g c f a l = ([], _, refl)
ends_from Quoted g c f a l = (39 ∷ [], _, refl)
ends_from Escaped g c f a l = (97 ∷ [], _, refl)
ends_from OutLabel g c f a l = out_label_ends g c f a l
ends_from Back g c f a l = ([], _, refl)

pub goes_on : (front : List ℕ) (s : Parser) → run front start ≡ Some s → GoesOn front
goes_on front s e =
    let h : Ends s = ends_from s.place s.graph s.chain s.filter s.arg s.label in
    (h.0, h.1, read_is_graph (front ++ h.0) h.1 (reads_run front h.0 start s e ∙ h.2))

-- ---- the place

stops : (front : List ℕ) → run front start ≡ None → GoesOn front → ⊥
stops front e g =
    let some : reads (front ++ g.0) start ≡ Some g.1 = reads_graph (front ++ g.0) g.1 g.2 in
    let none : reads (front ++ g.0) start ≡ None = reads_stop front g.0 start e in
    cc

goes_on_whole : (text : List ℕ) (n : ℕ) (g : Graph) → IsGraph text g → GoesOn (take n text)
goes_on_whole text n g d = (drop n text, g, subst (λ t. IsGraph t g) (sym (take-append-drop n text)) d)

goes_on_front : (front rest : List ℕ) → GoesOn (front ++ rest) → GoesOn front
goes_on_front front rest g = (rest ++ g.0, g.1, subst (λ t. IsGraph t g.1) (append_assoc front rest g.0) g.2)

goes_on_less : (text : List ℕ) (m n : ℕ) → m ≤ n → GoesOn (take n text) → GoesOn (take m text)
goes_on_less text m n le g =
    let split : take n text ≡ take m text ++ drop m (take n text) = sym (take-append-drop m (take n text)) ∙ ap (λ t. t ++ drop m (take n text)) (take-take m n text le) in
    goes_on_front (take m text) (drop m (take n text)) (subst GoesOn split g)

bad_inside : (front z : List ℕ) (b : ℕ) (s : Parser) → run front start ≡ Some s → byte_next s b ≡ None → IsBadAt (front ++ (b ∷ z)) (length front)
bad_inside front z b s e stop =
    let text : List ℕ = front ++ (b ∷ z) in
    let one : take (length front + 1) text ≡ front ++ b ∷ [] = take-append-add front (b ∷ z) 1 in
    let no : run (front ++ b ∷ []) start ≡ None = run_append front (b ∷ []) start s e ∙ ap (λ o. and_run o (λ t. run [] t)) stop in
    let off : GoesOn (take (length front + 1) text) → ⊥ = λ g. stops (front ++ b ∷ []) no (subst GoesOn one g) in
    record {
      no_graph = λ g h. off (goes_on_whole text (length front + 1) g h);
      before = subst GoesOn (sym (take-append_seam front (b ∷ z))) (goes_on front s e);
      place = inr (omega (arith, length-append front (b ∷ z)), off);
    }

pub bad_end : (text : List ℕ) (s : Parser) → run text start ≡ Some s → end_of s ≡ None → IsBadAt text (length text)
bad_end text s e stop =
    record {
      no_graph = λ g h. (let some : reads text start ≡ Some g = reads_graph text g h in
          let here : reads (text ++ []) start ≡ end_of s = reads_run text [] start s e in
          let same : reads text start ≡ end_of s = ap (λ t. reads t start) (sym (append-nil text)) ∙ here in
          cc);
      before = subst GoesOn (sym (take_all (length text) text (omega arith))) (goes_on text s e);
      place = inl refl;
    }

-- a character with which no graph goes on
pub bad_char : (text front rest : List ℕ) (c n : ℕ) (s : Parser) → text ≡ front ++ (encode c ++ rest) → n ≡ length front → run front start ≡ Some s → char_next s c (encode c) ≡ None → IsBadAt text n
bad_char text front rest c n s split place e stop =
    let some : (b : ℕ) × (bs : List ℕ) × (encode c ≡ b ∷ bs) = encode_some c in
    let none : byte_next s some.0 ≡ None = char_none c some.0 some.1 s stop some.2 in
    let bad : IsBadAt (front ++ (some.0 ∷ (some.1 ++ rest))) (length front) = bad_inside front (some.1 ++ rest) some.0 s e none in
    subst (λ m. IsBadAt text m) (sym place) (subst (λ t. IsBadAt t (length front)) (sym (split ∙ ap (λ t. front ++ (t ++ rest)) some.2)) bad)

pub char_on : (front : List ℕ) (c : ℕ) (s t : Parser) → run front start ≡ Some s → char_next s c (encode c) ≡ Some t → run (front ++ encode c) start ≡ Some t
char_on front c s t e on = run_append front (encode c) start s e ∙ char_some c s t on

pub encodes_push : (cs : List ℕ) (c : ℕ) → encodes (cs ++ c ∷ []) ≡ encodes cs ++ encode c
encodes_push cs c = encodes-append cs (c ∷ []) ∙ ap (λ t. encodes cs ++ t) (append-nil (encode c))

place_bound : (text : List ℕ) (n : ℕ) → (n ≡ length text) ⊎ ((n < length text) × (GoesOn (take (n + 1) text) → ⊥)) → n ≤ length text
place_bound text n (inl e) = omega (arith, e)
place_bound text n (inr h) = omega (arith, h.0)

not_before : (text : List ℕ) (m n : ℕ) → m < n → n ≤ length text → GoesOn (take n text) → (m ≡ length text) ⊎ ((m < length text) × (GoesOn (take (m + 1) text) → ⊥)) → ⊥
not_before text m n lt bound g (inl e) = omega (arith, e, lt, bound)
not_before text m n lt bound g (inr h) = h.1 (goes_on_less text (m + 1) n (omega (arith, lt)) g)

-- there is one such place
pub IsBadAt-unique : (text : List ℕ) (m n : ℕ) → IsBadAt text m → IsBadAt text n → m ≡ n
IsBadAt-unique text m n x y =
    elim (cases_lt m n) [
      | inl lt ↦ absurd (not_before text m n lt (place_bound text n y.place) y.before x.place)
      | inr le ↦ elim (cases_lt n m) [
        | inl gt ↦ absurd (not_before text n m gt (place_bound text m x.place) x.before y.place)
        | inr ge ↦ omega arith
      ]
    ]

-- a text is one graph
pub IsGraph-unique : (text : List ℕ) (g h : Graph) → IsGraph text g → IsGraph text h → g ≡ h
IsGraph-unique text g h x y =
    let e : reads text start ≡ Some g = reads_graph text g x in
    let f : reads text start ≡ Some h = reads_graph text h y in
    cc

-- ---- answers

pub record Read (text : List ℕ) (result : Result Graph LangError) : Type 0 where
  pub ok : (g : Graph) → result ≡ Ok g → IsGraph text g
  pub read : (g : Graph) → IsGraph text g → (result ≡ Ok g) ⊎ IsErrOf result NoMemory
  pub bad : (n : ℕ) → IsErrOf result (Bad n) → IsBadAt text n
  pub refused : (n : ℕ) → IsBadAt text n → IsErrOf result (Bad n) ⊎ IsErrOf result NoMemory

pub Read-bad : (text : List ℕ) (n : ℕ) → IsBadAt text n → Read text (Err (Bad n))
Read-bad text n b =
    record {
      ok = λ g e. cc;
      read = λ g h. absurd (b.no_graph g h);
      bad = λ m e. (let same : n ≡ m = cc in subst (IsBadAt text) same b);
      refused = λ m h. inl (ap (λ x. Err (Bad x)) (IsBadAt-unique text n m b h));
    }

some_graph : (g h : Graph) → Some g ≡ Some h → g ≡ h
some_graph g h e = cc

ok_graph : (g h : Graph) (T : Result Graph LangError) → T ≡ Ok g → T ≡ Ok h → g ≡ h
ok_graph g h T e f = cc

pub Read-ok : (text : List ℕ) (s : Parser) (g : Graph) → run text start ≡ Some s → end_of s ≡ Some g → Read text (Ok g)
Read-ok text s g e end =
    let all : reads text start ≡ Some g = ap (λ t. reads t start) (sym (append-nil text)) ∙ (reads_run text [] start s e ∙ end) in
    record {
      ok = λ h f. subst (IsGraph text) (ok_graph g h (Ok g) refl f) (read_is_graph text g all);
      read = λ h is. inl (ap (λ x. Ok x) (some_graph g h (sym all ∙ reads_graph text h is)));
      bad = λ n f. cc;
      refused = λ n b. absurd (b.no_graph g (read_is_graph text g all));
    }

pub whole : (text cs rest : List ℕ) (s : Parser) → text ≡ encodes cs ++ rest → length rest ≡ 0 → run (encodes cs) start ≡ Some s → run text start ≡ Some s
whole text cs [] s split none e = ap (λ t. run t start) (split ∙ append-nil (encodes cs)) ∙ e
whole text cs (b ∷ rest) s split none e = absurd (omega (arith, none))

pub goes_true : (o : Option Parser) (b : Bool) (s : Parser) → Goes o b s → b ≡ true → o ≡ Some s
goes_true o true s h e = h
goes_true o false s h e = cc

pub goes_false : (o : Option Parser) (b : Bool) (s : Parser) → Goes o b s → b ≡ false → o ≡ None
goes_false o true s h e = cc
goes_false o false s h e = h
