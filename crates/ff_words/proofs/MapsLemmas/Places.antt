-- The place of a fault, and what the call's answer says of the text.
use Rattle.std.proofs.Common.{◌≡◌, ℕ, ◌+◌, ◌<◌, ◌≤◌, ◌⊎◌, inl, inr, false, Option, Some, None, Result, Ok, Err, IsErrOf, List, [], ◌∷◌, ◌++◌, length, take, drop, refl, sym, ap, subst, ◌∙◌, append_assoc, arith, get_or}
use Rattle.std.proofs.lemmas.List.{append-nil, take-append-drop, take-take, take_all, take_more}
use Rattle.std.proofs.lemmas.Bool.{cases_lt}
use Rattle.ff_words.specs.declared.maps.error.MapError.{MapError}
use Rattle.ff_words.specs.declared.maps.error.MapError.TheVariants.{Bad, NoMemory}
use Rattle.ff_words.specs.declared.maps.map.MapSpec.{MapSpec}
use Rattle.ff_words.specs.declared.maps.map.MapFrom.TheVariants as from
use Rattle.ff_words.specs.declared.maps.reading.Reading.{Reading}
use Rattle.ff_words.specs.declared.maps.reading.Reading.TheVariants.{Start, File, Separator, Index, OfKind, Second, Nth, Optional, Label, Closed}
use Rattle.ff_lang.proofs.Bytes.{label_97, label_93, lt_true}
use Rattle.ff_words.specs.maps.Grammar.{IsMap, GoesOn, IsBadAt}
use Rattle.ff_words.specs.maps.Reading.{byte_next, end_of}
use Rattle.ff_words.proofs.MapsLemmas.Runs.{and_run, reads, run, reads_run, reads_stop, run_append}
use Rattle.ff_words.proofs.MapsLemmas.Spelled.{run_spelled, reads_is_map, end_is_map}
use Rattle.ff_words.proofs.MapsLemmas.Complete.{reads_map}

-- ---- from each place some text leads to a map

abbrev Ends : Reading → Type 0
Ends s = (text : List ℕ) × (m : MapSpec) × (reads text s ≡ Some m)

abbrev labelled : List ℕ → MapSpec
labelled l = record { from = from.Label l; optional = false }

label_ends : (l : List ℕ) → Ends (Label l)
label_ends [] = (97 ∷ 93 ∷ [], labelled (97 ∷ []), simp (label_97, label_93) refl)
label_ends (b ∷ l) = (93 ∷ [], labelled (b ∷ l), simp (label_93, lt_true 0 (length (b ∷ l)) (omega arith)) refl)

ends_from : (s : Reading) → Ends s
ends_from Start = (48 ∷ [], _, refl)
ends_from (File k n) = ([], _, refl)
ends_from (Separator f) = (97 ∷ [], _, refl)
ends_from (Index f k n) = ([], _, refl)
ends_from (OfKind f kind) = ([], _, refl)
ends_from (Second f kind) = (48 ∷ [], _, refl)
ends_from (Nth f kind k n) = ([], _, refl)
ends_from (Optional f p) = ([], _, refl)
ends_from (Label l) = label_ends l
ends_from (Closed l) = ([], _, refl)

goes_on : (front : List ℕ) (s : Reading) → run front Start ≡ Some s → GoesOn front
goes_on front s e =
    let h : Ends s = ends_from s in
    (h.0, h.1, reads_is_map front h.0 s h.1 (run_spelled [] front Start s refl e) h.2)

-- ---- the place

stops : (front : List ℕ) → run front Start ≡ None → GoesOn front → ⊥
stops front e g =
    let some : reads (front ++ g.0) Start ≡ Some g.1 = reads_map (front ++ g.0) g.1 g.2 in
    let none : reads (front ++ g.0) Start ≡ None = reads_stop front g.0 Start e in
    cc

goes_on_whole : (text : List ℕ) (n : ℕ) (m : MapSpec) → IsMap text m → GoesOn (take n text)
goes_on_whole text n m d = (drop n text, m, subst (λ t. IsMap t m) (sym (take-append-drop n text)) d)

goes_on_front : (front rest : List ℕ) → GoesOn (front ++ rest) → GoesOn front
goes_on_front front rest g = (rest ++ g.0, g.1, subst (λ t. IsMap t g.1) (append_assoc front rest g.0) g.2)

goes_on_less : (text : List ℕ) (m n : ℕ) → m ≤ n → GoesOn (take n text) → GoesOn (take m text)
goes_on_less text m n le g =
    let split : take n text ≡ take m text ++ drop m (take n text) = sym (take-append-drop m (take n text)) ∙ ap (λ t. t ++ drop m (take n text)) (take-take m n text le) in
    goes_on_front (take m text) (drop m (take n text)) (subst GoesOn split g)

and_some : (o : Option Reading) → and_run o (λ t. Some t) ≡ o
and_some (Some s) = refl
and_some None = refl

pub next_run : (text : List ℕ) (at b : ℕ) (s : Reading) (o : Option Reading) → at < length text → b ≡ get_or text at 0 → run (take at text) Start ≡ Some s → byte_next s b ≡ o
    → run (take (at + 1) text) Start ≡ o
next_run text at b s o lt is e next =
    let one : take (at + 1) text ≡ take at text ++ b ∷ [] = take_more text at 0 lt ∙ ap (λ x. take at text ++ x ∷ []) (sym is) in
    ap (λ t. run t Start) one ∙ (run_append (take at text) (b ∷ []) Start s e ∙ (ap (λ x. and_run x (λ t. Some t)) next ∙ and_some o))

pub bad_inside : (text : List ℕ) (at b : ℕ) (s : Reading) → at < length text → b ≡ get_or text at 0 → run (take at text) Start ≡ Some s → byte_next s b ≡ None → IsBadAt text at
bad_inside text at b s lt is e stop =
    let no : run (take (at + 1) text) Start ≡ None = next_run text at b s None lt is e stop in
    let off : GoesOn (take (at + 1) text) → ⊥ = λ g. stops (take (at + 1) text) no g in
    record {
      no_map = λ m h. off (goes_on_whole text (at + 1) m h);
      before = goes_on (take at text) s e;
      place = inr (lt, off);
    }

pub bad_end : (text : List ℕ) (s : Reading) → run text Start ≡ Some s → end_of s ≡ None → IsBadAt text (length text)
bad_end text s e stop =
    record {
      no_map = λ m h. (let some : reads text Start ≡ Some m = reads_map text m h in
          let here : reads (text ++ []) Start ≡ end_of s = reads_run text [] Start s e in
          let same : reads text Start ≡ end_of s = ap (λ t. reads t Start) (sym (append-nil text)) ∙ here in
          cc);
      before = subst GoesOn (sym (take_all (length text) text (omega arith))) (goes_on text s e);
      place = inl refl;
    }

place_bound : (text : List ℕ) (n : ℕ) → (n ≡ length text) ⊎ ((n < length text) × (GoesOn (take (n + 1) text) → ⊥)) → n ≤ length text
place_bound text n (inl e) = omega (arith, e)
place_bound text n (inr h) = omega (arith, h.0)

not_before : (text : List ℕ) (m n : ℕ) → m < n → n ≤ length text → GoesOn (take n text) → (m ≡ length text) ⊎ ((m < length text) × (GoesOn (take (m + 1) text) → ⊥)) → ⊥
not_before text m n lt bound g (inl e) = omega (arith, e, lt, bound)
not_before text m n lt bound g (inr h) = h.1 (goes_on_less text (m + 1) n (omega (arith, lt)) g)

-- there is one such place
pub IsBadAt-unique : (text : List ℕ) (m n : ℕ) → IsBadAt text m → IsBadAt text n → m ≡ n
IsBadAt-unique text m n x y =
    elim (cases_lt m n) [
      | inl lt ↦ absurd (not_before text m n lt (place_bound text n y.place) y.before x.place)
      | inr le ↦ elim (cases_lt n m) [
        | inl gt ↦ absurd (not_before text n m gt (place_bound text m x.place) x.before y.place)
        | inr ge ↦ omega arith
      ]
    ]

-- a text is one map
pub IsMap-unique : (text : List ℕ) (m n : MapSpec) → IsMap text m → IsMap text n → m ≡ n
IsMap-unique text m n x y =
    let e : reads text Start ≡ Some m = reads_map text m x in
    let f : reads text Start ≡ Some n = reads_map text n y in
    cc

-- ---- answers

pub record Read (text : List ℕ) (result : Result MapSpec MapError) : Type 0 where
  pub ok : (m : MapSpec) → result ≡ Ok m → IsMap text m
  pub read : (m : MapSpec) → IsMap text m → (result ≡ Ok m) ⊎ IsErrOf result NoMemory
  pub bad : (n : ℕ) → IsErrOf result (Bad n) → IsBadAt text n
  pub refused : (n : ℕ) → IsBadAt text n → IsErrOf result (Bad n) ⊎ IsErrOf result NoMemory

pub Read-bad : (text : List ℕ) (n : ℕ) → IsBadAt text n → Read text (Err (Bad n))
Read-bad text n b =
    record {
      ok = λ m e. cc;
      read = λ m h. absurd (b.no_map m h);
      bad = λ m e. (let same : n ≡ m = cc in subst (IsBadAt text) same b);
      refused = λ m h. inl (ap (λ x. Err (Bad x)) (IsBadAt-unique text n m b h));
    }

ok_map : (m n : MapSpec) (r : Result MapSpec MapError) → r ≡ Ok m → r ≡ Ok n → m ≡ n
ok_map m n r e f = cc

pub Read-ok : (text : List ℕ) (s : Reading) (m : MapSpec) → run text Start ≡ Some s → end_of s ≡ Some m → Read text (Ok m)
Read-ok text s m e end =
    let is : IsMap text m = end_is_map s text m (run_spelled [] text Start s refl e) end in
    record {
      ok = λ n f. subst (IsMap text) (ok_map m n (Ok m) refl f) is;
      read = λ n h. inl (ap (λ x. Ok x) (IsMap-unique text m n is h));
      bad = λ n f. cc;
      refused = λ n b. absurd (b.no_map m is);
    }

pub whole_run : (text : List ℕ) (at : ℕ) (s : Reading) → length text ≤ at → run (take at text) Start ≡ Some s → run text Start ≡ Some s
whole_run text at s past e = ap (λ t. run t Start) (sym (take_all at text past)) ∙ e
