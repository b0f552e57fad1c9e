-- What the first bytes tell, they tell whatever follows; and where they may go on to a word, some bytes more make it.
use Rattle.std.proofs.Common.{◌≡◌, ℕ, ◌<◌, ◌≤◌, ◌⊎◌, inl, inr, Bool, true, false, cond, List, [], ◌∷◌, ◌++◌, drop, length, Option, Some, None, Err, refl, sym}
use Rattle.std.proofs.Common.{ap, ◌∙◌, subst, arith, append_assoc, length-append}
use Rattle.std.specs.Prelude.{◌≢◌, nat_le, ◌==◌, ◌&&◌, ◌||◌, not, find, All}
use Rattle.std.specs.Option.{option_map}
use Rattle.std.proofs.lemmas.List.{length-drop}
use Rattle.std.proofs.lemmas.List.Elements.{All-head, All-tail, All-drop, All-append}
use Rattle.std.proofs.lemmas.Bool.Decides.{nat_tests}
use Rattle.ff_reader.specs.declared.fault.HeadFault.TheVariants.{Unsupported}
use Rattle.ff_reader.specs.Heads.{Found}
use Rattle.ff_reader.specs.Walks.{agrees}
use Rattle.ff_reader.proofs.AgreeLaws.{bool_cases, agrees-append, agrees_long, agrees_complete, filled, filled_bytes, length_filled}
use Rattle.ff_format.specs.declared.format.FileFormat.{FileFormat}
use Rattle.ff_input.specs.declared.first_word.FirstWord.{FirstWord}
use Rattle.ff_input.specs.declared.first_word.FirstWord.TheVariants.{Named, Open, Other}
use Rattle.ff_input.specs.FirstWords.{Word, begins_with, named_in, told, told_by, or_else, differ, differs_from, are_apart, IsFirstWord}

and_no : (x y : Bool) → y ≡ false → (x && y) ≡ false
and_no true y e = e
and_no false y e = refl

no_and : (x y : Bool) → x ≡ false → (x && y) ≡ false
no_and true y e = cc
no_and false y e = refl

both_true : (x y : Bool) → x ≡ true → y ≡ true → (x && y) ≡ true
both_true true y a b = b
both_true false y a b = cc

and_parts : (x y : Bool) → (x && y) ≡ true → (x ≡ true) × (y ≡ true)
and_parts true y e = (refl, e)
and_parts false y e = cc

-- ---- one word

told_is : (w : Word) (bs : List ℕ) (a l : Bool) → agrees w.word bs ≡ a → nat_le (length w.word) (length bs) ≡ l
    → told_by w bs ≡ cond (not a) Other (cond l (Named w.format) Open)
told_is w bs a l ea el =
    ap (λ x. cond (not x) Other (cond (nat_le (length w.word) (length bs)) (Named w.format) Open)) ea ∙ ap (λ x. cond (not a) Other (cond x (Named w.format) Open)) el

-- what the bytes tell by a word: they disagree, have it, or agree and are shorter
pub by_word : (w : Word) (bs : List ℕ)
    → ((agrees w.word bs ≡ false) × (told_by w bs ≡ Other))
    ⊎ (((agrees w.word bs ≡ true) × (length w.word ≤ length bs) × (told_by w bs ≡ Named w.format))
    ⊎ ((agrees w.word bs ≡ true) × (length bs < length w.word) × (told_by w bs ≡ Open)))
by_word w bs = elim (bool_cases (agrees w.word bs)) [
  | inr a ↦ inl (a, told_is w bs false (nat_le (length w.word) (length bs)) a refl)
  | inl a ↦ elim (bool_cases (nat_le (length w.word) (length bs))) [
    | inl l ↦ inr (inl (a, grind (arith, nat_tests), told_is w bs true true a l))
    | inr l ↦ inr (inr (a, grind (arith, nat_tests), told_is w bs true false a l))
  ]
]

begins_not : (w : Word) (bs more : List ℕ) → agrees w.word bs ≡ false → begins_with (bs ++ more) w ≡ false
begins_not w bs more a = and_no (nat_le (length w.word) (length (bs ++ more))) (agrees w.word (bs ++ more)) (agrees-append w.word bs more a)

le_true : (m n : ℕ) → m ≤ n → nat_le m n ≡ true
le_true m n le = grind (arith, nat_tests)

lt_false : (m n : ℕ) → n < m → nat_le m n ≡ false
lt_false m n lt = grind (arith, nat_tests)

begins_yes : (w : Word) (bs more : List ℕ) → agrees w.word bs ≡ true → length w.word ≤ length bs → begins_with (bs ++ more) w ≡ true
begins_yes w bs more a le =
    both_true (nat_le (length w.word) (length (bs ++ more))) (agrees w.word (bs ++ more)) (le_true (length w.word) (length (bs ++ more)) (omega (arith, le, length-append bs more))) (agrees_long w.word bs more le ∙ a)

-- ---- the first of several words

named_next : (w : Word) (ws : List Word) (bs : List ℕ) → begins_with bs w ≡ false → named_in (w ∷ ws) bs ≡ named_in ws bs
named_next w ws bs e = ap (λ (t : Bool). option_map (λ (v : Word). v.format) (cond t (Some w) (find (begins_with bs) ws))) e

named_here : (w : Word) (ws : List Word) (bs : List ℕ) → begins_with bs w ≡ true → named_in (w ∷ ws) bs ≡ Some w.format
named_here w ws bs e = ap (λ (t : Bool). option_map (λ (v : Word). v.format) (cond t (Some w) (find (begins_with bs) ws))) e

told_next : (w : Word) (ws : List Word) (bs : List ℕ) (t : FirstWord) → told_by w bs ≡ t → told (w ∷ ws) bs ≡ or_else t (told ws bs)
told_next w ws bs t e = ap (λ (x : FirstWord). or_else x (told ws bs)) e

-- a format that is told is that of the input, whatever follows
pub named_stays : (ws : List Word) (bs more : List ℕ) (f : FileFormat) → told ws bs ≡ Named f → named_in ws (bs ++ more) ≡ Some f
named_stays [] bs more f e = cc
named_stays (w ∷ ws) bs more f e = elim (by_word w bs) [
  | inl a ↦ named_next w ws (bs ++ more) (begins_not w bs more a.0) ∙ named_stays ws bs more f (sym (told_next w ws bs Other a.1) ∙ e)
  | inr (inl a) ↦
      let own : Named w.format ≡ Named f = sym (told_next w ws bs (Named w.format) a.2) ∙ e in
      let same : w.format ≡ f = cc in
      named_here w ws (bs ++ more) (begins_yes w bs more a.0 a.1) ∙ ap Some same
  | inr (inr a) ↦ let clash : Open ≡ Named f = sym (told_next w ws bs Open a.2) ∙ e in cc
]

-- where no word can come, none does
pub none_stays : (ws : List Word) (bs more : List ℕ) → told ws bs ≡ Other → named_in ws (bs ++ more) ≡ None
none_stays [] bs more e = refl
none_stays (w ∷ ws) bs more e = elim (by_word w bs) [
  | inl a ↦ named_next w ws (bs ++ more) (begins_not w bs more a.0) ∙ none_stays ws bs more (sym (told_next w ws bs Other a.1) ∙ e)
  | inr (inl a) ↦ let clash : Named w.format ≡ Other = sym (told_next w ws bs (Named w.format) a.2) ∙ e in cc
  | inr (inr a) ↦ let clash : Open ≡ Other = sym (told_next w ws bs Open a.2) ∙ e in cc
]

-- ---- where a word may come

-- two words that differ don't both agree with bytes as long as the second
apart_no : (ws vs : List (Option ℕ)) (bs : List ℕ) → differ ws vs ≡ true → agrees ws bs ≡ true → length vs ≤ length bs → agrees vs bs ≡ false
apart_no [] vs bs d a le = cc
apart_no (w ∷ ws) [] bs d a le = cc
apart_no (w ∷ ws) (v ∷ vs) [] d a le = absurd (omega (arith, le))
apart_no (None ∷ ws) (None ∷ vs) (b ∷ bs) d a le = apart_no ws vs bs d a (omega (arith, le))
apart_no (None ∷ ws) (Some m ∷ vs) (b ∷ bs) d a le = and_no (b == m) (agrees vs bs) (apart_no ws vs bs d a (omega (arith, le)))
apart_no (Some n ∷ ws) (None ∷ vs) (b ∷ bs) d a le = apart_no ws vs bs d (and_parts (b == n) (agrees ws bs) a).1 (omega (arith, le))
apart_no (Some n ∷ ws) (Some m ∷ vs) (b ∷ bs) d a le =
    let p = and_parts (b == n) (agrees ws bs) a in
    elim (bool_cases (n == m)) [
      | inl e ↦
          let rest : differ ws vs ≡ true = sym (ap (λ t. not t || differ ws vs) e) ∙ d in
          and_no (b == m) (agrees vs bs) (apart_no ws vs bs rest p.1 (omega (arith, le)))
      | inr e ↦
          let first = p.0 in
          let other : (b == m) ≡ false = grind (arith, nat_tests) in
          no_and (b == m) (agrees vs bs) other
    ]

others_no : (w : Word) (ws : List Word) (bs : List ℕ) → differs_from w.word ws ≡ true → agrees w.word bs ≡ true → named_in ws bs ≡ None
others_no w [] bs d a = refl
others_no w (v ∷ ws) bs d a =
    let parts = and_parts (differ w.word v.word) (differs_from w.word ws) d in
    let rest = others_no w ws bs parts.1 a in
    elim (bool_cases (nat_le (length v.word) (length bs))) [
      | inl l ↦
          let le : length v.word ≤ length bs = grind (arith, nat_tests) in
          named_next v ws bs (and_no (nat_le (length v.word) (length bs)) (agrees v.word bs) (apart_no w.word v.word bs parts.0 a le)) ∙ rest
      | inr l ↦ named_next v ws bs (no_and (nat_le (length v.word) (length bs)) (agrees v.word bs) l) ∙ rest
    ]

-- where they may go on to a word they have none yet
pub open_unnamed : (ws : List Word) (bs : List ℕ) → are_apart ws ≡ true → told ws bs ≡ Open → named_in ws bs ≡ None
open_unnamed [] bs d e = refl
open_unnamed (w ∷ ws) bs d e =
    let parts = and_parts (differs_from w.word ws) (are_apart ws) d in elim (by_word w bs) [
      | inl a ↦ named_next w ws bs (and_no (nat_le (length w.word) (length bs)) (agrees w.word bs) a.0)
          ∙ open_unnamed ws bs parts.1 (sym (told_next w ws bs Other a.1) ∙ e)
      | inr (inl a) ↦ let clash : Named w.format ≡ Open = sym (told_next w ws bs (Named w.format) a.2) ∙ e in cc
      | inr (inr a) ↦
          named_next w ws bs (no_and (nat_le (length w.word) (length bs)) (agrees w.word bs) (lt_false (length w.word) (length bs) a.1)) ∙ others_no w ws bs parts.0 a.0
    ]

-- a word that these bytes go on to, and how
pub record GoesOn {H : Type 0} (head : FileFormat → List ℕ → Found H) (ws : List Word) (bs : List ℕ) : Type 0 where
  pub word : Word
  pub rest : List ℕ
  pub law : IsFirstWord head word
  pub shorter : length bs < length word.word
  pub bytes : All (λ b. b < 256) rest
  pub own : head word.format (bs ++ rest) ≢ Err (Unsupported 0)
  pub named : named_in ws (bs ++ rest) ≡ Some word.format

pub open_goes_on : {H : Type 0} (head : FileFormat → List ℕ → Found H) (ws : List Word) (bs : List ℕ) → All (IsFirstWord head) ws → told ws bs ≡ Open
    → GoesOn head ws bs
open_goes_on head [] bs laws e = absurd cc
open_goes_on head (w ∷ ws) bs laws e = elim (by_word w bs) [
  | inl a ↦
      let g = open_goes_on head ws bs (All-tail (IsFirstWord head) w ws laws) (sym (told_next w ws bs Other a.1) ∙ e) in
      record {
        word = g.word;
        rest = g.rest;
        law = g.law;
        shorter = g.shorter;
        bytes = g.bytes;
        own = g.own;
        named = named_next w ws (bs ++ g.rest) (begins_not w bs g.rest a.0) ∙ g.named;
      }
  | inr (inl a) ↦ let clash : Named w.format ≡ Open = sym (told_next w ws bs (Named w.format) a.2) ∙ e in absurd cc
  | inr (inr a) ↦
      let law = All-head (IsFirstWord head) w ws laws in
      let first = drop (length bs) (filled w.word) in
      let long : length (bs ++ first) ≡ length w.word = omega (arith, length-append bs first, length-drop (length bs) (filled w.word), length_filled w.word, a.1) in
      let agree = agrees_complete w.word bs a.0 in
      let same : (bs ++ first) ++ law.more ≡ bs ++ (first ++ law.more) = append_assoc bs first law.more in
      record {
        word = w;
        rest = first ++ law.more;
        law = law;
        shorter = a.1;
        bytes = All-append (λ b. b < 256) first law.more (All-drop (λ b. b < 256) (length bs) (filled w.word) (filled_bytes w.word law.bytes)) law.more_bytes;
        own = subst (λ xs. head w.format xs ≢ Err (Unsupported 0)) same (law.own (bs ++ first) long agree);
        named =
            named_here w ws (bs ++ (first ++ law.more)) (subst (λ xs. begins_with xs w ≡ true) same (begins_yes w (bs ++ first) law.more agree (omega (arith, long))));
      }
]
