-- A character of several bytes is read as its bytes are.
use Rattle.std.proofs.Common.{◌≡◌, ℕ, ◌+◌, ◌≤◌, ◌/◌, ◌%◌, inl, inr, Bool, true, false, cond, Some, None, nat_lt, List, [], ◌∷◌, ◌++◌, refl, sym, ap, subst, ◌∙◌, append_assoc, arith}
use Rattle.std.proofs.lemmas.List.{append-nil}
use Rattle.std.specs.List.{AllByRecursion}
use Rattle.ff_lang.specs.laws.Reading.{byte_next}
use Rattle.ff_lang.specs.declared.graph.Arg.{Arg}
use Rattle.ff_lang.specs.declared.graph.Filter.{Filter}
use Rattle.ff_lang.specs.declared.graph.Chain.{Chain}
use Rattle.ff_lang.specs.declared.graph.Graph.{Graph}
use Rattle.ff_lang.specs.declared.parser.Parser.{Parser}
use Rattle.ff_lang.specs.declared.parser.Place.{Place}
use Rattle.ff_lang.specs.declared.parser.Place.TheVariants.{Front, InLabel, Name, Named, Key, Value, Quoted, Escaped, OutLabel, Back}
use Rattle.std.proofs.lemmas.Bool.Decides.{nat_tests}
use Rattle.std.proofs.lemmas.Bool.{cases_lt}
use Rattle.std.proofs.lemmas.Str.{encode_ascii}
use Rattle.std.proofs.Math.Utf8.{encode}
use Rattle.ff_lang.specs.laws.Reading.{char_next, place_next}
use Rattle.ff_lang.proofs.Bytes.{high_word, high_label, high_blank, high_special, high_eq}
use Rattle.ff_lang.proofs.Runs.{and_run, run, at}

abbrev pub AreHigh : List ℕ → Type 0
AreHigh bytes = AllByRecursion (λ b. 128 ≤ b) bytes

above : (k n : ℕ) → 128 ≤ k → 128 ≤ k + n
above k n h = omega (arith, h)

high_if : (c : Bool) (x y : List ℕ) → (c ≡ true → AreHigh x) → AreHigh y → AreHigh (cond c x y)
high_if true x y p q = p refl
high_if false x y p q = q

not_low : (c : ℕ) → 128 ≤ c → nat_lt c 128 ≡ true → ⊥
not_low c h e = grind (arith, nat_tests)

pub are_high : (c : ℕ) → 128 ≤ c → AreHigh (encode c)
unfolding encode
are_high c h =
    high_if (nat_lt c 128) _ _ (λ e. absurd (not_low c h e))
    (high_if (nat_lt c 2048) _ _ (λ _. (above 192 (c / 64) (omega arith), (above 128 (c % 64) (omega arith), tt)))
    (high_if (nat_lt c 65536) _ _ (λ _. (above 224 (c / 4096) (omega arith), (above 128 (c / 64 % 64) (omega arith), (above 128 (c % 64) (omega arith), tt))))
    (above 240 (c / 262144) (omega arith), (above 128 (c / 4096 % 64) (omega arith), (above 128 (c / 64 % 64) (omega arith), (above 128 (c % 64) (omega arith), tt))))))

cond_some : (c : Bool) (x y : ℕ) (xs ys : List ℕ) → (b : ℕ) × (bs : List ℕ) × (cond c (x ∷ xs) (y ∷ ys) ≡ b ∷ bs)
cond_some true x y xs ys = (x, xs, refl)
cond_some false x y xs ys = (y, ys, refl)

cond_or : (c : Bool) (x : ℕ) (xs zs : List ℕ) → (b : ℕ) × (bs : List ℕ) × (zs ≡ b ∷ bs) → (b : ℕ) × (bs : List ℕ) × (cond c (x ∷ xs) zs ≡ b ∷ bs)
cond_or true x xs zs h = (x, xs, refl)
cond_or false x xs zs h = h

pub encode_some : (c : ℕ) → (b : ℕ) × (bs : List ℕ) × (encode c ≡ b ∷ bs)
unfolding encode
encode_some c = cond_or (nat_lt c 128) _ _ _ (cond_or (nat_lt c 2048) _ _ _ (cond_some (nat_lt c 65536) _ _ _ _))

-- ---- places that take no such character

abbrev None_at : Place → Type 0
None_at p = (g : Graph) (c : Chain) (f : Filter) (a : Arg) (l : List ℕ) (k : ℕ) (bytes : List ℕ) → 128 ≤ k → place_next p (at p g c f a l) k bytes ≡ None

front_none : None_at Front
front_none g c f a l k bytes h = simp (high_word k h, high_blank k h, high_eq k 91 h (omega arith)) refl

in_label_none : None_at InLabel
in_label_none g c f a l k bytes h = simp (high_label k h, high_eq k 93 h (omega arith)) refl

name_none : None_at Name
name_none g c f a l k bytes h = simp (high_word k h, high_blank k h, high_eq k 61 h (omega arith), high_eq k 91 h (omega arith), high_eq k 44 h (omega arith), high_eq k 59 h (omega arith)) refl

named_none : None_at Named
named_none g c f a l k bytes h = simp (high_blank k h, high_eq k 61 h (omega arith), high_eq k 91 h (omega arith), high_eq k 44 h (omega arith), high_eq k 59 h (omega arith)) refl

out_label_none : None_at OutLabel
out_label_none g c f a l k bytes h = simp (high_label k h, high_eq k 93 h (omega arith)) refl

back_none : None_at Back
back_none g c f a l k bytes h = simp (high_blank k h, high_eq k 91 h (omega arith), high_eq k 44 h (omega arith), high_eq k 59 h (omega arith)) refl

-- ---- places that take it

abbrev Pushed_at : Place → Place → Type 0
Pushed_at p q = (g : Graph) (c : Chain) (f : Filter) (a : Arg) (l : List ℕ) (k : ℕ) (bytes : List ℕ) → 128 ≤ k → place_next p (at p g c f a l) k bytes ≡ Some (at q g c f (record a { value = a.value ++ bytes }) l)

key_pushed : Pushed_at Key Value
key_pushed g c f a l k bytes h = simp (high_word k h, high_eq k 61 h (omega arith), high_special k h) refl

value_pushed : Pushed_at Value Value
value_pushed g c f a l k bytes h = simp (high_special k h) refl

quoted_pushed : Pushed_at Quoted Quoted
quoted_pushed g c f a l k bytes h = simp (high_eq k 39 h (omega arith)) refl

escaped_pushed : Pushed_at Escaped Value
escaped_pushed g c f a l k bytes h = refl

run_byte : (b : ℕ) (y : List ℕ) (s t : Parser) → byte_next s b ≡ Some t → run (b ∷ y) s ≡ run y t
run_byte b y s t e = ap (λ o. and_run o (λ u. run y u)) e

run_stays : (p : Place) → Pushed_at p p → (byte : (g : Graph) (c : Chain) (f : Filter) (a : Arg) (l : List ℕ) (b : ℕ) → 128 ≤ b → byte_next (at p g c f a l) b ≡ Some (at p g c f (record a { value = a.value ++ b ∷ [] }) l))
    → (g : Graph) (c : Chain) (f : Filter) (a : Arg) (l bytes : List ℕ) → AreHigh bytes → run bytes (at p g c f a l) ≡ Some (at p g c f (record a { value = a.value ++ bytes }) l)
run_stays p pushes byte g c f a l [] h = ap (λ x. Some (at p g c f (record a { value = x }) l)) (sym (append-nil a.value))
run_stays p pushes byte g c f a l (b ∷ bytes) h =
    run_byte b bytes (at p g c f a l) (at p g c f (record a { value = a.value ++ b ∷ [] }) l) (byte g c f a l b h.0)
    ∙ (run_stays p pushes byte g c f (record a { value = a.value ++ b ∷ [] }) l bytes h.1
    ∙ ap (λ x. Some (at p g c f (record a { value = x }) l)) (append_assoc a.value (b ∷ []) bytes))

value_bytes : (g : Graph) (c : Chain) (f : Filter) (a : Arg) (l bytes : List ℕ) → AreHigh bytes → run bytes (at Value g c f a l) ≡ Some (at Value g c f (record a { value = a.value ++ bytes }) l)
value_bytes g c f a l bytes h = run_stays Value value_pushed (λ g c f a l b k. value_pushed g c f a l b (b ∷ []) k) g c f a l bytes h

quoted_bytes : (g : Graph) (c : Chain) (f : Filter) (a : Arg) (l bytes : List ℕ) → AreHigh bytes → run bytes (at Quoted g c f a l) ≡ Some (at Quoted g c f (record a { value = a.value ++ bytes }) l)
quoted_bytes g c f a l bytes h = run_stays Quoted quoted_pushed (λ g c f a l b k. quoted_pushed g c f a l b (b ∷ []) k) g c f a l bytes h

-- the first byte to a value, and then the others
first_byte : (p : Place) → Pushed_at p Value → (g : Graph) (c : Chain) (f : Filter) (a : Arg) (l bytes : List ℕ) (b : ℕ) → 128 ≤ b → AreHigh bytes → byte_next (at p g c f a l) b ≡ Some (at Value g c f (record a { value = a.value ++ b ∷ [] }) l)
    → run (b ∷ bytes) (at p g c f a l) ≡ Some (at Value g c f (record a { value = a.value ++ (b ∷ bytes) }) l)
first_byte p pushes g c f a l bytes b k h e =
    run_byte b bytes (at p g c f a l) (at Value g c f (record a { value = a.value ++ b ∷ [] }) l) e
    ∙ (value_bytes g c f (record a { value = a.value ++ b ∷ [] }) l bytes h
    ∙ ap (λ x. Some (at Value g c f (record a { value = x }) l)) (append_assoc a.value (b ∷ []) bytes))

wide_some : (p : Place) (g : Graph) (c : Chain) (f : Filter) (a : Arg) (l bytes : List ℕ) (k b : ℕ) (t : Parser) → 128 ≤ k → AreHigh (b ∷ bytes)
    → place_next p (at p g c f a l) k (b ∷ bytes) ≡ Some t → run (b ∷ bytes) (at p g c f a l) ≡ Some t
wide_some Front g c f a l bytes k b t h high e = let n = front_none g c f a l k (b ∷ bytes) h in cc
wide_some InLabel g c f a l bytes k b t h high e = let n = in_label_none g c f a l k (b ∷ bytes) h in cc
wide_some Name g c f a l bytes k b t h high e = let n = name_none g c f a l k (b ∷ bytes) h in cc
wide_some Named g c f a l bytes k b t h high e = let n = named_none g c f a l k (b ∷ bytes) h in cc
wide_some Key g c f a l bytes k b t h high e = first_byte Key key_pushed g c f a l bytes b high.0 high.1 (key_pushed g c f a l b (b ∷ []) high.0) ∙ (sym (key_pushed g c f a l k (b ∷ bytes) h) ∙ e)
wide_some Value g c f a l bytes k b t h high e = value_bytes g c f a l (b ∷ bytes) high ∙ (sym (value_pushed g c f a l k (b ∷ bytes) h) ∙ e)
wide_some Quoted g c f a l bytes k b t h high e = quoted_bytes g c f a l (b ∷ bytes) high ∙ (sym (quoted_pushed g c f a l k (b ∷ bytes) h) ∙ e)
wide_some Escaped g c f a l bytes k b t h high e = first_byte Escaped escaped_pushed g c f a l bytes b high.0 high.1 (escaped_pushed g c f a l b (b ∷ []) high.0) ∙ (sym (escaped_pushed g c f a l k (b ∷ bytes) h) ∙ e)
wide_some OutLabel g c f a l bytes k b t h high e = let n = out_label_none g c f a l k (b ∷ bytes) h in cc
wide_some Back g c f a l bytes k b t h high e = let n = back_none g c f a l k (b ∷ bytes) h in cc

wide_none : (p : Place) (g : Graph) (c : Chain) (f : Filter) (a : Arg) (l bytes : List ℕ) (k b : ℕ) → 128 ≤ k → 128 ≤ b
    → place_next p (at p g c f a l) k bytes ≡ None → byte_next (at p g c f a l) b ≡ None
wide_none Front g c f a l bytes k b h high e = front_none g c f a l b (b ∷ []) high
wide_none InLabel g c f a l bytes k b h high e = in_label_none g c f a l b (b ∷ []) high
wide_none Name g c f a l bytes k b h high e = name_none g c f a l b (b ∷ []) high
wide_none Named g c f a l bytes k b h high e = named_none g c f a l b (b ∷ []) high
wide_none Key g c f a l bytes k b h high e = let n = key_pushed g c f a l k bytes h in cc
wide_none Value g c f a l bytes k b h high e = let n = value_pushed g c f a l k bytes h in cc
wide_none Quoted g c f a l bytes k b h high e = let n = quoted_pushed g c f a l k bytes h in cc
wide_none Escaped g c f a l bytes k b h high e = let n = escaped_pushed g c f a l k bytes h in cc
wide_none OutLabel g c f a l bytes k b h high e = out_label_none g c f a l b (b ∷ []) high
wide_none Back g c f a l bytes k b h high e = back_none g c f a l b (b ∷ []) high

-- ---- any character

run_one : (b : ℕ) (s t : Parser) → byte_next s b ≡ Some t → run (b ∷ []) s ≡ Some t
run_one b s t e = run_byte b [] s t e

pub char_some : (c : ℕ) (s t : Parser) → char_next s c (encode c) ≡ Some t → run (encode c) s ≡ Some t
char_some c s t e =
    elim (cases_lt c 128) [
      | inl lt ↦ (let one : encode c ≡ c ∷ [] = encode_ascii c lt in
          ap (λ x. run x s) one ∙ run_one c s t (subst (λ x. char_next s c x ≡ Some t) one e))
      | inr ge ↦ (let some : (b : ℕ) × (bs : List ℕ) × (encode c ≡ b ∷ bs) = encode_some c in
          ap (λ x. run x s) some.2 ∙ wide_some s.place s.graph s.chain s.filter s.arg s.label some.1 c some.0 t ge (subst AreHigh some.2 (are_high c ge)) (subst (λ x. char_next s c x ≡ Some t) some.2 e))
    ]

pub char_none : (c b : ℕ) (bs : List ℕ) (s : Parser) → char_next s c (encode c) ≡ None → encode c ≡ b ∷ bs → byte_next s b ≡ None
char_none c b bs s e spelled =
    elim (cases_lt c 128) [
      | inl lt ↦ (let one : encode c ≡ c ∷ [] = encode_ascii c lt in
          let same : c ≡ b = cc in
          subst (λ x. byte_next s x ≡ None) same (subst (λ x. char_next s c x ≡ None) one e))
      | inr ge ↦ (let high : AreHigh (b ∷ bs) = subst AreHigh spelled (are_high c ge) in
          wide_none s.place s.graph s.chain s.filter s.arg s.label (encode c) c b ge high.0 e)
    ]
