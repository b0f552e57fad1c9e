-- What is read at any place is spelled by the text before it.
use Rattle.std.proofs.Common.{◌≡◌, ℕ, ◌+◌, ◌-◌, ◌*◌, ◌≤◌, Bool, true, false, ◌&&◌, nat_lt, Some, None, List, [], ◌∷◌, ◌++◌, length, refl, sym, ap, subst, ◌∙◌, append_assoc, arith, length-append}
use Rattle.std.proofs.lemmas.List.{append-nil}
use Rattle.std.specs.Prelude.{◌==◌, if◌then◌else◌}
use Rattle.std.specs.List.{AllByRecursion}
use Rattle.ff_time.specs.Duration.{IsDigit}
use Rattle.ff_lang.specs.Grammar.{IsLabel}
use Rattle.ff_lang.specs.Letters.{is_label_byte}
use Rattle.ff_lang.proofs.Bytes.{both_out, lt_out, eq_out}
use Rattle.ff_words.specs.declared.maps.letter.Letter.{Letter}
use Rattle.ff_words.specs.declared.maps.letter.Letter.TheVariants.{Digit, Colon, Question, A, V, Bracket, Other}
use Rattle.ff_words.specs.declared.maps.map.Kind.TheVariants.{Audio, Video}
use Rattle.ff_words.specs.declared.maps.map.MapSpec.{MapSpec}
use Rattle.ff_words.specs.declared.maps.map.Pick.TheVariants as pick
use Rattle.ff_words.specs.declared.maps.reading.Reading.{Reading}
use Rattle.ff_words.specs.declared.maps.reading.Reading.TheVariants.{Start, File, Separator, Index, OfKind, Second, Nth, Optional, Label, Closed}
use Rattle.ff_words.specs.maps.Grammar.{IsNumber, IsPick, IsMap, letter}
use Rattle.ff_words.specs.maps.Reading.{letter_of, letter_next, byte_next, end_of}
use Rattle.ff_words.proofs.MapsLemmas.Letters.{IsLetter, letter-is}
use Rattle.ff_words.proofs.MapsLemmas.Numbers.{digits_append, one-digit, digit-push}
use Rattle.ff_words.proofs.MapsLemmas.Runs.{and_reads, and_run, reads, run}

-- the number of a file, and what is said of the text behind it
abbrev pub Behind : ℕ → (List ℕ → Type 0) → List ℕ → Type 0
Behind f Is t = (d : List ℕ) × (e : List ℕ) × (t ≡ d ++ e) × IsNumber d f × Is e

-- k digits with their number behind a front
abbrev pub Counted : List ℕ → ℕ → ℕ → List ℕ → Type 0
Counted lead k n e = (x : List ℕ) × (e ≡ lead ++ x) × IsNumber x n × (length x ≡ k)

abbrev pub Spelled : Reading → List ℕ → Type 0
Spelled Start t = t ≡ []
Spelled (File k n) t = IsNumber t n × (length t ≡ k)
Spelled (Separator f) t = Behind f (λ e. e ≡ 58 ∷ []) t
Spelled (Index f k n) t = Behind f (Counted (58 ∷ []) k n) t
Spelled (OfKind f kind) t = Behind f (λ e. e ≡ 58 ∷ letter kind) t
Spelled (Second f kind) t = Behind f (λ e. e ≡ 58 ∷ (letter kind ++ 58 ∷ [])) t
Spelled (Nth f kind k n) t = Behind f (Counted (58 ∷ (letter kind ++ 58 ∷ [])) k n) t
Spelled (Optional f p) t = Behind f (λ e. (x : List ℕ) × (e ≡ x ++ 63 ∷ []) × IsPick x p) t
Spelled (Label l) t = (t ≡ 91 ∷ l) × (length l ≤ 64) × AllByRecursion (λ b. is_label_byte b ≡ true) l
Spelled (Closed l) t = (t ≡ 91 ∷ (l ++ 93 ∷ [])) × IsLabel l

some_same : (s t : Reading) → Some s ≡ Some t → s ≡ t
some_same s t e = cc

into : (s u : Reading) (t : List ℕ) → Some s ≡ Some u → Spelled s t → Spelled u t
into s u t e h = subst (λ x. Spelled x t) (some_same s u e) h

roomy : (b : Bool) (s u : Reading) → (if b then Some s else None) ≡ Some u → (b ≡ true) × (Some s ≡ Some u)
roomy true s u e = (refl, e)
roomy false s u e = cc

-- one byte more behind the number of the file
more : (f b : ℕ) (Is Js : List ℕ → Type 0) (t : List ℕ) → ((e : List ℕ) → Is e → Js (e ++ b ∷ [])) → Behind f Is t → Behind f Js (t ++ b ∷ [])
more f b Is Js t g h = (h.0, h.1 ++ b ∷ [], ap (λ x. x ++ b ∷ []) h.2 ∙ append_assoc h.0 h.1 (b ∷ []), h.3, g h.1 h.4)

begun : (f b : ℕ) (Js : List ℕ → Type 0) (t : List ℕ) → Js (b ∷ []) → IsNumber t f → Behind f Js (t ++ b ∷ [])
begun f b Js t js h = (t, b ∷ [], refl, h, js)

digit_first : (lead : List ℕ) (b d : ℕ) (e : List ℕ) → IsDigit b → d ≡ b - 48 → e ≡ lead → Counted lead 1 d (e ++ b ∷ [])
digit_first lead b d e is worth h = (b ∷ [], ap (λ x. x ++ b ∷ []) h, subst (λ n. IsNumber (b ∷ []) n) (sym worth) (one-digit b is), refl)

digit_next : (lead : List ℕ) (k n b d : ℕ) (e : List ℕ) → IsDigit b → d ≡ b - 48 → nat_lt k 9 ≡ true → Counted lead k n e → Counted lead (k + 1) (n * 10 + d) (e ++ b ∷ [])
digit_next lead k n b d e is worth room h = (
  h.0 ++ b ∷ [],
  ap (λ x. x ++ b ∷ []) h.1 ∙ append_assoc lead h.0 (b ∷ []),
  subst (λ m. IsNumber (h.0 ++ b ∷ []) (n * 10 + m)) (sym worth) (digit-push h.0 n b is (omega (arith, lt_out k 9 room, h.3)) h.2),
  omega (arith, length-append h.0 (b ∷ []), h.3),
)

file_next : (k n b d : ℕ) (t : List ℕ) → IsDigit b → d ≡ b - 48 → nat_lt k 9 ≡ true → IsNumber t n × (length t ≡ k) → IsNumber (t ++ b ∷ []) (n * 10 + d) × (length (t ++ b ∷ []) ≡ k + 1)
file_next k n b d t is worth room h = (
  subst (λ m. IsNumber (t ++ b ∷ []) (n * 10 + m)) (sym worth) (digit-push t n b is (omega (arith, lt_out k 9 room, h.1)) h.0),
  omega (arith, length-append t (b ∷ []), h.1),
)

started : (b d : ℕ) (t : List ℕ) → IsDigit b → d ≡ b - 48 → t ≡ [] → IsNumber (t ++ b ∷ []) d × (length (t ++ b ∷ []) ≡ 1)
started b d t is worth h =
    subst (λ x. IsNumber (x ++ b ∷ []) d × (length (x ++ b ∷ []) ≡ 1)) (sym h) (subst (λ n. IsNumber (b ∷ []) n) (sym worth) (one-digit b is), refl)

byte_is : (b c : ℕ) (e x : List ℕ) → b ≡ c → e ≡ x → e ++ b ∷ [] ≡ x ++ c ∷ []
byte_is b c e x p q = ap (λ y. y ++ b ∷ []) q ∙ ap (λ m. x ++ m ∷ []) p

-- a letter
letter_step : (s u : Reading) (l : Letter) (b : ℕ) (t : List ℕ) → IsLetter b l → Spelled s t → letter_next s l ≡ Some u → Spelled u (t ++ b ∷ [])
letter_step Start u (Digit d) b t is h e = into (File 1 d) u (t ++ b ∷ []) e (started b d t is.0 is.1 h)
letter_step Start u Bracket b t is h e = into (Label []) u (t ++ b ∷ []) e (byte_is b 91 t [] is h, omega arith, tt)
letter_step Start u Colon b t is h e = cc
letter_step Start u Question b t is h e = cc
letter_step Start u A b t is h e = cc
letter_step Start u V b t is h e = cc
letter_step Start u Other b t is h e = cc
letter_step (File k n) u (Digit d) b t is h e =
    (let r : (nat_lt k 9 ≡ true) × (Some (File (k + 1) (n * 10 + d)) ≡ Some u) = roomy (nat_lt k 9) (File (k + 1) (n * 10 + d)) u e in
    into (File (k + 1) (n * 10 + d)) u (t ++ b ∷ []) r.1 (file_next k n b d t is.0 is.1 r.0 h))
letter_step (File k n) u Colon b t is h e = into (Separator n) u (t ++ b ∷ []) e (begun n b (λ x. x ≡ 58 ∷ []) t (ap (λ m. m ∷ []) is) h.0)
letter_step (File k n) u Question b t is h e =
    into (Optional n pick.All) u (t ++ b ∷ []) e (begun n b (λ y. (x : List ℕ) × (y ≡ x ++ 63 ∷ []) × IsPick x pick.All) t ([], ap (λ m. m ∷ []) is, refl) h.0)
letter_step (File k n) u A b t is h e = cc
letter_step (File k n) u V b t is h e = cc
letter_step (File k n) u Bracket b t is h e = cc
letter_step (File k n) u Other b t is h e = cc
letter_step (Separator f) u (Digit d) b t is h e =
    into (Index f 1 d) u (t ++ b ∷ []) e (more f b (λ x. x ≡ 58 ∷ []) (Counted (58 ∷ []) 1 d) t (λ x p. digit_first (58 ∷ []) b d x is.0 is.1 p) h)
letter_step (Separator f) u A b t is h e =
    into (OfKind f Audio) u (t ++ b ∷ []) e (more f b (λ x. x ≡ 58 ∷ []) (λ x. x ≡ 58 ∷ letter Audio) t (λ x p. byte_is b 97 x (58 ∷ []) is p) h)
letter_step (Separator f) u V b t is h e =
    into (OfKind f Video) u (t ++ b ∷ []) e (more f b (λ x. x ≡ 58 ∷ []) (λ x. x ≡ 58 ∷ letter Video) t (λ x p. byte_is b 118 x (58 ∷ []) is p) h)
letter_step (Separator f) u Colon b t is h e = cc
letter_step (Separator f) u Question b t is h e = cc
letter_step (Separator f) u Bracket b t is h e = cc
letter_step (Separator f) u Other b t is h e = cc
letter_step (Index f k n) u (Digit d) b t is h e =
    (let r : (nat_lt k 9 ≡ true) × (Some (Index f (k + 1) (n * 10 + d)) ≡ Some u) = roomy (nat_lt k 9) (Index f (k + 1) (n * 10 + d)) u e in
    into (Index f (k + 1) (n * 10 + d)) u (t ++ b ∷ []) r.1
    (more f b (Counted (58 ∷ []) k n) (Counted (58 ∷ []) (k + 1) (n * 10 + d)) t (λ x p. digit_next (58 ∷ []) k n b d x is.0 is.1 r.0 p) h))
letter_step (Index f k n) u Question b t is h e =
    into (Optional f (pick.Index n)) u (t ++ b ∷ []) e
    (more f b (Counted (58 ∷ []) k n) (λ y. (x : List ℕ) × (y ≡ x ++ 63 ∷ []) × IsPick x (pick.Index n)) t (λ x p. (x, ap (λ m. x ++ m ∷ []) is, (p.0, p.1, p.2))) h)
letter_step (Index f k n) u Colon b t is h e = cc
letter_step (Index f k n) u A b t is h e = cc
letter_step (Index f k n) u V b t is h e = cc
letter_step (Index f k n) u Bracket b t is h e = cc
letter_step (Index f k n) u Other b t is h e = cc
letter_step (OfKind f kind) u Colon b t is h e =
    into (Second f kind) u (t ++ b ∷ []) e (more f b (λ x. x ≡ 58 ∷ letter kind) (λ x. x ≡ 58 ∷ (letter kind ++ 58 ∷ [])) t (λ x p. byte_is b 58 x (58 ∷ letter kind) is p) h)
letter_step (OfKind f kind) u Question b t is h e =
    into (Optional f (pick.Kind kind)) u (t ++ b ∷ []) e
    (more f b (λ x. x ≡ 58 ∷ letter kind) (λ y. (x : List ℕ) × (y ≡ x ++ 63 ∷ []) × IsPick x (pick.Kind kind)) t (λ x p. (x, ap (λ m. x ++ m ∷ []) is, p)) h)
letter_step (OfKind f kind) u (Digit d) b t is h e = cc
letter_step (OfKind f kind) u A b t is h e = cc
letter_step (OfKind f kind) u V b t is h e = cc
letter_step (OfKind f kind) u Bracket b t is h e = cc
letter_step (OfKind f kind) u Other b t is h e = cc
letter_step (Second f kind) u (Digit d) b t is h e =
    into (Nth f kind 1 d) u (t ++ b ∷ []) e
    (more f b (λ x. x ≡ 58 ∷ (letter kind ++ 58 ∷ [])) (Counted (58 ∷ (letter kind ++ 58 ∷ [])) 1 d) t (λ x p. digit_first (58 ∷ (letter kind ++ 58 ∷ [])) b d x is.0 is.1 p) h)
letter_step (Second f kind) u Colon b t is h e = cc
letter_step (Second f kind) u Question b t is h e = cc
letter_step (Second f kind) u A b t is h e = cc
letter_step (Second f kind) u V b t is h e = cc
letter_step (Second f kind) u Bracket b t is h e = cc
letter_step (Second f kind) u Other b t is h e = cc
letter_step (Nth f kind k n) u (Digit d) b t is h e =
    (let r : (nat_lt k 9 ≡ true) × (Some (Nth f kind (k + 1) (n * 10 + d)) ≡ Some u) = roomy (nat_lt k 9) (Nth f kind (k + 1) (n * 10 + d)) u e in
    into (Nth f kind (k + 1) (n * 10 + d)) u (t ++ b ∷ []) r.1
    (more f b (Counted (58 ∷ (letter kind ++ 58 ∷ [])) k n) (Counted (58 ∷ (letter kind ++ 58 ∷ [])) (k + 1) (n * 10 + d)) t
    (λ x p. digit_next (58 ∷ (letter kind ++ 58 ∷ [])) k n b d x is.0 is.1 r.0 p) h))
letter_step (Nth f kind k n) u Question b t is h e =
    into (Optional f (pick.Nth kind n)) u (t ++ b ∷ []) e
    (more f b (Counted (58 ∷ (letter kind ++ 58 ∷ [])) k n) (λ y. (x : List ℕ) × (y ≡ x ++ 63 ∷ []) × IsPick x (pick.Nth kind n)) t (λ x p. (x, ap (λ m. x ++ m ∷ []) is, (p.0, p.1, p.2))) h)
letter_step (Nth f kind k n) u Colon b t is h e = cc
letter_step (Nth f kind k n) u A b t is h e = cc
letter_step (Nth f kind k n) u V b t is h e = cc
letter_step (Nth f kind k n) u Bracket b t is h e = cc
letter_step (Nth f kind k n) u Other b t is h e = cc
letter_step (Optional f p) u l b t is h e = cc
letter_step (Label l) u k b t is h e = cc
letter_step (Closed l) u k b t is h e = cc

-- a byte of a label, or its end
label_more : (l : List ℕ) (b : ℕ) (u : Reading) (t : List ℕ) (c d : Bool) → Spelled (Label l) t → (is_label_byte b && nat_lt (length l) 64) ≡ c → ((b == 93) && nat_lt 0 (length l)) ≡ d
    → (if c then Some (Label (l ++ b ∷ [])) else (if d then Some (Closed l) else None)) ≡ Some u → Spelled u (t ++ b ∷ [])
label_more l b u t true d h c_is d_is e =
    (let both : (is_label_byte b ≡ true) × (nat_lt (length l) 64 ≡ true) = both_out (is_label_byte b) (nat_lt (length l) 64) c_is in
    into (Label (l ++ b ∷ [])) u (t ++ b ∷ []) e (
      ap (λ x. x ++ b ∷ []) h.0,
      omega (arith, length-append l (b ∷ []), lt_out (length l) 64 both.1),
      digits_append (λ x. is_label_byte x ≡ true) l (b ∷ []) h.2 (both.0, tt),
    ))
label_more l b u t false true h c_is d_is e =
    (let both : ((b == 93) ≡ true) × (nat_lt 0 (length l) ≡ true) = both_out (b == 93) (nat_lt 0 (length l)) d_is in
    into (Closed l) u (t ++ b ∷ []) e (
      byte_is b 93 t (91 ∷ l) (eq_out b 93 both.0) h.0,
      record { some = lt_out 0 (length l) both.1; short = h.1; each = h.2 },
    ))
label_more l b u t false false h c_is d_is e = cc

pub byte_step : (s u : Reading) (b : ℕ) (t : List ℕ) → Spelled s t → byte_next s b ≡ Some u → Spelled u (t ++ b ∷ [])
byte_step (Label l) u b t h e = label_more l b u t _ _ h refl refl e
byte_step Start u b t h e = letter_step Start u (letter_of b) b t (letter-is b) h e
byte_step (File k n) u b t h e = letter_step (File k n) u (letter_of b) b t (letter-is b) h e
byte_step (Separator f) u b t h e = letter_step (Separator f) u (letter_of b) b t (letter-is b) h e
byte_step (Index f k n) u b t h e = letter_step (Index f k n) u (letter_of b) b t (letter-is b) h e
byte_step (OfKind f kind) u b t h e = letter_step (OfKind f kind) u (letter_of b) b t (letter-is b) h e
byte_step (Second f kind) u b t h e = letter_step (Second f kind) u (letter_of b) b t (letter-is b) h e
byte_step (Nth f kind k n) u b t h e = letter_step (Nth f kind k n) u (letter_of b) b t (letter-is b) h e
byte_step (Optional f p) u b t h e = cc
byte_step (Closed l) u b t h e = cc

-- ---- the end

same_map : (m n : MapSpec) (t : List ℕ) → Some m ≡ Some n → IsMap t m → IsMap t n
same_map m n t e h = let same : m ≡ n = cc in subst (IsMap t) same h

pub end_is_map : (s : Reading) (t : List ℕ) (m : MapSpec) → Spelled s t → end_of s ≡ Some m → IsMap t m
end_is_map Start t m h e = cc
end_is_map (File k n) t m h e = same_map _ m t e (t, [], sym (append-nil (t ++ []) ∙ append-nil t), h.0, refl)
end_is_map (Separator f) t m h e = cc
end_is_map (Index f k n) t m h e = same_map _ m t e (h.0, h.1, h.2 ∙ sym (append-nil (h.0 ++ h.1)), h.3, (h.4.0, h.4.1, h.4.2))
end_is_map (OfKind f kind) t m h e = same_map _ m t e (h.0, h.1, h.2 ∙ sym (append-nil (h.0 ++ h.1)), h.3, h.4)
end_is_map (Second f kind) t m h e = cc
end_is_map (Nth f kind k n) t m h e = same_map _ m t e (h.0, h.1, h.2 ∙ sym (append-nil (h.0 ++ h.1)), h.3, (h.4.0, h.4.1, h.4.2))
end_is_map (Optional f p) t m h e = same_map _ m t e (h.0, h.4.0, h.2 ∙ (ap (λ x. h.0 ++ x) h.4.1 ∙ sym (append_assoc h.0 h.4.0 (63 ∷ []))), h.3, h.4.2)
end_is_map (Label l) t m h e = cc
end_is_map (Closed l) t m h e = same_map _ m t e (refl, h.1, h.0)

-- ---- whole texts

pub run_spelled : (x y : List ℕ) (s u : Reading) → Spelled s x → run y s ≡ Some u → Spelled u (x ++ y)
run_spelled x [] s u h e = subst (λ t. Spelled u t) (sym (append-nil x)) (into s u x e h)
run_spelled x (b ∷ y) s u h e =
    elim (byte_next s b) as (λ o. byte_next s b ≡ o → and_run o (λ v. run y v) ≡ Some u → Spelled u (x ++ b ∷ y)) [
      | None ↦ λ is f. cc
      | Some v ↦ λ is f. subst (λ t. Spelled u t) (append_assoc x (b ∷ []) y) (run_spelled (x ++ b ∷ []) y v u (byte_step s v b x h is) f)
    ] refl e

pub reads_is_map : (x y : List ℕ) (s : Reading) (m : MapSpec) → Spelled s x → reads y s ≡ Some m → IsMap (x ++ y) m
reads_is_map x [] s m h e = subst (λ t. IsMap t m) (sym (append-nil x)) (end_is_map s x m h e)
reads_is_map x (b ∷ y) s m h e =
    elim (byte_next s b) as (λ o. byte_next s b ≡ o → and_reads o (λ v. reads y v) ≡ Some m → IsMap (x ++ b ∷ y) m) [
      | None ↦ λ is f. cc
      | Some v ↦ λ is f. subst (λ t. IsMap t m) (append_assoc x (b ∷ []) y) (reads_is_map (x ++ b ∷ []) y v m (byte_step s v b x h is) f)
    ] refl e
