-- What a grammar decides is decided whatever follows, and what it does not is open.
use Rattle.std.proofs.Common.{◌≡◌, ◌≢◌, ℕ, zero, suc, ◌+◌, ◌-◌, ◌<◌, ◌≤◌, inl, inr, true, false, List, [], ◌∷◌, ◌++◌, take, drop, length, Option, Some, None, Ok, Err, refl, sym, ap, ◌∙◌, arith, length-append, append-nil, lit<}
use Rattle.std.specs.Prelude.{nat_lt, All}
use Rattle.std.proofs.lemmas.List.{take-append-le, take_all, length-take, length-drop, drop_all}
use Rattle.std.proofs.lemmas.List.Elements.{All-nil, All-cons, All-drop}
use Rattle.std.proofs.lemmas.Bool.Decides.{nat_tests}
use Rattle.ff_reader.specs.declared.fault.HeadFault.TheVariants.{Damaged, Unsupported}
use Rattle.ff_reader.specs.Heads.{Found, early, IsOpen, Stays, Opens}
use Rattle.ff_reader.specs.Walks.{Grammar, agrees, walk, walked, within, reading, head_limit, head_by, IsGrammar, Keeps}
use Rattle.ff_reader.proofs.AgreeLaws.{bool_cases, agrees-append, agrees_long, filled, agrees_complete, filled_bytes, length_filled}
use Rattle.ff_reader.proofs.AnswerLaws.{head_none, head_some, early_long, early_short}
use Rattle.ff_reader.proofs.WalkLaws.{walk-drop, walk_long, walk-append, walk_damaged, walk_sound}

pub take-append : (n : ℕ) (bs more : List ℕ) → take n (bs ++ more) ≡ take n bs ++ take (n - length bs) more
take-append zero bs more = let e : zero - length bs ≡ zero = omega arith in rw e refl
take-append (suc n) [] more = let e : suc n - 0 ≡ suc n = omega arith in rw e refl
take-append (suc n) (b ∷ bs) more = let e : suc n - length (b ∷ bs) ≡ n - length bs = omega arith in rw e (ap (λ xs. b ∷ xs) (take-append n bs more))

-- ---- what is decided

pub reading_at : {H S : Type 0} (g : Grammar H S) (limit : ℕ) (bs : List ℕ) → agrees g.magic bs ≡ true → reading g limit bs ≡ within limit bs (walked g (take limit bs))
unfolding reading
reading_at g limit bs e = rw e refl

pub reading_else : {H S : Type 0} (g : Grammar H S) (limit : ℕ) (bs : List ℕ) → agrees g.magic bs ≡ false → reading g limit bs ≡ Some (Err (Unsupported 0))
unfolding reading
reading_else g limit bs e = rw e refl

within_none : {H : Type 0} (limit : ℕ) (bs : List ℕ) → within {H = H} limit bs None ≡ None → length bs < limit
within_none limit bs e = grind (arith, nat_tests)

within_some : {H : Type 0} (limit : ℕ) (bs : List ℕ) (r : Found H) → within limit bs None ≡ Some r → (limit ≤ length bs) × (r ≡ Err (Unsupported limit))
within_some limit bs r e = (grind (arith, nat_tests), grind (arith, nat_tests))

pub within_over : {H : Type 0} (limit : ℕ) (bs : List ℕ) → limit ≤ length bs → within {H = H} limit bs None ≡ Some (Err (Unsupported limit))
within_over limit bs le = grind (arith, nat_tests)

pub within_short : {H : Type 0} (limit : ℕ) (bs : List ℕ) → length bs < limit → within {H = H} limit bs None ≡ None
within_short limit bs lt = grind (arith, nat_tests)

over_within : {H S : Type 0} (g : Grammar H S) (limit : ℕ) (bs more : List ℕ) (r : Found H) → agrees g.magic (bs ++ more) ≡ true → walked g (take limit bs) ≡ None
    → within limit bs None ≡ Some r → reading g limit (bs ++ more) ≡ Some r
over_within g limit bs more r a w e =
    let h = within_some limit bs r e in
    reading_at g limit (bs ++ more) a
    ∙ (ap (λ o. within limit (bs ++ more) o) (ap (walked g) (take-append-le limit bs more h.0) ∙ w)
    ∙ (within_over limit (bs ++ more) (omega (arith, h.0, length-append bs more)) ∙ ap Some (sym h.1)))

-- what a walk within the limit decides, it decides whatever follows
walk_within : {H S : Type 0} (g : Grammar H S) → IsGrammar g → (limit : ℕ) (bs more : List ℕ) (r : Found H) → walked g (take limit bs) ≡ Some r
    → walked g (take limit (bs ++ more)) ≡ Some r
walk_within g law limit bs more r e =
    rw (take-append limit bs more) (walk-append g.unit law.settles (take limit bs) (take (limit - length bs) more) (length g.magic) g.start 0 r e)

reading_walked : {H S : Type 0} (g : Grammar H S) → IsGrammar g → (limit : ℕ) (bs more : List ℕ) (r : Found H) → length g.magic ≤ limit → agrees g.magic bs ≡ true
    → (o : Option (Found H)) → walked g (take limit bs) ≡ o → within limit bs o ≡ Some r → reading g limit (bs ++ more) ≡ Some r
reading_walked g law limit bs more r le a None w e =
    let h = within_some limit bs r e in
    over_within g limit bs more r (agrees_long g.magic bs more (omega (arith, h.0, le)) ∙ a) w e
reading_walked g law limit bs more r le a (Some found) w e =
    let long = walk_long g.unit (take limit bs) (length g.magic) g.start 0 found w in
    let enough : length g.magic ≤ length bs = omega (arith, long, length-take limit bs) in
    reading_at g limit (bs ++ more) (agrees_long g.magic bs more enough ∙ a) ∙ (ap (λ o. within limit (bs ++ more) o) (walk_within g law limit bs more found w) ∙ e)

reading-append : {H S : Type 0} (g : Grammar H S) → IsGrammar g → (limit : ℕ) (bs more : List ℕ) (r : Found H) → length g.magic ≤ limit → reading g limit bs ≡ Some r
    → reading g limit (bs ++ more) ≡ Some r
reading-append g law limit bs more r le e = elim (bool_cases (agrees g.magic bs)) [
  | inl a ↦ reading_walked g law limit bs more r le a (walked g (take limit bs)) refl (sym (reading_at g limit bs a) ∙ e)
  | inr a ↦ reading_else g limit (bs ++ more) (agrees-append g.magic bs more a) ∙ (sym (reading_else g limit bs a) ∙ e)
]

pub reading_stays : {H S : Type 0} (g : Grammar H S) → IsGrammar g → Stays (reading g head_limit)
reading_stays g law bs more r e = let few = law.few in reading-append g law head_limit bs more r (omega (arith, few)) e

-- ---- what is open

none_within : {H : Type 0} (limit : ℕ) (bs : List ℕ) (o : Option (Found H)) → within limit bs o ≡ None → (o ≡ None) × (length bs < limit)
none_within limit bs None e = (refl, within_none limit bs e)
none_within limit bs (Some found) e = cc

-- bytes that do not decide agree so far, and are fewer than the limit
undecided : {H S : Type 0} (g : Grammar H S) (limit : ℕ) (bs : List ℕ) → reading g limit bs ≡ None → (agrees g.magic bs ≡ true) × (length bs < limit)
undecided g limit bs e = elim (bool_cases (agrees g.magic bs)) [
  | inl a ↦ let h = none_within limit bs (walked g (take limit bs)) (sym (reading_at g limit bs a) ∙ e) in (a, h.1)
  | inr a ↦ let clash = sym (reading_else g limit bs a) ∙ e in cc
]

damaged_within : {H S : Type 0} (g : Grammar H S) → IsGrammar g → (limit : ℕ) (bs : List ℕ) (p : ℕ) → length bs < limit → (o : Option (Found H)) → walked g (bs ++ 0 ∷ []) ≡ o
    → within limit (bs ++ 0 ∷ []) o ≡ Some (Err (Damaged p)) → p < length bs
damaged_within g law limit bs p lt None w e = let h = within_some limit (bs ++ 0 ∷ []) (Err (Damaged p)) e in cc
damaged_within g law limit bs p lt (Some found) w e = let r = walk_damaged g.unit law.damages bs (length g.magic) g.start 0 p (w ∙ e) in omega (arith, r)

-- a byte 0 more isn't found damaged at the same length
reading_damaged : {H S : Type 0} (g : Grammar H S) → IsGrammar g → (limit : ℕ) (bs : List ℕ) (p : ℕ) → length bs < limit → reading g limit (bs ++ 0 ∷ []) ≡ Some (Err (Damaged p))
    → p < length bs
reading_damaged g law limit bs p lt e = elim (bool_cases (agrees g.magic (bs ++ 0 ∷ []))) [
  | inl a ↦ let all : take limit (bs ++ 0 ∷ []) ≡ bs ++ 0 ∷ [] = take_all limit (bs ++ 0 ∷ []) (omega (arith, lt, length-append bs (0 ∷ []))) in
      damaged_within g law limit bs p lt (walked g (bs ++ 0 ∷ [])) refl (ap (λ xs. within limit (bs ++ 0 ∷ []) (walked g xs)) (sym all) ∙ (sym (reading_at g limit (bs ++ 0 ∷ []) a) ∙ e))
  | inr a ↦ let clash = sym (reading_else g limit (bs ++ 0 ∷ []) a) ∙ e in cc
]

other_damage : {H S : Type 0} (g : Grammar H S) → IsGrammar g → (bs : List ℕ) → length g.magic ≤ length bs → length bs < head_limit → (o : Option (Found H))
    → reading g head_limit (bs ++ 0 ∷ []) ≡ o → head_by g (bs ++ 0 ∷ []) ≢ Err (Damaged (length bs))
other_damage g law bs le lt None e is =
    let len : length (bs ++ 0 ∷ []) ≡ length bs + 1 = length-append bs (0 ∷ []) in
    let clash = sym (early_long (length g.magic) (bs ++ 0 ∷ []) (omega (arith, len, le))) ∙ (sym (head_none (reading g head_limit) (early (length g.magic)) (bs ++ 0 ∷ []) e) ∙ is) in
    let same : length (bs ++ 0 ∷ []) ≡ length bs = cc in absurd (omega (arith, same, len))
other_damage g law bs le lt (Some r) e is =
    let r_is = sym (head_some (reading g head_limit) (early (length g.magic)) (bs ++ 0 ∷ []) r e) ∙ is in
    let h = reading_damaged g law head_limit bs (length bs) lt (e ∙ ap Some r_is) in absurd (omega (arith, h))

byte_zero : All (λ b. b < 256) (0 ∷ [])
byte_zero = All-cons (λ b. b < 256) 0 [] (lit< tt) (All-nil (λ b. b < 256))

open_long : {H S : Type 0} (g : Grammar H S) → IsGrammar g → (bs : List ℕ) → reading g head_limit bs ≡ None → length g.magic ≤ length bs → IsOpen (head_by g) bs
open_long g law bs e le = (
  [],
  (0 ∷ []),
  All-nil (λ b. b < 256),
  byte_zero,
  λ same. let damaged = head_none (reading g head_limit) (early (length g.magic)) bs e ∙ early_long (length g.magic) bs le in
      let u = undecided g head_limit bs e in
      other_damage g law bs le u.1 (reading g head_limit (bs ++ 0 ∷ [])) refl (sym same ∙ (ap (head_by g) (append-nil bs) ∙ damaged)),
)

walk_few : {H S : Type 0} (g : Grammar H S) (bs : List ℕ) → length bs ≤ length g.magic → walked g bs ≡ None
walk_few g bs le = walk-drop g.unit bs (length g.magic) g.start 0 ∙ ap (λ xs. walk g.unit 0 g.start (0 + length g.magic) xs) (drop_all (length g.magic) bs le)

reading_few : {H S : Type 0} (g : Grammar H S) → (limit : ℕ) (bs : List ℕ) → length g.magic < limit → agrees g.magic bs ≡ true → length bs ≤ length g.magic → reading g limit bs ≡ None
reading_few g limit bs few a le =
    let lt : length bs < limit = omega (arith, le, few) in
    let all : take limit bs ≡ bs = take_all limit bs (omega (arith, lt)) in
    reading_at g limit bs a ∙ (ap (λ xs. within limit bs (walked g xs)) all ∙ (ap (λ o. within limit bs o) (walk_few g bs le) ∙ within_short limit bs lt))

open_short : {H S : Type 0} (g : Grammar H S) → IsGrammar g → (bs : List ℕ) → reading g head_limit bs ≡ None → length bs < length g.magic → IsOpen (head_by g) bs
open_short g law bs e lt =
    let u = undecided g head_limit bs e in
    let rest = drop (length bs) (filled g.magic) in
    let size : length (bs ++ rest) ≡ length g.magic = omega (arith, lt, length-append bs rest, length-drop (length bs) (filled g.magic), length_filled g.magic) in
    let whole = reading_few g head_limit (bs ++ rest) law.few (agrees_complete g.magic bs u.0) (omega (arith, size)) in (
      [],
      rest,
      All-nil (λ b. b < 256),
      All-drop (λ b. b < 256) (length bs) (filled g.magic) (filled_bytes g.magic law.bytes),
      λ same. let one = ap (head_by g) (append-nil bs) ∙ (head_none (reading g head_limit) (early (length g.magic)) bs e ∙ early_short (length g.magic) bs lt) in
          let two = head_none (reading g head_limit) (early (length g.magic)) (bs ++ rest) whole ∙ early_long (length g.magic) (bs ++ rest) (omega (arith, size)) in
          let clash = sym one ∙ (same ∙ two) in cc,
    )

pub reading_opens : {H S : Type 0} (g : Grammar H S) → IsGrammar g → Opens (reading g head_limit) (early (length g.magic))
reading_opens g law bs e = elim (bool_cases (nat_lt (length bs) (length g.magic))) [
  | inl s ↦ open_short g law bs e (grind (arith, nat_tests))
  | inr l ↦ open_long g law bs e (grind (arith, nat_tests))
]

-- ---- what is sound

within_sound : {H S : Type 0} (g : Grammar H S) (is_known : S → Type 0) (is_sound : H → Type 0) → is_known g.start → Keeps is_known is_sound g.unit
    → (bs : List ℕ) (h : H) (o : Option (Found H)) → walked g (take head_limit bs) ≡ o → within head_limit bs o ≡ Some (Ok h) → is_sound h
within_sound g is_known is_sound known keeps bs h None w e = let r = within_some head_limit bs (Ok h) e in cc
within_sound g is_known is_sound known keeps bs h (Some found) w e =
    walk_sound g.unit is_known is_sound keeps (take head_limit bs) (length g.magic) g.start 0 h known (omega (arith, length-take head_limit bs)) (w ∙ e)

pub reading_sound : {H S : Type 0} (g : Grammar H S) (is_known : S → Type 0) (is_sound : H → Type 0) → is_known g.start → Keeps is_known is_sound g.unit
    → (bs : List ℕ) (h : H) → reading g head_limit bs ≡ Some (Ok h) → is_sound h
reading_sound g is_known is_sound known keeps bs h e = elim (bool_cases (agrees g.magic bs)) [
  | inl a ↦ within_sound g is_known is_sound known keeps bs h (walked g (take head_limit bs)) refl (sym (reading_at g head_limit bs a) ∙ e)
  | inr a ↦ let clash = sym (reading_else g head_limit bs a) ∙ e in cc
]

pub early_sound : {H : Type 0} (is_sound : H → Type 0) (few : ℕ) (bs : List ℕ) (h : H) → early few bs ≡ Ok h → is_sound h
early_sound is_sound few bs h e = elim (bool_cases (nat_lt (length bs) few)) [
  | inl s ↦ let clash = sym (early_short few bs (grind (arith, nat_tests))) ∙ e in cc
  | inr l ↦ let clash = sym (early_long few bs (grind (arith, nat_tests))) ∙ e in cc
]

-- ---- what is read, case by case

pub reading_is : {H S : Type 0} (g : Grammar H S) (limit : ℕ) (bs : List ℕ) (o : Option (Found H)) → agrees g.magic bs ≡ true → o ≡ walked g (take limit bs)
    → reading g limit bs ≡ within limit bs o
reading_is g limit bs o a w = reading_at g limit bs a ∙ ap (λ x. within limit bs x) (sym w)
