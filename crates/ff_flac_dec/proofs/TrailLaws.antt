-- Which bytes may go on to tags behind the last frame: what may not goes on to none, and what may isn't decided.
use Rattle.std.proofs.Common.{◌≡◌, ◌≢◌, ℕ, ◌+◌, ◌-◌, ◌<◌, ◌≤◌, ◌⊎◌, inl, inr, Bool, true, false, List, [], ◌∷◌, ◌++◌, drop, length, Some, refl, sym, ap, ◌∙◌}
use Rattle.std.proofs.Common.{arith, length-append, append_assoc, map}
use Rattle.std.specs.Prelude.{◌==◌, ◌&&◌, ◌||◌, nat_lt, nat_le, codes}
use Rattle.std.proofs.lemmas.List.{length-drop, drop-append-le}
use Rattle.std.proofs.lemmas.Bool.Decides.{nat_tests}
use Rattle.ff_reader.specs.Walks.{agrees}
use Rattle.ff_reader.proofs.AgreeLaws.{bool_cases, agrees-append, agrees_long}
use Rattle.ff_flac_dec.specs.Trailers.{id3_magic, is_id3, ape_magic, ape_size, is_ape, are_tags}
use Rattle.ff_flac_dec.specs.laws.BlockLaws.{index_front, not_less}
use Rattle.ff_flac_dec.proofs.NamedLaws.{zeros, length_zeros, agrees_filled}
use Rattle.ff_flac_dec.specs.laws.Trails.{may_be_id3, may_be_ape, may_be_tags}

and_left : (x y : Bool) → x ≡ false → (x && y) ≡ false
and_left true y e = cc
and_left false y e = refl

and_right : (x y : Bool) → y ≡ false → (x && y) ≡ false
and_right true y e = e
and_right false y e = refl

neither : (x y : Bool) → (x || y) ≡ false → (x ≡ false) × (y ≡ false)
neither true y e = cc
neither false y e = (refl, e)

or_none : (x y : Bool) → x ≡ false → y ≡ false → (x || y) ≡ false
or_none true y e f = cc
or_none false y e f = f

one_false : (x y : Bool) → (x && y) ≡ false → (x ≡ false) ⊎ (y ≡ false)
one_false true y e = inr e
one_false false y e = inl refl

both_true : (x y : Bool) → x ≡ true → y ≡ true → (x && y) ≡ true
both_true true y e f = f
both_true false y e f = cc

either_true : (x y : Bool) → y ≡ true → (x || y) ≡ true
either_true true y e = refl
either_true false y e = e

second : (x y : Bool) → x ≡ false → (x || y) ≡ true → y ≡ true
second true y e f = cc
second false y e f = f

both : (x y : Bool) → (x && y) ≡ true → (x ≡ true) × (y ≡ true)
both true y e = (refl, e)
both false y e = cc

-- ---- tests of numbers

same : (m n : ℕ) → m ≡ n → (m == n) ≡ true
same m n e = grind (arith, nat_tests)

equal : (m n : ℕ) → (m == n) ≡ true → m ≡ n
equal m n e = grind (arith, nat_tests)

unlike : (m n : ℕ) → n < m → (m == n) ≡ false
unlike m n lt = grind (arith, nat_tests)

unequal : (m n : ℕ) → (m ≡ n → ⊥) → (m == n) ≡ false
unequal m n no_ = elim (bool_cases (m == n)) [ inl e ↦ absurd (no_ (equal m n e)) | inr e ↦ e ]

below : (m n : ℕ) → nat_le m n ≡ true → m ≤ n
below m n e = grind (arith, nat_tests)

above : (m n : ℕ) → nat_le m n ≡ false → n < m
above m n e = grind (arith, nat_tests)

less : (m n : ℕ) → nat_lt m n ≡ true → m < n
less m n e = grind (arith, nat_tests)

at_least : (m n : ℕ) → n ≤ m → nat_le n m ≡ true
at_least m n le = grind (arith, nat_tests)

-- ---- what can't become an ID3v1 tag

no_id3 : (bs more : List ℕ) → may_be_id3 bs ≡ false → is_id3 (bs ++ more) ≡ false
no_id3 bs more e = elim (one_false (agrees id3_magic bs) (nat_le (length bs) 128) e) [
  | inl a ↦ and_left (agrees id3_magic (bs ++ more)) (length (bs ++ more) == 128) (agrees-append id3_magic bs more a)
  | inr l ↦ and_right (agrees id3_magic (bs ++ more)) (length (bs ++ more) == 128) (longer (length bs) (length more) (length (bs ++ more)) l (length-append bs more))
]
  where
    longer : (m k n : ℕ) → nat_le m 128 ≡ false → n ≡ m + k → (n == 128) ≡ false
    longer m k n e is = grind (arith, nat_tests)

-- ---- nor an APEv2 tag

size_same : (bs more : List ℕ) → 32 ≤ length bs → ape_size (bs ++ more) ≡ ape_size bs
size_same bs more le =
    let twelve = index_front bs more 12 (omega (arith, le)) in
    let thirteen = index_front bs more 13 (omega (arith, le)) in
    let fourteen = index_front bs more 14 (omega (arith, le)) in
    let fifteen = index_front bs more 15 (omega (arith, le)) in
    rw (twelve, thirteen, fourteen, fifteen) refl

no_ape_tail : (bs more : List ℕ) → 32 ≤ length bs → nat_le (length bs) (ape_size bs) ≡ false → may_be_id3 (drop (ape_size bs) bs) ≡ false
    → (length (bs ++ more) == ape_size (bs ++ more) || nat_le (ape_size (bs ++ more)) (length (bs ++ more)) && is_id3 (drop (ape_size (bs ++ more)) (bs ++ more))) ≡ false
no_ape_tail bs more le long none =
    let size = size_same bs more le in
    let past : ape_size bs < length bs = above (length bs) (ape_size bs) long in
    let seam : drop (ape_size (bs ++ more)) (bs ++ more) ≡ drop (ape_size bs) bs ++ more =
    ap (λ k. drop k (bs ++ more)) size ∙ drop-append-le (ape_size bs) bs more (omega (arith, past)) in
    or_none (length (bs ++ more) == ape_size (bs ++ more)) _
    (unlike (length (bs ++ more)) (ape_size (bs ++ more)) (omega (arith, length-append bs more, size, past)))
    (and_right (nat_le (ape_size (bs ++ more)) (length (bs ++ more))) (is_id3 (drop (ape_size (bs ++ more)) (bs ++ more)))
    (ap is_id3 seam ∙ no_id3 (drop (ape_size bs) bs) more none))

no_ape : (bs more : List ℕ) → may_be_ape bs ≡ false → is_ape (bs ++ more) ≡ false
no_ape bs more e = elim (one_false (agrees ape_magic bs) _ e) [
  | inl a ↦ and_left _ _ (and_left (agrees ape_magic (bs ++ more)) (nat_le 32 (length (bs ++ more))) (agrees-append ape_magic bs more a))
  | inr l ↦
      let outer = neither (nat_lt (length bs) 32 || nat_le (length bs) (ape_size bs)) (may_be_id3 (drop (ape_size bs) bs)) l in
      let inner = neither (nat_lt (length bs) 32) (nat_le (length bs) (ape_size bs)) outer.0 in
      and_right _ _ (no_ape_tail bs more (not_less (length bs) 32 inner.0) inner.1 outer.1)
]

-- what may not be tags goes on to none
pub no_tags : (bs more : List ℕ) → may_be_tags bs ≡ false → are_tags (bs ++ more) ≡ false
no_tags bs more e =
    let parts = neither (may_be_id3 bs) (may_be_ape bs) e in
    or_none (is_id3 (bs ++ more)) (is_ape (bs ++ more)) (no_id3 bs more parts.0) (no_ape bs more parts.1)

-- ---- what may be tags isn't decided

is_id3_at : (bs : List ℕ) → agrees id3_magic bs ≡ true → length bs ≡ 128 → is_id3 bs ≡ true
is_id3_at bs a l = both_true (agrees id3_magic bs) (length bs == 128) a (same (length bs) 128 l)

is_ape_at : (bs : List ℕ) → agrees ape_magic bs ≡ true → 32 ≤ length bs
    → (length bs == ape_size bs || nat_le (ape_size bs) (length bs) && is_id3 (drop (ape_size bs) bs)) ≡ true → is_ape bs ≡ true
is_ape_at bs a le t =
    both_true (agrees ape_magic bs && nat_le 32 (length bs)) _ (both_true (agrees ape_magic bs) (nat_le 32 (length bs)) a (at_least (length bs) 32 le)) t

tags_of_id3 : (bs : List ℕ) → is_id3 bs ≡ true → are_tags bs ≡ true
tags_of_id3 bs e = ap (λ t. t || is_ape bs) e

tags_of_ape : (bs : List ℕ) → is_ape bs ≡ true → are_tags bs ≡ true
tags_of_ape bs e = either_true (is_id3 bs) (is_ape bs) e

-- an ID3v1 tag that has begun
id3_filler : List ℕ
id3_filler = codes "TAG" ++ zeros 125

id3_more : (bs : List ℕ) → may_be_id3 bs ≡ true → is_id3 (bs ++ drop (length bs) id3_filler) ≡ true
unfolding id3_filler
id3_more bs e =
    let parts = both (agrees id3_magic bs) (nat_le (length bs) 128) e in
    let rest = drop (length bs) id3_filler in
    let few : length bs ≤ 128 = below (length bs) 128 parts.1 in
    let long : length id3_filler ≡ 128 = omega (arith, length-append (codes "TAG") (zeros 125), length_zeros 125) in
    is_id3_at (bs ++ rest) (agrees_filled id3_magic id3_filler bs refl parts.0) (omega (arith, few, long, length-append bs rest, length-drop (length bs) id3_filler))

-- an APEv2 tag whose header is there
ape_more : (bs : List ℕ) → agrees ape_magic bs ≡ true → 32 ≤ length bs → length bs ≤ ape_size bs → is_ape (bs ++ zeros (ape_size bs - length bs)) ≡ true
ape_more bs a le few =
    let rest = zeros (ape_size bs - length bs) in
    let long : length (bs ++ rest) ≡ ape_size (bs ++ rest) = omega (arith, length-append bs rest, length_zeros (ape_size bs - length bs), size_same bs rest le, few) in
    is_ape_at (bs ++ rest) (agrees_long ape_magic bs rest (omega (arith, le)) ∙ a) (omega (arith, le, length-append bs rest))
    (ap (λ t. t || nat_le (ape_size (bs ++ rest)) (length (bs ++ rest)) && is_id3 (drop (ape_size (bs ++ rest)) (bs ++ rest)))
    (same (length (bs ++ rest)) (ape_size (bs ++ rest)) long))

ape_filler : List ℕ
ape_filler = codes "APETAGEX" ++ zeros 24

made_header : (bs : List ℕ) → agrees ape_magic bs ≡ true → length bs < 32 → (more : List ℕ) × (are_tags (bs ++ more) ≡ true)
unfolding ape_filler
made_header bs a short =
    let first = drop (length bs) ape_filler in
    let xs = bs ++ first in
    let filled : length ape_filler ≡ 32 = omega (arith, length-append (codes "APETAGEX") (zeros 24), length_zeros 24) in
    let long : length xs ≡ 32 = omega (arith, length-append bs first, length-drop (length bs) ape_filler, filled, short) in
    let rest = zeros (ape_size xs - length xs) in
    let whole = ape_more xs (agrees_filled ape_magic ape_filler bs refl a) (omega (arith, long)) (omega (arith, long)) in
    (first ++ rest, ap are_tags (sym (append_assoc bs first rest)) ∙ tags_of_ape (xs ++ rest) whole)

made_tail : (bs : List ℕ) → agrees ape_magic bs ≡ true → ape_size bs ≤ length bs → may_be_id3 (drop (ape_size bs) bs) ≡ true
    → (more : List ℕ) × (are_tags (bs ++ more) ≡ true)
made_tail bs a past i =
    let rest = drop (ape_size bs) bs in
    let more = drop (length rest) id3_filler in
    let le : 32 ≤ length bs = omega (arith, past) in
    let size = size_same bs more le in
    let seam : drop (ape_size (bs ++ more)) (bs ++ more) ≡ rest ++ more = ap (λ k. drop k (bs ++ more)) size ∙ drop-append-le (ape_size bs) bs more past in
    let tail : is_id3 (drop (ape_size (bs ++ more)) (bs ++ more)) ≡ true = ap is_id3 seam ∙ id3_more rest i in
    let fits = at_least (length (bs ++ more)) (ape_size (bs ++ more)) (omega (arith, size, past, length-append bs more)) in
    let whole = either_true (length (bs ++ more) == ape_size (bs ++ more)) _ (both_true (nat_le (ape_size (bs ++ more)) (length (bs ++ more))) _ fits tail) in
    let start : agrees ape_magic (bs ++ more) ≡ true = agrees_long ape_magic bs more (omega (arith, le)) ∙ a in
    (more, tags_of_ape (bs ++ more) (is_ape_at (bs ++ more) start (omega (arith, le, length-append bs more)) whole))

made_ape : (bs : List ℕ) → agrees ape_magic bs ≡ true → (nat_lt (length bs) 32 || nat_le (length bs) (ape_size bs) || may_be_id3 (drop (ape_size bs) bs)) ≡ true
    → (more : List ℕ) × (are_tags (bs ++ more) ≡ true)
made_ape bs a e = elim (bool_cases (nat_lt (length bs) 32)) [
  | inl s ↦ made_header bs a (less (length bs) 32 s)
  | inr s ↦ elim (bool_cases (nat_le (length bs) (ape_size bs))) [
    | inl l ↦
        let rest = zeros (ape_size bs - length bs) in
        (rest, tags_of_ape (bs ++ rest) (ape_more bs a (not_less (length bs) 32 s) (below (length bs) (ape_size bs) l)))
    | inr l ↦
        let past : ape_size bs < length bs = above (length bs) (ape_size bs) l in
        let none : (nat_lt (length bs) 32 || nat_le (length bs) (ape_size bs)) ≡ false = or_none (nat_lt (length bs) 32) (nat_le (length bs) (ape_size bs)) s l in
        made_tail bs a (omega (arith, past)) (second _ (may_be_id3 (drop (ape_size bs) bs)) none e)
  ]
]

-- some bytes more make tags of what may be some
made : (bs : List ℕ) → may_be_tags bs ≡ true → (more : List ℕ) × (are_tags (bs ++ more) ≡ true)
made bs e = elim (bool_cases (may_be_id3 bs)) [
  | inl i ↦ (drop (length bs) id3_filler, tags_of_id3 (bs ++ drop (length bs) id3_filler) (id3_more bs i))
  | inr i ↦ let parts = both (agrees ape_magic bs) _ (second (may_be_id3 bs) (may_be_ape bs) i e) in made_ape bs parts.0 parts.1
]

-- and one byte more makes none of tags
apart : (bs : List ℕ) → 1 ≤ length bs → agrees id3_magic bs ≡ true → agrees ape_magic bs ≡ false
apart [] le a = absurd (omega (arith, le))
apart (b ∷ bs) le a =
    let first = (both (b == 84) (agrees (map Some (codes "AG")) bs) a).0 in
    let other : (b == 65) ≡ false = grind (arith, nat_tests) in
    and_left (b == 65) (agrees (map Some (codes "PETAGEX")) bs) other

no_longer_id3 : (bs : List ℕ) → is_id3 bs ≡ true → are_tags (bs ++ 0 ∷ []) ≡ false
no_longer_id3 bs e =
    let parts = both (agrees id3_magic bs) (length bs == 128) e in
    let long : length bs ≡ 128 = equal (length bs) 128 parts.1 in
    let start = apart bs (omega (arith, long)) parts.0 in
    or_none (is_id3 (bs ++ 0 ∷ [])) (is_ape (bs ++ 0 ∷ []))
    (and_right (agrees id3_magic (bs ++ 0 ∷ [])) (length (bs ++ 0 ∷ []) == 128) (unlike (length (bs ++ 0 ∷ [])) 128 (omega (arith, long, length-append bs (0 ∷ [])))))
    (and_left _ _ (and_left (agrees ape_magic (bs ++ 0 ∷ [])) (nat_le 32 (length (bs ++ 0 ∷ []))) (agrees-append ape_magic bs (0 ∷ []) start)))

no_longer_ape : (bs : List ℕ) → is_ape bs ≡ true → is_id3 bs ≡ false → are_tags (bs ++ 0 ∷ []) ≡ false
no_longer_ape bs e other =
    let outer = both (agrees ape_magic bs && nat_le 32 (length bs)) _ e in
    let inner = both (agrees ape_magic bs) (nat_le 32 (length bs)) outer.0 in
    let more = 0 ∷ [] in
    let le : 32 ≤ length bs = below 32 (length bs) inner.1 in
    let size = size_same bs more le in
    let past : ape_size bs ≤ length bs = reaches outer.1 in
    let rest = drop (ape_size bs) bs in
    let seam : drop (ape_size (bs ++ more)) (bs ++ more) ≡ rest ++ more = ap (λ k. drop k (bs ++ more)) size ∙ drop-append-le (ape_size bs) bs more past in
    or_none (is_id3 (bs ++ more)) (is_ape (bs ++ more))
    (and_left (agrees id3_magic (bs ++ more)) (length (bs ++ more) == 128) (no_id3_start bs more inner.0 le))
    (and_right (agrees ape_magic (bs ++ more) && nat_le 32 (length (bs ++ more))) _
    (or_none (length (bs ++ more) == ape_size (bs ++ more)) _ (unlike (length (bs ++ more)) (ape_size (bs ++ more)) (omega (arith, size, past, length-append bs more)))
    (and_right (nat_le (ape_size (bs ++ more)) (length (bs ++ more))) (is_id3 (drop (ape_size (bs ++ more)) (bs ++ more))) (ap is_id3 seam ∙ rest_not rest outer.1))))
  where
    reaches : (length bs == ape_size bs || nat_le (ape_size bs) (length bs) && is_id3 (drop (ape_size bs) bs)) ≡ true → ape_size bs ≤ length bs
    reaches t = elim (bool_cases (length bs == ape_size bs)) [
      | inl s ↦ let k = equal (length bs) (ape_size bs) s in omega (arith, k)
      | inr s ↦ below (ape_size bs) (length bs) (both (nat_le (ape_size bs) (length bs)) _ (second (length bs == ape_size bs) _ s t)).0
    ]

    rest_not : (rest : List ℕ) → (length bs == ape_size bs || nat_le (ape_size bs) (length bs) && is_id3 (drop (ape_size bs) bs)) ≡ true
        → is_id3 (drop (ape_size bs) bs ++ 0 ∷ []) ≡ false
    rest_not rest t = and_right (agrees id3_magic (drop (ape_size bs) bs ++ 0 ∷ [])) _ (elim (bool_cases (length bs == ape_size bs)) [
      | inl s ↦
          let k = equal (length bs) (ape_size bs) s in
          unequal (length (drop (ape_size bs) bs ++ 0 ∷ [])) 128
          (λ n. absurd (omega (arith, n, k, length-append (drop (ape_size bs) bs) (0 ∷ []), length-drop (ape_size bs) bs)))
      | inr s ↦
          let i = (both (nat_le (ape_size bs) (length bs)) (is_id3 (drop (ape_size bs) bs)) (second (length bs == ape_size bs) _ s t)).1 in
          let k = equal (length (drop (ape_size bs) bs)) 128 (both (agrees id3_magic (drop (ape_size bs) bs)) _ i).1 in
          unlike (length (drop (ape_size bs) bs ++ 0 ∷ [])) 128 (omega (arith, k, length-append (drop (ape_size bs) bs) (0 ∷ [])))
    ])

    no_id3_start : (xs more : List ℕ) → agrees ape_magic xs ≡ true → 32 ≤ length xs → agrees id3_magic (xs ++ more) ≡ false
    no_id3_start xs more a le = elim (bool_cases (agrees id3_magic xs)) [
      | inl i ↦ let clash : true ≡ false = sym a ∙ apart xs (omega (arith, le)) i in cc
      | inr i ↦ agrees-append id3_magic xs more i
    ]

-- so some bytes more decide otherwise than none
pub tags_open : (bs : List ℕ) → may_be_tags bs ≡ true → (more : List ℕ) × (are_tags (bs ++ more) ≢ are_tags bs)
tags_open bs e = elim (bool_cases (are_tags bs)) [
  | inr n ↦ let m = made bs e in (m.0, λ same. let clash : true ≡ false = sym m.1 ∙ (same ∙ n) in cc)
  | inl t ↦ (
    0 ∷ [],
    λ same. let clash : false ≡ true = sym (elim (bool_cases (is_id3 bs)) [
      | inl i ↦ no_longer_id3 bs i
      | inr i ↦ no_longer_ape bs (second (is_id3 bs) (is_ape bs) i t) i
    ]) ∙ (same ∙ t) in cc,
  )
]
