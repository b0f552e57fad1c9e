-- What is decided is decided whatever follows, and what is not is open.
use Rattle.std.proofs.Common.{◌≡◌, ℕ, zero, suc, ◌+◌, ◌<◌, ◌≤◌, ◌⊎◌, inl, inr, Bool, true, false, cond, List, [], ◌∷◌, ◌++◌, drop, length, Option, Some, None, Err, refl, sym, ap, ◌∙◌, arith, length-append, append-nil, lit<}
use Rattle.std.specs.Prelude.{nat_lt, not, All, ◌==◌, ◌&&◌}
use Rattle.std.specs.Option.{option_map}
use Rattle.std.proofs.lemmas.List.{take-append-le}
use Rattle.std.proofs.lemmas.List.Elements.{All-nil, All-cons, All-drop}
use Rattle.std.proofs.lemmas.Bool.Decides.{nat_tests}
use Rattle.ff_reader.proofs.AnswerLaws.{head_none, head_some, early_long, early_short}
use Rattle.ff_reader.specs.declared.fault.HeadFault.TheVariants.{Damaged, Unsupported}
use Rattle.ff_y4m.specs.Lines.{begins, line_end, longest_line}
use Rattle.ff_y4m.specs.Heads.{Found, magic, line_head, found_at, reading, early, head, IsOpen}
use Rattle.ff_y4m.proofs.LineLaws.{bool_cases, option_cases, begins-append, begins_long, NoFeed, line_longer, line_end-append, line_end_some}

-- ---- what is decided

pub reading_at : (bs : List ℕ) (o : Option ℕ) → begins magic bs ≡ true → line_end longest_line bs ≡ o → reading bs ≡ option_map (found_at bs) o
unfolding reading
reading_at bs o a e = ap (λ t. cond (not t) (Some (Err (Unsupported 0))) (option_map (found_at bs) (line_end longest_line bs))) a ∙ ap (option_map (found_at bs)) e

pub reading_else : (bs : List ℕ) → begins magic bs ≡ false → reading bs ≡ Some (Err (Unsupported 0))
unfolding reading
reading_else bs a = ap (λ t. cond (not t) (Some (Err (Unsupported 0))) (option_map (found_at bs) (line_end longest_line bs))) a

magic_plain : NoFeed magic
magic_plain = (refl, (refl, (refl, (refl, (refl, (refl, (refl, (refl, (refl, tt)))))))))

found_same : (bs more : List ℕ) (n : ℕ) → n ≤ length bs → found_at (bs ++ more) n ≡ found_at bs n
found_same bs more n le = ap (λ xs. cond (nat_lt n longest_line) (line_head xs) (Err (Damaged longest_line))) (take-append-le n bs more le)

-- what is decided is decided whatever follows
pub reading-append : (bs more : List ℕ) (r : Found) → reading bs ≡ Some r → reading (bs ++ more) ≡ Some r
reading-append bs more r e = elim (bool_cases (begins magic bs)) [
  | inl a ↦ elim (option_cases (line_end longest_line bs)) [
    | inl n ↦ let clash = sym (reading_at bs None a n) ∙ e in cc
    | inr s ↦ let k = s.0 in
        let long = line_longer magic bs longest_line k magic_plain (omega arith) a s.1 in
        let where_is = line_end_some longest_line bs k s.1 in
        reading_at (bs ++ more) (Some k) (begins_long magic bs more long ∙ a) (line_end-append longest_line k bs more s.1)
        ∙ (ap Some (found_same bs more k where_is.1) ∙ (sym (reading_at bs (Some k) a s.1) ∙ e))
  ]
  | inr a ↦ reading_else (bs ++ more) (begins-append magic bs more a) ∙ (sym (reading_else bs a) ∙ e)
]

-- ---- what is open

-- bytes that do not decide agree so far, and have no line feed
pub undecided : (bs : List ℕ) → reading bs ≡ None → (begins magic bs ≡ true) × (line_end longest_line bs ≡ None)
undecided bs e = elim (bool_cases (begins magic bs)) [
  | inl a ↦ elim (option_cases (line_end longest_line bs)) [
    | inl n ↦ (a, n)
    | inr s ↦ let clash = sym (reading_at bs (Some s.0) a s.1) ∙ e in cc
  ]
  | inr a ↦ let clash = sym (reading_else bs a) ∙ e in cc
]

-- a byte 0 more is no line feed
end_zero : (room : ℕ) (bs : List ℕ) → line_end room bs ≡ None → (line_end room (bs ++ 0 ∷ []) ≡ None) ⊎ ((line_end room (bs ++ 0 ∷ []) ≡ Some room) × (length bs + 1 ≡ room))
end_zero zero bs e = cc
end_zero (suc zero) [] e = inr (refl, refl)
end_zero (suc (suc room)) [] e = inl refl
end_zero (suc room) (b ∷ bs) e = pick (b == 10) (line_end room bs) (line_end room (bs ++ 0 ∷ [])) (λ h. end_zero room bs h) e
  where
    pick : (t : Bool) (o p : Option ℕ) → (o ≡ None → (p ≡ None) ⊎ ((p ≡ Some room) × (length bs + 1 ≡ room))) → cond t (Some 0) (option_map suc o) ≡ None
        → (cond t (Some 0) (option_map suc p) ≡ None) ⊎ ((cond t (Some 0) (option_map suc p) ≡ Some (suc room)) × (length (b ∷ bs) + 1 ≡ suc room))
    pick true o p h e = cc
    pick false (Some m) p h e = cc
    pick false None p h e = elim (h refl) [
      | inl n ↦ inl (ap (option_map suc) n)
      | inr s ↦ inr (ap (option_map suc) s.0, omega (arith, s.1))
    ]

over_found : (bs : List ℕ) → found_at bs longest_line ≡ Err (Damaged longest_line)
over_found bs = refl

-- a byte more is not damaged at the same length
zero_damage : (bs : List ℕ) → 10 ≤ length bs → begins magic bs ≡ true → line_end longest_line bs ≡ None → head (bs ++ 0 ∷ []) ≡ Err (Damaged (length bs + 1))
zero_damage bs le a n =
    let b : begins magic (bs ++ 0 ∷ []) ≡ true = begins_long magic bs (0 ∷ []) (omega (arith, le)) ∙ a in
    let len : length (bs ++ 0 ∷ []) ≡ length bs + 1 = length-append bs (0 ∷ []) in
    elim (end_zero longest_line bs n) [
      | inl none ↦ head_none reading early (bs ++ 0 ∷ []) (reading_at (bs ++ 0 ∷ []) None b none) ∙ (early_long 10 (bs ++ 0 ∷ []) (omega (arith, len, le)) ∙ ap (λ k. Err (Damaged k)) len)
      | inr s ↦ head_some reading early (bs ++ 0 ∷ []) (Err (Damaged longest_line)) (reading_at (bs ++ 0 ∷ []) (Some longest_line) b s.0 ∙ ap Some (over_found (bs ++ 0 ∷ []))) ∙ ap (λ k. Err (Damaged k)) (sym s.1)
    ]

byte_zero : All (λ b. b < 256) (0 ∷ [])
byte_zero = All-cons (λ b. b < 256) 0 [] (lit< tt) (All-nil (λ b. b < 256))

open_long : (bs : List ℕ) → reading bs ≡ None → 10 ≤ length bs → IsOpen bs
open_long bs e le =
    let u = undecided bs e in (
      [],
      (0 ∷ []),
      All-nil (λ b. b < 256),
      byte_zero,
      λ same.
          let one = ap head (append-nil bs) ∙ (head_none reading early bs e ∙ early_long 10 bs le) in
          let two = zero_damage bs le u.0 u.1 in
          let clash = sym one ∙ (same ∙ two) in
          let k : length bs ≡ length bs + 1 = cc in absurd (omega (arith, k)),
    )

-- the shortest first line
abbrev pub shortest : List ℕ
shortest = 89 ∷ 85 ∷ 86 ∷ 52 ∷ 77 ∷ 80 ∷ 69 ∷ 71 ∷ 50 ∷ 10 ∷ []

begins_complete : (ws bs : List ℕ) (b : ℕ) → begins ws bs ≡ true → length bs ≤ length ws → bs ++ drop (length bs) (ws ++ b ∷ []) ≡ ws ++ b ∷ []
begins_complete ws [] b e le = refl
begins_complete [] (c ∷ bs) b e le = absurd (omega arith)
begins_complete (w ∷ ws) (c ∷ bs) b e le =
    let parts = and_parts (c == w) (begins ws bs) e in
    let same : c ≡ w = grind (arith, nat_tests) in
    ap (λ x. x ∷ (bs ++ drop (length bs) (ws ++ b ∷ []))) same ∙ ap (λ xs. w ∷ xs) (begins_complete ws bs b parts.1 (omega arith))
  where
    and_parts : (x y : Bool) → (x && y) ≡ true → (x ≡ true) × (y ≡ true)
    and_parts true y e = (refl, e)
    and_parts false y e = cc

abbrev pub AreBytes : List ℕ → Type 0
AreBytes [] = Unit {0}
AreBytes (n ∷ ns) = (n < 256) × AreBytes ns

all_bytes : (ns : List ℕ) → AreBytes ns → All (λ b. b < 256) ns
all_bytes [] h = All-nil (λ b. b < 256)
all_bytes (n ∷ ns) h = All-cons (λ b. b < 256) n ns h.0 (all_bytes ns h.1)

shortest_bytes : All (λ b. b < 256) shortest
shortest_bytes = all_bytes shortest (lit< tt, (lit< tt, (lit< tt, (lit< tt, (lit< tt, (lit< tt, (lit< tt, (lit< tt, (lit< tt, (lit< tt, tt))))))))))

shortest_found : found_at shortest 9 ≡ Err (Damaged 9)
unfolding line_head
shortest_found = refl

shortest_head : head shortest ≡ Err (Damaged 9)
shortest_head = head_some reading early shortest (Err (Damaged 9)) (reading_at shortest (Some 9) refl refl ∙ ap Some shortest_found)

open_short : (bs : List ℕ) → reading bs ≡ None → length bs < 10 → IsOpen bs
open_short bs e lt =
    let u = undecided bs e in
    let rest = drop (length bs) shortest in
    let all : bs ++ rest ≡ shortest = begins_complete magic bs 10 u.0 (omega (arith, lt)) in (
      [],
      rest,
      All-nil (λ b. b < 256),
      All-drop (λ b. b < 256) (length bs) shortest shortest_bytes,
      λ same.
          let one = ap head (append-nil bs) ∙ (head_none reading early bs e ∙ early_short 10 bs lt) in
          let two = ap head all ∙ shortest_head in
          let clash = sym one ∙ (same ∙ two) in cc,
    )

pub is_open : (bs : List ℕ) → reading bs ≡ None → IsOpen bs
is_open bs e = elim (bool_cases (nat_lt (length bs) 10)) [
  | inl s ↦ open_short bs e (grind (arith, nat_tests))
  | inr l ↦ open_long bs e (grind (arith, nat_tests))
]
