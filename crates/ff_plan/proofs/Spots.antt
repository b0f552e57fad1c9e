-- The places of streams: none stands twice, and those of sources stand behind those of inputs.
use Rattle.std.proofs.Common.{◌≡◌, inl, inr, ℕ, zero, suc, ◌+◌, ◌<◌, ◌≤◌, ◌==◌, ◌&&◌, Bool, true, false, cond, List, [], ◌∷◌, ◌++◌, map, length, Some, refl, sym, ap, ◌∙◌, arith}
use Rattle.std.specs.Prelude.{slice_get}
use Rattle.std.proofs.lemmas.Bool.Decides.{nat_tests}
use Rattle.ff_stream.specs.edges.Ports.{tally}
use Rattle.ff_frame.specs.declared.head.StreamHead.{StreamHead}
use Rattle.ff_source.specs.declared.made.Made.{Made}
use Rattle.ff_source.specs.Sources.{head_of}
use Rattle.ff_words.specs.declared.maps.streams.Stream.{Stream}
use Rattle.ff_words.specs.declared.maps.streams.StreamRef.{StreamRef}
use Rattle.ff_words.specs.maps.Choice.{numbered, streams_from, all_streams}
use Rattle.ff_plan_layout.specs.Layout.{IsAmong, same_ref}
use Rattle.ff_plan_layout.specs.Sources.{source_streams}
use Rattle.ff_plan_layout.proofs.Among.{among_either}
use Rattle.ff_plan_layout.proofs.Counts.{tally_joined, tally_none}
use Rattle.ff_plan_layout.proofs.Kept.{nothing, same_some}
use Rattle.ff_plan_layout.proofs.Sizes.{less_or}

-- ---- the inputs of streams

known_row : (input stream : ℕ) (hs : List StreamHead) (k : Stream) → IsAmong k (numbered input stream hs) → k.at.input ≡ input
known_row input stream [] k i = absurd i
known_row input stream (h ∷ hs) k (inl e) = sym (ap (λ (k : Stream). k.at.input) e)
known_row input stream (h ∷ hs) k (inr i) = known_row input (stream + 1) hs k i

pub known_in : (input : ℕ) (rows : List (List StreamHead)) (k : Stream) → IsAmong k (streams_from input rows) → k.at.input < input + length rows
known_in input [] k i = absurd i
known_in input (row ∷ rows) k i = elim (among_either k (numbered input 0 row) (streams_from (input + 1) rows) i) [
  | inl j ↦ (let e = known_row input 0 row k j in omega (arith, e))
  | inr j ↦ (let lt = known_in (input + 1) rows k j in omega (arith, lt))
]

pub known_from : (input : ℕ) (rows : List (List StreamHead)) (k : Stream) → IsAmong k (streams_from input rows) → input ≤ k.at.input
known_from input [] k i = absurd i
known_from input (row ∷ rows) k i = elim (among_either k (numbered input 0 row) (streams_from (input + 1) rows) i) [
  | inl j ↦ (let e = known_row input 0 row k j in omega (arith, e))
  | inr j ↦ (let le = known_from (input + 1) rows k j in omega (arith, le))
]

-- what makes the stream of a source
pub source_at : (n : ℕ) (made : List Made) (s : Stream) → IsAmong s (source_streams n made)
    → (j : ℕ) × (m : Made) × (s.at.input ≡ n + j) × (slice_get made j ≡ Some m) × (s.head ≡ head_of m)
source_at n [] s i = absurd i
source_at n (m ∷ ms) s (inl e) = (0, m, (let f = ap (λ (q : Stream). q.at.input) e in omega (arith, f)), refl, sym (ap (λ (q : Stream). q.head) e))
source_at n (m ∷ ms) s (inr i) = (let r = source_at (n + 1) ms s i in let e = r.2 in (suc r.0, r.1, omega (arith, e), r.3, r.4))

-- its number
pub number_of_source : (n : ℕ) (made : List Made) (c : ℕ) (s : Stream) → slice_get (source_streams n made) c ≡ Some s → s.at.input ≡ n + c
number_of_source n [] c s e = absurd (nothing s e)
number_of_source n (m ∷ ms) zero s e = (let f = ap (λ (q : Stream). q.at.input) (same_some _ s e) in omega (arith, f))
number_of_source n (m ∷ ms) (suc c) s e = (let r = number_of_source (n + 1) ms c s e in omega (arith, r))

-- ---- no place stands twice

pub left_test : (a k b p : ℕ) → ((a == k) && (b == p)) ≡ true → a ≡ k
left_test a k b p h = grind (arith, nat_tests)

right_test : (a k b p : ℕ) → ((a == k) && (b == p)) ≡ true → b ≡ p
right_test a k b p h = grind (arith, nat_tests)

pub same_place : (s r : StreamRef) → same_ref s r ≡ true → s ≡ r
same_place s r h =
    ap (λ (i : ℕ). record { input = i; stream = s.stream }) (left_test s.input r.input s.stream r.stream h)
    ∙ ap (λ (t : ℕ). record { input = r.input; stream = t }) (right_test s.input r.input s.stream r.stream h)

row_high : (r : StreamRef) (n k : ℕ) (hs : List StreamHead) → r.stream < k → tally (λ (s : Stream). same_ref s.at r) (numbered n k hs) ≡ 0
row_high r n k [] lt = refl
row_high r n k (h ∷ hs) lt =
    let off : ((n == r.input) && (k == r.stream)) ≡ false = grind (arith, nat_tests, lt) in
    ap (λ (b : Bool). cond b (suc (tally (λ (s : Stream). same_ref s.at r) (numbered n (k + 1) hs))) (tally (λ (s : Stream). same_ref s.at r) (numbered n (k + 1) hs))) off
    ∙ row_high r n (k + 1) hs (omega (arith, lt))

row_other : (r : StreamRef) (n k : ℕ) (hs : List StreamHead) → r.input < n → tally (λ (s : Stream). same_ref s.at r) (numbered n k hs) ≡ 0
row_other r n k [] lt = refl
row_other r n k (h ∷ hs) lt =
    let off : ((n == r.input) && (k == r.stream)) ≡ false = grind (arith, nat_tests, lt) in
    ap (λ (b : Bool). cond b (suc (tally (λ (s : Stream). same_ref s.at r) (numbered n (k + 1) hs))) (tally (λ (s : Stream). same_ref s.at r) (numbered n (k + 1) hs))) off
    ∙ row_other r n (k + 1) hs lt

row_few : (r : StreamRef) (n k : ℕ) (hs : List StreamHead) → (tally (λ (s : Stream). same_ref s.at r) (numbered n k hs) ≤ 1) × (n < r.input → tally (λ (s : Stream). same_ref s.at r) (numbered n k hs) ≡ 0)
row_few r n k [] = (omega arith, λ lt. refl)
row_few r n k (h ∷ hs) = step ((n == r.input) && (k == r.stream)) refl (row_few r n (k + 1) hs) where
  step : (b : Bool) → ((n == r.input) && (k == r.stream)) ≡ b
      → (tally (λ (s : Stream). same_ref s.at r) (numbered n (k + 1) hs) ≤ 1) × (n < r.input → tally (λ (s : Stream). same_ref s.at r) (numbered n (k + 1) hs) ≡ 0)
      → (cond b (suc (tally (λ (s : Stream). same_ref s.at r) (numbered n (k + 1) hs))) (tally (λ (s : Stream). same_ref s.at r) (numbered n (k + 1) hs)) ≤ 1)
      × (n < r.input → cond b (suc (tally (λ (s : Stream). same_ref s.at r) (numbered n (k + 1) hs))) (tally (λ (s : Stream). same_ref s.at r) (numbered n (k + 1) hs)) ≡ 0)
  step true e rest =
      let here : r.stream < k + 1 = grind (arith, nat_tests, e) in
      let z = row_high r n (k + 1) hs here in
      (omega (arith, z), λ lt. absurd (let same : n ≡ r.input = grind (arith, nat_tests, e) in omega (arith, same, lt)))
  step false e rest = rest

rows_low : (r : StreamRef) (n : ℕ) (rows : List (List StreamHead)) → r.input < n → tally (λ (s : Stream). same_ref s.at r) (streams_from n rows) ≡ 0
rows_low r n [] lt = refl
rows_low r n (row ∷ rows) lt =
    let j = tally_joined (λ (s : Stream). same_ref s.at r) (numbered n 0 row) (streams_from (n + 1) rows) in
    let a = row_other r n 0 row lt in let b = rows_low r (n + 1) rows (omega (arith, lt)) in
    omega (arith, j, a, b)

rows_few : (r : StreamRef) (n : ℕ) (rows : List (List StreamHead)) → tally (λ (s : Stream). same_ref s.at r) (streams_from n rows) ≤ 1
rows_few r n [] = omega arith
rows_few r n (row ∷ rows) =
    let j = tally_joined (λ (s : Stream). same_ref s.at r) (numbered n 0 row) (streams_from (n + 1) rows) in
    let a = row_few r n 0 row in let few = a.0 in let rest = rows_few r (n + 1) rows in
    elim (less_or n r.input) [
      | inl lt ↦ (let z = a.1 lt in omega (arith, j, z, rest))
      | inr le ↦ (let z = rows_low r (n + 1) rows (omega (arith, le)) in omega (arith, j, z, few))
    ]

-- an input's number is below those of sources
pub places_few : (r : StreamRef) (heads : List (List StreamHead)) (made : List Made)
    → tally (λ (s : Stream). same_ref s.at r) (source_streams (length heads) made ++ all_streams heads) ≤ 1
places_few r heads made =
    let p : Stream → Bool = λ s. same_ref s.at r in
    let j = tally_joined p (source_streams (length heads) made) (all_streams heads) in
    elim (less_or r.input (length heads)) [
      | inl lt ↦ (let z = rows_low r (length heads) (map (λ m. head_of m ∷ []) made) lt in let few = rows_few r 0 heads in omega (arith, j, z, few))
      | inr le ↦ (let few = rows_few r (length heads) (map (λ m. head_of m ∷ []) made) in
          let z = tally_none p (all_streams heads) (λ s i.
          (let lt = known_in 0 heads s i in let off : ((s.at.input == r.input) && (s.at.stream == r.stream)) ≡ false = grind (arith, nat_tests, lt, le) in off)) in
          omega (arith, j, z, few))
    ]
