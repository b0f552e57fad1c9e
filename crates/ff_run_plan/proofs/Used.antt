-- The streams of an input that are used, by number.
use Rattle.std.proofs.Common.{◌≡◌, ◌⊎◌, inl, inr, ℕ, zero, suc, ◌+◌, ◌<◌, ◌≤◌, Bool, true, false, cond, List, [], ◌∷◌, ◌++◌, map, length, slice_get, unwrap_or, Option, Some, refl, sym, ap, ◌∙◌, subst, arith, append_assoc, length-append}
use Rattle.std.specs.List.{AllByRecursion, cons_option, filter}
use Rattle.std.proofs.lemmas.List.{append-nil, length-map}
use Rattle.std.proofs.lemmas.List.Elements.{filter-append}
use Rattle.std.proofs.lemmas.Option.{slice_get_within}
use Rattle.ff_frame.specs.declared.head.StreamHead.{StreamHead}
use Rattle.ff_words.specs.declared.maps.streams.Stream.{Stream}
use Rattle.ff_words.specs.maps.Choice.{numbered, streams_from}
use Rattle.ff_run_plan.specs.Kinds.{AreUsed, RiseFrom, used_heads}
use Rattle.ff_run_plan.proofs.Numbers.{there}

-- ---- the first of those that are used

pub used_first : (streams : List StreamHead) (used : List ℕ) → AreUsed streams used → (h : StreamHead) × (hs : List StreamHead) × (used_heads streams used ≡ h ∷ hs)
used_first streams [] are = absurd (let some = are.some in omega (arith, some))
used_first streams (n ∷ ns) are =
    let h = there streams n are.there.0 in
    (h.0, used_heads streams ns, ap (λ (o : Option StreamHead). cons_option o (used_heads streams ns)) h.1)

equal_or : (a i : ℕ) → (a ≡ i) ⊎ (a ≡ i → ⊥)
equal_or zero zero = inl refl
equal_or zero (suc i) = inr (λ e. omega (arith, e))
equal_or (suc a) zero = inr (λ e. omega (arith, e))
equal_or (suc a) (suc i) = elim (equal_or a i) [
  | inl e ↦ inl (ap suc e)
  | inr n ↦ inr (λ e. n (omega (arith, e)))
]

at_end : (gone : List StreamHead) (h : StreamHead) (hs : List StreamHead) → slice_get (gone ++ h ∷ hs) (length gone) ≡ Some h
at_end [] h hs = refl
at_end (g ∷ gone) h hs = at_end gone h hs

-- ---- those of an input that are shown

abbrev Own : ℕ → (Stream → Bool) → Type 0
Own i shown = (s : Stream) → shown s ≡ true → s.at.input ≡ i

abbrev numbers : List Stream → List ℕ
numbers ss = map (λ (s : Stream). s.at.stream) ss

abbrev heads : List Stream → List StreamHead
heads ss = map (λ (s : Stream). s.head) ss

module _ (i : ℕ) (shown : Stream → Bool) (own : Own i shown) where
  -- none is of another input
  none_in : (a k : ℕ) (hs : List StreamHead) → (a ≡ i → ⊥) → filter shown (numbered a k hs) ≡ []
  none_in a k [] other = refl
  none_in a k (h ∷ hs) other = step (shown (record { at = record { input = a; stream = k }; head = h })) refl (none_in a (k + 1) hs other) where
    step : (b : Bool) → shown (record { at = record { input = a; stream = k }; head = h }) ≡ b → filter shown (numbered a (k + 1) hs) ≡ []
        → cond b (record { at = record { input = a; stream = k }; head = h } ∷ filter shown (numbered a (k + 1) hs)) (filter shown (numbered a (k + 1) hs)) ≡ []
    step true e none = absurd (other (own (record { at = record { input = a; stream = k }; head = h }) e))
    step false e none = none

  none_later : (a : ℕ) (rows : List (List StreamHead)) → i < a → filter shown (streams_from a rows) ≡ []
  none_later a [] lt = refl
  none_later a (row ∷ rows) lt =
      filter-append shown (numbered a 0 row) (streams_from (a + 1) rows)
      ∙ (ap (λ (ss : List Stream). ss ++ filter shown (streams_from (a + 1) rows)) (none_in a 0 row (λ e. omega (arith, lt, e))) ∙ none_later (a + 1) rows (omega (arith, lt)))

  -- all are of one input, which is there where there is one
  abbrev InRow : ℕ → List (List StreamHead) → Type 0
  InRow a rows = (j : ℕ) × (row : List StreamHead) × (i ≡ a + j) × (slice_get rows j ≡ Some row) × (filter shown (streams_from a rows) ≡ filter shown (numbered i 0 row))

  pub in_row : (a : ℕ) (rows : List (List StreamHead)) → 1 ≤ length (filter shown (streams_from a rows)) → InRow a rows
  in_row a [] some = absurd (omega (arith, some))
  in_row a (row ∷ rows) some = elim (equal_or a i) [
    | inl e ↦ (
      0,
      row,
      omega (arith, e),
      refl,
      filter-append shown (numbered a 0 row) (streams_from (a + 1) rows)
          ∙ (ap (λ (ss : List Stream). filter shown (numbered a 0 row) ++ ss) (none_later (a + 1) rows (omega (arith, e)))
          ∙ (append-nil (filter shown (numbered a 0 row)) ∙ ap (λ (n : ℕ). filter shown (numbered n 0 row)) e)),
    )
    | inr other ↦
        let rest : filter shown (streams_from a (row ∷ rows)) ≡ filter shown (streams_from (a + 1) rows) =
        filter-append shown (numbered a 0 row) (streams_from (a + 1) rows) ∙ ap (λ (ss : List Stream). ss ++ filter shown (streams_from (a + 1) rows)) (none_in a 0 row other) in
        let more = in_row (a + 1) rows (subst (λ (ss : List Stream). 1 ≤ length ss) rest some) in
        let j_is = more.2 in
        (suc more.0, more.1, omega (arith, j_is), more.3, rest ∙ more.4)
  ]

  -- of some streams of an input, the first of which has number k, those that are shown have numbers that rise from there on, and so have their heads
  record AreNumbered (all : List StreamHead) (k : ℕ) (hs : List StreamHead) : Type 0 where
    pub rise : RiseFrom k (numbers (filter shown (numbered i k hs)))
    pub there : AllByRecursion (λ n. n < length all) (numbers (filter shown (numbered i k hs)))
    pub heads : used_heads all (numbers (filter shown (numbered i k hs))) ≡ heads (filter shown (numbered i k hs))

  module _ (all : List StreamHead) where
    rise_later : (k : ℕ) (ns : List ℕ) → RiseFrom (k + 1) ns → RiseFrom k ns
    rise_later k [] rise = tt
    rise_later k (n ∷ ns) rise = (let le = rise.0 in omega (arith, le), rise.1)

    abbrev stream : ℕ → StreamHead → Stream
    stream k h = record { at = record { input = i; stream = k }; head = h }

    numbered_step : (k : ℕ) (h : StreamHead) (hs : List StreamHead) → slice_get all k ≡ Some h → (b : Bool) → shown (stream k h) ≡ b → AreNumbered all (k + 1) hs → AreNumbered all k (h ∷ hs)
    numbered_step k h hs at b e rest =
        subst (λ (ss : List Stream). RiseFrom k (numbers ss) × AllByRecursion (λ n. n < length all) (numbers ss) × (used_heads all (numbers ss) ≡ heads ss) → AreNumbered all k (h ∷ hs))
        (ap (λ (c : Bool). cond c (stream k h ∷ filter shown (numbered i (k + 1) hs)) (filter shown (numbered i (k + 1) hs))) e)
        (λ all_three. record { rise = all_three.0; there = all_three.1; heads = all_three.2 })
        (by b)
      where
        by : (c : Bool)
            → RiseFrom k (numbers (cond c (stream k h ∷ filter shown (numbered i (k + 1) hs)) (filter shown (numbered i (k + 1) hs))))
            × AllByRecursion (λ n. n < length all) (numbers (cond c (stream k h ∷ filter shown (numbered i (k + 1) hs)) (filter shown (numbered i (k + 1) hs))))
            × (used_heads all (numbers (cond c (stream k h ∷ filter shown (numbered i (k + 1) hs)) (filter shown (numbered i (k + 1) hs))))
            ≡ heads (cond c (stream k h ∷ filter shown (numbered i (k + 1) hs)) (filter shown (numbered i (k + 1) hs))))
        by true = (
          (omega arith, rest.rise),
          (slice_get_within all k h at, rest.there),
          ap (λ (o : Option StreamHead). cons_option o (used_heads all (numbers (filter shown (numbered i (k + 1) hs))))) at ∙ ap (λ (xs : List StreamHead). h ∷ xs) rest.heads,
        )
        by false = (rise_later k (numbers (filter shown (numbered i (k + 1) hs))) rest.rise, rest.there, rest.heads)

    are_numbered : (gone hs : List StreamHead) → gone ++ hs ≡ all → AreNumbered all (length gone) hs
    are_numbered gone [] e = record { rise = tt; there = tt; heads = refl }
    are_numbered gone (h ∷ hs) e =
        let at : slice_get all (length gone) ≡ Some h = subst (λ (xs : List StreamHead). slice_get xs (length gone) ≡ Some h) e (at_end gone h hs) in
        let longer : length (gone ++ h ∷ []) ≡ length gone + 1 = length-append gone (h ∷ []) in
        numbered_step (length gone) h hs at (shown (stream (length gone) h)) refl
        (subst (λ (n : ℕ). AreNumbered all n hs) longer (are_numbered (gone ++ h ∷ []) hs (append_assoc gone (h ∷ []) hs ∙ e)))

-- The streams of input i that are shown, of one at least, are used, and have these heads.
pub record AreShown (rows : List (List StreamHead)) (i : ℕ) (ss : List Stream) : Type 0 where
  pub row : List StreamHead
  pub at : slice_get rows i ≡ Some row
  pub used : AreUsed row (numbers ss)
  pub heads : used_heads row (numbers ss) ≡ heads ss

pub are_shown : (rows : List (List StreamHead)) (i : ℕ) (shown : Stream → Bool) → Own i shown → 1 ≤ length (filter shown (streams_from 0 rows))
    → AreShown rows i (filter shown (streams_from 0 rows))
are_shown rows i shown own some =
    let here = in_row i shown own 0 rows some in
    let j_is = here.2 in
    let is_i : here.0 ≡ i = omega (arith, j_is) in
    let n = are_numbered i shown own here.1 [] here.1 refl in
    let same = here.4 in
    subst (λ (ss : List Stream). AreShown rows i ss) (sym same) (record {
      row = here.1;
      at = subst (λ (j : ℕ). slice_get rows j ≡ Some here.1) is_i here.3;
      used = record {
        some = (let some_here = subst (λ (ss : List Stream). 1 ≤ length ss) same some in let long = length-map (filter shown (numbered i 0 here.1)) (λ (s : Stream). s.at.stream) in omega (arith, some_here, long));
        rise = n.rise;
        there = n.there;
      };
      heads = n.heads;
    })

-- ---- lists of all inputs

module _ {H : Type 0} (streams : H → List StreamHead) where
  pub row_of : (hs : List H) (i : ℕ) (row : List StreamHead) → slice_get (map streams hs) i ≡ Some row → (h : H) × (slice_get hs i ≡ Some h) × (streams h ≡ row)
  row_of [] i row e = absurd cc
  row_of (h ∷ hs) zero row e = (h, refl, (let same : Some (streams h) ≡ Some row = e in cc))
  row_of (h ∷ hs) (suc i) row e = row_of hs i row e

  -- a stream is one of an input's
  pub stream_of : (hs : List H) (i n : ℕ) (head : StreamHead) → slice_get (unwrap_or (slice_get (map streams hs) i) []) n ≡ Some head
      → (h : H) × (slice_get hs i ≡ Some h) × (slice_get (streams h) n ≡ Some head)
  stream_of [] i n head e = absurd cc
  stream_of (h ∷ hs) zero n head e = (h, refl, e)
  stream_of (h ∷ hs) (suc i) n head e = stream_of hs i n head e
