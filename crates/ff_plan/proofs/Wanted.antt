-- The stream of a source is wanted once at most: by a pad of a complex graph, and by nothing else.
use Rattle.std.proofs.Common.{◌≡◌, inl, inr, ℕ, suc, ◌+◌, ◌<◌, ◌≤◌, nat_le, Bool, true, false, cond, List, [], ◌∷◌, ◌++◌, length, Option, Some, None, refl, ap, ◌∙◌, subst, arith}
use Rattle.std.specs.Prelude.{slice_get}
use Rattle.std.specs.List.{find, filter_map, cons_option}
use Rattle.std.proofs.lemmas.Bool.Decides.{nat_tests}
use Rattle.ff_stream.specs.edges.Ports.{tally}
use Rattle.ff_frame.specs.declared.head.StreamHead.{StreamHead}
use Rattle.ff_lang.specs.declared.graph.Graph.{Graph}
use Rattle.ff_source.specs.declared.made.Made.{Made as SourceMade}
use Rattle.ff_words.specs.declared.maps.map.MapFrom.{MapFrom}
use Rattle.ff_words.specs.declared.maps.map.MapFrom.TheVariants as from
use Rattle.ff_words.specs.declared.maps.map.MapSpec.{MapSpec}
use Rattle.ff_words.specs.declared.maps.streams.Stream.{Stream}
use Rattle.ff_words.specs.maps.Choice.{all_streams, selected}
use Rattle.ff_plan_layout.specs.declared.layout.InPad.{InPad}
use Rattle.ff_plan_layout.specs.declared.layout.Want.{Want}
use Rattle.ff_plan_layout.specs.declared.layout.Want.TheVariants.{KnownStream, Labelled, Nothing}
use Rattle.ff_plan_layout.specs.declared.open_pads.OpenIn.{OpenIn}
use Rattle.ff_plan_layout.specs.Labels.{giver, first_known, stream_of_label, stream_of_map, stream_of_spec}
use Rattle.ff_plan_layout.specs.Layout.{IsAmong, same_ref, shows}
use Rattle.ff_plan_layout.specs.declared.layout.Made.{Made}
use Rattle.ff_plan_layout.specs.Pads.{is_free, is_source, known_or_nothing, labelled_out, made_at, pad_in, want_at, want_by, want_of, want_of_giver, wants_from, wants_of}
use Rattle.ff_plan_layout.specs.Rules.{Rules}
use Rattle.ff_plan_layout.specs.Sources.{made_at_pad}
use Rattle.ff_plan_layout.proofs.Among.{never}
use Rattle.ff_plan_layout.proofs.Counts.{total, tally_joined}
use Rattle.ff_plan_layout.proofs.Kept.{nothing, same_some}
use Rattle.ff_plan_layout.proofs.Known.{known_among}
use Rattle.ff_plan_layout.proofs.Makings.{found_is, labelled_open}
use Rattle.ff_plan_layout.proofs.Sizes.{less_or}
use Rattle.ff_plan.proofs.Spots.{known_in, left_test}

-- ---- what a label names is a stream of an input

spec_in : (heads : List (List StreamHead)) (optional : Bool) (spec : MapFrom) (k : Stream) → IsAmong k (stream_of_map heads optional spec) → IsAmong k (all_streams heads)
spec_in heads true spec k i = absurd i
spec_in heads false (from.Input file p) k i = known_among heads (selected (from.Input file p) heads) k i
spec_in heads false (from.Label l) k i = absurd i

map_in : (heads : List (List StreamHead)) (o : Option MapSpec) (k : Stream) → IsAmong k (stream_of_spec heads o) → IsAmong k (all_streams heads)
map_in heads None k i = absurd i
map_in heads (Some spec) k i = spec_in heads spec.optional spec.from k i

first_in : (ks : List Stream) (k : Stream) → first_known ks ≡ Some k → IsAmong k ks
first_in [] k h = absurd (nothing k h)
first_in (j ∷ js) k h = inl (same_some j k h)

-- ---- pads in the order of writing

module _ (rules : Rules) (heads : List (List StreamHead)) (graphs : List Graph) (sources : List Stream) (s : Stream) (j : ℕ) (number : s.at.input ≡ length heads + j)
    (numbered : (c : ℕ) (t : Stream) → slice_get sources c ≡ Some t → t.at.input ≡ length heads + c) where
  abbrev n : ℕ
  n = length heads

  -- the pad gets this stream
  abbrev pub Own : Want → Bool
  Own (KnownStream k) = same_ref s.at k.at
  Own (Labelled g l) = false
  Own Nothing = false

  -- how many sources these pads got
  abbrev count : List Want → ℕ
  count before = tally (is_source n) before

  abbrev wants : List Want → List OpenIn → List Want
  wants before is = wants_of rules sources heads graphs before is

  -- that pad is the next one that gets a source
  abbrev IsNext : List Want → Want → Type 0
  IsNext before w = Own w ≡ true → (count before ≡ j) × (is_source n w ≡ true)

  next_known : (before : List Want) (o : Option Stream) → ((k : Stream) → o ≡ Some k → IsAmong k (all_streams heads)) → IsNext before (known_or_nothing o)
  next_known before None among e = absurd (never e)
  next_known before (Some k) among e = absurd
      (let same = left_test s.at.input k.at.input s.at.stream k.at.stream e in let lt = known_in 0 heads k (among k refl) in omega (arith, same, lt, number))

  next_source : (before : List Want) (o : Option Stream) → slice_get sources (count before) ≡ o → IsNext before (known_or_nothing o)
  next_source before None at e = absurd (never e)
  next_source before (Some t) at e =
      let same = left_test s.at.input t.at.input s.at.stream t.at.stream e in
      let own = numbered (count before) t at in
      let high : n ≤ t.at.input = omega (arith, own) in
      (omega (arith, same, number, own), (let on : nat_le n t.at.input ≡ true = grind (arith, nat_tests, high) in on))

  next_giver : (before : List Want) (label : List ℕ) (o : Option ℕ) → IsNext before (want_of_giver (stream_of_label rules heads label) label o)
  next_giver before label None e = next_known before (stream_of_label rules heads label)
      (λ k h. map_in heads (rules.map_of label) k (first_in (stream_of_spec heads (rules.map_of label)) k h)) e
  next_giver before label (Some g) e = absurd (never e)

  next_of : (before : List Want) (i : OpenIn) (o : Option (List ℕ)) → IsNext before (want_of rules heads graphs before i.kind o)
  next_of before i (Some label) = next_giver before label (giver graphs label)
  next_of before i None = next_known before (find (is_free i.kind before) (all_streams heads)) (λ k h. (found_is (is_free i.kind before) (all_streams heads) k h).0)

  next_by : (before : List Want) (i : OpenIn) (o : Option SourceMade) → IsNext before (want_by rules sources heads graphs before i o)
  next_by before i None = next_of before i i.label
  next_by before i (Some m) = next_source before (slice_get sources (count before)) refl

  -- Of the pads behind these one gets the stream at most, none where as many sources were got; and then so many are.
  record IsFew (before ws : List Want) : Type 0 where
    few : tally Own ws ≤ 1
    none : j < count before → tally Own ws ≡ 0
    passed : 1 ≤ tally Own ws → j < count before + count ws

  row_few : (before : List Want) (is : List OpenIn) → IsFew before (wants before is)
  row_few before [] = record { few = omega arith; none = λ lt. refl; passed = λ h. absurd (omega (arith, h)) }
  row_few before (i ∷ is) = step (Own w) refl (row_few (before ++ w ∷ []) is) where
    w : Want
    w = want_at rules sources heads graphs before i

    rest : List Want
    rest = wants (before ++ w ∷ []) is

    more : count (before ++ w ∷ []) ≡ count before + count (w ∷ [])
    more = tally_joined (is_source n) before (w ∷ [])

    both : count (w ∷ rest) ≡ count (w ∷ []) + count rest
    both = tally_joined (is_source n) (w ∷ []) rest

    step : (b : Bool) → Own w ≡ b → IsFew (before ++ w ∷ []) rest → IsFew before (w ∷ rest)
    step true e r =
        let next = next_by before i (made_at_pad i) e in
        let here = next.0 in
        let one : count (w ∷ []) ≡ 1 = ap (λ (b : Bool). cond b 1 0) next.1 in
        let is : tally Own (w ∷ rest) ≡ suc (tally Own rest) = ap (λ (b : Bool). cond b (suc (tally Own rest)) (tally Own rest)) e in
        let zero_ = r.none (let m = more in omega (arith, m, one, here)) in
        record {
          few = omega (arith, is, zero_);
          none = λ lt. absurd (omega (arith, lt, here));
          passed = λ h. (let b = both in omega (arith, b, one, here));
        }
    step false e r =
        let is : tally Own (w ∷ rest) ≡ tally Own rest = ap (λ (b : Bool). cond b (suc (tally Own rest)) (tally Own rest)) e in
        record {
          few = (let f = r.few in omega (arith, is, f));
          none = λ lt. is ∙ r.none (let m = more in omega (arith, m, lt));
          passed = λ h. (let p = r.passed (omega (arith, is, h)) in let m = more in let b = both in omega (arith, p, m, b));
        }

  rows_few : (before : List Want) (gs : List Graph) → (total (tally Own) (wants_from rules sources heads graphs before gs) ≤ 1)
      × (j < count before → total (tally Own) (wants_from rules sources heads graphs before gs) ≡ 0)
  rows_few before [] = (omega arith, λ lt. refl)
  rows_few before (g ∷ gs) =
      let row = wants before (rules.open_ins g) in
      let here = row_few before (rules.open_ins g) in
      let rest = rows_few (before ++ row) gs in
      let few = here.few in let less = rest.0 in
      let more = tally_joined (is_source n) before row in (
        elim (less_or (tally Own row) 1) [
          | inl lt ↦ omega (arith, lt, less)
          | inr le ↦ (let p = here.passed le in let z = rest.1 (omega (arith, p, more)) in omega (arith, few, z))
        ],
        λ lt. (let a = here.none lt in let b = rest.1 (omega (arith, lt, more)) in omega (arith, a, b)),
      )

  -- one pad of all graphs at most
  pub all_few : total (tally Own) (wants_from rules sources heads graphs [] graphs) ≤ 1
  all_few = (rows_few [] graphs).0

  -- ---- the inputs of a graph behind these

  abbrev pub shown : InPad → Bool
  shown i = shows s.at i.source

  labelled_hidden : (label : List ℕ) (ms : List Made) (g : ℕ) (o : Option InPad) → labelled_out label (made_at ms g) ≡ o → tally shown (cons_option o []) ≡ 0
  labelled_hidden label ms g None e = refl
  labelled_hidden label ms g (Some i) e = subst (λ (x : InPad). tally shown (x ∷ []) ≡ 0) (labelled_open label ms g i e).is refl

  one_shown : (ms : List Made) (w : Want) → tally shown (cons_option (pad_in ms w) []) ≡ tally Own (w ∷ [])
  one_shown ms (KnownStream k) = refl
  one_shown ms (Labelled g label) = labelled_hidden label ms g (labelled_out label (made_at ms g)) refl
  one_shown ms Nothing = refl

  join_option : (o : Option InPad) (rest : List InPad) → tally shown (cons_option o rest) ≡ tally shown (cons_option o []) + tally shown rest
  join_option None rest = omega arith
  join_option (Some i) rest = tally_joined shown (i ∷ []) rest

  pub ins_shown : (ms : List Made) (ws : List Want) → tally shown (filter_map (pad_in ms) ws) ≡ tally Own ws
  ins_shown ms [] = refl
  ins_shown ms (w ∷ ws) =
      let here = one_shown ms w in let rest = ins_shown ms ws in
      let a = join_option (pad_in ms w) (filter_map (pad_in ms) ws) in let b = tally_joined Own (w ∷ []) ws in
      omega (arith, here, rest, a, b)
