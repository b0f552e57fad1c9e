-- Events of one output stream or source, among those that all nodes of a plan have to tell.
use Rattle.std.proofs.Common.{◌≡◌, ◌≢◌, ◌⊎◌, inl, inr, ℕ, ◌+◌, ◌-◌, ◌<◌, ◌≤◌, Bool, true, false, cond, List, [], ◌∷◌, filter, length, slice_get, slice_index_or, Option, None, Some, refl, ap, ◌∙◌, arith}
use Rattle.std.specs.Prelude.{All, nat_eq}
use Rattle.std.proofs.lemmas.Bool.Decides.{nat_tests}
use Rattle.std.proofs.lemmas.Bool.{cases_lt}
use Rattle.std.proofs.lemmas.List.{length-map}
use Rattle.std.proofs.lemmas.List.Elements.{All-head, All-tail}
use Rattle.ff_stream.specs.declared.item.Lane.{Lane}
use Rattle.ff_stream.specs.Lanes.{head_of}
use Rattle.ff_time.specs.declared.cut.TimeCut.{TimeCut}
use Rattle.ff_trim.specs.declared.counted.OutputCut.{OutputCut}
use Rattle.ff_frame.specs.declared.head.StreamHead.{StreamHead}
use Rattle.ff_frame.specs.declared.event.Event.{Event}
use Rattle.ff_frame.specs.declared.event.Event.TheVariants.{Grant, Sent, Finished, Best, Exited}
use Rattle.ff_stream.specs.declared.edges.edge.Edge.{Edge}
use Rattle.ff_stream.specs.edges.Ports.{lanes_into, lanes_out_of}
use Rattle.ff_lang.specs.declared.graph.Graph.{Graph}
use Rattle.ff_source.specs.declared.made.Made.{Made}
use Rattle.ff_words.specs.declared.job.OutputJob.{OutputJob}
use Rattle.ff_net.specs.Pasts.{Feed}
use Rattle.ff_plan.specs.declared.planned.PlanNode.{PlanNode}
use Rattle.ff_plan.specs.declared.planned.PlanNode.TheVariants as node
use Rattle.ff_run_plan.specs.Asked.{Asked}
use Rattle.ff_run_plan.specs.Kinds.{KindsOf, is_of_stream}
use Rattle.ff_run_plan.specs.Meaning.{task_by}
use Rattle.ff_run_plan.specs.Tasks.{first_at, cuts_at, first_head, heads_on, demux_by, gen_by, dec_by, graph_by, shortest_by, enc_by, mux_by}
use Rattle.ff_run_plan.specs.Events.{is_among, is_of_streams, is_best_of, ChangeBest, is_exit_of, TellOfThemselves, PlansTellAlone}
use Rattle.ff_run_plan.specs.Parts.{AreOrdered, source_at}
use Rattle.ff_run_plan.proofs.Gathering.{source_once}
use Rattle.ff_run_plan.proofs.StreamNumbers.{numbers_apart}

-- ---- kinds of events

pub same_number : (j o : ℕ) → nat_eq j o ≡ true → j ≡ o
same_number j o e = grind (arith, nat_tests)

pub itself : (o j : ℕ) → j ≡ o → nat_eq j o ≡ true
itself o j e = grind (arith, nat_tests)

other_number : (j o o' : ℕ) → o' ≢ o → nat_eq j o' ≡ true → nat_eq j o ≡ false
other_number j o o' other e = let same = same_number j o' e in grind (arith, nat_tests)

-- none of so many numbers
abbrev IsOutside : ℕ → ℕ → ℕ → Type 0
IsOutside n first count = (n < first) ⊎ (first + count ≤ n)

among_first : (first count j : ℕ) → is_among first count j ≡ true → first ≤ j
among_first first count j e = grind (arith, nat_tests)

among_last : (first count j : ℕ) → is_among first count j ≡ true → j < first + count
among_last first count j e = grind (arith, nat_tests)

not_outside : (n first count j : ℕ) → IsOutside n first count → is_among first count j ≡ true → j ≡ n → ⊥
not_outside n first count j (inl lt) e same = (let le = among_first first count j e in omega (arith, lt, le, same))
not_outside n first count j (inr le) e same = (let lt = among_last first count j e in omega (arith, lt, le, same))

outside_number : (n first count j : ℕ) → IsOutside n first count → is_among first count j ≡ true → nat_eq j n ≡ false
outside_number n first count j out e = other_number j n j (λ same. not_outside n first count j out e same) (itself j j refl)

-- an event of some streams is none of another
other_stream : (n first count : ℕ) → IsOutside n first count → (e : Event) → is_of_streams first count e ≡ true → is_of_stream n e ≡ false
other_stream n first count out (Grant s) is = refl
other_stream n first count out (Sent j t) is = outside_number n first count j out is
other_stream n first count out (Finished j) is = outside_number n first count j out is
other_stream n first count out (Best g i) is = refl
other_stream n first count out (Exited s) is = refl

no_exit : (i first count : ℕ) (e : Event) → is_of_streams first count e ≡ true → is_exit_of i e ≡ false
no_exit i first count (Grant s) is = refl
no_exit i first count (Sent j t) is = refl
no_exit i first count (Finished j) is = refl
no_exit i first count (Best g k) is = refl
no_exit i first count (Exited s) is = absurd cc

-- none that another input is the best of a graph is of another kind, and all are of their own
change_none : (kind : Event → Bool) (g best : ℕ) (es : List Event) → ((i : ℕ) → kind (Best g i) ≡ false) → ChangeBest g best es → filter kind es ≡ []
change_none kind g best [] apart c = refl
change_none kind g best (Grant s ∷ es) apart c = absurd c
change_none kind g best (Sent j t ∷ es) apart c = absurd c
change_none kind g best (Finished j ∷ es) apart c = absurd c
change_none kind g best (Best h i ∷ es) apart c =
    ap (λ (b : Bool). cond b (Best h i ∷ filter kind es) (filter kind es)) (ap (λ (n : ℕ). kind (Best n i)) c.0 ∙ apart i) ∙ change_none kind g i es apart c.2
change_none kind g best (Exited s ∷ es) apart c = absurd c

pub change_all : (g best : ℕ) (es : List Event) → ChangeBest g best es → filter (is_best_of g) es ≡ es
change_all g best [] c = refl
change_all g best (Grant s ∷ es) c = absurd c
change_all g best (Sent j t ∷ es) c = absurd c
change_all g best (Finished j ∷ es) c = absurd c
change_all g best (Best h i ∷ es) c =
    ap (λ (b : Bool). cond b (Best h i ∷ filter (is_best_of g) es) (filter (is_best_of g) es)) (itself g h c.0) ∙ ap (λ (xs : List Event). Best h i ∷ xs) (change_all g i es c.2)
change_all g best (Exited s ∷ es) c = absurd c

no_best : (g first count : ℕ) (e : Event) → is_of_streams first count e ≡ true → is_best_of g e ≡ false
no_best g first count (Grant s) is = refl
no_best g first count (Sent j t) is = refl
no_best g first count (Finished j) is = refl
no_best g first count (Best h i) is = absurd cc
no_best g first count (Exited s) is = refl

none_kept : (kind own : Event → Bool) → ((e : Event) → own e ≡ true → kind e ≡ false) → (es : List Event) → All (λ e. own e ≡ true) es → filter kind es ≡ []
none_kept kind own apart [] all = refl
none_kept kind own apart (e ∷ es) all =
    ap (λ (b : Bool). cond b (e ∷ filter kind es) (filter kind es)) (apart e (All-head (λ e. own e ≡ true) e es all))
    ∙ none_kept kind own apart es (All-tail (λ e. own e ≡ true) e es all)

-- ---- nodes

module _ {H : Type 0} (is : KindsOf H) (own : TellOfThemselves is) (asked : Asked) (heads : List H) (bytes : List (List ℕ))
    (nodes : List PlanNode) (edges : List Edge) (feeds : List Feed) where
  -- of a kind that no event of an output is of, and no exit but of one input
  demux_none : (kind : Event → Bool) (i : ℕ) → kind (Exited i) ≡ false → (head : Option H) (used text : List ℕ)
      → filter kind ((demux_by is i head used text).tells feeds) ≡ []
  demux_none kind i apart None used text = refl
  demux_none kind i apart (Some head) used text =
      ap (filter kind) (own.demuxer i head used text feeds) ∙ ap (λ (b : Bool). cond b (Exited i ∷ []) []) apart

  gen_none : (kind : Event → Bool) (i : ℕ) → kind (Exited i) ≡ false → (made : Option Made) → filter kind ((gen_by is i made).tells feeds) ≡ []
  gen_none kind i apart None = refl
  gen_none kind i apart (Some made) =
      ap (filter kind) (own.generator i made feeds) ∙ ap (λ (b : Bool). cond b (Exited i ∷ []) []) apart

  dec_none : (kind : Event → Bool) (head : Option StreamHead) (cut : TimeCut) (n : ℕ) → filter kind ((dec_by is head cut n).tells feeds) ≡ []
  dec_none kind None cut n = refl
  dec_none kind (Some head) cut n = ap (filter kind) (own.decoder head cut n feeds)

  enc_none : (kind : Event → Bool) (head coded : Option StreamHead) → filter kind ((enc_by is head coded).tells feeds) ≡ []
  enc_none kind None coded = refl
  enc_none kind (Some head) None = refl
  enc_none kind (Some head) (Some coded) = ap (filter kind) (own.encoder head coded feeds)

  graph_none : (kind : Event → Bool) (g : ℕ) (text : Option Graph) (framed : List StreamHead) (cuts : List OutputCut) → ((i : ℕ) → kind (Best g i) ≡ false)
      → filter kind ((graph_by is g text framed cuts).tells feeds) ≡ []
  graph_none kind g None framed cuts apart = refl
  graph_none kind g (Some text) framed cuts apart = change_none kind g 0 ((is.graph_task g text framed cuts).tells feeds) apart (own.graph g text framed cuts feeds)

  shortest_none : (kind : Event → Bool) (out : Option OutputJob) (framed : List StreamHead) → filter kind ((shortest_by is out framed).tells feeds) ≡ []
  shortest_none kind None framed = refl
  shortest_none kind (Some out) framed = ap (filter kind) (own.shortest out.shortest framed feeds)

  mux_none : (kind : Event → Bool) (first : ℕ) (out : Option OutputJob) (coded : List StreamHead) → ((e : Event) → is_of_streams first (length coded) e ≡ true → kind e ≡ false)
      → filter kind ((mux_by is first out coded).tells feeds) ≡ []
  mux_none kind first None coded apart = refl
  mux_none kind first (Some out) coded apart =
      none_kept kind (is_of_streams first (length coded)) apart ((is.mux_task first out coded).tells feeds) (own.muxer first out coded feeds)

  -- a node that has no such stream tells nothing of it
  none_of_stream : (t j : ℕ) (n : Option PlanNode) → ((o : ℕ) → n ≡ Some (node.Mux o) → IsOutside t (first_at asked nodes edges j) (length (heads_on (lanes_into edges j))))
      → filter (is_of_stream t) ((task_by is asked heads bytes nodes edges n j).tells feeds) ≡ []
  none_of_stream t j None other = refl
  none_of_stream t j (Some (node.Demux i)) other = demux_none (is_of_stream t) i refl (slice_get heads i) (asked.used i) (slice_index_or bytes i [])
  none_of_stream t j (Some (node.Gen i)) other = gen_none (is_of_stream t) i refl (asked.made i)
  none_of_stream t j (Some (node.Dec at)) other = dec_none (is_of_stream t) (first_head (lanes_into edges j)) (asked.cut at.input) (length (lanes_out_of edges j))
  none_of_stream t j (Some (node.Graph g)) other = graph_none (is_of_stream t) g (asked.text g) (heads_on (lanes_into edges j)) (cuts_at asked nodes edges j) (λ i. refl)
  none_of_stream t j (Some (node.Shortest p)) other = shortest_none (is_of_stream t) (slice_get asked.outputs p) (heads_on (lanes_into edges j))
  none_of_stream t j (Some (node.Enc p q)) other = enc_none (is_of_stream t) (first_head (lanes_into edges j)) (first_head (lanes_out_of edges j))
  none_of_stream t j (Some (node.Mux p)) other =
      mux_none (is_of_stream t) (first_at asked nodes edges j) (slice_get asked.outputs p) (heads_on (lanes_into edges j))
      (other_stream t (first_at asked nodes edges j) (length (heads_on (lanes_into edges j))) (other p refl))

  -- nor that a source has exited
  none_of_source : (i j : ℕ) (n : Option PlanNode) → (source_at n ≡ Some i → ⊥)
      → filter (is_exit_of i) ((task_by is asked heads bytes nodes edges n j).tells feeds) ≡ []
  none_of_source i j None other = refl
  none_of_source i j (Some (node.Demux p)) other =
      demux_none (is_exit_of i) p (other_number p i p (λ e. other (ap (λ (m : ℕ). Some m) e)) (itself p p refl)) (slice_get heads p) (asked.used p) (slice_index_or bytes p [])
  none_of_source i j (Some (node.Gen p)) other =
      gen_none (is_exit_of i) p (other_number p i p (λ e. other (ap (λ (m : ℕ). Some m) e)) (itself p p refl)) (asked.made p)
  none_of_source i j (Some (node.Dec at)) other = dec_none (is_exit_of i) (first_head (lanes_into edges j)) (asked.cut at.input) (length (lanes_out_of edges j))
  none_of_source i j (Some (node.Graph g)) other = graph_none (is_exit_of i) g (asked.text g) (heads_on (lanes_into edges j)) (cuts_at asked nodes edges j) (λ k. refl)
  none_of_source i j (Some (node.Shortest p)) other = shortest_none (is_exit_of i) (slice_get asked.outputs p) (heads_on (lanes_into edges j))
  none_of_source i j (Some (node.Enc p q)) other = enc_none (is_exit_of i) (first_head (lanes_into edges j)) (first_head (lanes_out_of edges j))
  none_of_source i j (Some (node.Mux p)) other =
      mux_none (is_exit_of i) (first_at asked nodes edges j) (slice_get asked.outputs p) (heads_on (lanes_into edges j)) (no_exit i (first_at asked nodes edges j) (length (heads_on (lanes_into edges j))))

  -- nor of the best input of a graph
  none_of_best : (g j : ℕ) (n : Option PlanNode) → n ≢ Some (node.Graph g) → filter (is_best_of g) ((task_by is asked heads bytes nodes edges n j).tells feeds) ≡ []
  none_of_best g j None other = refl
  none_of_best g j (Some (node.Demux p)) other = demux_none (is_best_of g) p refl (slice_get heads p) (asked.used p) (slice_index_or bytes p [])
  none_of_best g j (Some (node.Gen p)) other = gen_none (is_best_of g) p refl (asked.made p)
  none_of_best g j (Some (node.Dec at)) other = dec_none (is_best_of g) (first_head (lanes_into edges j)) (asked.cut at.input) (length (lanes_out_of edges j))
  none_of_best g j (Some (node.Graph h)) other =
      graph_none (is_best_of g) h (asked.text h) (heads_on (lanes_into edges j)) (cuts_at asked nodes edges j) (λ i. other_number h g h (λ e. other (ap (λ (m : ℕ). Some (node.Graph m)) e)) (itself h h refl))
  none_of_best g j (Some (node.Shortest p)) other = shortest_none (is_best_of g) (slice_get asked.outputs p) (heads_on (lanes_into edges j))
  none_of_best g j (Some (node.Enc p q)) other = enc_none (is_best_of g) (first_head (lanes_into edges j)) (first_head (lanes_out_of edges j))
  none_of_best g j (Some (node.Mux p)) other =
      mux_none (is_best_of g) (first_at asked nodes edges j) (slice_get asked.outputs p) (heads_on (lanes_into edges j)) (no_best g (first_at asked nodes edges j) (length (heads_on (lanes_into edges j))))

-- ---- the numbers of a plan's nodes

-- the streams at another Mux node have other numbers
others_streams : (inputs : ℕ) (asked : Asked) (nodes : List PlanNode) (edges : List Edge) → AreOrdered inputs (length asked.outputs) nodes → (j k p o t : ℕ)
    → slice_get nodes j ≡ Some (node.Mux p) → slice_get nodes k ≡ Some (node.Mux o) → j ≢ k → t < length (lanes_into edges k)
    → IsOutside (first_at asked nodes edges k + t) (first_at asked nodes edges j) (length (heads_on (lanes_into edges j)))
others_streams inputs asked nodes edges ordered j k p o t here there other lt =
    let low = length nodes - length asked.outputs in
    let jp = ordered.muxes_at j p here in
    let ko = ordered.muxes_at k o there in
    let many : length (heads_on (lanes_into edges j)) ≡ length (lanes_into edges j) = length-map (lanes_into edges j) (λ (l : Lane). head_of l) in
    elim (cases_lt j k) [
      | inl before ↦ inr (let le = numbers_apart edges low j k (omega (arith, jp)) before in omega (arith, le, many))
      | inr ge ↦ elim (cases_lt k j) [
        | inl behind ↦ inl (let le = numbers_apart edges low k j (omega (arith, ko)) behind in omega (arith, le, lt))
        | inr le ↦ absurd (other (omega (arith, ge, le)))
      ]
    ]

pub plans_tell_alone : {H : Type 0} (is : KindsOf H) → TellOfThemselves is → PlansTellAlone is
plans_tell_alone is own asked heads bytes nodes edges i ordered = record {
  output = λ count k o t at lt. record {
    no_grant = λ s. refl;
    no_other = λ j feeds ltj other. none_of_stream is own asked heads bytes nodes edges feeds (first_at asked nodes edges k + t) j (slice_get nodes j)
        (λ p here. others_streams i asked nodes edges ordered j k p o t here at other lt);
  };
  best = λ count k g at. record {
    no_grant = λ s. refl;
    no_other = λ j feeds lt other. none_of_best is own asked heads bytes nodes edges feeds g j (slice_get nodes j) (λ at'. other (ordered.graphs_once j k g at' at));
  };
  source = λ count k m at. record {
    no_grant = λ s. refl;
    no_other = λ j feeds lt other. none_of_source is own asked heads bytes nodes edges feeds m j (slice_get nodes j)
        (λ at'. other (source_once i (length asked.outputs) nodes ordered j k m at' at));
  };
}
