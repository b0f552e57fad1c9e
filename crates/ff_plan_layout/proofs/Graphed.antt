-- What is laid out has all its origins, with graphs too.
use Rattle.std.proofs.Common.{◌≡◌, inl, inr, ℕ, suc, ◌+◌, ◌<◌, ◌≤◌, ◌==◌, ◌||◌, Bool, true, false, List, [], ◌∷◌, ◌++◌, map, length, Option, Some, None, refl, sym, ap, ◌∙◌, subst, arith, append_assoc}
use Rattle.std.proofs.lemmas.List.{map-append, append-nil}
use Rattle.std.specs.Prelude.{Ok, nat_lt, slice_get, slice_index_or}
use Rattle.std.specs.List.{AllByRecursion, flat_map, position_or_len}
use Rattle.std.proofs.lemmas.Bool.Decides.{nat_tests}
use Rattle.ff_frame.specs.declared.head.StreamHead.{StreamHead}
use Rattle.ff_lang.specs.declared.graph.Graph.{Graph}
use Rattle.ff_words.specs.declared.job.Job.{Job}
use Rattle.ff_words.specs.declared.maps.streams.Stream.{Stream}
use Rattle.ff_words.specs.maps.Choice.{all_streams}
use Rattle.ff_graph_links.specs.labels.Order.{ComeInOrder, graph_order, feeds, is_in}
use Rattle.ff_plan_layout.specs.declared.layout.InPad.{InPad}
use Rattle.ff_plan_layout.specs.declared.layout.Origin.{Origin}
use Rattle.ff_plan_layout.specs.declared.layout.Origin.TheVariants as origin
use Rattle.ff_plan_layout.specs.declared.layout.OutStream.{OutStream}
use Rattle.ff_plan_layout.specs.declared.error.PlanError.{PlanError}
use Rattle.ff_plan_layout.specs.declared.error.PlanError.TheVariants as fault
use Rattle.ff_plan_layout.specs.Labels.{labels_fault, taken_labels}
use Rattle.ff_plan_layout.specs.Layout.{IsThere, IsLaid, IsAmong, Laid, Layout, placed}
use Rattle.ff_plan_layout.specs.Order.{loop_fault, numbers}
use Rattle.ff_plan_layout.specs.Pads.{Want, Made, made_at, all_wants, make_all, unlabelled, outs_of_made, unlabelled_from}
use Rattle.ff_plan_layout.specs.LaidOut.{layout_of, limited, laid_out, outputs_from, unused_label, simple_graphs}
use Rattle.ff_plan_layout.specs.Rules.{Rules, OpenOut, Planned, behind, unless, where_so}
use Rattle.ff_plan_layout.specs.Sources.{sources_of, sources_fault, source_streams}
use Rattle.ff_plan_layout.specs.Streams.{Inside, Passed, graph_of}
use Rattle.ff_plan_layout.proofs.Among.{all_map, all_flat, place_among, among_right, among_either, among_map, among_flat, each_of, of_flat}
use Rattle.ff_plan_layout.proofs.Tests.{nat_self, hit, miss, is_same}
use Rattle.ff_plan_layout.proofs.Sizes.{joined_length, map_length, place_holds}
use Rattle.ff_plan_layout.proofs.Makings.{Comes, IsShown, IsOpen, IsMade, AreMade, found_is, made_all, shown_in, shown_right, comes_right, ins_come, wants_fit}
use Rattle.ff_plan_layout.proofs.Outs.{was_false, IsFiltered, AreOutputs, Passes, outputs_are, outputs_pass}
use Rattle.ff_plan_layout.proofs.Results.{not_ok, same_ok, behind_ok, unless_ok}

-- ---- the first place in two lists

module _ {A : Type 0} (p : A → Bool) where
  pub place_left : (x : A) (xs ys : List A) → IsAmong x xs → p x ≡ true → position_or_len p (xs ++ ys) < length xs
  place_left x [] ys i e = absurd i
  place_left x (z ∷ zs) ys (inl same) e = (let h = hit p z (zs ++ ys) (ap p same ∙ e) in omega (arith, h))
  place_left x (z ∷ zs) ys (inr i) e = step (p z) refl (place_left x zs ys i e) where
    step : (b : Bool) → p z ≡ b → position_or_len p (zs ++ ys) < length zs → position_or_len p (z ∷ zs ++ ys) < length (z ∷ zs)
    step true h lt = (let k = hit p z (zs ++ ys) h in omega (arith, k))
    step false h lt = (let k = miss p z (zs ++ ys) h in omega (arith, k, lt))

  pub place_right : (xs ys : List A) → AllByRecursion (λ x. p x ≡ false) xs → length xs ≤ position_or_len p (xs ++ ys)
  place_right [] ys all = omega arith
  place_right (x ∷ xs) ys all = (let k = miss p x (xs ++ ys) all.0 in let r = place_right xs ys all.1 in omega (arith, k, r))

pub of_map : {A B : Type 0} (f : A → B) (y : B) (xs : List A) → IsAmong y (map f xs) → (x : A) × IsAmong x xs × (f x ≡ y)
of_map f y [] i = absurd i
of_map f y (x ∷ xs) (inl e) = (x, inl refl, e)
of_map f y (x ∷ xs) (inr i) = (let r = of_map f y xs i in (r.0, inr r.1, r.2))

-- ---- a complex graph among those that were made

abbrev pub graph_number : Made → ℕ
graph_number m = m.laid.graph

none_in : (g : ℕ) (ms : List Made) → is_in (map graph_number ms) g ≡ false → AllByRecursion (λ (m : Made). (m.laid.graph == g) ≡ false) ms
none_in g [] h = tt
none_in g (m ∷ ms) h = step (g == m.laid.graph) refl h (λ k. none_in g ms k) where
  step : (b : Bool) → (g == m.laid.graph) ≡ b → (b || is_in (map graph_number ms) g) ≡ false → (is_in (map graph_number ms) g ≡ false → AllByRecursion (λ (x : Made). (x.laid.graph == g) ≡ false) ms)
      → AllByRecursion (λ (x : Made). (x.laid.graph == g) ≡ false) (m ∷ ms)
  step true e k rest = absurd (let t : true ≡ false = k in grind (arith, nat_tests))
  step false e k rest = ((let off : (m.laid.graph == g) ≡ false = grind (arith, nat_tests) in off), rest k)

module _ (rules : Rules) (graphs : List Graph) (wants : List (List Want)) where
  -- it stands behind these and in front of those, after all that feed it
  pub record Stands (made : List Made) (m : Made) : Type 0 where
    pub front : List Made
    pub rest : List Made
    pub is : front ++ m ∷ rest ≡ made
    pub number : ℕ
    pub how : IsMade rules graphs wants front number m
    pub low : number < length graphs
    pub fresh : AllByRecursion (λ (x : Made). (x.laid.graph == number) ≡ false) front
    pub fed : (a : ℕ) → a < length graphs → feeds graphs a number ≡ true → is_in (map graph_number front) a ≡ true

  abbrev InOrder : List Made → List ℕ → Type 0
  InOrder before order = ComeInOrder (feeds graphs) (length graphs) (map graph_number before) order

  next_order : (before : List Made) (m : Made) (g : ℕ) (gs : List ℕ) → m.laid.graph ≡ g → ComeInOrder (feeds graphs) (length graphs) (map graph_number before ++ g ∷ []) gs → InOrder (before ++ m ∷ []) gs
  next_order before m g gs e come =
      subst (λ (ns : List ℕ). ComeInOrder (feeds graphs) (length graphs) ns gs) (ap (λ (k : ℕ). map graph_number before ++ k ∷ []) (sym e) ∙ sym (map-append graph_number before (m ∷ []))) come

  pub all_stand : (before : List Made) (order : List ℕ) (new : List Made) → AreMade rules graphs wants before order new → InOrder before order → (made : List Made) → before ++ new ≡ made
      → AllByRecursion (Stands made) new
  all_stand before [] [] h come made is = tt
  all_stand before [] (m ∷ ms) h come made is = absurd h
  all_stand before (g ∷ gs) [] h come made is = absurd h
  all_stand before (g ∷ gs) (m ∷ ms) h come made is = (
    record {
      front = before;
      rest = ms;
      is = is;
      number = g;
      how = h.0;
      low = come.0;
      fresh = none_in g before come.1;
      fed = come.2;
    },
    all_stand (before ++ m ∷ []) gs ms h.1 (next_order before m g gs h.0.number come.3) made (append_assoc before (m ∷ []) ms ∙ is),
  )

below_all : (graphs : List Graph) (before xs : List ℕ) → ComeInOrder (feeds graphs) (length graphs) before xs → AllByRecursion (λ g. g < length graphs) xs
below_all graphs before [] come = tt
below_all graphs before (g ∷ gs) come = (come.0, below_all graphs (before ++ g ∷ []) gs come.3)

-- ---- what was made on the way to a layout

abbrev pub inside_of : List (List StreamHead) → Job → List Made → Inside
inside_of heads job made = record { heads = heads; graphs = job.graphs; made = made }

pub record Walked (rules : Rules) (job : Job) (heads : List (List StreamHead)) (l : Layout) : Type 0 where
  pub made : List Made
  pub are_made : AreMade rules job.graphs (all_wants rules heads job.graphs) [] (graph_order job.graphs) made
  pub rows : List (List Passed)
  pub outputs : AreOutputs rules (inside_of heads job made) (length job.graphs) (taken_labels job.graphs) (unlabelled made (numbers job.graphs)) job.outputs rows
  pub is : layout_of rules job heads made rows ≡ l
  pub made_is : make_all rules heads job.graphs ≡ Ok made
  pub rows_are : outputs_from rules (inside_of heads job made) 0 (length job.graphs) (taken_labels job.graphs) (unlabelled made (numbers job.graphs)) job.outputs ≡ Ok rows
  pub labels : labels_fault rules heads job.graphs ≡ None
  pub loops : loop_fault rules job.graphs ≡ None
  pub sources : sources_fault rules 0 job.graphs ≡ None
  pub used : unused_label job ≡ None
  pub few_graphs : length job.graphs + simple_graphs rows ≤ 16
  pub few_sources : length heads + length (sources_of rules job.graphs) ≤ 16

not_many : {Y : Type 0} (k : ℕ) (e : PlanError) (r : Planned Y) (y : Y) → unless (where_so (nat_lt 16 k) e) r ≡ Ok y → k ≤ 16
not_many k e r y h = (let off : nat_lt 16 k ≡ false = was_false (nat_lt 16 k) e r y h in grind (arith, nat_tests, off))

none_of : {Y : Type 0} (o : Option PlanError) (r : Planned Y) (y : Y) → unless o r ≡ Ok y → o ≡ None
none_of None r y h = refl
none_of (Some e) r y h = absurd (not_ok e y h)

module _ (rules : Rules) (job : Job) (heads : List (List StreamHead)) (l : Layout) (come : ComeInOrder (feeds job.graphs) (length job.graphs) [] (graph_order job.graphs)) where
  pub walked : laid_out rules job heads ≡ Ok l → Walked rules job heads l
  walked h =
      let out_of : List Made → Planned (List (List Passed)) = λ made.
      outputs_from rules (inside_of heads job made) 0 (length job.graphs) (taken_labels job.graphs) (unlabelled made (numbers job.graphs)) job.outputs in
      let last : Planned Layout = behind (make_all rules heads job.graphs) (λ made. behind (out_of made) (λ outs. limited rules job heads made outs)) in
      let sound : Planned Layout = unless (sources_fault rules 0 job.graphs) last in
      let next : Planned Layout = unless (loop_fault rules job.graphs) sound in
      let second = unless_ok (labels_fault rules heads job.graphs) next l h in
      let unlooped = unless_ok (loop_fault rules job.graphs) sound l second in
      let third = unless_ok (sources_fault rules 0 job.graphs) last l unlooped in
      let made = behind_ok (make_all rules heads job.graphs) (λ made. behind (out_of made) (λ outs. limited rules job heads made outs)) l third in
      let outs = behind_ok (out_of made.0) (λ outs. limited rules job heads made.0 outs) l made.2 in
      let all = made_all rules job.graphs (all_wants rules heads job.graphs) [] (graph_order job.graphs) made.0 (below_all job.graphs [] (graph_order job.graphs) come) made.1 in
      let many = where_so (nat_lt 16 (length (flat_map (λ ps. ps) outs.0))) fault.TooManyStreams in
      let wide = where_so (nat_lt 16 (length job.graphs + simple_graphs outs.0)) fault.TooManyGraphs in
      let deep = where_so (nat_lt 16 (length heads + length (sources_of rules job.graphs))) fault.TooManySources in
      let done : Planned Layout = Ok (layout_of rules job heads made.0 outs.0) in
      let shallow : Planned Layout = unless deep done in
      let narrow : Planned Layout = unless wide shallow in
      let few : Planned Layout = unless many narrow in
      let used = unless_ok (unused_label job) few l outs.2 in
      let streamed = unless_ok many narrow l used in
      let graphed = unless_ok wide shallow l streamed in
      record {
        made = made.0;
        are_made = subst (λ (ms : List Made). AreMade rules job.graphs (all_wants rules heads job.graphs) [] (graph_order job.graphs) ms) all.1 all.2;
        rows = outs.0;
        outputs = outputs_are rules (inside_of heads job made.0) 0 (length job.graphs) (taken_labels job.graphs) (unlabelled made.0 (numbers job.graphs)) job.outputs outs.0 outs.1;
        is = same_ok (layout_of rules job heads made.0 outs.0) l (unless_ok deep done l graphed);
        made_is = made.1;
        rows_are = outs.1;
        labels = none_of (labels_fault rules heads job.graphs) next l h;
        loops = none_of (loop_fault rules job.graphs) sound l second;
        sources = none_of (sources_fault rules 0 job.graphs) last l unlooped;
        used = none_of (unused_label job) few l outs.2;
        few_graphs = not_many (length job.graphs + simple_graphs outs.0) fault.TooManyGraphs shallow l streamed;
        few_sources = not_many (length heads + length (sources_of rules job.graphs)) fault.TooManySources done l graphed;
      }

-- ---- unlabelled open output pads

module _ (streams : List Stream) (made : List Made) where
  abbrev Held : InPad → Type 0
  Held i = Comes streams made i

  open_in : (m : Made) → IsAmong m made → (done outs : List OpenOut) → done ++ outs ≡ m.outs → AllByRecursion Held (unlabelled_from m.laid.graph (length done) outs)
  open_in m there done [] e = tt
  open_in m there done (out ∷ outs) e = step out.label (open_in m there (done ++ out ∷ []) outs (append_assoc done (out ∷ []) outs ∙ e)) where
    at_end : (xs : List OpenOut) (ys : List OpenOut) (y : OpenOut) → slice_get (xs ++ y ∷ ys) (length xs) ≡ Some y
    at_end [] ys y = refl
    at_end (x ∷ xs) ys y = at_end xs ys y

    one_more : length (done ++ out ∷ []) ≡ suc (length done)
    one_more = (let j = joined_length done (out ∷ []) in omega (arith, j))

    step : (o : Option (List ℕ)) → AllByRecursion Held (unlabelled_from m.laid.graph (length (done ++ out ∷ [])) outs) → AllByRecursion Held (unlabelled_from m.laid.graph (length done) (record { label = o; head = out.head } ∷ outs))
    step (Some t) rest = subst (λ (n : ℕ). AllByRecursion Held (unlabelled_from m.laid.graph n outs)) one_more rest
    step None rest = (
      inr (record { maker = m; there = there; pad = length done; out = out; at = ap (λ (os : List OpenOut). slice_get os (length done)) (sym e) ∙ at_end done outs out; is = refl }),
      subst (λ (n : ℕ). AllByRecursion Held (unlabelled_from m.laid.graph n outs)) one_more rest,
    )

  made_in : (g : ℕ) (o : Option Made) → made_at made g ≡ o → AllByRecursion Held (outs_of_made g o)
  made_in g None e = tt
  made_in g (Some m) e =
      let found = found_is (λ (x : Made). x.laid.graph == g) made m e in
      subst (λ (k : ℕ). AllByRecursion Held (unlabelled_from k 0 m.outs)) (is_same m.laid.graph g found.1) (open_in m found.0 [] m.outs refl)

  pub unlabelled_come : (ns : List ℕ) → AllByRecursion Held (unlabelled made ns)
  unlabelled_come ns = all_flat Held (λ g. outs_of_made g (made_at made g)) ns (λ g i. made_in g (made_at made g) refl)

-- ---- what is there

there_more : (l : Layout) (a b : ℕ) (source : Origin) → a ≤ b → IsThere l a source → IsThere l b source
there_more l a b (origin.Stream s) le is = is
there_more l a b (origin.Pad g p) le is = omega (arith, le, is)

module _ (rules : Rules) (job : Job) (heads : List (List StreamHead)) (made : List Made) (rows : List (List Passed)) where
  abbrev whole : Layout
  whole = layout_of rules job heads made rows

  abbrev simples : List Laid
  simples = flat_map (λ ps. flat_map graph_of ps) rows

  abbrev has : ℕ → Laid → Bool
  has g x = x.graph == g

  abbrev shown : List Stream
  shown = shown_in rules heads job.graphs

  abbrev sources : List Stream
  sources = source_streams (length heads) (sources_of rules job.graphs)

  shown_there : (before : ℕ) (i : InPad) → IsShown shown i → IsThere whole before i.source
  shown_there before i s = subst (λ (j : InPad). IsThere whole before j.source) s.is (s.stream, s.there, refl)

  in_front : (front rest : List Made) → front ++ rest ≡ made → whole.graphs ≡ map (λ m. m.laid) front ++ (map (λ m. m.laid) rest ++ simples)
  in_front front rest e =
      ap (λ (ms : List Made). map (λ m. m.laid) ms ++ simples) (sym e)
      ∙ (ap (λ (ls : List Laid). ls ++ simples) (map-append (λ (m : Made). m.laid) front rest) ∙ append_assoc (map (λ m. m.laid) front) (map (λ m. m.laid) rest) simples)

  open_there : (front rest : List Made) (i : InPad) → front ++ rest ≡ made → IsOpen front i → IsThere whole (length front) i.source
  open_there front rest i e o =
      let g = o.maker.laid.graph in
      let among = among_map (λ (m : Made). m.laid) o.maker front o.there in
      let lt = place_left (has g) o.maker.laid (map (λ m. m.laid) front) (map (λ m. m.laid) rest ++ simples) among (nat_self g) in
      let long = map_length (λ (m : Made). m.laid) front in
      let here : position_or_len (has g) whole.graphs < length front = subst (λ (ls : List Laid). position_or_len (has g) ls < length front) (sym (in_front front rest e)) (omega (arith, lt, long)) in
      subst (λ (j : InPad). IsThere whole (length front) j.source) o.is here

  comes_there : (front rest : List Made) (i : InPad) → front ++ rest ≡ made → Comes shown front i → IsThere whole (length front) i.source
  comes_there front rest i e (inl s) = shown_there (length front) i s
  comes_there front rest i e (inr o) = open_there front rest i e o

  fresh_laid : (g : ℕ) (ms : List Made) → AllByRecursion (λ (x : Made). (x.laid.graph == g) ≡ false) ms → AllByRecursion (λ x. has g x ≡ false) (map (λ m. m.laid) ms)
  fresh_laid g [] all = tt
  fresh_laid g (m ∷ ms) all = (all.0, fresh_laid g ms all.1)

  module _ (come : ComeInOrder (feeds job.graphs) (length job.graphs) [] (graph_order job.graphs)) (are : AreMade rules job.graphs (all_wants rules heads job.graphs) [] (graph_order job.graphs) made) where
    pub stand : AllByRecursion (Stands rules job.graphs (all_wants rules heads job.graphs) made) made
    stand = all_stand rules job.graphs (all_wants rules heads job.graphs) [] (graph_order job.graphs) made are come made refl

    -- inputs of a complex graph
    pub ins_from : (m : Made) (s : Stands rules job.graphs (all_wants rules heads job.graphs) made m) → AllByRecursion (Comes shown s.front) m.laid.ins
    ins_from m s = subst (λ (is : List InPad). AllByRecursion (Comes shown s.front) is) (sym s.how.ins)
        (ins_come rules heads job.graphs s.front (rules.open_ins s.how.text) (slice_index_or (all_wants rules heads job.graphs) s.number []) (wants_fit rules heads job.graphs [] job.graphs s.number s.how.text s.how.there))

    complex_there : (m : Made) (i : InPad) → IsAmong m made → IsAmong i m.laid.ins → IsThere whole (position_or_len (has m.laid.graph) whole.graphs) i.source
    complex_there m i im ii =
        let s = each_of (Stands rules job.graphs (all_wants rules heads job.graphs) made) m made stand im in
        let from = each_of (Comes shown s.front) i m.laid.ins (ins_from m s) ii in
        let there = comes_there s.front (m ∷ s.rest) i s.is from in
        let low = place_right (has s.number) (map (λ m. m.laid) s.front) (map (λ m. m.laid) (m ∷ s.rest) ++ simples) (fresh_laid s.number s.front s.fresh) in
        let long = map_length (λ (m : Made). m.laid) s.front in
        let le : length s.front ≤ position_or_len (has m.laid.graph) whole.graphs =
        subst (λ (k : ℕ). length s.front ≤ position_or_len (has k) whole.graphs) (sym s.how.number)
        (subst (λ (ls : List Laid). length s.front ≤ position_or_len (has s.number) ls) (sym (in_front s.front (m ∷ s.rest) s.is)) (omega (arith, low, long))) in
        there_more whole (length s.front) (position_or_len (has m.laid.graph) whole.graphs) i.source le there

    -- a simple graph shows a stream of an input
    no_pad : (a : Origin) (s : _) → a ≡ origin.Stream s → (g p : ℕ) → a ≡ origin.Pad g p → ⊥
    no_pad a s e g p f = subst (λ (o : Origin). is_stream o) (sym e ∙ f) tt where
      is_stream : Origin → Type 0
      is_stream (origin.Stream r) = Unit {0}
      is_stream (origin.Pad x y) = ⊥

    simple_shown : (out : _) (g : ℕ) (i : InPad) (p : Passed) → IsFiltered rules out g i p → Comes (all_streams heads) made i → IsShown (all_streams heads) i
    simple_shown out g i p f (inl s) = s
    simple_shown out g i p f (inr o) = absurd (no_pad i.source f.at f.from o.maker.laid.graph o.pad (sym (ap (λ (j : InPad). j.source) o.is)))

    abbrev Passing : Passed → Type 0
    Passing p = Passes rules (record { heads = heads; graphs = job.graphs; made = made }) p

    simple_ins : (before : ℕ) (x : Laid) (i : InPad) (p : Passed) → Passing p → IsAmong x (graph_of p) → IsAmong i x.ins → IsThere whole before i.source
    simple_ins before x i p w ix ii = elim w.how [
      | inl e ↦ absurd (subst (λ (q : Passed). IsAmong x (graph_of q)) (sym e) ix)
      | inr f ↦ elim (subst (λ (q : Passed). IsAmong x (graph_of q)) (sym f.is) ix) [
        | inl same ↦ elim (subst (λ (y : Laid). IsAmong i y.ins) (sym same) ii) [
          | inl e ↦ subst (λ (j : InPad). IsThere whole before j.source) e (shown_there before w.pad (shown_right sources (all_streams heads) w.pad (simple_shown w.out w.graph w.pad p f w.from)))
          | inr none ↦ absurd none
        ]
        | inr none ↦ absurd none
      ]
    ]

    passed_there : (ps : List Passed) (p : Passed) → IsAmong ps rows → IsAmong p ps → Passing p → IsThere whole (length whole.graphs) p.what.source
    passed_there ps p ips ip w = elim w.how [
      | inl e ↦ subst (λ (q : Passed). IsThere whole (length whole.graphs) q.what.source) e
          (let low = comes_there made [] w.pad (append-nil made) (comes_right sources (all_streams heads) made w.pad w.from) in
          let long = joined_length (map (λ (m : Made). m.laid) made) simples in let same = map_length (λ (m : Made). m.laid) made in
          there_more whole (length made) (length whole.graphs) w.pad.source (omega (arith, long, same)) low)
      | inr f ↦ subst (λ (q : Passed). IsThere whole (length whole.graphs) q.what.source) f.is
          (let x : Laid = record { graph = w.graph; ins = w.pad ∷ [] } in
          let among = among_flat (λ ps. flat_map graph_of ps) x ps rows ips (among_flat graph_of x p ps ip (subst (λ (q : Passed). IsAmong x (graph_of q)) f.is (inl refl))) in
          place_among (has w.graph) x whole.graphs (among_right x (map (λ m. m.laid) made) simples among) (nat_self w.graph))
    ]

    abbrev There : OutStream → Type 0
    There s = IsThere whole (length whole.graphs) s.source

    pub all_laid : AllByRecursion (λ ps. AllByRecursion Passing ps) rows → IsLaid whole
    all_laid pass = record {
      graphs = λ g i ig ii. elim (among_either g (map (λ m. m.laid) made) simples ig) [
        | inl a ↦ (let r = of_map (λ (m : Made). m.laid) g made a in
            subst (λ (x : Laid). IsThere whole (position_or_len (has x.graph) whole.graphs) i.source) r.2 (complex_there r.0 i r.1 (subst (λ (x : Laid). IsAmong i x.ins) (sym r.2) ii)))
        | inr b ↦ (let x = of_flat (λ ps. flat_map graph_of ps) g rows b in let y = of_flat graph_of g x.0 x.2 in
            simple_ins (position_or_len (has g.graph) whole.graphs) g i y.0 (each_of Passing y.0 x.0 (each_of (λ ps. AllByRecursion Passing ps) x.0 rows pass x.1) y.1) y.2 ii)
      ];
      streams = λ p ip. each_of (λ p. There p.what) p (placed whole) (place_holds There 0 0 whole.outputs (all_map (λ row. AllByRecursion There row) (λ ps. map (λ p. p.what) ps) rows (λ ps ips.
          all_map There (λ p. p.what) ps (λ p ip. passed_there ps p ips ip (each_of Passing p ps (each_of (λ ps. AllByRecursion Passing ps) ps rows pass ips) ip))))) ip;
    }

module _ (rules : Rules) (job : Job) (heads : List (List StreamHead)) (l : Layout) (come : ComeInOrder (feeds job.graphs) (length job.graphs) [] (graph_order job.graphs)) where
  pub walked_laid : Walked rules job heads l → IsLaid l
  walked_laid w =
      let pass = outputs_pass rules (inside_of heads job w.made) (length job.graphs) (taken_labels job.graphs) (unlabelled w.made (numbers job.graphs)) job.outputs w.rows w.outputs
      (unlabelled_come (all_streams heads) w.made (numbers job.graphs)) in
      subst IsLaid w.is (all_laid rules job heads w.made w.rows come w.are_made pass)

  pub laid : laid_out rules job heads ≡ Ok l → IsLaid l
  laid h = walked_laid (walked rules job heads l come h)
