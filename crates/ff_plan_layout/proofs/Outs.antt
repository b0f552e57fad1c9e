-- What the streams of outputs are made of.
use Rattle.std.proofs.Common.{◌≡◌, ◌⊎◌, inl, inr, ℕ, ◌+◌, ◌<◌, ◌==◌, ◌||◌, Bool, true, false, not, cond, List, [], ◌∷◌, ◌++◌, map, length, Option, Some, None, refl, sym, ap, ◌∙◌, subst, arith}
use Rattle.std.specs.Prelude.{Ok, Err, Result, nat_lt}
use Rattle.std.specs.List.{AllByRecursion, filter, flat_map, list_any, cons_option, position_or_len}
use Rattle.std.proofs.lemmas.Bool.Decides.{nat_tests}
use Rattle.ff_frame.specs.declared.head.StreamHead.{StreamHead}
use Rattle.ff_frame.specs.declared.config.ConfigError.TheVariants as config
use Rattle.ff_lang.specs.declared.graph.Graph.{Graph}
use Rattle.ff_words.specs.declared.maps.map.Kind.TheVariants as kind
use Rattle.ff_words.specs.declared.maps.map.MapFrom.{MapFrom}
use Rattle.ff_words.specs.declared.maps.map.MapFrom.TheVariants as from
use Rattle.ff_words.specs.declared.maps.map.MapSpec.{MapSpec}
use Rattle.ff_words.specs.declared.maps.streams.Stream.{Stream}
use Rattle.ff_words.specs.declared.maps.streams.StreamRef.{StreamRef}
use Rattle.ff_words.specs.maps.Choice.{all_streams, selected}
use Rattle.ff_words.specs.declared.job.OutputJob.{OutputJob}
use Rattle.ff_graph_links.specs.labels.Labels.{is_one_of, filters_of, given_in}
use Rattle.ff_graph_links.specs.labels.Names.{twice_in, unknown_filter}
use Rattle.ff_plan_layout.specs.declared.layout.InPad.{InPad}
use Rattle.ff_plan_layout.specs.declared.layout.Origin.{Origin}
use Rattle.ff_plan_layout.specs.declared.layout.Origin.TheVariants as origin
use Rattle.ff_plan_layout.specs.declared.error.PlanError.{PlanError}
use Rattle.ff_plan_layout.specs.declared.error.PlanError.TheVariants as fault
use Rattle.ff_plan_layout.specs.Choice.{kind_of, known, best}
use Rattle.ff_graph_links.specs.labels.Clear.{IsClear}
use Rattle.ff_plan_layout.specs.Labels.{refused, is_given, giver}
use Rattle.ff_plan_layout.specs.Layout.{IsAmong}
use Rattle.ff_plan_layout.specs.Pads.{made_at, labelled_out}
use Rattle.ff_plan_layout.specs.LaidOut.{labels_of, graphs_of, outputs_from}
use Rattle.ff_plan_layout.specs.Rules.{Rules, OpenOut, Refused, Planned, behind, unless, where_so}
use Rattle.ff_plan_layout.specs.Sources.{source_pad}
use Rattle.ff_plan_layout.specs.Streams.{Inside, Passed, as_pad, is_kept, is_wanted, label_pad, mapped, all_mapped, label_in, front_with, automatic, asked, some_or, chosen, takes, through, configured_simple, simply, null_graph, passed_by, passed_from, as_asked, passed, graph_of, all_passed, simple_of, packed_as}
use Rattle.ff_plan_layout.proofs.Among.{all_joined, all_map, was_among}
use Rattle.ff_plan_layout.proofs.Known.{known_among}
use Rattle.ff_plan_layout.proofs.Makings.{Comes, labelled_open, shown_among}
use Rattle.ff_plan_layout.proofs.Given.{no_refusal, own_clear}
use Rattle.ff_plan_layout.proofs.AsAsked.{asked_ok}
use Rattle.ff_plan_layout.proofs.Results.{not_ok, not_so, same_ok, behind_ok, unless_none, unless_ok}

-- ---- a test that was passed

pub was_false : {Y : Type 0} (b : Bool) (e : PlanError) (r : Planned Y) (y : Y) → unless (where_so b e) r ≡ Ok y → b ≡ false
was_false true e r y h = absurd (not_ok e y h)
was_false false e r y h = refl

pub not_false : (b : Bool) → not b ≡ false → b ≡ true
not_false true h = refl
not_false false h = absurd (let t : true ≡ false = h in grind (arith, nat_tests))

-- the graph that gives a given label
joined_any : {A : Type 0} (p : A → Bool) (xs ys : List A) → list_any p (xs ++ ys) ≡ (list_any p xs || list_any p ys)
joined_any p [] ys = refl
joined_any p (x ∷ xs) ys = step (p x) (joined_any p xs ys) where
  step : (b : Bool) → list_any p (xs ++ ys) ≡ (list_any p xs || list_any p ys) → (b || list_any p (xs ++ ys)) ≡ ((b || list_any p xs) || list_any p ys)
  step true e = refl
  step false e = e

giver_below : (label : List ℕ) (gs : List Graph) → is_one_of label (flat_map given_in gs) ≡ true → position_or_len (λ g. is_one_of label (given_in g)) gs < length gs
giver_below label [] h = absurd (let t : false ≡ true = h in grind (arith, nat_tests))
giver_below label (g ∷ gs) h =
    step (is_one_of label (given_in g)) (sym (joined_any _ (given_in g) (flat_map given_in gs)) ∙ h) (giver_below label gs) where
      step : (b : Bool) → (b || is_one_of label (flat_map given_in gs)) ≡ true
          → (is_one_of label (flat_map given_in gs) ≡ true → position_or_len (λ x. is_one_of label (given_in x)) gs < length gs)
          → cond (not b) (1 + position_or_len (λ x. is_one_of label (given_in x)) gs) 0 < length (g ∷ gs)
      step true e rest = omega arith
      step false e rest = (let lt = rest e in omega (arith, lt))

pub given_some : (graphs : List Graph) (label : List ℕ) → is_given graphs label ≡ true → (g : ℕ) × (giver graphs label ≡ Some g)
given_some graphs label h =
    let at = position_or_len (λ g. is_one_of label (given_in g)) graphs in
    let lt = giver_below label graphs h in
    let on : nat_lt at (length graphs) ≡ true = grind (arith, nat_tests) in
    (at, ap (λ (b : Bool). cond b (Some at) None) on)

-- ---- what an output asks for

-- streams of inputs
abbrev pub AreStreams : List (List StreamHead) → List InPad → Type 0
AreStreams heads pads = (ks : List Stream) × ((k : Stream) → IsAmong k ks → IsAmong k (all_streams heads)) × (map as_pad ks ≡ pads)

module _ (inside : Inside) where
  abbrev pub IsMapped : List (List ℕ) → List InPad → MapFrom → Type 0
  IsMapped used pads (from.Input file p) = AreStreams inside.heads pads
  IsMapped used pads (from.Label label) = (g : ℕ) × (giver inside.graphs label ≡ Some g) × (is_one_of label used ≡ false) × (cons_option (labelled_out label (made_at inside.made g)) [] ≡ pads)

  abbrev pub AreMapped : List (List ℕ) → List MapSpec → List InPad → Type 0
  AreMapped used [] pads = [] ≡ pads
  AreMapped used (spec ∷ specs) pads = (a : List InPad) × (b : List InPad) × IsMapped used a spec.from × AreMapped (label_in spec.from ++ used) specs b × (a ++ b ≡ pads)

  abbrev pub AreAsked : List (List ℕ) → List MapSpec → List InPad → Type 0
  AreAsked used [] pads = AreStreams inside.heads pads
  AreAsked used (spec ∷ specs) pads = AreMapped used (spec ∷ specs) pads

  abbrev pub AreChosen : OutputJob → List (List ℕ) → List InPad → List InPad → Type 0
  AreChosen out used before pads = (new : List InPad) × AreAsked used out.maps new × (before ++ new ≡ pads)

  mapped_is : (out : OutputJob) (o m : ℕ) (used : List (List ℕ)) (optional : Bool) (spec : MapFrom) (pads : List InPad) → mapped inside out o m used optional spec ≡ Ok pads → IsMapped used pads spec
  mapped_is out o m used optional (from.Input file p) pads h =
      let refs = selected (from.Input file p) inside.heads in
      let ks = filter (is_kept out) (known inside.heads refs) in
      (ks, λ k i. known_among inside.heads refs k (was_among (is_kept out) k (known inside.heads refs) i).0, same_ok (map as_pad ks) pads (unless_ok _ (Ok (map as_pad ks)) pads h))
  mapped_is out o m used optional (from.Label label) pads h =
      let second = unless_ok (where_so (not (is_given inside.graphs label)) (fault.UnknownLabel label)) (unless (where_so (is_one_of label used) (fault.LabelTwice label)) (Ok (label_pad inside label (giver inside.graphs label)))) pads h in
      let given = not_false (is_given inside.graphs label) (was_false (not (is_given inside.graphs label)) (fault.UnknownLabel label) (unless (where_so (is_one_of label used) (fault.LabelTwice label)) (Ok (label_pad inside label (giver inside.graphs label)))) pads h) in
      let new = was_false (is_one_of label used) (fault.LabelTwice label) (Ok (label_pad inside label (giver inside.graphs label))) pads second in
      let is = same_ok (label_pad inside label (giver inside.graphs label)) pads (unless_ok (where_so (is_one_of label used) (fault.LabelTwice label)) (Ok (label_pad inside label (giver inside.graphs label))) pads second) in
      let by = given_some inside.graphs label given in
      (by.0, by.1, new, sym (ap (λ (o : Option ℕ). label_pad inside label o) by.1) ∙ is)

  all_is : (out : OutputJob) (o m : ℕ) (used : List (List ℕ)) (specs : List MapSpec) (pads : List InPad) → all_mapped inside out o m used specs ≡ Ok pads → AreMapped used specs pads
  all_is out o m used [] pads h = same_ok [] pads h
  all_is out o m used (spec ∷ specs) pads h =
      let first = behind_ok (mapped inside out o m used spec.optional spec.from) (λ ps. front_with ps (all_mapped inside out o (m + 1) (label_in spec.from ++ used) specs)) pads h in
      let rest = behind_ok (all_mapped inside out o (m + 1) (label_in spec.from ++ used) specs) (λ ys. Ok (first.0 ++ ys)) pads first.2 in
      (first.0, rest.0, mapped_is out o m used spec.optional spec.from first.0 first.1, all_is out o (m + 1) (label_in spec.from ++ used) specs rest.0 rest.1, same_ok (first.0 ++ rest.0) pads rest.2)

  asked_is : (out : OutputJob) (o : ℕ) (used : List (List ℕ)) (before : List InPad) (maps : List MapSpec) (pads : List InPad) → asked inside out o used before maps ≡ Ok pads → AreAsked used maps pads
  asked_is out o used before [] pads h =
      let refs = best inside.heads (is_wanted out before kind.Video) (is_wanted out before kind.Audio) in
      (known inside.heads refs, λ k i. known_among inside.heads refs k i, same_ok (automatic inside out before) pads h)
  asked_is out o used before (m ∷ ms) pads h = all_is out o 0 used (m ∷ ms) pads h

  some_is : (o : ℕ) (is pads : List InPad) → some_or o is ≡ Ok pads → is ≡ pads
  some_is o [] pads h = absurd (not_ok _ pads h)
  some_is o (i ∷ is) pads h = same_ok (i ∷ is) pads h

  pub chosen_is : (out : OutputJob) (o : ℕ) (used : List (List ℕ)) (before pads : List InPad) → chosen inside out o used before ≡ Ok pads → AreChosen out used before pads
  chosen_is out o used before pads h =
      let first = behind_ok (asked inside out o used before out.maps) (λ new. some_or o (before ++ new)) pads h in
      (first.0, asked_is out o used before out.maps first.0 first.1, some_is o (before ++ first.0) pads first.2)

  -- ---- where they come from

  abbrev From : InPad → Type 0
  From i = Comes (all_streams inside.heads) inside.made i

  streams_come : (pads : List InPad) → AreStreams inside.heads pads → AllByRecursion From pads
  streams_come pads s = subst (λ (ps : List InPad). AllByRecursion From ps) s.2 (all_map From as_pad s.0 (λ k i. shown_among (all_streams inside.heads) inside.made k (s.1 k i)))

  label_come : (label : List ℕ) (g : ℕ) (o : Option InPad) → labelled_out label (made_at inside.made g) ≡ o → AllByRecursion From (cons_option o [])
  label_come label g None e = tt
  label_come label g (Some i) e = (inr (labelled_open label inside.made g i e), tt)

  map_come : (used : List (List ℕ)) (pads : List InPad) (spec : MapFrom) → IsMapped used pads spec → AllByRecursion From pads
  map_come used pads (from.Input file p) s = streams_come pads s
  map_come used pads (from.Label label) s = subst (λ (ps : List InPad). AllByRecursion From ps) s.3 (label_come label s.0 (labelled_out label (made_at inside.made s.0)) refl)

  maps_come : (used : List (List ℕ)) (specs : List MapSpec) (pads : List InPad) → AreMapped used specs pads → AllByRecursion From pads
  maps_come used [] pads e = subst (λ (ps : List InPad). AllByRecursion From ps) e tt
  maps_come used (spec ∷ specs) pads s =
      subst (λ (ps : List InPad). AllByRecursion From ps) s.4 (all_joined From s.0 s.1 (map_come used s.0 spec.from s.2) (maps_come (label_in spec.from ++ used) specs s.1 s.3))

  asked_come : (used : List (List ℕ)) (specs : List MapSpec) (pads : List InPad) → AreAsked used specs pads → AllByRecursion From pads
  asked_come used [] pads s = streams_come pads s
  asked_come used (spec ∷ specs) pads s = maps_come used (spec ∷ specs) pads s

  pub chosen_come : (out : OutputJob) (used : List (List ℕ)) (before pads : List InPad) → AreChosen out used before pads → AllByRecursion From before → AllByRecursion From pads
  chosen_come out used before pads s all = subst (λ (ps : List InPad). AllByRecursion From ps) s.2 (all_joined From before s.0 all (asked_come used out.maps s.0 s.1))

-- ---- what becomes of a stream

abbrev pub as_is : OutputJob → InPad → Passed
as_is out i = record { what = record { source = i.source; head = i.head; packed = packed_as out i.head }; graph = None }

abbrev pub filtered : OutputJob → ℕ → InPad → OpenOut → Passed
filtered out g i o = record {
  what = record { source = origin.Pad g 0; head = o.head; packed = packed_as out o.head };
  graph = Some (record { graph = g; ins = i ∷ [] });
}

is_one : (n : ℕ) → not (n == 1) ≡ false → n ≡ 1
is_one n h = grind (arith, nat_tests)

-- through simple graph g
pub record IsFiltered (rules : Rules) (out : OutputJob) (g : ℕ) (i : InPad) (p : Passed) : Type 0 where
  pub at : StreamRef
  pub from : i.source ≡ origin.Stream at
  pub text : Graph
  pub is_text : (simple_of out (kind_of i.head) ≡ Some text) ⊎ ((simple_of out (kind_of i.head) ≡ None) × (text ≡ null_graph (kind_of i.head)))
  pub made : OpenOut
  pub outs : rules.configured text (Some i.head ∷ []) ≡ Ok (made ∷ [])
  pub counted : length (rules.open_ins text) ≡ 1
  pub unlooped : rules.loops text ≡ false
  pub clear : IsClear text
  pub is : filtered out g i made ≡ p

module _ (rules : Rules) where
  abbrev pub IsPassed : OutputJob → ℕ → InPad → Passed → Type 0
  IsPassed out g i p = (as_is out i ≡ p) ⊎ IsFiltered rules out g i p

  abbrev pub AllPassed : OutputJob → ℕ → List InPad → List Passed → Type 0
  AllPassed out g [] [] = Unit {0}
  AllPassed out g [] (p ∷ ps) = ⊥
  AllPassed out g (i ∷ is) [] = ⊥
  AllPassed out g (i ∷ is) (p ∷ ps) = IsPassed out g i p × AllPassed out (g + length (graph_of p)) is ps

  abbrev IsText : OutputJob → InPad → Graph → Type 0
  IsText out i text = (simple_of out (kind_of i.head) ≡ Some text) ⊎ ((simple_of out (kind_of i.head) ≡ None) × (text ≡ null_graph (kind_of i.head)))

  through_is : (out : OutputJob) (g : ℕ) (i : InPad) (at : StreamRef) (text : Graph) (outs : List OpenOut) (p : Passed) → i.source ≡ origin.Stream at → IsText out i text
      → (rules.loops text ≡ false) × IsClear text × (length (rules.open_ins text) ≡ 1) → rules.configured text (Some i.head ∷ []) ≡ Ok outs → through out g i outs ≡ Ok p → IsFiltered rules out g i p
  through_is out g i at text [] p e t l c h = absurd (not_ok _ p h)
  through_is out g i at text (o ∷ []) p e t l c h =
      record { at = at; from = e; text = text; is_text = t; made = o; outs = c; counted = l.2; unlooped = l.0; clear = l.1; is = same_ok (filtered out g i o) p h }
  through_is out g i at text (o ∷ x ∷ os) p e t l c h = absurd (not_ok _ p h)

  simple_is : (out : OutputJob) (g : ℕ) (i : InPad) (at : StreamRef) (text : Graph) (r : Result (List OpenOut) Refused) (p : Passed) → i.source ≡ origin.Stream at → IsText out i text
      → (rules.loops text ≡ false) × IsClear text × (length (rules.open_ins text) ≡ 1) → rules.configured text (Some i.head ∷ []) ≡ r → behind (configured_simple g r) (through out g i) ≡ Ok p → IsFiltered rules out g i p
  simple_is out g i at text (Ok outs) p e t l c h = through_is out g i at text outs p e t l c h
  simple_is out g i at text (Err r) p e t l c h = absurd (not_ok _ p h)

  simply_is : (out : OutputJob) (g : ℕ) (i : InPad) (at : StreamRef) (text : Graph) (p : Passed) → i.source ≡ origin.Stream at → IsText out i text → simply rules out g i text ≡ Ok p → IsFiltered rules out g i p
  simply_is out g i at text p e t h =
      let twice_ = refused (twice_in [] [] (filters_of text)) in
      let unknown_ = refused (unknown_filter rules.known g 0 (filters_of text)) in
      let loop_ = where_so (rules.loops text) (fault.Loop g) in
      let one = where_so (not (length (rules.open_ins text) == 1)) (fault.Config g 0 config.Pads) in
      let plain = source_pad g (rules.open_ins text) in
      let last = behind (configured_simple g (rules.configured text (Some i.head ∷ []))) (through out g i) in
      let made = unless plain last in
      let r1 = unless_ok twice_ (unless unknown_ (unless loop_ (unless one made))) p h in
      let r2 = unless_ok unknown_ (unless loop_ (unless one made)) p r1 in
      let r3 = unless_ok loop_ (unless one made) p r2 in
      let clear_ = own_clear text (no_refusal (twice_in [] [] (filters_of text)) (unless_none twice_ (unless unknown_ (unless loop_ (unless one made))) p h)) in
      simple_is out g i at text (rules.configured text (Some i.head ∷ [])) p e t (not_so (rules.loops text) (fault.Loop g) (unless_none loop_ (unless one made) p r2), clear_, is_one (length (rules.open_ins text)) (not_so (not (length (rules.open_ins text) == 1)) (fault.Config g 0 config.Pads) (unless_none one made p r3))) refl (unless_ok plain last p (unless_ok one made p r3))

  by_is : (out : OutputJob) (g : ℕ) (i : InPad) (at : StreamRef) (given : Option Graph) (p : Passed) → i.source ≡ origin.Stream at → simple_of out (kind_of i.head) ≡ given
      → passed_by rules out g i given ≡ Ok p → IsPassed out g i p
  by_is out g i at (Some text) p e s h = inr (simply_is out g i at text p e (inl s) h)
  by_is out g i at None p e s h = inr (simply_is out g i at (null_graph (kind_of i.head)) p e (inr (s, refl)) h)

  from_is : (out : OutputJob) (g : ℕ) (i : InPad) (source : Origin) (p : Passed) → i.source ≡ source → passed_from rules out g i source ≡ Ok p → IsPassed out g i p
  from_is out g i (origin.Pad f q) p e h = inl (same_ok (as_is out i) p h)
  from_is out g i (origin.Stream s) p e h = by_is out g i s (simple_of out (kind_of i.head)) p e refl h

  pub all_passed_is : (out : OutputJob) (o g n : ℕ) (is : List InPad) (ps : List Passed) → all_passed rules out o g n is ≡ Ok ps → AllPassed out g is ps
  all_passed_is out o g n [] ps h = subst (λ (qs : List Passed). AllPassed out g [] qs) (same_ok [] ps h) tt
  all_passed_is out o g n (i ∷ is) ps h =
      let first = behind_ok (passed rules out o g n i) (λ p. front_with (p ∷ []) (all_passed rules out o (g + length (graph_of p)) (n + 1) is)) ps h in
      let rest = behind_ok (all_passed rules out o (g + length (graph_of first.0)) (n + 1) is) (λ ys. Ok (first.0 ∷ [] ++ ys)) ps first.2 in
      subst (λ (qs : List Passed). AllPassed out g (i ∷ is) qs) (same_ok (first.0 ∷ rest.0) ps rest.2)
      (from_is out g i i.source first.0 refl (asked_ok out o n (passed_from rules out g i i.source) first.0 (unless_ok (where_so (not (takes out n i)) (fault.Takes o n)) (behind (passed_from rules out g i i.source) (as_asked out o n)) first.0 first.1)), all_passed_is out o (g + length (graph_of first.0)) (n + 1) is rest.0 rest.1)

  module _ (inside : Inside) where
    -- the streams of outputs, in turn
    abbrev pub AreOutputs : ℕ → List (List ℕ) → List InPad → List OutputJob → List (List Passed) → Type 0
    AreOutputs g used before [] [] = Unit {0}
    AreOutputs g used before [] (ps ∷ rows) = ⊥
    AreOutputs g used before (out ∷ outs) [] = ⊥
    AreOutputs g used before (out ∷ outs) (ps ∷ rows) =
        (pads : List InPad) × AreChosen inside out used before pads × AllPassed out g pads ps × AreOutputs (g + graphs_of ps) (labels_of out ++ used) [] outs rows

    pub outputs_are : (o g : ℕ) (used : List (List ℕ)) (before : List InPad) (outs : List OutputJob) (rows : List (List Passed)) → outputs_from rules inside o g used before outs ≡ Ok rows
        → AreOutputs g used before outs rows
    outputs_are o g used before [] rows h = subst (λ (qs : List (List Passed)). AreOutputs g used before [] qs) (same_ok [] rows h) tt
    outputs_are o g used before (out ∷ outs) rows h =
        let pads = behind_ok (chosen inside out o used before) (λ pads. behind (all_passed rules out o g 0 pads) (λ ps. front_with (ps ∷ []) (outputs_from rules inside (o + 1) (g + graphs_of ps) (labels_of out ++ used) [] outs))) rows h in
        let ps = behind_ok (all_passed rules out o g 0 pads.0) (λ ps. front_with (ps ∷ []) (outputs_from rules inside (o + 1) (g + graphs_of ps) (labels_of out ++ used) [] outs)) rows pads.2 in
        let rest = behind_ok (outputs_from rules inside (o + 1) (g + graphs_of ps.0) (labels_of out ++ used) [] outs) (λ ys. Ok (ps.0 ∷ [] ++ ys)) rows ps.2 in
        subst (λ (qs : List (List Passed)). AreOutputs g used before (out ∷ outs) qs) (same_ok (ps.0 ∷ rest.0) rows rest.2)
        (pads.0, chosen_is inside out o used before pads.0 pads.1, all_passed_is out o g 0 pads.0 ps.0 ps.1, outputs_are (o + 1) (g + graphs_of ps.0) (labels_of out ++ used) [] outs rest.0 rest.1)

    -- each stream and where it comes from
    pub record Passes (p : Passed) : Type 0 where
      pub out : OutputJob
      pub graph : ℕ
      pub pad : InPad
      pub how : IsPassed out graph pad p
      pub from : Comes (all_streams inside.heads) inside.made pad

    all_pass : (out : OutputJob) (g : ℕ) (is : List InPad) (ps : List Passed) → AllPassed out g is ps → AllByRecursion (Comes (all_streams inside.heads) inside.made) is → AllByRecursion Passes ps
    all_pass out g [] [] h all = tt
    all_pass out g [] (p ∷ ps) h all = absurd h
    all_pass out g (i ∷ is) [] h all = absurd h
    all_pass out g (i ∷ is) (p ∷ ps) h all = (record { out = out; graph = g; pad = i; how = h.0; from = all.0 }, all_pass out (g + length (graph_of p)) is ps h.1 all.1)

    pub outputs_pass : (g : ℕ) (used : List (List ℕ)) (before : List InPad) (outs : List OutputJob) (rows : List (List Passed)) → AreOutputs g used before outs rows
        → AllByRecursion (Comes (all_streams inside.heads) inside.made) before → AllByRecursion (λ ps. AllByRecursion Passes ps) rows
    outputs_pass g used before [] [] h all = tt
    outputs_pass g used before [] (ps ∷ rows) h all = absurd h
    outputs_pass g used before (out ∷ outs) [] h all = absurd h
    outputs_pass g used before (out ∷ outs) (ps ∷ rows) h all =
        (all_pass out g h.0 ps h.2 (chosen_come inside out used before h.0 h.1 all), outputs_pass (g + graphs_of ps) (labels_of out ++ used) [] outs rows h.3 tt)
