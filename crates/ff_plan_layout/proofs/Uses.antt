-- How often the inputs of graphs and the streams of outputs show an output pad of a graph.
use Rattle.std.proofs.Common.{◌≡◌, ◌⊎◌, inl, inr, ℕ, zero, suc, ◌+◌, ◌<◌, ◌≤◌, ◌==◌, ◌&&◌, Bool, true, false, cond, List, [], ◌∷◌, ◌++◌, length, Option, Some, None, refl, sym, ap, ◌∙◌, subst, arith}
use Rattle.std.specs.Prelude.{slice_get}
use Rattle.std.specs.List.{find, filter_map, flat_map, cons_option, position_or_len, range_with_len}
use Rattle.std.proofs.lemmas.Bool.Decides.{nat_tests}
use Rattle.ff_frame.specs.declared.head.StreamHead.{StreamHead}
use Rattle.ff_lang.specs.declared.graph.Graph.{Graph}
use Rattle.ff_words.specs.declared.maps.map.MapFrom.{MapFrom}
use Rattle.ff_words.specs.declared.maps.map.MapFrom.TheVariants as from
use Rattle.ff_words.specs.declared.maps.map.MapSpec.{MapSpec}
use Rattle.ff_words.specs.declared.maps.streams.Stream.{Stream}
use Rattle.ff_words.specs.declared.job.OutputJob.{OutputJob}
use Rattle.ff_stream.specs.edges.Ports.{tally}
use Rattle.ff_plan_layout.specs.declared.layout.InPad.{InPad}
use Rattle.ff_plan_layout.specs.declared.layout.Origin.{Origin}
use Rattle.ff_plan_layout.specs.declared.layout.Origin.TheVariants as origin
use Rattle.ff_plan_layout.specs.Labels.{giver, stream_of_label}
use Rattle.ff_plan_layout.specs.Layout.{IsAmong}
use Rattle.ff_plan_layout.specs.Pads.{Want, known_or_nothing, want_of_giver, Made, has_label, out_origin, labelled_out, made_at, pad_in, outs_of_made, unlabelled_from, unlabelled}
use Rattle.ff_plan_layout.specs.LaidOut.{labels_of, graphs_of}
use Rattle.ff_plan_layout.specs.Rules.{Rules, OpenIn, OpenOut}
use Rattle.ff_plan_layout.specs.Streams.{Inside, Passed, as_pad, label_in, graph_of}
use Rattle.ff_plan_layout.proofs.Among.{never}
use Rattle.ff_plan_layout.proofs.Counts.{total, total_same, tally_joined, tally_none, tally_among, tally_map, tally_flat, one_at_range}
use Rattle.ff_plan_layout.proofs.Kept.{nothing, same_some, among_at}
use Rattle.ff_plan_layout.proofs.Makings.{found_is, Fits, By_label, By_kind, AllFit}
use Rattle.ff_plan_layout.proofs.Tests.{hit, miss, tally_hit, tally_miss, is_same}
use Rattle.ff_plan_layout.proofs.Outs.{AreStreams, IsMapped, AreMapped, AreAsked, AreChosen, IsPassed, AllPassed, AreOutputs}

-- ---- one place alone

module _ {A : Type 0} (p : A → Bool) where
  pub only_place : (xs : List A) (q : ℕ) (x : A) → tally p xs ≤ 1 → slice_get xs q ≡ Some x → p x ≡ true → (position_or_len p xs ≡ q) × (find p xs ≡ Some x)
  only_place [] q x few at e = absurd (nothing x at)
  only_place (y ∷ ys) zero x few at e =
      let same = same_some y x at in
      let on : p y ≡ true = ap p same ∙ e in
      (hit p y ys on, ap (λ (b : Bool). cond b (Some y) (find p ys)) on ∙ at)
  only_place (y ∷ ys) (suc q) x few at e = step (p y) refl (λ less. only_place ys q x less at e) where
    step : (b : Bool) → p y ≡ b → (tally p ys ≤ 1 → (position_or_len p ys ≡ q) × (find p ys ≡ Some x)) → (position_or_len p (y ∷ ys) ≡ suc q) × (find p (y ∷ ys) ≡ Some x)
    step true h rest = absurd (let t = tally_hit p y ys h in let u = tally_among p x ys (among_at x ys q at) e in omega (arith, t, u, few))
    step false h rest =
        let t = tally_miss p y ys h in
        let r = rest (omega (arith, t, few)) in
        let m = miss p y ys h in let at_ = r.0 in
        (omega (arith, m, at_), ap (λ (b : Bool). cond b (Some y) (find p ys)) h ∙ r.1)

-- ---- a pad

abbrev pub pad_is : ℕ → ℕ → Origin → Bool
pad_is h q (origin.Stream s) = false
pad_is h q (origin.Pad g p) = (g == h) && (p == q)

abbrev pub shows_pad : ℕ → ℕ → InPad → Bool
shows_pad h q i = pad_is h q i.source

-- whether the output at a place has this label
abbrev pub has_at : Option OpenOut → List ℕ → Bool
has_at None label = false
has_at (Some out) label = has_label label out

abbrev pub asked_by : (List ℕ → Bool) → Option (List ℕ) → Bool
asked_by t None = false
asked_by t (Some label) = t label

other_graph : (g h a q : ℕ) → (g == h) ≡ false → ((g == h) && (a == q)) ≡ false
other_graph g h a q e = ap (λ (b : Bool). b && (a == q)) e

module _ (h q : ℕ) where
  abbrev P : InPad → Bool
  P i = shows_pad h q i

  -- what a label names of another graph is not this pad
  other_out : (label : List ℕ) (m : Made) → (m.laid.graph == h) ≡ false → (o : Option OpenOut) (a : ℕ) → tally P (cons_option (out_origin m.laid.graph a o) []) ≡ 0
  other_out label m e None a = refl
  other_out label m e (Some out) a = ap (λ (b : Bool). cond b 1 0) (other_graph m.laid.graph h a q e)

  -- of this graph it is, where the pad has this label
  own_out : (label : List ℕ) (m : Made) → m.laid.graph ≡ h → tally (has_label label) m.outs ≤ 1
      → tally P (cons_option (out_origin m.laid.graph (position_or_len (has_label label) m.outs) (find (has_label label) m.outs)) []) ≡ cond (has_at (slice_get m.outs q) label) 1 0
  own_out label m e few = by_out (slice_get m.outs q) refl where
    found_case : (out : OpenOut) (b : Bool) → (position_or_len (has_label label) m.outs == q) ≡ b → b ≡ false → ◌≡◌ {A = ℕ} (cond ((m.laid.graph == h) && (position_or_len (has_label label) m.outs == q)) 1 0) 0
    found_case out true x y = absurd (never (sym y))
    found_case out false x y =
        (let off : ((m.laid.graph == h) && (position_or_len (has_label label) m.outs == q)) ≡ false = grind (arith, nat_tests, x) in ap (λ (b : Bool). cond b 1 0) off)

    not_here : (o : Option OpenOut) → find (has_label label) m.outs ≡ o → (r : Option OpenOut) → slice_get m.outs q ≡ r → has_at r label ≡ false
        → tally P (cons_option (out_origin m.laid.graph (position_or_len (has_label label) m.outs) o) []) ≡ 0
    not_here None f r is off = refl
    not_here (Some out) f r is off =
        found_case out (position_or_len (has_label label) m.outs == q) refl (apart (position_or_len (has_label label) m.outs == q) refl) where
          apart : (b : Bool) → (position_or_len (has_label label) m.outs == q) ≡ b → b ≡ false
          apart false x = refl
          apart true x = absurd (
              let found = found_is (has_label label) m.outs out f in
              let same = is_same (position_or_len (has_label label) m.outs) q x in
              let here : slice_get m.outs q ≡ Some out = ap (λ (k : ℕ). slice_get m.outs k) (sym same) ∙ found.2 in
              let on : has_at r label ≡ true = ap (λ (s : Option OpenOut). has_at s label) (sym is ∙ here) ∙ found.1 in
              never (sym off ∙ on)
              )

    here_it_is : (out : OpenOut) → slice_get m.outs q ≡ Some out → has_label label out ≡ true
        → tally P (cons_option (out_origin m.laid.graph (position_or_len (has_label label) m.outs) (find (has_label label) m.outs)) []) ≡ 1
    here_it_is out is on =
        let only = only_place (has_label label) m.outs q out few is on in
        let place_ = only.0 in
        let both : ((m.laid.graph == h) && (position_or_len (has_label label) m.outs == q)) ≡ true = grind (arith, nat_tests, e, place_) in
        ap (λ (o : Option OpenOut). tally P (cons_option (out_origin m.laid.graph (position_or_len (has_label label) m.outs) o) [])) only.1 ∙ ap (λ (b : Bool). cond b 1 0) both

    some_case : (out : OpenOut) (b : Bool) → slice_get m.outs q ≡ Some out → has_label label out ≡ b
        → tally P (cons_option (out_origin m.laid.graph (position_or_len (has_label label) m.outs) (find (has_label label) m.outs)) []) ≡ cond b 1 0
    some_case out true is on = here_it_is out is on
    some_case out false is off = not_here (find (has_label label) m.outs) refl (Some out) is off

    by_out : (o : Option OpenOut) → slice_get m.outs q ≡ o
        → tally P (cons_option (out_origin m.laid.graph (position_or_len (has_label label) m.outs) (find (has_label label) m.outs)) []) ≡ cond (has_at o label) 1 0
    by_out None is = not_here (find (has_label label) m.outs) refl None is refl
    by_out (Some out) is = some_case out (has_label label out) is refl

  -- ---- by labels

  module _ (graphs : List Graph) (m : Made) (number : m.laid.graph ≡ h) (few : (label : List ℕ) → tally (has_label label) m.outs ≤ 1) where
    abbrev pub T : List ℕ → Bool
    T label = has_at (slice_get m.outs q) label

    module _ (ms : List Made) (is_it : (x : Made) → made_at ms h ≡ Some x → x ≡ m) where
      made_case : (label : List ℕ) (o : Option Made) (g : ℕ) → made_at ms g ≡ o → T label ≡ false → tally P (cons_option (labelled_out label o) []) ≡ 0
      made_case label None g e off = refl
      made_case label (Some x) g e off = step (x.laid.graph == h) refl where
        step : (b : Bool) → (x.laid.graph == h) ≡ b → tally P (cons_option (labelled_out label (Some x)) []) ≡ 0
        step false f = other_out label x f (find (has_label label) x.outs) (position_or_len (has_label label) x.outs)
        step true f =
            let found = found_is (λ (y : Made). y.laid.graph == g) ms x e in
            let xg = is_same x.laid.graph g found.1 in let xh = is_same x.laid.graph h f in
            let same : x ≡ m = is_it x (ap (λ (k : ℕ). made_at ms k) (sym xh ∙ xg) ∙ e) in
            subst (λ (y : Made). tally P (cons_option (labelled_out label (Some y)) []) ≡ 0) (sym same) (own_out label m number (few label) ∙ ap (λ (b : Bool). cond b 1 0) off)

      -- a label's graph is the one that gives it
      pub label_count : (label : List ℕ) (g : ℕ) → giver graphs label ≡ Some g → (T label ≡ true → (giver graphs label ≡ Some h) × (made_at ms h ≡ Some m))
          → tally P (cons_option (labelled_out label (made_at ms g)) []) ≡ cond (T label) 1 0
      label_count label g is on = step (T label) refl where
        step : (b : Bool) → T label ≡ b → tally P (cons_option (labelled_out label (made_at ms g)) []) ≡ cond b 1 0
        step false e = made_case label (made_at ms g) g refl e
        step true e =
            let r = on e in
            let same : g ≡ h = same_some g h (sym is ∙ r.0) in
            ap (λ (o : Option Made). tally P (cons_option (labelled_out label o) [])) (ap (λ (k : ℕ). made_at ms k) same ∙ r.1) ∙ (own_out label m number (few label) ∙ ap (λ (b : Bool). cond b 1 0) e)

      -- ---- the inputs of a graph behind these

      module _ (rules : Rules) (heads : List (List StreamHead)) where
        idle_count : (o : Option Stream) → tally P (cons_option (pad_in ms (known_or_nothing o)) []) ≡ 0
        idle_count None = refl
        idle_count (Some k) = refl

        giver_count : (label : List ℕ) (o : Option ℕ) → giver graphs label ≡ o → (T label ≡ true → (giver graphs label ≡ Some h) × (made_at ms h ≡ Some m))
            → tally P (cons_option (pad_in ms (want_of_giver (stream_of_label rules heads label) label o)) []) ≡ cond (T label) 1 0
        giver_count label None is on = idle_count (stream_of_label rules heads label) ∙ step (T label) refl where
          step : (b : Bool) → T label ≡ b → ◌≡◌ {A = ℕ} 0 (cond b 1 0)
          step false e = refl
          step true e = absurd (nothing h (sym is ∙ (on e).0))
        giver_count label (Some g) is on = label_count label g is on

        fit_count : (i : OpenIn) (w : Want) → Fits rules heads graphs i w → ((label : List ℕ) → i.label ≡ Some label → T label ≡ true → (giver graphs label ≡ Some h) × (made_at ms h ≡ Some m))
            → tally P (cons_option (pad_in ms w) []) ≡ cond (asked_by T i.label) 1 0
        fit_count i w (By_label label e is) on =
            ap (λ (v : Want). tally P (cons_option (pad_in ms v) [])) is ∙ (giver_count label (giver graphs label) refl (on label e) ∙ ap (λ (o : Option (List ℕ)). cond (asked_by T o) 1 0) (sym e))
        fit_count i w (By_kind e o each is) on =
            ap (λ (v : Want). tally P (cons_option (pad_in ms v) [])) is ∙ (idle_count o ∙ ap (λ (o : Option (List ℕ)). cond (asked_by T o) 1 0) (sym e))

        join_option : (o : Option InPad) (rest : List InPad) → tally P (cons_option o rest) ≡ tally P (cons_option o []) + tally P rest
        join_option None rest = omega arith
        join_option (Some i) rest = tally_joined P (i ∷ []) rest

        pub ins_count : (is : List OpenIn) (ws : List Want) → AllFit rules heads graphs is ws
            → ((i : OpenIn) → IsAmong i is → (label : List ℕ) → i.label ≡ Some label → T label ≡ true → (giver graphs label ≡ Some h) × (made_at ms h ≡ Some m))
            → tally P (filter_map (pad_in ms) ws) ≡ tally (λ (i : OpenIn). asked_by T i.label) is
        ins_count [] [] fit on = refl
        ins_count [] (w ∷ ws) fit on = absurd fit
        ins_count (i ∷ is) [] fit on = absurd fit
        ins_count (i ∷ is) (w ∷ ws) fit on =
            let here = fit_count i w fit.0 (on i (inl refl)) in
            let rest = ins_count is ws fit.1 (λ j a. on j (inr a)) in
            let j = join_option (pad_in ms w) (filter_map (pad_in ms) ws) in
            let k = add_one (asked_by T i.label) in
            omega (arith, here, rest, j, k) where
              add_one : (b : Bool) → cond b (suc (tally (λ (i : OpenIn). asked_by T i.label) is)) (tally (λ (i : OpenIn). asked_by T i.label) is) ≡ cond b 1 0 + tally (λ (i : OpenIn). asked_by T i.label) is
              add_one true = omega arith
              add_one false = omega arith

    -- ---- the streams of outputs

    streams_count : (heads : List (List StreamHead)) (pads : List InPad) → AreStreams heads pads → tally P pads ≡ 0
    streams_count heads pads s =
        sym (ap (λ (ps : List InPad). tally P ps) s.2) ∙ (tally_map P as_pad s.0 ∙ tally_none (λ (k : Stream). P (as_pad k)) s.0 (λ k i. refl))

    module _ (inside : Inside) (same_graphs : inside.graphs ≡ graphs) (is_it : (x : Made) → made_at inside.made h ≡ Some x → x ≡ m)
        (on : (label : List ℕ) → T label ≡ true → (giver graphs label ≡ Some h) × (made_at inside.made h ≡ Some m)) where
      map_count : (used : List (List ℕ)) (pads : List InPad) (spec : MapFrom) → IsMapped inside used pads spec → tally P pads ≡ tally T (label_in spec)
      map_count used pads (from.Input file p) s = streams_count inside.heads pads s
      map_count used pads (from.Label label) s =
          sym (ap (λ (ps : List InPad). tally P ps) s.3)
          ∙ label_count inside.made is_it label s.0 (ap (λ (gs : List Graph). giver gs label) (sym same_graphs) ∙ s.1) (on label)

      maps_count : (used : List (List ℕ)) (specs : List MapSpec) (pads : List InPad) → AreMapped inside used specs pads → tally P pads ≡ tally T (flat_map (λ (s : MapSpec). label_in s.from) specs)
      maps_count used [] pads e = sym (ap (λ (ps : List InPad). tally P ps) e)
      maps_count used (spec ∷ specs) pads s =
          let a = map_count used s.0 spec.from s.2 in
          let b = maps_count (label_in spec.from ++ used) specs s.1 s.3 in
          let j = tally_joined P s.0 s.1 in
          let k = tally_joined T (label_in spec.from) (flat_map (λ (s : MapSpec). label_in s.from) specs) in
          let e = ap (λ (ps : List InPad). tally P ps) s.4 in
          omega (arith, a, b, j, k, e)

      asked_count : (used : List (List ℕ)) (specs : List MapSpec) (pads : List InPad) → AreAsked inside used specs pads → tally P pads ≡ tally T (flat_map (λ (s : MapSpec). label_in s.from) specs)
      asked_count used [] pads s = streams_count inside.heads pads s
      asked_count used (spec ∷ specs) pads s = maps_count used (spec ∷ specs) pads s

      chosen_count : (out : OutputJob) (used : List (List ℕ)) (before pads : List InPad) → AreChosen inside out used before pads → tally P pads ≡ tally P before + tally T (labels_of out)
      chosen_count out used before pads s =
          let a = asked_count used out.maps s.0 s.1 in
          let j = tally_joined P before s.0 in
          let e = ap (λ (ps : List InPad). tally P ps) s.2 in
          omega (arith, a, j, e)

      abbrev pub Q : Passed → Bool
      Q p = pad_is h q p.what.source

      module _ (rules : Rules) where
        pass_one : (out : OutputJob) (g : ℕ) (i : InPad) (p : Passed) → h < g → IsPassed rules out g i p → Q p ≡ P i
        pass_one out g i p lt (inl e) = ap (λ (x : Passed). Q x) (sym e)
        pass_one out g i p lt (inr f) =
            let off : (g == h) ≡ false = grind (arith, nat_tests, lt) in
            ap (λ (x : Passed). Q x) (sym f.is) ∙ (other_graph g h 0 q off ∙ sym (ap (λ (o : Origin). pad_is h q o) f.from))

        all_count : (out : OutputJob) (g : ℕ) (is : List InPad) (ps : List Passed) → h < g → AllPassed rules out g is ps → tally Q ps ≡ tally P is
        all_count out g [] [] lt s = refl
        all_count out g [] (p ∷ ps) lt s = absurd s
        all_count out g (i ∷ is) [] lt s = absurd s
        all_count out g (i ∷ is) (p ∷ ps) lt s =
            let rest = all_count out (g + length (graph_of p)) is ps (omega (arith, lt)) s.1 in
            ap (λ (b : Bool). cond b (suc (tally Q ps)) (tally Q ps)) (pass_one out g i p lt s.0) ∙ ap (λ (n : ℕ). cond (P i) (suc n) n) rest

        pub rows_count : (g : ℕ) (used : List (List ℕ)) (before : List InPad) (outs : List OutputJob) (rows : List (List Passed)) → h < g → AreOutputs rules inside g used before outs rows
            → (before ≡ []) ⊎ (1 ≤ length outs) → total (λ (ps : List Passed). tally Q ps) rows ≡ tally P before + tally T (flat_map labels_of outs)
        rows_count g used before [] [] lt s (inl e) = (let z = ap (λ (ps : List InPad). tally P ps) e in omega (arith, z))
        rows_count g used before [] [] lt s (inr some) = absurd (omega (arith, some))
        rows_count g used before [] (ps ∷ rows) lt s some = absurd s
        rows_count g used before (out ∷ outs) [] lt s some = absurd s
        rows_count g used before (out ∷ outs) (ps ∷ rows) lt s some =
            let a = chosen_count out used before s.0 s.1 in
            let b = all_count out g s.0 ps lt s.2 in
            let c = rows_count (g + graphs_of ps) (labels_of out ++ used) [] outs rows (omega (arith, lt)) s.3 (inl refl) in
            let j = tally_joined T (labels_of out) (flat_map labels_of outs) in
            omega (arith, a, b, c, j)

-- ---- unlabelled open output pads

abbrev pub free_label : Option (List ℕ) → ℕ
free_label None = 1
free_label (Some l) = 0

abbrev pub free_at : Option OpenOut → ℕ
free_at None = 0
free_at (Some out) = free_label out.label

module _ (h q : ℕ) where
  abbrev S : InPad → Bool
  S i = shows_pad h q i

  free_other : (g a : ℕ) (outs : List OpenOut) → (g == h) ≡ false → tally S (unlabelled_from g a outs) ≡ 0
  free_other g a [] e = refl
  free_other g a (out ∷ outs) e = step out.label (free_other g (suc a) outs e) where
    step : (o : Option (List ℕ)) → tally S (unlabelled_from g (suc a) outs) ≡ 0 → tally S (unlabelled_from g a (record { label = o; head = out.head } ∷ outs)) ≡ 0
    step (Some t) rest = rest
    step None rest = ap (λ (b : Bool). cond b (suc (tally S (unlabelled_from g (suc a) outs))) (tally S (unlabelled_from g (suc a) outs))) (other_graph g h a q e) ∙ rest

  free_below : (a : ℕ) (outs : List OpenOut) → q < a → tally S (unlabelled_from h a outs) ≡ 0
  free_below a [] lt = refl
  free_below a (out ∷ outs) lt = step out.label (free_below (suc a) outs (omega (arith, lt))) where
    off : ((h == h) && (a == q)) ≡ false
    off = grind (arith, nat_tests, lt)

    step : (o : Option (List ℕ)) → tally S (unlabelled_from h (suc a) outs) ≡ 0 → tally S (unlabelled_from h a (record { label = o; head = out.head } ∷ outs)) ≡ 0
    step (Some t) rest = rest
    step None rest = ap (λ (b : Bool). cond b (suc (tally S (unlabelled_from h (suc a) outs))) (tally S (unlabelled_from h (suc a) outs))) off ∙ rest

  free_from : (a k : ℕ) (outs : List OpenOut) → q ≡ a + k → tally S (unlabelled_from h a outs) ≡ free_at (slice_get outs k)
  free_from a k [] e = refl
  free_from a zero (out ∷ outs) e = step out.label (free_below (suc a) outs (omega (arith, e))) where
    on : ((h == h) && (a == q)) ≡ true
    on = (let same : a ≡ q = omega (arith, e) in grind (arith, nat_tests, same))

    step : (o : Option (List ℕ)) → tally S (unlabelled_from h (suc a) outs) ≡ 0 → tally S (unlabelled_from h a (record { label = o; head = out.head } ∷ outs)) ≡ free_label o
    step (Some t) rest = rest
    step None rest = ap (λ (b : Bool). cond b (suc (tally S (unlabelled_from h (suc a) outs))) (tally S (unlabelled_from h (suc a) outs))) on ∙ ap (λ (n : ℕ). suc n) rest
  free_from a (suc k) (out ∷ outs) e = step out.label (free_from (suc a) k outs (omega (arith, e))) where
    off : ((h == h) && (a == q)) ≡ false
    off = (let apart : a < q = omega (arith, e) in grind (arith, nat_tests, apart))

    step : (o : Option (List ℕ)) → tally S (unlabelled_from h (suc a) outs) ≡ free_at (slice_get outs k) → tally S (unlabelled_from h a (record { label = o; head = out.head } ∷ outs)) ≡ free_at (slice_get outs k)
    step (Some t) rest = rest
    step None rest = ap (λ (b : Bool). cond b (suc (tally S (unlabelled_from h (suc a) outs))) (tally S (unlabelled_from h (suc a) outs))) off ∙ rest

  module _ (made : List Made) (m : Made) (n : ℕ) where
    abbrev of_graph : ℕ → ℕ
    of_graph g = tally S (outs_of_made g (made_at made g))

    other_made : (g : ℕ) (o : Option Made) → (g == h) ≡ false → tally S (outs_of_made g o) ≡ 0
    other_made g None e = refl
    other_made g (Some x) e = free_other g 0 x.outs e

    graph_step : (g : ℕ) (b : Bool) → (h == g) ≡ b → of_graph g ≡ cond b (of_graph g) 0
    graph_step g true e = refl
    graph_step g false e = other_made g (made_at made g) (let off : (g == h) ≡ false = grind (arith, nat_tests, e) in off)

    pub free_count : h < n → made_at made h ≡ Some m → tally S (unlabelled made (range_with_len 0 n)) ≡ free_at (slice_get m.outs q)
    free_count lt at =
        tally_flat S (λ g. outs_of_made g (made_at made g)) (range_with_len 0 n)
        ∙ (total_same of_graph (λ g. cond (h == g) (of_graph g) 0) (range_with_len 0 n) (λ g i. graph_step g (h == g) refl)
        ∙ (one_at_range of_graph h n lt ∙ (ap (λ (o : Option Made). tally S (outs_of_made h o)) at ∙ free_from 0 q m.outs (omega arith))))
