-- Each open output pad of each graph is used once.
use Rattle.std.proofs.Common.{◌≡◌, inl, inr, ℕ, zero, suc, ◌+◌, ◌<◌, ◌≤◌, ◌==◌, ◌&&◌, ◌||◌, Bool, true, false, not, cond, List, [], ◌∷◌, ◌++◌, map, length, Option, Some, None, refl, sym, ap, ◌∙◌, subst, arith, append_assoc}
use Rattle.std.proofs.lemmas.List.{map-append}
use Rattle.std.specs.Prelude.{slice_get, slice_index_or, is_some}
use Rattle.std.specs.List.{AllByRecursion, filter, find, flat_map, range_with_len}
use Rattle.std.specs.Str.{bytes_eq}
use Rattle.std.proofs.lemmas.Bool.Decides.{nat_tests}
use Rattle.ff_frame.specs.declared.head.StreamHead.{StreamHead}
use Rattle.ff_lang.specs.declared.graph.Graph.{Graph}
use Rattle.ff_words.specs.declared.job.Job.{Job}
use Rattle.ff_words.specs.declared.job.OutputJob.{OutputJob}
use Rattle.ff_words.specs.declared.maps.map.MapFrom.{MapFrom}
use Rattle.ff_words.specs.declared.maps.map.MapFrom.TheVariants as from
use Rattle.ff_words.specs.declared.maps.map.MapSpec.{MapSpec}
use Rattle.ff_stream.specs.edges.Ports.{tally}
use Rattle.ff_graph_links.specs.labels.Labels.{is_one_of, meet, taken_in, given_in}
use Rattle.ff_graph_links.specs.labels.Names.{labels_fault as names_fault}
use Rattle.ff_graph_links.specs.labels.Order.{ComeInOrder, HasNoLoop, comes_behind, below, on_loop, graph_order, feeds, gives_to, is_in}
use Rattle.ff_plan_layout.specs.declared.layout.InPad.{InPad}
use Rattle.ff_plan_layout.specs.declared.layout.Origin.{Origin}
use Rattle.ff_plan_layout.specs.declared.layout.OutStream.{OutStream}
use Rattle.ff_plan_layout.specs.declared.layout.Placed.{Placed}
use Rattle.ff_graph_links.specs.labels.Clear.{IsClear}
use Rattle.ff_plan_layout.specs.laws.Graphs.{AreRules, IsHad, open_taken, open_given, asks}
use Rattle.ff_plan_layout.specs.Labels.{giver, stream_of_label, taken_labels}
use Rattle.ff_plan_layout.specs.Layout.{IsAmong, Laid, Layout, place_row, place_from}
use Rattle.ff_plan_layout.specs.Order.{numbers, loop_of, loop_fault}
use Rattle.ff_plan_layout.specs.Pads.{Want, Made, has_label, made_at, all_wants, unlabelled, head_in, pad_in}
use Rattle.ff_plan_layout.specs.LaidOut.{labels_of, graphs_of}
use Rattle.ff_plan_layout.specs.Rules.{Rules, OpenIn, OpenOut}
use Rattle.ff_plan_layout.specs.Streams.{Inside, Passed, label_in}
use Rattle.ff_plan_layout.proofs.Among.{never, in_range, each_of}
use Rattle.ff_plan_layout.proofs.Counts.{total, total_same, total_map, tally_filter_few, total_zero, total_order, tally_joined, tally_none, tally_any, tally_not_any, any_tally, tally_among, tally_filter_in, tally_filter_out, tally_same, tally_map, tally_flat, same_text, text_self, turn_text}
use Rattle.ff_plan_layout.proofs.Given.{often, part_few, giver_is, given_once, taken_once, clear, no_refusal, no_unused}
use Rattle.ff_plan_layout.proofs.Graphed.{Stands, Walked, stand, graph_number, inside_of}
use Rattle.ff_plan_layout.proofs.Kept.{nothing, same_some, among_at, below_at, index_at, map_at}
use Rattle.ff_plan_layout.proofs.Sizes.{joined_length, map_length}
use Rattle.ff_plan_layout.proofs.Makings.{AreMade, wants_fit, fit_length}
use Rattle.ff_plan_layout.proofs.Tests.{is_same, same_test, other_test}
use Rattle.ff_plan_layout.proofs.Outs.{IsMapped, AreMapped, AreAsked, AreOutputs}
use Rattle.ff_plan_layout.proofs.Uses.{pad_is, shows_pad, has_at, asked_by, free_at, ins_count, rows_count, free_count}

-- ---- an order of all graphs

module _ (feed : ℕ → ℕ → Bool) (n : ℕ) where
  in_end : (before : List ℕ) (x g : ℕ) → is_in before g ≡ true → is_in (before ++ x ∷ []) g ≡ true
  in_end [] x g h = absurd (never h)
  in_end (y ∷ ys) x g h = step (g == y) h (λ k. in_end ys x g k) where
    step : (b : Bool) → (b || is_in ys g) ≡ true → (is_in ys g ≡ true → is_in (ys ++ x ∷ []) g ≡ true) → (b || is_in (ys ++ x ∷ []) g) ≡ true
    step true k rest = refl
    step false k rest = rest k

  own_end : (before : List ℕ) (g : ℕ) → is_in (before ++ g ∷ []) g ≡ true
  own_end [] g = (let e : (g == g) ≡ true = same_test g g refl in ap (λ (b : Bool). b || false) e)
  own_end (y ∷ ys) g = step (g == y) (own_end ys g) where
    step : (b : Bool) → is_in (ys ++ g ∷ []) g ≡ true → (b || is_in (ys ++ g ∷ []) g) ≡ true
    step true h = refl
    step false h = h

  none_again : (before xs : List ℕ) (g : ℕ) → ComeInOrder feed n before xs → is_in before g ≡ true → tally (λ x. x == g) xs ≡ 0
  none_again before [] g come h = refl
  none_again before (x ∷ xs) g come h = step (x == g) refl (none_again (before ++ x ∷ []) xs g come.3 (in_end before x g h)) where
    step : (b : Bool) → (x == g) ≡ b → tally (λ y. y == g) xs ≡ 0 → cond b (suc (tally (λ y. y == g) xs)) (tally (λ y. y == g) xs) ≡ 0
    step true e rest = absurd (never (sym come.1 ∙ (ap (λ (k : ℕ). is_in before k) (is_same x g e) ∙ h)))
    step false e rest = rest

  pub once_in : (before xs : List ℕ) (g : ℕ) → ComeInOrder feed n before xs → tally (λ x. x == g) xs ≤ 1
  once_in before [] g come = omega arith
  once_in before (x ∷ xs) g come = step (x == g) refl (once_in (before ++ x ∷ []) xs g come.3) where
    step : (b : Bool) → (x == g) ≡ b → tally (λ y. y == g) xs ≤ 1 → cond b (suc (tally (λ y. y == g) xs)) (tally (λ y. y == g) xs) ≤ 1
    step true e rest =
        (let z = none_again (before ++ x ∷ []) xs g come.3 (ap (λ (k : ℕ). is_in (before ++ x ∷ []) k) (sym (is_same x g e)) ∙ own_end before x) in omega (arith, z))
    step false e rest = rest

  pub low_in : (before xs : List ℕ) (g : ℕ) → ComeInOrder feed n before xs → IsAmong g xs → g < n
  low_in before [] g come i = absurd i
  low_in before (x ∷ xs) g come (inl e) = subst (λ (k : ℕ). k < n) e come.0
  low_in before (x ∷ xs) g come (inr i) = low_in (before ++ x ∷ []) xs g come.3 i

pub in_tally : (g : ℕ) (xs : List ℕ) → is_in xs g ≡ true → 1 ≤ tally (λ x. x == g) xs
in_tally g [] h = absurd (never h)
in_tally g (x ∷ xs) h = step (x == g) refl (in_tally g xs) where
  step : (b : Bool) → (x == g) ≡ b → (is_in xs g ≡ true → 1 ≤ tally (λ y. y == g) xs) → 1 ≤ cond b (suc (tally (λ y. y == g) xs)) (tally (λ y. y == g) xs)
  step true e rest = omega arith
  step false e rest = rest (let off : (g == x) ≡ false = grind (arith, nat_tests, e) in ap (λ (b : Bool). b || is_in xs g) (sym off) ∙ h)

-- no loop, so each graph has its place
none_found : {A : Type 0} (p : A → Bool) (xs : List A) (x : A) → find p xs ≡ None → IsAmong x xs → p x ≡ false
none_found p [] x h i = absurd i
none_found p (y ∷ ys) x h i = step (p y) refl h i (λ k j. none_found p ys x k j) where
  step : (b : Bool) → p y ≡ b → cond b (Some y) (find p ys) ≡ None → IsAmong x (y ∷ ys) → (find p ys ≡ None → IsAmong x ys → p x ≡ false) → p x ≡ false
  step true e k j rest = absurd (nothing y (sym k))
  step false e k (inl same) rest = ap p (sym same) ∙ e
  step false e k (inr j) rest = rest k j

no_loop_of : (o : Option ℕ) → loop_of o ≡ None → o ≡ None
no_loop_of None h = refl
no_loop_of (Some g) h = absurd (nothing _ (sym h))

or_off : (a b : Bool) → (a || b) ≡ false → b ≡ false
or_off true b h = absurd (never (sym h))
or_off false b h = h

or_on_left : (a b : Bool) → (a || b) ≡ false → a ≡ false
or_on_left true b h = h
or_on_left false b h = refl

-- nor has one a loop of its own
pub has_no_own : (rules : Rules) (graphs : List Graph) → loop_fault rules graphs ≡ None → (g : ℕ) (text : Graph) → slice_get graphs g ≡ Some text → rules.loops text ≡ false
has_no_own rules graphs h g text at =
    let own = map rules.loops graphs in
    let lt = below_at text graphs g at in
    let off = or_on_left (slice_index_or own g false) (comes_behind (feeds graphs) (length graphs) (length graphs) g g)
    (none_found (λ (x : ℕ). slice_index_or own x false || comes_behind (feeds graphs) (length graphs) (length graphs) x x) (below (length graphs)) g (no_loop_of (on_loop own graphs) h)
    (in_range 0 (length graphs) g (omega arith) (omega (arith, lt)))) in
    sym (index_at own g (rules.loops text) false (map_at rules.loops graphs g text at)) ∙ off

pub has_no_loop : (rules : Rules) (graphs : List Graph) → loop_fault rules graphs ≡ None → HasNoLoop (feeds graphs) (length graphs)
has_no_loop rules graphs h = λ g lt.
    (let own = map rules.loops graphs in
    or_off (slice_index_or own g false) (comes_behind (feeds graphs) (length graphs) (length graphs) g g)
    (none_found (λ (x : ℕ). slice_index_or own x false || comes_behind (feeds graphs) (length graphs) (length graphs) x x) (below (length graphs)) g (no_loop_of (on_loop own graphs) h)
    (in_range 0 (length graphs) g (omega arith) (omega (arith, lt)))))

-- ---- by places

abbrev pub some_total : {A : Type 0} → (A → ℕ) → Option A → ℕ
some_total f None = 0
some_total f (Some x) = f x

at_end : {A : Type 0} (xs ys : List A) (y : A) (k : ℕ) → k ≡ length xs → slice_get (xs ++ y ∷ ys) k ≡ Some y
at_end [] ys y k e = ap (λ (j : ℕ). slice_get (y ∷ ys) j) e
at_end (x ∷ xs) ys y zero e = absurd (omega (arith, e))
at_end (x ∷ xs) ys y (suc k) e = at_end xs ys y k (omega (arith, e))

range_total : {A : Type 0} (f : A → ℕ) (front xs : List A) (a : ℕ) → a ≡ length front
    → total (λ i. some_total f (slice_get (front ++ xs) i)) (range_with_len a (length xs)) ≡ total f xs
range_total f front [] a e = refl
range_total f front (x ∷ xs) a e =
    let here : slice_get (front ++ x ∷ xs) a ≡ Some x = at_end front xs x a e in
    let one : f x ≡ some_total f (slice_get (front ++ x ∷ xs) a) = sym (ap (λ (o : Option _). some_total f o) here) in
    let long = joined_length front (x ∷ []) in
    let rest = range_total f (front ++ x ∷ []) xs (a + 1) (omega (arith, long, e)) in
    let same = ap (λ (ys : List _). total (λ i. some_total f (slice_get ys i)) (range_with_len (a + 1) (length xs))) (append_assoc front (x ∷ []) xs) in
    omega (arith, one, rest, same)

pub numbers_are : (rules : Rules) (graphs : List Graph) (wants : List (List Want)) (before : List Made) (order : List ℕ) (new : List Made) → AreMade rules graphs wants before order new
    → map graph_number new ≡ order
numbers_are rules graphs wants before [] [] h = refl
numbers_are rules graphs wants before [] (m ∷ ms) h = absurd h
numbers_are rules graphs wants before (g ∷ gs) [] h = absurd h
numbers_are rules graphs wants before (g ∷ gs) (m ∷ ms) h =
    ap (λ (k : ℕ). k ∷ map graph_number ms) h.0.number ∙ ap (λ (ks : List ℕ). g ∷ ks) (numbers_are rules graphs wants (before ++ m ∷ []) gs ms h.1)

-- ---- the first of a number

module _ {A : Type 0} (p : A → Bool) where
  find_left : (xs ys : List A) (x : A) → find p xs ≡ Some x → find p (xs ++ ys) ≡ Some x
  find_left [] ys x h = absurd (nothing x h)
  find_left (z ∷ zs) ys x h = step (p z) h (λ k. find_left zs ys x k) where
    step : (b : Bool) → cond b (Some z) (find p zs) ≡ Some x → (find p zs ≡ Some x → find p (zs ++ ys) ≡ Some x) → cond b (Some z) (find p (zs ++ ys)) ≡ Some x
    step true k rest = k
    step false k rest = rest k

  find_right : (xs ys : List A) (x : A) → AllByRecursion (λ z. p z ≡ false) xs → p x ≡ true → find p (xs ++ x ∷ ys) ≡ Some x
  find_right [] ys x all on = ap (λ (b : Bool). cond b (Some x) (find p ys)) on
  find_right (z ∷ zs) ys x all on = ap (λ (b : Bool). cond b (Some z) (find p (zs ++ x ∷ ys))) all.0 ∙ find_right zs ys x all.1 on

in_made : (h : ℕ) (ms : List Made) → is_in (map graph_number ms) h ≡ true → (x : Made) × (made_at ms h ≡ Some x)
in_made h [] e = absurd (never e)
in_made h (m ∷ ms) e = step (m.laid.graph == h) refl (λ k. in_made h ms k) where
  step : (b : Bool) → (m.laid.graph == h) ≡ b → (is_in (map graph_number ms) h ≡ true → (x : Made) × (made_at ms h ≡ Some x)) → (x : Made) × (made_at (m ∷ ms) h ≡ Some x)
  step true f rest = (m, ap (λ (b : Bool). cond b (Some m) (made_at ms h)) f)
  step false f rest =
      let off : (h == m.laid.graph) ≡ false = grind (arith, nat_tests, f) in
      let r = rest (ap (λ (b : Bool). b || is_in (map graph_number ms) h) (sym off) ∙ e) in
      (r.0, ap (λ (b : Bool). cond b (Some m) (made_at ms h)) f ∙ r.1)

-- ---- labels of filters

true_or : (b : Bool) → (b ≡ false → ⊥) → b ≡ true
true_or true h = refl
true_or false h = absurd (h refl)

kept_text : (r : List ℕ → Bool) (label : List ℕ) (ls : List (List ℕ)) → 1 ≤ often label (filter r ls) → (r label ≡ true) × (1 ≤ often label ls)
kept_text r label ls h = (
  true_or (r label) (λ off. (let z = tally_filter_out (bytes_eq label) r ls (λ x e. ap r (sym (same_text label x e)) ∙ off) in omega (arith, z, h))),
  (let k = tally_filter_few (bytes_eq label) r ls in omega (arith, k, h)),
)

has_among : (label : List ℕ) (outs : List OpenOut) (q : ℕ) (o : Option OpenOut) → slice_get outs q ≡ o → has_at o label ≡ true → 1 ≤ tally (has_label label) outs
has_among label outs q None e h = absurd (never h)
has_among label outs q (Some out) e h = tally_among (has_label label) out outs (among_at out outs q e) h

not_on : (b : Bool) → not b ≡ true → b ≡ false
not_on true h = absurd (never h)
not_on false h = refl

asks_own : (label : List ℕ) (i : OpenIn) → i.label ≡ Some label → asks label i ≡ true
asks_own label i e = ap (λ (o : Option (List ℕ)). asks label (record { label = o; kind = i.kind; source = i.source })) e ∙ text_self label

meets : (label : List ℕ) (taken given : List (List ℕ)) → is_one_of label taken ≡ true → is_one_of label given ≡ true → meet taken given ≡ true
meets label [] given h on = absurd (never h)
meets label (t ∷ ts) given h on = step (bytes_eq label t) refl h (λ k. meets label ts given k on) where
  or_on : (a b : Bool) → b ≡ true → (a || b) ≡ true
  or_on true b e = refl
  or_on false b e = e

  step : (b : Bool) → bytes_eq label t ≡ b → (b || is_one_of label ts) ≡ true → (is_one_of label ts ≡ true → meet ts given ≡ true) → (is_one_of t given || meet ts given) ≡ true
  step true e k rest = ap (λ (b : Bool). b || meet ts given) (subst (λ (x : List ℕ). is_one_of x given ≡ true) (same_text label t e) on)
  step false e k rest = or_on (is_one_of t given) (meet ts given) (rest k)

-- ---- labels of maps

module _ (inside : Inside) (label : List ℕ) where
  maps_few : (used : List (List ℕ)) (specs : List MapSpec) (pads : List InPad) → AreMapped inside used specs pads → often label used ≤ 1
      → often label used + often label (flat_map (λ (s : MapSpec). label_in s.from) specs) ≤ 1
  maps_few used [] pads s few = omega (arith, few)
  maps_few used (spec ∷ specs) pads s few =
      let here = one spec.from s.0 s.2 in
      let rest = maps_few (label_in spec.from ++ used) specs s.1 s.3 here in
      let j = tally_joined (bytes_eq label) (label_in spec.from) (flat_map (λ (s : MapSpec). label_in s.from) specs) in
      let k = tally_joined (bytes_eq label) (label_in spec.from) used in
      omega (arith, rest, j, k) where
        one : (f : MapFrom) (a : List InPad) → IsMapped inside used a f → often label (label_in f ++ used) ≤ 1
        one (from.Input file p) a m = few
        one (from.Label t) a m = step (bytes_eq label t) refl where
          step : (b : Bool) → bytes_eq label t ≡ b → cond b (suc (often label used)) (often label used) ≤ 1
          step true e = (let z = tally_not_any (bytes_eq label) used (subst (λ (x : List ℕ). is_one_of x used ≡ false) (sym (same_text label t e)) m.2) in omega (arith, z))
          step false e = few

  asked_few : (used : List (List ℕ)) (specs : List MapSpec) (pads : List InPad) → AreAsked inside used specs pads → often label used ≤ 1
      → often label used + often label (flat_map (λ (s : MapSpec). label_in s.from) specs) ≤ 1
  asked_few used [] pads s few = omega (arith, few)
  asked_few used (spec ∷ specs) pads s few = maps_few used (spec ∷ specs) pads s few

  outputs_few : (rules : Rules) (g : ℕ) (used : List (List ℕ)) (before : List InPad) (outs : List OutputJob) (rows : List (List Passed)) → AreOutputs rules inside g used before outs rows
      → often label used ≤ 1 → often label used + often label (flat_map labels_of outs) ≤ 1
  outputs_few rules g used before [] rows s few = omega (arith, few)
  outputs_few rules g used before (out ∷ outs) [] s few = absurd s
  outputs_few rules g used before (out ∷ outs) (ps ∷ rows) s few =
      let here = asked_few used out.maps s.1.0 s.1.1 few in
      let k = tally_joined (bytes_eq label) (labels_of out) used in
      let rest = outputs_few rules (g + graphs_of ps) (labels_of out ++ used) [] outs rows s.3 (omega (arith, here, k)) in
      let j = tally_joined (bytes_eq label) (labels_of out) (flat_map labels_of outs) in
      omega (arith, rest, j, k)

-- ---- the sources of a layout

place_row_sources : (n o k : ℕ) (ss : List OutStream) → map (λ (p : Placed). p.what.source) (place_row n o k ss) ≡ map (λ (s : OutStream). s.source) ss
place_row_sources n o k [] = refl
place_row_sources n o k (s ∷ ss) = ap (λ (os : List Origin). s.source ∷ os) (place_row_sources (n + 1) o (k + 1) ss)

pub placed_sources : (n o : ℕ) (rows : List (List OutStream)) → map (λ (p : Placed). p.what.source) (place_from n o rows) ≡ flat_map (λ (row : List OutStream). map (λ (s : OutStream). s.source) row) rows
placed_sources n o [] = refl
placed_sources n o (row ∷ rows) =
    map-append (λ (p : Placed). p.what.source) (place_row n o 0 row) (place_from (n + length row) (o + 1) rows)
    ∙ (ap (λ (os : List Origin). os ++ map (λ (p : Placed). p.what.source) (place_from (n + length row) (o + 1) rows)) (place_row_sources n o 0 row)
    ∙ ap (λ (os : List Origin). map (λ (s : OutStream). s.source) row ++ os) (placed_sources (n + length row) (o + 1) rows))

-- ---- an open output pad of a complex graph

module _ (rules : Rules) (are : AreRules rules) (job : Job) (heads : List (List StreamHead)) (l : Layout) (w : Walked rules job heads l)
    (come : ComeInOrder (feeds job.graphs) (length job.graphs) [] (graph_order job.graphs))
    (all_in : HasNoLoop (feeds job.graphs) (length job.graphs) → (g : ℕ) → g < length job.graphs → is_in (graph_order job.graphs) g ≡ true)
    (some_outputs : 1 ≤ length job.outputs) where
  abbrev graphs : List Graph
  graphs = job.graphs

  abbrev made : List Made
  made = w.made

  abbrev wants : List (List Want)
  wants = all_wants rules heads graphs

  abbrev StandsIn : Made → Type 0
  StandsIn m = Stands rules graphs wants made m

  abbrev names_fine : Type 0
  names_fine = names_fault rules.known (λ label. is_some (stream_of_label rules heads label)) graphs ≡ None

  fine : names_fine
  fine = no_refusal (names_fault rules.known (λ label. is_some (stream_of_label rules heads label)) graphs) w.labels

  few_given : (label : List ℕ) → often label (flat_map given_in graphs) ≤ 1
  few_given label = given_once rules.known (λ label. is_some (stream_of_label rules heads label)) graphs fine label

  few_taken : (label : List ℕ) → is_one_of label (flat_map given_in graphs) ≡ true → often label (flat_map taken_in graphs) ≤ 1
  few_taken label is = taken_once rules.known (λ label. is_some (stream_of_label rules heads label)) graphs fine label is

  pub clear_at : (g : ℕ) (text : Graph) → slice_get graphs g ≡ Some text → IsClear text
  clear_at g text at = clear rules.known (λ label. is_some (stream_of_label rules heads label)) graphs fine g text at

  pub standing : AllByRecursion StandsIn made
  standing = stand rules job heads made w.rows come w.are_made

  order_once : (g : ℕ) → g < length graphs → tally (λ x. x == g) (graph_order graphs) ≡ 1
  order_once g lt =
      let least = in_tally g (graph_order graphs) (all_in (has_no_loop rules graphs w.loops) g lt) in
      let most = once_in (feeds graphs) (length graphs) [] (graph_order graphs) g come in
      omega (arith, least, most)

  -- each can be had with the heads of its inputs
  pub had : (m : Made) (s : StandsIn m) → IsHad rules s.how.text (map (λ v. head_in (pad_in s.front v)) (slice_index_or wants s.number [])) m.outs
  had m s =
      let row = slice_index_or wants s.number [] in
      let long = map_length (λ v. head_in (pad_in s.front v)) row in
      let fit = fit_length rules heads graphs (rules.open_ins s.how.text) row (wants_fit rules heads graphs [] graphs s.number s.how.text s.how.there) in
      (has_no_own rules graphs w.loops s.number s.how.text s.how.there, omega (arith, long, fit), s.how.outs)

  -- each label that is given is used by one pad or map
  pub used_once : (label : List ℕ) → is_one_of label (flat_map given_in graphs) ≡ true → often label (taken_labels graphs) + often label (flat_map labels_of job.outputs) ≡ 1
  used_once label is =
      let on = no_unused (taken_labels graphs ++ flat_map labels_of job.outputs) (flat_map given_in graphs) w.used label is in
      let least = tally_any (bytes_eq label) (taken_labels graphs ++ flat_map labels_of job.outputs) on in
      let j = tally_joined (bytes_eq label) (taken_labels graphs) (flat_map labels_of job.outputs) in
      let most = outputs_few (inside_of heads job made) label rules (length graphs) (taken_labels graphs) (unlabelled made (numbers graphs)) job.outputs w.rows w.outputs (few_taken label is) in
      omega (arith, least, j, most)

  module _ (m : Made) (s : StandsIn m) (q : ℕ) where
    abbrev h : ℕ
    h = s.number

    abbrev At : Option OpenOut
    At = slice_get m.outs q

    outs_named : (label : List ℕ) → tally (has_label label) m.outs ≡ often label (open_given s.how.text)
    outs_named label = are.outs s.how.text (map (λ v. head_in (pad_in s.front v)) (slice_index_or wants s.number [])) m.outs (had m s) (clear_at s.number s.how.text s.how.there) label

    named_few : (label : List ℕ) → tally (has_label label) m.outs ≤ 1
    named_few label =
        let e = outs_named label in
        let f = tally_filter_few (bytes_eq label) (λ (x : List ℕ). not (is_one_of x (taken_in s.how.text))) (given_in s.how.text) in
        let p = part_few label given_in graphs s.number s.how.text s.how.there in
        let g = few_given label in
        omega (arith, e, f, p, g)

    -- a label of this pad is given by the graph and not taken by it
    pub label_is_open : (label : List ℕ) → has_at At label ≡ true → (is_one_of label (given_in s.how.text) ≡ true) × (is_one_of label (taken_in s.how.text) ≡ false)
    label_is_open label on =
        let there = has_among label m.outs q At refl on in
        let e = outs_named label in
        let kept = kept_text (λ (x : List ℕ). not (is_one_of x (taken_in s.how.text))) label (given_in s.how.text) (omega (arith, there, e)) in
        (any_tally (bytes_eq label) (given_in s.how.text) kept.1, not_on (is_one_of label (taken_in s.how.text)) kept.0)

    given_by : (label : List ℕ) → is_one_of label (given_in s.how.text) ≡ true → giver graphs label ≡ Some h
    given_by label is = giver_is label graphs h s.how.text s.how.there is (few_given label)

    pub in_all : made_at made h ≡ Some m
    in_all =
        subst (λ (ms : List Made). made_at ms h ≡ Some m) s.is
        (find_right (λ (x : Made). x.laid.graph == h) s.front s.rest m s.fresh (same_test m.laid.graph h s.how.number))

    is_it : (x : Made) → made_at made h ≡ Some x → x ≡ m
    is_it x e = same_some x m (sym e ∙ in_all)

    is_it_in : (front rest : List Made) → front ++ rest ≡ made → (x : Made) → made_at front h ≡ Some x → x ≡ m
    is_it_in front rest e x f = is_it x (subst (λ (ms : List Made). made_at ms h ≡ Some x) e (find_left (λ (y : Made). y.laid.graph == h) front rest x f))

    pub on_all : (label : List ℕ) → has_at At label ≡ true → (giver graphs label ≡ Some h) × (made_at made h ≡ Some m)
    on_all label on = (given_by label (label_is_open label on).0, in_all)

    -- ---- at the inputs of a graph

    module _ (n : Made) (t : StandsIn n) where
      ins_named : (label : List ℕ) → tally (asks label) (rules.open_ins t.how.text) ≡ often label (open_taken t.how.text)
      ins_named label = are.ins t.how.text (map (λ v. head_in (pad_in t.front v)) (slice_index_or wants t.number [])) n.outs (had n t) (clear_at t.number t.how.text t.how.there) label

      same_graph : h ≡ t.number → s.how.text ≡ t.how.text
      same_graph e = same_some s.how.text t.how.text (sym s.how.there ∙ (ap (λ (k : ℕ). slice_get graphs k) e ∙ t.how.there))

      feeds_it : (label : List ℕ) → is_one_of label (given_in s.how.text) ≡ true → is_one_of label (taken_in t.how.text) ≡ true → (h ≡ t.number → ⊥) → feeds graphs h t.number ≡ true
      feeds_it label gives takes_ apart =
          let off : (h == t.number) ≡ false = other_test h t.number apart in
          ap (λ (b : Bool). not b && gives_to (slice_get graphs h) (slice_get graphs t.number)) off
          ∙ (ap (λ (o : Option Graph). gives_to o (slice_get graphs t.number)) s.how.there
          ∙ (ap (λ (o : Option Graph). gives_to (Some s.how.text) o) t.how.there
          ∙ meets label (taken_in t.how.text) (given_in s.how.text) takes_ gives))

      on_front : (i : OpenIn) → IsAmong i (rules.open_ins t.how.text) → (label : List ℕ) → i.label ≡ Some label → has_at At label ≡ true
          → (giver graphs label ≡ Some h) × (made_at t.front h ≡ Some m)
      on_front i there label e on =
          let opened = label_is_open label on in
          let asked_ = tally_among (asks label) i (rules.open_ins t.how.text) there (asks_own label i e) in
          let named = ins_named label in
          let kept = kept_text (λ (x : List ℕ). not (is_one_of x (given_in t.how.text))) label (taken_in t.how.text) (omega (arith, asked_, named)) in
          let not_given = not_on (is_one_of label (given_in t.how.text)) kept.0 in
          let apart : h ≡ t.number → ⊥ = (λ f. never (sym not_given ∙ subst (λ (g : Graph). is_one_of label (given_in g) ≡ true) (same_graph f) opened.0)) in
          let before = in_made h t.front (t.fed h s.low (feeds_it label opened.0 (any_tally (bytes_eq label) (taken_in t.how.text) kept.1) apart)) in
          (given_by label opened.0, before.1 ∙ ap (λ (x : Made). Some x) (is_it_in t.front (n ∷ t.rest) t.is before.0 before.1))

      ins_are : tally (shows_pad h q) n.laid.ins ≡ tally (λ (i : OpenIn). asked_by (λ label. has_at At label) i.label) (rules.open_ins t.how.text)
      ins_are =
          ap (λ (is : List InPad). tally (shows_pad h q) is) t.how.ins
          ∙ ins_count h q graphs m s.how.number named_few t.front (λ x f. is_it_in t.front (n ∷ t.rest) t.is x f) rules heads
          (rules.open_ins t.how.text) (slice_index_or wants t.number []) (wants_fit rules heads graphs [] graphs t.number t.how.text t.how.there) on_front

      -- a pad without a label
      ins_none : ((label : List ℕ) → has_at At label ≡ false) → tally (shows_pad h q) n.laid.ins ≡ 0
      ins_none off = ins_are ∙ tally_none (λ (i : OpenIn). asked_by (λ label. has_at At label) i.label) (rules.open_ins t.how.text) (λ i a. none_asks i.label) where
        none_asks : (o : Option (List ℕ)) → asked_by (λ label. has_at At label) o ≡ false
        none_asks None = refl
        none_asks (Some label) = off label

      -- a pad with this label
      module _ (own : List ℕ) (is_own : (label : List ℕ) → has_at At label ≡ bytes_eq own label) where
        asks_same : (o : Option (List ℕ)) (k : _) (s : _) → asked_by (λ label. has_at At label) o ≡ asks own (record { label = o; kind = k; source = s })
        asks_same None k s = refl
        asks_same (Some label) k s = is_own label ∙ turn_text own label

        own_open : (is_one_of own (given_in s.how.text) ≡ true) × (is_one_of own (taken_in s.how.text) ≡ false)
        own_open = label_is_open own (is_own own ∙ text_self own)

        open_is_all : (b : Bool) → is_one_of own (given_in t.how.text) ≡ b → often own (open_taken t.how.text) ≡ often own (taken_in t.how.text)
        open_is_all false e = tally_filter_in (bytes_eq own) (λ (x : List ℕ). not (is_one_of x (given_in t.how.text))) (taken_in t.how.text)
            (λ x f. ap (λ (b : Bool). not b) (subst (λ (y : List ℕ). is_one_of y (given_in t.how.text) ≡ false) (same_text own x f) e))
        open_is_all true e =
            let by = giver_is own graphs t.number t.how.text t.how.there e (few_given own) in
            let same : h ≡ t.number = same_some h t.number (sym (given_by own own_open.0) ∙ by) in
            let text = same_graph same in
            let none = tally_not_any (bytes_eq own) (taken_in t.how.text) (subst (λ (g : Graph). is_one_of own (taken_in g) ≡ false) text own_open.1) in
            let few = tally_filter_few (bytes_eq own) (λ (x : List ℕ). not (is_one_of x (given_in t.how.text))) (taken_in t.how.text) in
            omega (arith, none, few)

        ins_own : tally (shows_pad h q) n.laid.ins ≡ often own (taken_in t.how.text)
        ins_own =
            ins_are
            ∙ (tally_same (λ (i : OpenIn). asked_by (λ label. has_at At label) i.label) (asks own) (rules.open_ins t.how.text) (λ i a. asks_same i.label i.kind i.source)
            ∙ (ins_named own ∙ open_is_all (is_one_of own (given_in t.how.text)) refl))

    -- ---- at the inputs of all complex graphs

    abbrev pub sources_in : List Laid → List Origin
    sources_in gs = flat_map (λ (g : Laid). map (λ (i : InPad). i.source) g.ins) gs

    all_ins : tally (pad_is h q) (sources_in (map (λ (x : Made). x.laid) made)) ≡ total (λ (x : Made). tally (shows_pad h q) x.laid.ins) made
    all_ins =
        tally_flat (pad_is h q) (λ (g : Laid). map (λ (i : InPad). i.source) g.ins) (map (λ (x : Made). x.laid) made)
        ∙ (total_map (λ (g : Laid). tally (pad_is h q) (map (λ (i : InPad). i.source) g.ins)) (λ (x : Made). x.laid) made
        ∙ total_same (λ (x : Made). tally (pad_is h q) (map (λ (i : InPad). i.source) x.laid.ins)) (λ (x : Made). tally (shows_pad h q) x.laid.ins) made
        (λ x i. tally_map (pad_is h q) (λ (i : InPad). i.source) x.laid.ins))

    pub complex_none : ((label : List ℕ) → has_at At label ≡ false) → tally (pad_is h q) (sources_in (map (λ (x : Made). x.laid) made)) ≡ 0
    complex_none off = all_ins ∙ total_zero (λ (x : Made). tally (shows_pad h q) x.laid.ins) made (λ x i. ins_none x (each_of StandsIn x made standing i) off)

    abbrev taken_at : List ℕ → Option Graph → ℕ
    taken_at own o = some_total (λ (g : Graph). often own (taken_in g)) o

    abbrev by_number : List ℕ → ℕ → ℕ
    by_number own g = taken_at own (slice_get graphs g)

    pub complex_own : (own : List ℕ) → ((label : List ℕ) → has_at At label ≡ bytes_eq own label) → tally (pad_is h q) (sources_in (map (λ (x : Made). x.laid) made)) ≡ often own (taken_labels graphs)
    complex_own own is_own =
        all_ins
        ∙ (total_same (λ (x : Made). tally (shows_pad h q) x.laid.ins) (λ (x : Made). by_number own (graph_number x)) made (λ x i. one x (each_of StandsIn x made standing i))
        ∙ (sym (total_map (by_number own) graph_number made)
        ∙ (ap (λ (ns : List ℕ). total (by_number own) ns) (numbers_are rules graphs wants [] (graph_order graphs) made w.are_made)
        ∙ (total_order (by_number own) (length graphs) (graph_order graphs) (λ g i. low_in (feeds graphs) (length graphs) [] (graph_order graphs) g come i) order_once
        ∙ (range_total (λ (g : Graph). often own (taken_in g)) [] graphs 0 refl ∙ sym (tally_flat (bytes_eq own) taken_in graphs)))))) where
          one : (x : Made) (t : StandsIn x) → tally (shows_pad h q) x.laid.ins ≡ by_number own (graph_number x)
          one x t =
              ins_own x t own is_own
              ∙ (sym (ap (λ (o : Option Graph). taken_at own o) t.how.there) ∙ ap (λ (k : ℕ). taken_at own (slice_get graphs k)) (sym t.how.number))

    -- ---- at the streams of outputs

    abbrev from_made : Inside
    from_made = inside_of heads job made

    abbrev shown_by_stream : Passed → Bool
    shown_by_stream p = pad_is h q p.what.source

    pub streams_are : total (λ (ps : List Passed). tally shown_by_stream ps) w.rows ≡ free_at At + tally (λ label. has_at At label) (flat_map labels_of job.outputs)
    streams_are =
        let a = rows_count h q graphs m s.how.number named_few from_made refl is_it on_all rules (length graphs) (taken_labels graphs) (unlabelled made (numbers graphs)) job.outputs w.rows s.low w.outputs (inr some_outputs) in
        let b = free_count h q made m (length graphs) s.low in_all in
        omega (arith, a, b)
