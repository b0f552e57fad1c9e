-- What the complex graphs of a job are made of.
use Rattle.std.proofs.Common.{◌≡◌, ◌⊎◌, inl, inr, ℕ, zero, suc, ◌+◌, ◌<◌, ◌==◌, ◌&&◌, Bool, true, false, not, cond, List, [], ◌∷◌, ◌++◌, map, length, Option, Some, None, refl, sym, ap, ◌∙◌, subst, arith, append_assoc}
use Rattle.std.proofs.lemmas.List.{append-nil}
use Rattle.std.specs.Prelude.{Ok, Err, Result, slice_get, slice_index_or}
use Rattle.std.specs.List.{AllByRecursion, find, filter_map, position_or_len, cons_option}
use Rattle.ff_frame.specs.declared.head.StreamHead.{StreamHead}
use Rattle.ff_lang.specs.declared.graph.Graph.{Graph}
use Rattle.ff_words.specs.declared.maps.map.MapFrom.{MapFrom}
use Rattle.ff_words.specs.declared.maps.map.MapFrom.TheVariants as from
use Rattle.ff_words.specs.declared.maps.map.MapSpec.{MapSpec}
use Rattle.ff_words.specs.declared.maps.streams.Stream.{Stream}
use Rattle.ff_words.specs.maps.Choice.{all_streams, has_kind, selected}
use Rattle.ff_plan_layout.specs.declared.layout.InPad.{InPad}
use Rattle.ff_plan_layout.specs.declared.layout.Origin.TheVariants as origin
use Rattle.ff_plan_layout.specs.Labels.{giver, stream_of_label, stream_of_spec, stream_of_map, first_known}
use Rattle.ff_plan_layout.specs.Layout.{IsAmong}
use Rattle.ff_plan_layout.specs.declared.layout.Want.{Want}
use Rattle.ff_plan_layout.specs.declared.layout.Want.TheVariants.{KnownStream, Labelled, Nothing}
use Rattle.ff_plan_layout.specs.Pads.{known_or_nothing, want_of_giver, want_of, want_by, want_at, wants_of, wants_from, is_source, is_taken, Made, has_label, out_origin, labelled_out, made_at, pad_in, head_in, made_of, configure, make_from}
use Rattle.ff_plan_layout.specs.Rules.{Rules, OpenIn, OpenOut, Refused}
use Rattle.ff_plan_layout.specs.Sources.{made_for, made_at_pad, sources_of, source_streams}
use Rattle.ff_plan_layout.specs.Streams.{as_pad}
use Rattle.ff_plan_layout.specs.declared.open_pads.SourcePad.{SourcePad}
use Rattle.ff_source.specs.declared.made.Made.{Made as SourceMade}
use Rattle.ff_stream.specs.edges.Ports.{tally}
use Rattle.ff_plan_layout.proofs.Among.{among_left, among_right}
use Rattle.ff_plan_layout.proofs.Kept.{nothing, same_some, among_at}
use Rattle.ff_plan_layout.proofs.Known.{known_among}
use Rattle.ff_plan_layout.proofs.Tests.{hit, miss}
use Rattle.ff_plan_layout.proofs.Results.{not_ok, same_ok, behind_ok}

-- ---- the first that passes

module _ {A : Type 0} (p : A → Bool) where
  found_step : (y : A) (ys : List A) (x : A) (b : Bool) → p y ≡ b → (find p ys ≡ Some x → IsAmong x ys × (p x ≡ true) × (slice_get ys (position_or_len p ys) ≡ Some x))
      → cond b (Some y) (find p ys) ≡ Some x → IsAmong x (y ∷ ys) × (p x ≡ true) × (slice_get (y ∷ ys) (position_or_len p (y ∷ ys)) ≡ Some x)
  found_step y ys x true e rest h =
      let same : y ≡ x = same_some y x h in
      (inl same, ap p (sym same) ∙ e, ap (λ (k : ℕ). slice_get (y ∷ ys) k) (hit p y ys e) ∙ h)
  found_step y ys x false e rest h =
      let r = rest h in
      let one_more : 1 + position_or_len p ys ≡ suc (position_or_len p ys) = omega arith in
      (inr r.0, r.1, ap (λ (k : ℕ). slice_get (y ∷ ys) k) (miss p y ys e ∙ one_more) ∙ r.2)

  pub found_is : (xs : List A) (x : A) → find p xs ≡ Some x → IsAmong x xs × (p x ≡ true) × (slice_get xs (position_or_len p xs) ≡ Some x)
  found_is [] x h = absurd (nothing x h)
  found_is (y ∷ ys) x h = found_step y ys x (p y) refl (found_is ys x) h

-- ---- what an input shows

-- the streams that there are: those of source filters, then those of inputs
abbrev pub shown_in : Rules → List (List StreamHead) → List Graph → List Stream
shown_in rules heads graphs = source_streams (length heads) (sources_of rules graphs) ++ all_streams heads

-- one of these streams
pub record IsShown (streams : List Stream) (i : InPad) : Type 0 where
  pub stream : Stream
  pub there : IsAmong stream streams
  pub is : as_pad stream ≡ i

-- an open output pad of one of these graphs
pub record IsOpen (made : List Made) (i : InPad) : Type 0 where
  pub maker : Made
  pub there : IsAmong maker made
  pub pad : ℕ
  pub out : OpenOut
  pub at : slice_get maker.outs pad ≡ Some out
  pub is : record { source = origin.Pad maker.laid.graph pad; head = out.head } ≡ i

abbrev pub Comes : List Stream → List Made → InPad → Type 0
Comes streams made i = IsShown streams i ⊎ IsOpen made i

pub shown_among : (streams : List Stream) (made : List Made) (k : Stream) → IsAmong k streams → Comes streams made (as_pad k)
shown_among streams made k i = inl (record { stream = k; there = i; is = refl })

-- the same, where there are further streams in front
pub shown_right : (more streams : List Stream) (i : InPad) → IsShown streams i → IsShown (more ++ streams) i
shown_right more streams i s = record { stream = s.stream; there = among_right s.stream more streams s.there; is = s.is }

pub comes_right : (more streams : List Stream) (made : List Made) (i : InPad) → Comes streams made i → Comes (more ++ streams) made i
comes_right more streams made i (inl s) = inl (shown_right more streams i s)
comes_right more streams made i (inr o) = inr o

pub comes_left : (streams : List Stream) (made more : List Made) (i : InPad) → Comes streams made i → Comes streams (made ++ more) i
comes_left streams made more i (inl s) = inl s
comes_left streams made more i (inr o) =
    inr (record { maker = o.maker; there = among_left o.maker made more o.there; pad = o.pad; out = o.out; at = o.at; is = o.is })

out_step : (m : Made) (label : List ℕ) (made : List Made) (o : Option OpenOut) (i : InPad) → find (has_label label) m.outs ≡ o → IsAmong m made
    → out_origin m.laid.graph (position_or_len (has_label label) m.outs) o ≡ Some i → IsOpen made i
out_step m label made None i e there h = absurd (nothing i h)
out_step m label made (Some out) i e there h = record {
  maker = m;
  there = there;
  pad = position_or_len (has_label label) m.outs;
  out = out;
  at = (found_is (has_label label) m.outs out e).2;
  is = same_some _ i h;
}

made_step : (label : List ℕ) (made : List Made) (g : ℕ) (o : Option Made) (i : InPad) → made_at made g ≡ o → labelled_out label o ≡ Some i → IsOpen made i
made_step label made g None i e h = absurd (nothing i h)
made_step label made g (Some m) i e h = out_step m label made (find (has_label label) m.outs) i refl (found_is (λ (m : Made). m.laid.graph == g) made m e).0 h

pub labelled_open : (label : List ℕ) (made : List Made) (g : ℕ) (i : InPad) → labelled_out label (made_at made g) ≡ Some i → IsOpen made i
labelled_open label made g i h = made_step label made g (made_at made g) i refl h

-- ---- what an input pad gets

spec_among : (heads : List (List StreamHead)) (optional : Bool) (spec : MapFrom) (k : Stream) → IsAmong k (stream_of_map heads optional spec) → IsAmong k (all_streams heads)
spec_among heads true spec k i = absurd i
spec_among heads false (from.Input file p) k i = known_among heads (selected (from.Input file p) heads) k i
spec_among heads false (from.Label l) k i = absurd i

map_among : (heads : List (List StreamHead)) (o : Option MapSpec) (k : Stream) → IsAmong k (stream_of_spec heads o) → IsAmong k (all_streams heads)
map_among heads None k i = absurd i
map_among heads (Some spec) k i = spec_among heads spec.optional spec.from k i

first_among : (ks : List Stream) (k : Stream) → first_known ks ≡ Some k → IsAmong k ks
first_among [] k h = absurd (nothing k h)
first_among (j ∷ js) k h = inl (same_some j k h)

-- a pad at which a source filter makes something has no label
no_label : (o : Option (List ℕ)) (s : Option SourcePad) (m : SourceMade) → made_for o s ≡ Some m → o ≡ None
no_label None s m e = refl
no_label (Some label) s m e = absurd (nothing m e)

module _ (rules : Rules) (heads : List (List StreamHead)) (graphs : List Graph) where
  abbrev sources : List Stream
  sources = source_streams (length heads) (sources_of rules graphs)

  abbrev shown : List Stream
  shown = shown_in rules heads graphs

  -- by its label, or the stream of a source filter, or by its kind a stream or nothing
  pub data Fits (i : OpenIn) (w : Want) : Type 0 where
    By_label : (label : List ℕ) → i.label ≡ Some label → w ≡ want_of_giver (stream_of_label rules heads label) label (giver graphs label) → Fits i w
    By_kind : i.label ≡ None → (o : Option Stream) → ((k : Stream) → o ≡ Some k → IsAmong k (shown_in rules heads graphs)) → w ≡ known_or_nothing o → Fits i w

  abbrev pub AllFit : List OpenIn → List Want → Type 0
  AllFit [] [] = Unit {0}
  AllFit [] (w ∷ ws) = ⊥
  AllFit (i ∷ is) [] = ⊥
  AllFit (i ∷ is) (w ∷ ws) = Fits i w × AllFit is ws

  plain_fits : (before : List Want) (i : OpenIn) (o : Option (List ℕ)) → i.label ≡ o → Fits i (want_of rules heads graphs before i.kind o)
  plain_fits before i (Some label) e = By_label label e refl
  plain_fits before i None e =
      By_kind e (find (λ s. has_kind i.kind s.head && not (is_taken before s)) (all_streams heads)) (λ k h. among_right k sources (all_streams heads) (found_is (λ s. has_kind i.kind s.head && not (is_taken before s)) (all_streams heads) k h).0) refl

  pad_fits : (before : List Want) (i : OpenIn) (m : Option SourceMade) → made_at_pad i ≡ m → Fits i (want_by rules sources heads graphs before i m)
  pad_fits before i None e = plain_fits before i i.label refl
  pad_fits before i (Some m) e =
      let n = tally (is_source (length heads)) before in
      By_kind (no_label i.label i.source m e) (slice_get sources n) (λ k h. among_left k sources (all_streams heads) (among_at k sources n h)) refl

  pub fit_length : (is : List OpenIn) (ws : List Want) → AllFit is ws → length ws ≡ length is
  fit_length [] [] fit = refl
  fit_length [] (w ∷ ws) fit = absurd fit
  fit_length (i ∷ is) [] fit = absurd fit
  fit_length (i ∷ is) (w ∷ ws) fit = ap suc (fit_length is ws fit.1)

  pads_fit : (before : List Want) (is : List OpenIn) → AllFit is (wants_of rules sources heads graphs before is)
  pads_fit before [] = tt
  pads_fit before (i ∷ is) = (pad_fits before i (made_at_pad i) refl, pads_fit (before ++ want_at rules sources heads graphs before i ∷ []) is)

  pub wants_fit : (before : List Want) (gs : List Graph) (g : ℕ) (text : Graph) → slice_get gs g ≡ Some text
      → AllFit (rules.open_ins text) (slice_index_or (wants_from rules sources heads graphs before gs) g [])
  wants_fit before [] g text at = absurd (nothing text at)
  wants_fit before (x ∷ xs) zero text at =
      subst (λ (t : Graph). AllFit (rules.open_ins t) (wants_of rules sources heads graphs before (rules.open_ins x))) (same_some x text at) (pads_fit before (rules.open_ins x))
  wants_fit before (x ∷ xs) (suc g) text at = wants_fit (before ++ wants_of rules sources heads graphs before (rules.open_ins x)) xs g text at

  stream_is : (label : List ℕ) (k : Stream) → stream_of_label rules heads label ≡ Some k → IsAmong k (all_streams heads)
  stream_is label k h = map_among heads (rules.map_of label) k (first_among (stream_of_spec heads (rules.map_of label)) k h)

  -- where it is a stream, one that is there
  abbrev Streams : Want → Type 0
  Streams (KnownStream k) = IsAmong k shown
  Streams (Labelled g l) = Unit {0}
  Streams Nothing = Unit {0}

  some_streams : (o : Option Stream) → ((k : Stream) → o ≡ Some k → IsAmong k shown) → Streams (known_or_nothing o)
  some_streams None each = tt
  some_streams (Some k) each = each k refl

  giver_streams : (label : List ℕ) (o : Option ℕ) → Streams (want_of_giver (stream_of_label rules heads label) label o)
  giver_streams label None = some_streams (stream_of_label rules heads label) (λ k h. among_right k sources (all_streams heads) (stream_is label k h))
  giver_streams label (Some g) = tt

  pub fits_streams : (i : OpenIn) (w : Want) → Fits i w → Streams w
  fits_streams i w (By_label label e is) = subst Streams (sym is) (giver_streams label (giver graphs label))
  fits_streams i w (By_kind e o each is) = subst Streams (sym is) (some_streams o each)

  want_comes : (made : List Made) (w : Want) (i : InPad) → Streams w → pad_in made w ≡ Some i → Comes shown made i
  want_comes made (KnownStream k) i s h = inl (record { stream = k; there = s; is = same_some _ i h })
  want_comes made (Labelled g l) i s h = inr (labelled_open l made g i h)
  want_comes made Nothing i s h = absurd (nothing i h)

  ins_step : (made : List Made) (w : Want) (ws : List Want) (o : Option InPad) → pad_in made w ≡ o → Streams w → AllByRecursion (Comes shown made) (filter_map (pad_in made) ws)
      → AllByRecursion (Comes shown made) (cons_option o (filter_map (pad_in made) ws))
  ins_step made w ws None e s rest = rest
  ins_step made w ws (Some i) e s rest = (want_comes made w i s e, rest)

  pub ins_come : (made : List Made) (is : List OpenIn) (ws : List Want) → AllFit is ws → AllByRecursion (Comes shown made) (filter_map (pad_in made) ws)
  ins_come made [] [] fit = tt
  ins_come made [] (w ∷ ws) fit = absurd fit
  ins_come made (i ∷ is) [] fit = absurd fit
  ins_come made (i ∷ is) (w ∷ ws) fit = ins_step made w ws (pad_in made w) refl (fits_streams i w fit.0) (ins_come made is ws fit.1)

-- ---- the graphs in their order

-- graph g behind these
pub record IsMade (rules : Rules) (graphs : List Graph) (wants : List (List Want)) (before : List Made) (g : ℕ) (m : Made) : Type 0 where
  pub text : Graph
  pub there : slice_get graphs g ≡ Some text
  pub number : m.laid.graph ≡ g
  pub ins : m.laid.ins ≡ filter_map (pad_in before) (slice_index_or wants g [])
  pub outs : rules.configured text (map (λ w. head_in (pad_in before w)) (slice_index_or wants g [])) ≡ Ok m.outs

module _ (rules : Rules) (graphs : List Graph) (wants : List (List Want)) where
  abbrev pub AreMade : List Made → List ℕ → List Made → Type 0
  AreMade before [] [] = Unit {0}
  AreMade before [] (m ∷ ms) = ⊥
  AreMade before (g ∷ gs) [] = ⊥
  AreMade before (g ∷ gs) (m ∷ ms) = IsMade rules graphs wants before g m × AreMade (before ++ m ∷ []) gs ms

  made_is : (before : List Made) (g : ℕ) (text : Graph) (r : Result (List OpenOut) Refused) (m : Made) → slice_get graphs g ≡ Some text
      → rules.configured text (map (λ w. head_in (pad_in before w)) (slice_index_or wants g [])) ≡ r
      → made_of g (filter_map (pad_in before) (slice_index_or wants g [])) r ≡ Ok m → IsMade rules graphs wants before g m
  made_is before g text (Ok outs) m at e h =
      let ins = filter_map (pad_in before) (slice_index_or wants g []) in
      let x : Made = record { laid = record { graph = g; ins = ins }; outs = outs } in
      let same : x ≡ m = same_ok x m h in
      subst (λ (y : Made). IsMade rules graphs wants before g y) same (record { text = text; there = at; number = refl; ins = refl; outs = e })
  made_is before g text (Err r) m at e h = absurd (not_ok _ m h)

  one_is : (before : List Made) (g : ℕ) (o : Option Graph) (m : Made) → slice_get graphs g ≡ o → g < length graphs → configure rules before wants g o ≡ Ok m → IsMade rules graphs wants before g m
  one_is before g None m at lt h = absurd (beyond graphs g at lt) where
    beyond : (xs : List Graph) (k : ℕ) → slice_get xs k ≡ None → k < length xs → ⊥
    beyond [] k e l = omega (arith, l)
    beyond (x ∷ xs) zero e l = nothing x (sym e)
    beyond (x ∷ xs) (suc k) e l = beyond xs k e (omega (arith, l))
  one_is before g (Some text) m at lt h = made_is before g text (rules.configured text (map (λ w. head_in (pad_in before w)) (slice_index_or wants g []))) m at refl h

  pub made_all : (before : List Made) (order : List ℕ) (made : List Made) → AllByRecursion (λ g. g < length graphs) order → make_from rules graphs wants before order ≡ Ok made
      → (new : List Made) × (before ++ new ≡ made) × AreMade before order new
  made_all before [] made low h = ([], append-nil before ∙ same_ok before made h, tt)
  made_all before (g ∷ gs) made low h =
      let first = behind_ok (configure rules before wants g (slice_get graphs g)) (λ m. make_from rules graphs wants (before ++ m ∷ []) gs) made h in
      let rest = made_all (before ++ first.0 ∷ []) gs made low.1 first.2 in
      (first.0 ∷ rest.0, sym (append_assoc before (first.0 ∷ []) rest.0) ∙ rest.1, (one_is before g (slice_get graphs g) first.0 refl low.0 first.1, rest.2))
