-- A graph whose filters were made has open pads: the first of them in their order is fed by none, and the last feeds none.
use Rattle.std.proofs.Common.{◌≡◌, ◌⊎◌, inl, inr, ℕ, zero, suc, ◌≤◌, ◌<◌, Bool, true, false, Option, None, Some, Result, Ok, Err}
use Rattle.std.proofs.Common.{List, [], ◌∷◌, ◌++◌, length, slice_get, slice_index_or, refl, ap, sym, ◌∙◌, subst, arith}
use Rattle.std.specs.List.{AllByRecursion}
use Rattle.ff_frame.specs.declared.head.StreamHead.{StreamHead}
use Rattle.ff_frame.specs.declared.head.StreamHead.TheVariants.{Audio, Video}
use Rattle.ff_lang.specs.declared.graph.Arg.{Arg}
use Rattle.ff_lang.specs.declared.graph.Chain.{Chain}
use Rattle.ff_lang.specs.declared.graph.Filter.{Filter}
use Rattle.ff_lang.specs.declared.graph.Graph.{Graph}
use Rattle.ff_lang.specs.Grammar.{IsFilter, IsChain, IsGraph, IsSeries}
use Rattle.ff_filter.specs.Options.{is_sound}
use Rattle.ff_afilter.specs.Channels.{channels_in}
use Rattle.ff_graph_links.specs.declared.pads.drawn.Pad.{Pad}
use Rattle.ff_graph_links.specs.pads.Links.{Seen}
use Rattle.ff_filters.specs.declared.name.FilterName.{FilterName}
use Rattle.ff_filters.specs.Configured.{Filtered}
use Rattle.ff_filters.specs.Makes.{configured_as}
use Rattle.ff_filters.specs.Pads.{is_apart, outputs_of}
use Rattle.ff_filters.proofs.Owing.{Counted, AreFew}
use Rattle.ff_filters.proofs.Owed.{owed, gives}
use Rattle.ff_graph.specs.Configured.{Made, OpenOut, Refused, configured, make_all, outs_of, open_outs}
use Rattle.ff_graph.specs.Drawings.{seen_chain, seen_chains, seen_graph}
use Rattle.ff_graph.specs.Opens.{filter_order, loops, open_in, open_ins, open_pads, sources_in}
use Rattle.ff_graph_links.specs.labels.Clear.{IsClear}
use Rattle.ff_graph_dag.specs.wiring.Flows.{IsForward, IsDrawing, source_at}
use Rattle.ff_graph.specs.composed.Cuts.{all_given}
use Rattle.ff_graph.specs.composed.Pads.{HasChannel, HasFilter, HaveChannels}
use Rattle.ff_graph.specs.laws.composed.Ready.{pads_of, counts_of}
use Rattle.ff_graph.proofs.ComposedLemmas.Drawing.{IsWhole, made_at, whole}
use Rattle.ff_graph.proofs.ComposedLemmas.Elements.{some_same, no_some, got, got_below, or_none, there_or_not, map_size, map_or}
use Rattle.ff_graph.proofs.ComposedLemmas.Fed.{pad_of}
use Rattle.ff_graph.proofs.ComposedLemmas.Limiting.{into_size, given_so}
use Rattle.ff_graph.proofs.ComposedLemmas.Made.{IsMade, GivenSo}
use Rattle.ff_graph.proofs.ComposedLemmas.Sourced.{sources_size}
use Rattle.ff_graph.proofs.ComposedLemmas.Whole.{outs_are}

-- ---- each filter takes a stream, and gives one

some_in : (name : FilterName) (args : List Arg) (heads : List StreamHead) (f : Filtered) → configured_as name args heads ≡ Ok f → 1 ≤ length heads
some_in name args heads f e = (let fed = ap (λ (hs : List StreamHead). length hs) (gives name args heads f e).fed in omega (arith, fed))

sound_channels : (h : StreamHead) → is_sound h ≡ true → HasChannel h → 1 ≤ channels_in h
sound_channels (Audio tb rate bits channels codec) s c = c
sound_channels (Video tb format width height sar_num sar_den) s c = cc

some_at : (apart : Bool) (first : StreamHead) (others : List StreamHead) (given said : ℕ) → Counted apart first others given said → AreFew apart said → HasChannel first
    → 1 ≤ given
some_at false first others given said c few heard = (let some = few.0 in omega (arith, c, some))
some_at true first others given said c few heard = (let some = sound_channels first c.1 heard in let size = c.2 in omega (arith, some, size))

some_out : (name : FilterName) (args : List Arg) (heads : List StreamHead) (f : Filtered) → AllByRecursion HasChannel heads → configured_as name args heads ≡ Ok f
    → 1 ≤ length f.outs
some_out name args heads f c e =
    let g = gives name args heads f e in
    some_at (is_apart name) g.first g.others (length f.outs) (outputs_of name args) g.count ((owed name).outputs args)
    (subst (λ (hs : List StreamHead). AllByRecursion HasChannel hs) g.fed c).0

-- ---- the first and the last in their order

-- no filter is fed by one that doesn't come before it
none_later : (sources : List (List (Option Pad))) (order : List ℕ) (j n f i : ℕ) (from : Pad) → IsForward sources order → slice_get order j ≡ Some f
    → source_at sources f i ≡ Some (Some from) → slice_get order n ≡ Some from.filter → j ≤ n → ⊥
none_later sources [] j n f i from w a s b le = no_some f a
none_later sources (k ∷ ks) zero n f i from w a s b le =
    let same : k ≡ f = some_same k f a in
    w.1 i from (ap (λ (x : ℕ). source_at sources x i) same ∙ s) n b
none_later sources (k ∷ ks) (suc j) zero f i from w a s b le = absurd (omega (arith, le))
none_later sources (k ∷ ks) (suc j) (suc n) f i from w a s b le = none_later sources ks j n f i from w.2 a s b (omega (arith, le))

-- a filter that has this pad is there
row_there : (sources : List (List (Option Pad))) (f i : ℕ) (from : Option Pad) → source_at sources f i ≡ Some from → f < length sources
row_there sources f i from s = at (there_or_not (slice_get sources f))
  where
    at : (slice_get sources f ≡ None) ⊎ ((row : List (Option Pad)) × (slice_get sources f ≡ Some row)) → f < length sources
    at (inl none) = no_some from (ap (λ (row : List (Option Pad)). slice_get row i) (sym (or_none sources f [] none)) ∙ s)
    at (inr row) = got_below sources f row.0 row.1

count_there : (counts : List ℕ) (f p : ℕ) → p < slice_index_or counts f 0 → f < length counts
count_there counts f p lt = at (there_or_not (slice_get counts f))
  where
    at : (slice_get counts f ≡ None) ⊎ ((n : ℕ) × (slice_get counts f ≡ Some n)) → f < length counts
    at (inl none) = (let no : slice_index_or counts f 0 ≡ 0 = or_none counts f 0 none in absurd (omega (arith, lt, no)))
    at (inr n) = got_below counts f n.0 n.1

module _ (sources : List (List (Option Pad))) (order counts : List ℕ) (opens outs : List Pad) (d : IsDrawing sources order counts opens outs) where
  -- an input pad of the first is open
  first_open : (k : ℕ) → slice_get order 0 ≡ Some k → (from : Option Pad) → source_at sources k 0 ≡ Some from → 1 ≤ length opens
  first_open k first None s = let o = d.opens_all (pad_of k 0) s in let lt = got_below opens o.0 (pad_of k 0) o.1 in omega (arith, lt)
  first_open k first (Some p) s =
      let counted = d.counted in
      let there = count_there counts p.filter p.pad (d.there k 0 p s) in
      let at = d.all p.filter (omega (arith, there, counted)) in
      absurd (none_later sources order 0 at.0 k 0 p d.forward first s at.1 (omega arith))

  -- an output pad of the last is open
  last_open : (n k : ℕ) → suc n ≡ length order → slice_get order n ≡ Some k → 0 < slice_index_or counts k 0 → 1 ≤ length outs
  last_open n k size last lt = at (d.outs_all (pad_of k 0) lt)
    where
      at : ((f : ℕ) × (i : ℕ) × (source_at sources f i ≡ Some (Some (pad_of k 0)))) ⊎ ((q : ℕ) × (slice_get outs q ≡ Some (pad_of k 0))) → 1 ≤ length outs
      at (inl fed) =
          (let comes = d.all fed.0 (row_there sources fed.0 fed.1 (Some (pad_of k 0)) fed.2) in
          let before = got_below order comes.0 fed.0 comes.1 in
          absurd (none_later sources order comes.0 n fed.0 fed.1 (pad_of k 0) d.forward comes.1 fed.2 last (omega (arith, before, size))))
      at (inr q) = (let there = got_below outs q.0 (pad_of k 0) q.1 in omega (arith, there))

-- ---- both

-- so many filters in their order, of which there is at least one
some_order : (ds : List Seen) (given : List (Option StreamHead)) (made : Made) → IsWhole ds given made → 1 ≤ length ds → 1 ≤ length (filter_order ds)
some_order ds given made w some =
    let rows : length (sources_in ds) ≡ length ds = sources_size ds 0 ds in
    let at = w.drawing.all 0 (omega (arith, rows, some)) in
    let there = got_below (filter_order ds) at.0 0 at.1 in
    omega (arith, there)

pub some_opens : (ds : List Seen) (given : List (Option StreamHead)) (made : Made) → IsWhole ds given made → 1 ≤ length ds → 1 ≤ length (open_pads ds)
some_opens ds given made w some =
    let long = some_order ds given made w some in
    let k = got (filter_order ds) 0 (omega (arith, long)) in
    let m = made_at ds given made.heads (filter_order ds) made.views 0 k.0 w.each k.1 in
    let own : IsMade ds given made.heads k.0 m.0 = m.2 in
    let ins = some_in own.made.name own.own.filter.args own.made.ins own.filter own.made.is in
    let size = into_size (open_pads ds) given own.heads k.0 0 (slice_index_or (sources_in ds) k.0 []) own.made.ins own.made.comes in
    let from = got (slice_index_or (sources_in ds) k.0 []) 0 (omega (arith, ins, size)) in
    first_open (sources_in ds) (filter_order ds) (counts_of made.heads) (open_pads ds) (pads_of (open_outs ds made.heads)) w.drawing k.0 k.1 from.0 from.1

pub some_outs : (ds : List Seen) (given : List (Option StreamHead)) (made : Made) → IsWhole ds given made → 1 ≤ length ds → GivenSo HasChannel given
    → 1 ≤ length (open_outs ds made.heads)
some_outs ds given made w some heard =
    let long = some_order ds given made w some in
    let last : (n : ℕ) × (suc n ≡ length (filter_order ds)) = before (length (filter_order ds)) long in
    let size = last.1 in
    let k = got (filter_order ds) last.0 (omega (arith, size)) in
    let m = made_at ds given made.heads (filter_order ds) made.views last.0 k.0 w.each k.1 in
    let own : IsMade ds given made.heads k.0 m.0 = m.2 in
    let outs = some_out own.made.name own.own.filter.args own.made.ins own.filter (own.heard heard) own.made.is in
    let count : slice_index_or (counts_of made.heads) k.0 0 ≡ length own.filter.outs =
    map_or (λ (hs : List StreamHead). length hs) made.heads k.0 [] ∙ ap (λ (hs : List StreamHead). length hs) own.outs in
    let open_one = last_open (sources_in ds) (filter_order ds) (counts_of made.heads) (open_pads ds) (pads_of (open_outs ds made.heads)) w.drawing last.0 k.0 size k.1
    (omega (arith, outs, count)) in
    let same = map_size (λ o. o.at) (open_outs ds made.heads) in
    omega (arith, open_one, same)
  where
    before : (n : ℕ) → 1 ≤ n → (m : ℕ) × (suc m ≡ n)
    before zero le = absurd (omega (arith, le))
    before (suc n) le = (n, refl)

pub text_pads : (g : Graph) (heads : List StreamHead) (os : List OpenOut) → IsClear g → loops g ≡ false → configured g (all_given heads) ≡ Ok os → HasFilter g
    → (1 ≤ length (open_ins g)) × (HaveChannels heads → 1 ≤ length os)
text_pads g heads os clear unlooped c some = at (make_all (seen_graph g) (all_given heads)) refl
  where
    at : (r : Result Made Refused) → make_all (seen_graph g) (all_given heads) ≡ r → (1 ≤ length (open_ins g)) × (HaveChannels heads → 1 ≤ length os)
    at (Err e) m = (let no : (let q : Result (List OpenOut) Refused = Err e in q) ≡ Ok os = sym (ap (λ (r : Result Made Refused). outs_of (seen_graph g) r) m) ∙ c in cc)
    at (Ok made) m =
        (let w = whole g (all_given heads) made clear unlooped m in
        let opens = some_opens (seen_graph g) (all_given heads) made w some in
        let size : length (open_ins g) ≡ length (open_pads (seen_graph g)) = map_size (λ (p : Pad). open_in p (slice_get (seen_graph g) p.filter))
        (open_pads (seen_graph g)) in (
          omega (arith, opens, size),
          λ heard. subst (λ (x : List OpenOut). 1 ≤ length x) (sym (outs_are g (all_given heads) made os c m))
              (some_outs (seen_graph g) (all_given heads) made w some (given_so HasChannel heads heard)),
        ))

-- ---- a graph that is written

pub written_has : (text : List ℕ) (g : Graph) → IsGraph text g → HasFilter g
written_has text g w = at g.chains w
  where
    in_chain : (fs : List Filter) (cs : List Chain) (first : List ℕ) → IsSeries IsFilter 44 first fs → 1 ≤ length (seen_chain false fs ++ seen_chains cs)
    in_chain [] cs first h = absurd h
    in_chain (f ∷ fs) cs first h = omega arith

    at : (cs : List Chain) → IsSeries IsChain 59 text cs → 1 ≤ length (seen_chains cs)
    at [] h = absurd h
    at (c ∷ cs) h = in_chain c.filters cs h.0 h.3
