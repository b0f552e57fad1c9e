-- What a graph is whose filters were made.
use Rattle.std.proofs.Common.{◌≡◌, ℕ, Bool, false, List, [], ◌∷◌, length, map, Option, Result, Ok, Err, refl, ap, sym, ◌∙◌, subst}
use Rattle.ff_trim.specs.declared.counted.OutputCut.{OutputCut}
use Rattle.ff_frame.specs.declared.head.StreamHead.{StreamHead}
use Rattle.ff_stream.specs.declared.item.Lane.{Lane}
use Rattle.ff_stream.specs.declared.item.Lane.TheVariants.{Frames}
use Rattle.ff_lang.specs.declared.graph.Graph.{Graph}
use Rattle.ff_net.specs.Pasts.{start}
use Rattle.ff_filter.specs.Joins.{Flow, Ports}
use Rattle.ff_filter.specs.Views.{View}
use Rattle.ff_node_filter.specs.Limiting.{IsLimited, limit_cause}
use Rattle.ff_node_filter.specs.Tasks.{Stands, filter_task}
use Rattle.ff_graph_links.specs.declared.pads.drawn.Pad.{Pad}
use Rattle.ff_graph_links.specs.pads.Links.{opens_from}
use Rattle.ff_filters.specs.limited.Cuts.{AreStreamHeads}
use Rattle.ff_trim.specs.Cuts.{cut_at, cut_each}
use Rattle.ff_graph.specs.Drawings.{seen_graph}
use Rattle.ff_graph.specs.Opens.{filter_order, open_pads, sources_in, loops}
use Rattle.ff_graph.specs.Configured.{Made, OpenOut, Refused, configured, make_all, outs_of, open_outs}
use Rattle.ff_graph.specs.Meaning.{graph_means, means_as}
use Rattle.ff_graph_dag.specs.wiring.Flows.{no_flows, flows_from, IsDrawing}
use Rattle.ff_graph_dag.specs.wiring.Limits.{flows_at}
use Rattle.ff_graph_links.specs.labels.Clear.{IsClear}
use Rattle.ff_graph.specs.composed.Cuts.{cuts_as, graph_cuts, outs_or_none, all_given, graph_outs}
use Rattle.ff_graph.specs.laws.composed.Ready.{pads_of, counts_of, AreReady}
use Rattle.ff_graph.proofs.ComposedLemmas.Drawing.{whole, are_ready}
use Rattle.ff_graph.proofs.ComposedLemmas.Elements.{map_size}
use Rattle.ff_graph.proofs.ComposedLemmas.Limiting.{whole_limited}

ok_same : {A E : Type 0} (x y : A) → (let r : Result A E = Ok x in r) ≡ Ok y → x ≡ y
ok_same x y e = cc

pub outs_are : (g : Graph) (given : List (Option StreamHead)) (made : Made) (os : List OpenOut) → configured g given ≡ Ok os → make_all (seen_graph g) given ≡ Ok made
    → os ≡ open_outs (seen_graph g) made.heads
outs_are g given made os c m =
    sym (ok_same (open_outs (seen_graph g) made.heads) os (sym (ap (λ (r : Result Made Refused). outs_of (seen_graph g) r) m) ∙ c))

pub outs_there : (g : Graph) (heads : List StreamHead) (os : List OpenOut) → configured g (all_given heads) ≡ Ok os → os ≡ graph_outs g heads
outs_there g heads os c = sym (ap (λ (r : Result (List OpenOut) Refused). outs_or_none r) c)

-- ---- with what the code has

module _ (g : Graph) (given : List (Option StreamHead)) (made : Made) (os : List OpenOut) (sources : List (List (Option Pad))) (order : List ℕ)
    (m : make_all (seen_graph g) given ≡ Ok made) (s : sources ≡ sources_in (seen_graph g)) (o : order ≡ filter_order (seen_graph g))
    (c : configured g given ≡ Ok os) where
  pub drawn_so : IsClear g → loops g ≡ false → IsDrawing sources order (counts_of made.heads) (opens_from 0 sources) (pads_of os)
  drawn_so clear unlooped =
      subst (λ (x : List (List (Option Pad))). IsDrawing x order (counts_of made.heads) (opens_from 0 x) (pads_of os)) (sym s)
      (subst (λ (x : List ℕ). IsDrawing (sources_in (seen_graph g)) x (counts_of made.heads) (open_pads (seen_graph g)) (pads_of os)) (sym o)
      (subst (λ (x : List OpenOut). IsDrawing (sources_in (seen_graph g)) (filter_order (seen_graph g)) (counts_of made.heads) (open_pads (seen_graph g)) (pads_of x))
      (sym (outs_are g given made os c m)) (whole g given made clear unlooped m).drawing))

  pub ready_so : IsClear g → loops g ≡ false → AreReady sources (counts_of made.heads) order made.views
  ready_so clear unlooped =
      subst (λ (x : List (List (Option Pad))). AreReady x (counts_of made.heads) order made.views) (sym s)
      (subst (λ (x : List ℕ). AreReady (sources_in (seen_graph g)) (counts_of made.heads) x made.views) (sym o)
      (are_ready (seen_graph g) given made.heads (filter_order (seen_graph g)) made.views (whole g given made clear unlooped m).each))

  -- what its filters make is what it means
  pub means_so : (λ (ext : Ports). flows_at (pads_of os) (flows_from sources (opens_from 0 sources) ext no_flows order made.views)) ≡ graph_means g given
  means_so =
      ap (λ (x : List (List (Option Pad))). λ (ext : Ports). flows_at (pads_of os) (flows_from x (opens_from 0 x) ext no_flows order made.views)) s
      ∙ ap (λ (x : List ℕ). λ (ext : Ports). flows_at (pads_of os) (flows_from (sources_in (seen_graph g)) (open_pads (seen_graph g)) ext no_flows x made.views)) o
      ∙ ap (λ (x : List OpenOut). λ (ext : Ports).
      flows_at (pads_of x) (flows_from (sources_in (seen_graph g)) (open_pads (seen_graph g)) ext no_flows (filter_order (seen_graph g)) made.views))
      (outs_are g given made os c m)
      ∙ ap (λ (r : Result Made Refused). λ (ext : Ports). means_as (seen_graph g) r ext) (sym m)

-- ---- behind limits

pub text_limited : (g : Graph) (heads : List StreamHead) (os : List OpenOut) → IsClear g → loops g ≡ false → configured g (all_given heads) ≡ Ok os → AreStreamHeads heads
    → IsLimited (map Frames heads) (map (λ o. Frames o.head) os) (graph_means g (all_given heads)) (graph_cuts g (all_given heads))
text_limited g heads os clear unlooped c t = at (make_all (seen_graph g) (all_given heads)) refl
  where
    at : (r : Result Made Refused) → make_all (seen_graph g) (all_given heads) ≡ r
        → IsLimited (map Frames heads) (map (λ o. Frames o.head) os) (graph_means g (all_given heads)) (graph_cuts g (all_given heads))
    at (Err e) m = (let no : (let q : Result (List OpenOut) Refused = Err e in q) ≡ Ok os = sym (ap (λ (r : Result Made Refused). outs_of (seen_graph g) r) m) ∙ c in cc)
    at (Ok made) m =
        subst (λ (r : Result Made Refused). IsLimited (map Frames heads) (map (λ o. Frames o.head) os) (λ ext. means_as (seen_graph g) r ext) (λ ss. cuts_as (seen_graph g) r ss))
        (sym m)
        (subst (λ (x : List OpenOut). IsLimited (map Frames heads) (map (λ o. Frames o.head) x) (means_as (seen_graph g) (Ok made)) (cuts_as (seen_graph g) (Ok made)))
        (sym (outs_are g (all_given heads) made os c m))
        (whole_limited (seen_graph g) heads made t (whole g (all_given heads) made clear unlooped m).each))

-- so is a filter that does what it means
pub limited_so : (ins outs in_lanes out_lanes : List Lane) (f h : Ports → Ports) (cuts : List Flow → Bool) → ins ≡ in_lanes → outs ≡ out_lanes
    → ((ext : Ports) (q : ℕ) → f ext q ≡ h ext q) → IsLimited in_lanes out_lanes h cuts → IsLimited ins outs f cuts
limited_so ins outs in_lanes out_lanes f h cuts i o e l =
    let same : h ≡ f = (λ j ext q. sym (e ext q) j) in
    subst (λ (x : List Lane). IsLimited x outs f cuts) (sym i) (subst (λ (x : List Lane). IsLimited in_lanes x f cuts) (sym o)
    (subst (λ (x : Ports → Ports). IsLimited in_lanes out_lanes x cuts) same l))

-- and it stands for its task
pub stands_so : (v : View) (hurt long : Bool) (k n : ℕ) (f h : Ports → Ports) (cuts : List Flow → Bool) → k ≡ n → ((ext : Ports) (q : ℕ) → f ext q ≡ h ext q)
    → Stands v hurt long (start (filter_task k f (limit_cause k f cuts))) → Stands v hurt long (start (filter_task n h (limit_cause n h cuts)))
stands_so v hurt long k n f h cuts size e s =
    let same : f ≡ h = (λ j ext q. e ext q j) in
    subst (λ (x : Ports → Ports). Stands v hurt long (start (filter_task n x (limit_cause n x cuts)))) same
    (subst (λ (m : ℕ). Stands v hurt long (start (filter_task m f (limit_cause m f cuts)))) size s)

-- ---- with a cut behind each output

framed : (os : List OpenOut) → map (λ o. Frames o.head) os ≡ map (λ h. Frames h) (map (λ o. o.head) os)
framed [] = refl
framed (o ∷ os) = ap (λ (ls : List Lane). Frames o.head ∷ ls) (framed os)

-- these heads are those at the open output pads
pub framed_so : (hs : List StreamHead) (os : List OpenOut) (outs : List Lane) → hs ≡ map (λ o. o.head) os → outs ≡ map (λ o. Frames o.head) os
    → outs ≡ map (λ h. Frames h) hs
framed_so hs os outs h o = o ∙ framed os ∙ ap (λ (xs : List StreamHead). map (λ (x : StreamHead). Frames x) xs) (sym h)

pub counted_so : (hs : List StreamHead) (os : List OpenOut) (n : ℕ) → hs ≡ map (λ o. o.head) os → n ≡ length os → n ≡ length hs
counted_so hs os n h e = e ∙ sym (ap (λ (xs : List StreamHead). length xs) h ∙ map_size (λ (o : OpenOut). o.head) os)

-- cuts behind what does the same
pub cut_so : (hs ks : List StreamHead) (cs : List OutputCut) (f h : Ports → Ports) → hs ≡ ks → ((ext : Ports) (q : ℕ) → f ext q ≡ h ext q) → (ext : Ports) (q : ℕ)
    → cut_each hs cs f ext q ≡ cut_each ks cs h ext q
cut_so hs ks cs f h same e ext q = ap (λ (xs : List StreamHead). cut_at xs cs q (f ext q)) same ∙ ap (λ (s : Flow). cut_at ks cs q s) (e ext q)
