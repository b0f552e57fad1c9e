-- A graph whose filters were made is a drawing.
use Rattle.std.proofs.Common.{◌≡◌, ℕ, zero, suc, ◌<◌, ◌≤◌, Bool, false, List, [], ◌∷◌, length, slice_get, slice_index_or, Option, Some, Ok}
use Rattle.std.proofs.Common.{refl, ap, sym, ◌∙◌, subst, arith}
use Rattle.ff_frame.specs.declared.head.StreamHead.{StreamHead}
use Rattle.ff_lang.specs.declared.graph.Graph.{Graph}
use Rattle.ff_filter.specs.Views.{View}
use Rattle.ff_graph_links.specs.orders.Orders.{loops as is_looped, IsOrder, IsOrderFrom, IsLowestFrom}
use Rattle.ff_graph_links.proofs.OrdersLemmas.Lowest.{is_lowest}
use Rattle.ff_graph_links.specs.declared.pads.drawn.Pad.{Pad}
use Rattle.ff_graph_links.specs.pads.Links.{Seen}
use Rattle.ff_stream.specs.declared.item.Lane.{Lane}
use Rattle.ff_stream.specs.declared.item.Lane.TheVariants.{Frames}
use Rattle.ff_filters.proofs.Owed.{gives}
use Rattle.ff_graph.specs.Drawings.{seen_graph}
use Rattle.ff_graph.specs.Opens.{feeders_in, filter_order, open_pads, sources_in, loops}
use Rattle.ff_graph.specs.Configured.{Made, make_all, open_outs}
use Rattle.ff_graph.proofs.Refusals.{feeders_size, order_there}
use Rattle.ff_graph_dag.specs.wiring.Flows.{IsForward, IsDrawing}
use Rattle.ff_graph_dag.proofs.WiringLemmas.Forward.{forward, all_come}
use Rattle.ff_graph_dag.proofs.WiringLemmas.Opening.{opens_open, opens_once, opens_all}
use Rattle.ff_graph_links.specs.labels.Clear.{IsClear}
use Rattle.ff_graph.specs.laws.composed.Ready.{pads_of, counts_of, IsReady, AreReady}
use Rattle.ff_graph.proofs.ComposedLemmas.Elements.{some_same, no_some, got_below, map_size, map_or}
use Rattle.ff_graph.proofs.ComposedLemmas.Sourced.{sources_size}
use Rattle.ff_graph.proofs.ComposedLemmas.Feeding.{HaveRoom, fed_once, fed_there, fed_after}
use Rattle.ff_graph.proofs.ComposedLemmas.Outs.{outs_there, outs_free, outs_once, outs_all}
use Rattle.ff_graph.proofs.ComposedLemmas.Seeing.{pads_there, starts_anew, labels_once}
use Rattle.ff_graph.proofs.ComposedLemmas.Counts.{outputs_there, labels_there}
use Rattle.ff_graph.proofs.ComposedLemmas.Made.{IsMade, AreMade, NoneTwice, all_made}
use Rattle.ff_graph.proofs.ComposedLemmas.Limiting.{into_size}

-- ---- the order

lowest_goes : (feeders : List (List ℕ)) (taken : List Bool) (ks : List ℕ) → IsLowestFrom feeders taken ks → IsOrderFrom feeders taken ks
lowest_goes feeders taken [] h = h
lowest_goes feeders taken (k ∷ ks) h = (h.0, h.1, lowest_goes feeders _ ks h.3)

pub in_order : (ds : List Seen) → is_looped (feeders_in ds) ≡ false → IsOrder (feeders_in ds) (filter_order ds)
in_order ds e = lowest_goes (feeders_in ds) _ (filter_order ds) (is_lowest (feeders_in ds) e)

none_twice : (sources : List (List (Option Pad))) (ks : List ℕ) → IsForward sources ks → NoneTwice ks
none_twice sources [] f = tt
none_twice sources (k ∷ ks) f = (f.0, none_twice sources ks f.2)

-- ---- room

-- the one of this place
pub made_at : (ds : List Seen) (given : List (Option StreamHead)) (final : List (List StreamHead)) (ks : List ℕ) (vs : List View) (j k : ℕ) → AreMade ds given final ks vs
    → slice_get ks j ≡ Some k → (v : View) × (slice_get vs j ≡ Some v) × IsMade ds given final k v
made_at ds given final [] vs j k m e = no_some k e
made_at ds given final (x ∷ ks) [] j k m e = absurd m
made_at ds given final (x ∷ ks) (v ∷ vs) zero k m e = (v, refl, subst (λ (n : ℕ). IsMade ds given final n v) (some_same x k e) m.0)
made_at ds given final (x ∷ ks) (v ∷ vs) (suc j) k m e = made_at ds given final ks vs j k m.1 e

has_room : (g : Graph) (given : List (Option StreamHead)) (final : List (List StreamHead)) (k : ℕ) (d : Seen) (v : View) → slice_get (seen_graph g) k ≡ Some d
    → IsMade (seen_graph g) given final k v → (length d.filter.outs ≤ length (slice_index_or final k [])) × (d.outputs ≤ length (slice_index_or final k []))
has_room g given final k d v e m =
    let own : m.own ≡ d = some_same m.own d (sym m.there ∙ e) in
    let pads = pads_there g k m.own m.made.name m.there m.made.named in
    let size : length (slice_index_or final k []) ≡ length m.filter.outs = ap (λ (hs : List StreamHead). length hs) m.outs in
    let labels = labels_there m.made.name m.own m.made.ins m.filter pads.outputs m.made.enough m.made.is in
    let outputs = outputs_there m.made.name m.own.filter.args m.made.ins m.filter m.made.is in
    let as_said = pads.outputs in
    subst (λ (x : Seen). (length x.filter.outs ≤ length (slice_index_or final k [])) × (x.outputs ≤ length (slice_index_or final k []))) own (
      omega (arith, size, labels),
      omega (arith, size, outputs, as_said),
    )

-- ---- all of it

-- a graph whose filters were made
pub record IsWhole (ds : List Seen) (given : List (Option StreamHead)) (made : Made) : Type 0 where
  pub drawing : IsDrawing (sources_in ds) (filter_order ds) (counts_of made.heads) (open_pads ds) (pads_of (open_outs ds made.heads))
  pub each : AreMade ds given made.heads (filter_order ds) made.views
  pub size : length made.heads ≡ length ds

pub whole : (g : Graph) (given : List (Option StreamHead)) (made : Made) → IsClear g → loops g ≡ false → make_all (seen_graph g) given ≡ Ok made
    → IsWhole (seen_graph g) given made
whole g given made clear unlooped e =
    let ds : List Seen = seen_graph g in
    let order = in_order ds unlooped in
    let onward = forward (feeders_in ds) (sources_in ds) (fed_after ds) (filter_order ds) order in
    let all = all_made ds given (filter_order ds) made e (none_twice (sources_in ds) (filter_order ds) onward) (order_there ds) in
    let rows : length (sources_in ds) ≡ length ds = sources_size ds 0 ds in
    let feeders = feeders_size ds 0 ds in
    let comes : (f : ℕ) → f < length ds → (j : ℕ) × (slice_get (filter_order ds) j ≡ Some f) =
    (λ f lt. all_come (feeders_in ds) (filter_order ds) order f (omega (arith, feeders, lt))) in
    let room : HaveRoom ds made.heads =
    (λ k d there.
    let j = comes k (got_below ds k d there) in
    let m = made_at ds given made.heads (filter_order ds) made.views j.0 k all.0 j.1 in
    has_room g given made.heads k d m.0 there m.2) in
    record {
      drawing = record {
        forward = onward;
        all = λ f lt. comes f (omega (arith, rows, lt));
        counted = map_size (λ (hs : List StreamHead). length hs) made.heads ∙ all.1 ∙ sym rows;
        there = fed_there ds made.heads room;
        once = fed_once ds (labels_once g clear) (starts_anew g);
        opens_open = opens_open (sources_in ds);
        opens_once = opens_once (sources_in ds);
        opens_all = opens_all (sources_in ds);
        outs_there = outs_there (sources_in ds) ds made.heads;
        outs_free = outs_free (sources_in ds) ds made.heads;
        outs_once = outs_once (sources_in ds) ds made.heads;
        outs_all = outs_all (sources_in ds) ds made.heads all.1;
      };
      each = all.0;
      size = all.1;
    }

-- ---- ready

one_ready : (ds : List Seen) (given : List (Option StreamHead)) (final : List (List StreamHead)) (k : ℕ) (v : View) → IsMade ds given final k v
    → IsReady (sources_in ds) (counts_of final) k v
one_ready ds given final k v m =
    let a = gives m.made.name m.own.filter.args m.made.ins m.filter m.made.is in
    subst (λ (x : View). IsReady (sources_in ds) (counts_of final) k x) m.view (record {
      ins = sym (into_size (open_pads ds) given m.heads k 0 (slice_index_or (sources_in ds) k []) m.made.ins m.made.comes)
          ∙ sym (map_size (λ (h : StreamHead). Frames h) m.made.ins) ∙ ap (λ (ls : List Lane). length ls) (sym a.ins);
      outs = map_or (λ (hs : List StreamHead). length hs) final k [] ∙ ap (λ (hs : List StreamHead). length hs) m.outs
          ∙ sym (map_size (λ (h : StreamHead). Frames h) m.filter.outs) ∙ ap (λ (ls : List Lane). length ls) (sym a.outs);
      new = a.new;
    })

pub are_ready : (ds : List Seen) (given : List (Option StreamHead)) (final : List (List StreamHead)) (ks : List ℕ) (vs : List View) → AreMade ds given final ks vs
    → AreReady (sources_in ds) (counts_of final) ks vs
are_ready ds given final [] [] m = tt
are_ready ds given final [] (v ∷ vs) m = absurd m
are_ready ds given final (k ∷ ks) [] m = absurd m
are_ready ds given final (k ∷ ks) (v ∷ vs) m = (one_ready ds given final k v m.0, are_ready ds given final ks vs m.1)
