-- Each filter of a graph is behind limits, and takes what comes to it.
use Rattle.std.specs.List.{AllByRecursion}
use Rattle.std.proofs.Common.{◌≡◌, ℕ, zero, suc, ◌+◌, List, [], ◌∷◌, length, map, slice_get, slice_index_or, Option, None, Some, Ok, refl, ap, sym, ◌∙◌, subst, arith}
use Rattle.ff_frame.specs.declared.head.StreamHead.{StreamHead}
use Rattle.ff_stream.specs.declared.item.Lane.{Lane}
use Rattle.ff_stream.specs.declared.item.Lane.TheVariants.{Frames}
use Rattle.ff_net.specs.Ways.{lane_at}
use Rattle.ff_filter.specs.Views.{View}
use Rattle.ff_node_filter.specs.Limiting.{IsLimited}
use Rattle.ff_graph_links.specs.declared.pads.drawn.Pad.{Pad}
use Rattle.ff_graph_links.specs.pads.Links.{Seen}
use Rattle.ff_filters.specs.limited.Cuts.{cuts_in, AreStreamHeads}
use Rattle.ff_filters.proofs.Owed.{gives, limited}
use Rattle.ff_graph.specs.Opens.{filter_order, open_pads, sources_in}
use Rattle.ff_graph.specs.Configured.{Made, OpenOut, head_into, heads_into, and_head, open_outs}
use Rattle.ff_graph.specs.Meaning.{means_as}
use Rattle.ff_graph_dag.specs.wiring.Flows.{source_at, pad_place}
use Rattle.ff_graph_dag.specs.wiring.Limits.{Takes, Suits, AreLimited, Leave}
use Rattle.ff_graph_dag.proofs.WiringLemmas.LimitedGraphs.{graph_limited}
use Rattle.ff_graph.specs.composed.Cuts.{cuts_as, all_given}
use Rattle.ff_graph.proofs.ComposedLemmas.Elements.{some_same, no_some}
use Rattle.ff_graph.proofs.ComposedLemmas.Fed.{pad_of}
use Rattle.ff_graph.proofs.ComposedLemmas.Outs.{open_out}
use Rattle.ff_graph.proofs.ComposedLemmas.Made.{IsMade, AreMade, GivenSo, so_at}
use Rattle.ff_concat.specs.laws.Fed.{CanFollow}

-- ---- heads and lanes

pub lane_got : (hs : List StreamHead) (i : ℕ) (h : StreamHead) → slice_get hs i ≡ Some h → lane_at (map Frames hs) i ≡ Some (Frames h)
lane_got [] i h e = no_some h e
lane_got (x ∷ hs) zero h e = ap (λ (y : StreamHead). Some (Frames y)) (some_same x h e)
lane_got (x ∷ hs) (suc i) h e = lane_got hs i h e

lane_none : (hs : List StreamHead) (i : ℕ) → slice_get hs i ≡ None → lane_at (map Frames hs) i ≡ None
lane_none [] i e = refl
lane_none (x ∷ hs) zero e = cc
lane_none (x ∷ hs) (suc i) e = lane_none hs i e

-- ---- the heads of what comes to a filter

-- one more head in front
pub record IsAnd (o : Option StreamHead) (os : Option (List StreamHead)) (ins : List StreamHead) : Type 0 where
  pub first : StreamHead
  pub others : List StreamHead
  pub first_is : o ≡ Some first
  pub others_are : os ≡ Some others
  pub all : ins ≡ first ∷ others

pub and_is : (o : Option StreamHead) (os : Option (List StreamHead)) (ins : List StreamHead) → and_head o os ≡ Some ins → IsAnd o os ins
and_is None os ins e = cc
and_is (Some h) None ins e = cc
and_is (Some h) (Some hs) ins e = record { first = h; others = hs; first_is = refl; others_are = refl; all = sym (some_same (h ∷ hs) ins e) }

module _ (opens : List Pad) (given : List (Option StreamHead)) (heads : List (List StreamHead)) (k : ℕ) where
  pub into_got : (i : ℕ) (ss : List (Option Pad)) (ins : List StreamHead) (j m : ℕ) (s : Option Pad) → heads_into opens given heads k i ss ≡ Some ins → m ≡ i + j
      → slice_get ss j ≡ Some s → (h : StreamHead) × (slice_get ins j ≡ Some h) × (head_into opens given heads (pad_of k m) s ≡ Some h)
  into_got i [] ins j m s e z g = no_some s g
  into_got i (x ∷ ss) ins zero m s e z g =
      let a : IsAnd (head_into opens given heads (pad_of k i) x) (heads_into opens given heads k (suc i) ss) ins =
      and_is (head_into opens given heads (pad_of k i) x) (heads_into opens given heads k (suc i) ss) ins e in
      let same : x ≡ s = some_same x s g in
      let here : m ≡ i = omega arith in (
        a.first,
        ap (λ (hs : List StreamHead). slice_get hs 0) a.all,
        ap (λ (n : ℕ). head_into opens given heads (pad_of k n) s) here ∙ ap (λ (t : Option Pad). head_into opens given heads (pad_of k i) t) (sym same) ∙ a.first_is,
      )
  into_got i (x ∷ ss) ins (suc j) m s e z g =
      let a : IsAnd (head_into opens given heads (pad_of k i) x) (heads_into opens given heads k (suc i) ss) ins =
      and_is (head_into opens given heads (pad_of k i) x) (heads_into opens given heads k (suc i) ss) ins e in
      let more = into_got (suc i) ss a.others j m s a.others_are (omega arith) g in
      (more.0, ap (λ (hs : List StreamHead). slice_get hs (suc j)) a.all ∙ more.1, more.2)

  pub into_none : (i : ℕ) (ss : List (Option Pad)) (ins : List StreamHead) (j : ℕ) → heads_into opens given heads k i ss ≡ Some ins → slice_get ss j ≡ None
      → slice_get ins j ≡ None
  into_none i [] ins j e g = ap (λ (hs : List StreamHead). slice_get hs j) (sym (some_same [] ins e))
  into_none i (x ∷ ss) ins zero e g = cc
  into_none i (x ∷ ss) ins (suc j) e g =
      let a : IsAnd (head_into opens given heads (pad_of k i) x) (heads_into opens given heads k (suc i) ss) ins =
      and_is (head_into opens given heads (pad_of k i) x) (heads_into opens given heads k (suc i) ss) ins e in
      ap (λ (hs : List StreamHead). slice_get hs (suc j)) a.all ∙ into_none (suc i) ss a.others j a.others_are g

  pub into_size : (i : ℕ) (ss : List (Option Pad)) (ins : List StreamHead) → heads_into opens given heads k i ss ≡ Some ins → length ins ≡ length ss
  into_size i [] ins e = ap (λ (hs : List StreamHead). length hs) (sym (some_same [] ins e))
  into_size i (x ∷ ss) ins e =
      let a : IsAnd (head_into opens given heads (pad_of k i) x) (heads_into opens given heads k (suc i) ss) ins =
      and_is (head_into opens given heads (pad_of k i) x) (heads_into opens given heads k (suc i) ss) ins e in
      ap (λ (hs : List StreamHead). length hs) a.all ∙ ap (λ (n : ℕ). suc n) (into_size (suc i) ss a.others a.others_are)

-- ---- what is given

given_got : (heads : List StreamHead) (n : ℕ) (h : StreamHead) → slice_index_or (all_given heads) n None ≡ Some h → slice_get heads n ≡ Some h
given_got [] n h e = no_some h e
given_got (x ∷ heads) zero h e = e
given_got (x ∷ heads) (suc n) h e = given_got heads n h e

pub given_so : (P : StreamHead → Type 0) (heads : List StreamHead) → AllByRecursion P heads → GivenSo P (all_given heads)
given_so P heads t n h e = so_at P heads n h t (given_got heads n h e)

-- ---- each filter

-- what the output pads carry in the end
abbrev pub lanes_by : List (List StreamHead) → Pad → Option Lane
lanes_by final p = lane_at (map Frames (slice_index_or final p.filter [])) p.pad

module _ (ds : List Seen) (heads : List StreamHead) (final : List (List StreamHead)) where
  takes : (k i : ℕ) (v : View) (m : IsMade ds (all_given heads) final k v) (o : Option (Option Pad)) → source_at (sources_in ds) k i ≡ o
      → Takes (map Frames heads) (open_pads ds) (lanes_by final) (pad_of k i) (lane_at (map Frames m.made.ins) i) o
  takes k i v m None e =
      lane_none m.made.ins i (into_none (open_pads ds) (all_given heads) m.heads k 0 (slice_index_or (sources_in ds) k []) m.made.ins i m.made.comes e)
  takes k i v m (Some None) e =
      let h = into_got (open_pads ds) (all_given heads) m.heads k 0 (slice_index_or (sources_in ds) k []) m.made.ins i i None m.made.comes (omega arith) e in
      let there = given_got heads (pad_place (open_pads ds) (pad_of k i)) h.0 h.2 in (
        Frames h.0,
        lane_got heads (pad_place (open_pads ds) (pad_of k i)) h.0 there,
        lane_got m.made.ins i h.0 h.1,
      )
  takes k i v m (Some (Some from)) e =
      let h = into_got (open_pads ds) (all_given heads) m.heads k 0 (slice_index_or (sources_in ds) k []) m.made.ins i i (Some from) m.made.comes (omega arith) e in (
        Frames h.0,
        lane_got (slice_index_or final from.filter []) from.pad h.0 (m.stays from h.0 h.2),
        lane_got m.made.ins i h.0 h.1,
      )

  suits : (k : ℕ) (v : View) → IsMade ds (all_given heads) final k v → Suits (sources_in ds) (open_pads ds) (map Frames heads) (lanes_by final) k v
  suits k v m =
      let a = gives m.made.name m.own.filter.args m.made.ins m.filter m.made.is in
      subst (λ (x : View). Suits (sources_in ds) (open_pads ds) (map Frames heads) (lanes_by final) k x) m.view (record {
        takes = λ i. subst (λ (ls : List Lane). Takes (map Frames heads) (open_pads ds) (lanes_by final) (pad_of k i) (lane_at ls i) (source_at (sources_in ds) k i)) (sym a.ins)
            (takes k i v m (source_at (sources_in ds) k i) refl);
        gives = λ o. ap (λ (hs : List StreamHead). lane_at (map Frames hs) o) m.outs ∙ ap (λ (ls : List Lane). lane_at ls o) (sym a.outs);
      })

  one_limited : (k : ℕ) (v : View) → AreStreamHeads heads → IsMade ds (all_given heads) final k v → IsLimited v.ins v.outs v.rest (cuts_in v)
  one_limited k v t m =
      subst (λ (x : View). IsLimited x.ins x.outs x.rest (cuts_in x)) m.view
      (limited m.made.name m.own.filter.args m.made.ins m.filter (m.follow (given_so CanFollow heads t)) m.made.is)

  are_limited : (ks : List ℕ) (vs : List View) → AreStreamHeads heads → AreMade ds (all_given heads) final ks vs
      → AreLimited (sources_in ds) (open_pads ds) (map Frames heads) (lanes_by final) ks vs (map (λ v. cuts_in v) vs)
  are_limited [] vs t m = tt
  are_limited (k ∷ ks) [] t m = absurd m
  are_limited (k ∷ ks) (v ∷ vs) t m = (suits k v m.0, one_limited k v t m.0, are_limited ks vs t m.1)

-- ---- the graph

frames_out : (os : List OpenOut) (q : ℕ) (l : Lane) → lane_at (map (λ o. Frames o.head) os) q ≡ Some l → (o : OpenOut) × (slice_get os q ≡ Some o) × (Frames o.head ≡ l)
frames_out [] q l e = no_some l e
frames_out (o ∷ os) zero l e = (o, refl, some_same (Frames o.head) l e)
frames_out (o ∷ os) (suc q) l e = frames_out os q l e

pad_got : (os : List OpenOut) (q : ℕ) (o : OpenOut) → slice_get os q ≡ Some o → slice_get (map (λ (x : OpenOut). x.at) os) q ≡ Some o.at
pad_got [] q o e = no_some o e
pad_got (x ∷ os) zero o e = ap (λ (y : OpenOut). Some y.at) (some_same x o e)
pad_got (x ∷ os) (suc q) o e = pad_got os q o e

leave : (ds : List Seen) (final : List (List StreamHead)) → Leave (lanes_by final) (map (λ o. o.at) (open_outs ds final)) (map (λ o. Frames o.head) (open_outs ds final))
leave ds final q l e =
    let o = frames_out (open_outs ds final) q l e in (
      o.0.at,
      pad_got (open_outs ds final) q o.0 o.1,
      lane_got (slice_index_or final o.0.at.filter []) o.0.at.pad o.0.head (open_out (sources_in ds) ds final q o.0 o.1) ∙ ap (λ (x : Lane). Some x) o.2,
    )

pub whole_limited : (ds : List Seen) (heads : List StreamHead) (made : Made) → AreStreamHeads heads → AreMade ds (all_given heads) made.heads (filter_order ds) made.views
    → IsLimited (map Frames heads) (map (λ o. Frames o.head) (open_outs ds made.heads)) (means_as ds (Ok made)) (cuts_as ds (Ok made))
whole_limited ds heads made t each =
    graph_limited (sources_in ds) (open_pads ds) (map Frames heads) (lanes_by made.heads) (map (λ o. Frames o.head) (open_outs ds made.heads))
    (map (λ o. o.at) (open_outs ds made.heads)) (leave ds made.heads) (filter_order ds) made.views (map (λ v. cuts_in v) made.views)
    (are_limited ds heads made.heads (filter_order ds) made.views t each)
