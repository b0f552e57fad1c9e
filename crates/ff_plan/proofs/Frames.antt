-- What is so of the frames of inputs, and kept by graphs, is so of all frames.
use Rattle.std.proofs.Common.{◌≡◌, inl, inr, ℕ, zero, suc, ◌<◌, ◌≤◌, ◌+◌, ◌==◌, Bool, true, false, List, [], ◌∷◌, ◌++◌, map, length, Option, Some, sym, ap, ◌∙◌, subst, arith}
use Rattle.std.specs.Prelude.{Ok, slice_index_or}
use Rattle.std.specs.List.{AllByRecursion, flat_map, position_or_len}
use Rattle.ff_stream.specs.declared.edges.edge.Edge.{Edge}
use Rattle.ff_graph_links.specs.labels.Order.{ComeInOrder, HasNoLoop, graph_order, feeds, is_in}
use Rattle.ff_words.specs.declared.maps.streams.Stream.{Stream}
use Rattle.ff_words.specs.maps.Choice.{numbered, streams_from, all_streams}
use Rattle.ff_frame.specs.declared.head.StreamHead.{StreamHead}
use Rattle.ff_source.specs.declared.made.Made.{Made as SourceMade}
use Rattle.ff_source.specs.Sources.{head_of}
use Rattle.ff_words.specs.declared.job.Job.{Job}
use Rattle.ff_plan_layout.specs.declared.open_pads.OpenOut.{OpenOut}
use Rattle.ff_plan.specs.declared.number.Wire.{Wire}
use Rattle.ff_plan.specs.declared.planned.Plan.{Plan}
use Rattle.ff_plan_layout.specs.laws.Graphs.{AreRules}
use Rattle.ff_plan_layout.specs.Layout.{IsAmong, Layout, placed, read}
use Rattle.ff_plan.specs.Nodes.{demux_wire, pad_wire, pad_wires, shortest_wire, enc_wire, mux_wire, wires_of, plan_of}
use Rattle.ff_plan_layout.specs.Pads.{all_wants, head_in, pad_in}
use Rattle.ff_plan_layout.specs.LaidOut.{layout_of, laid_out}
use Rattle.ff_plan.specs.Planned.{planned}
use Rattle.ff_plan_layout.specs.Rules.{Rules}
use Rattle.ff_plan_layout.specs.Sources.{source_streams, sources_of}
use Rattle.ff_plan.specs.laws.Taken.{AreKeptBy, HasFrames, AllFrames}
use Rattle.ff_plan.specs.Wires.{edges_behind, edges_of}
use Rattle.ff_plan_layout.proofs.Among.{all_among, all_joined, all_map, all_flat, among_left, each_of}
use Rattle.ff_plan_layout.proofs.Graphed.{Stands, Walked, walked, inside_of, ins_from, place_left, place_right}
use Rattle.ff_plan.proofs.GraphFits.{all_there, in_comes, by_rows}
use Rattle.ff_plan_layout.proofs.Kept.{among_at}
use Rattle.ff_plan_layout.proofs.Tests.{nat_self}
use Rattle.ff_plan_layout.proofs.Makings.{Comes, shown_in}
use Rattle.ff_plan_layout.proofs.Once.{had}
use Rattle.ff_plan_layout.proofs.Outs.{Passes}
use Rattle.ff_plan.proofs.Ported.{stands}
use Rattle.ff_plan.proofs.Sourced.{are_asked}
use Rattle.ff_plan_layout.proofs.Results.{same_ok, behind_ok}
use Rattle.ff_plan_layout.specs.declared.layout.InPad.{InPad}
use Rattle.ff_plan_layout.specs.declared.layout.Laid.{Laid}
use Rattle.ff_plan_layout.specs.declared.layout.Made.{Made}
use Rattle.ff_plan_layout.specs.declared.layout.OutStream.{OutStream}
use Rattle.ff_plan_layout.specs.declared.layout.Passed.{Passed}
use Rattle.ff_plan_layout.specs.declared.layout.Placed.{Placed}

module _ (P : StreamHead → Type 0) where
  -- ---- streams of inputs

  numbered_kept : (i n : ℕ) (hs : List StreamHead) → AllByRecursion P hs → AllByRecursion (λ (s : Stream). P s.head) (numbered i n hs)
  numbered_kept i n [] all = tt
  numbered_kept i n (h ∷ hs) all = (all.0, numbered_kept i (n + 1) hs all.1)

  streams_kept : (i : ℕ) (rows : List (List StreamHead)) → AllByRecursion (λ hs. AllByRecursion P hs) rows → AllByRecursion (λ (s : Stream). P s.head) (streams_from i rows)
  streams_kept i [] all = tt
  streams_kept i (hs ∷ rows) all = all_joined (λ (s : Stream). P s.head) (numbered i 0 hs) (streams_from (i + 1) rows) (numbered_kept i 0 hs all.0) (streams_kept (i + 1) rows all.1)

  sources_kept : (n : ℕ) (made : List SourceMade) → AllByRecursion (λ (m : SourceMade). P (head_of m)) made → AllByRecursion (λ (s : Stream). P s.head) (source_streams n made)
  sources_kept n [] all = tt
  sources_kept n (m ∷ ms) all = (all.0, sources_kept (n + 1) ms all.1)

  -- ---- edges and wires

  edges_kept : (before ws : List Wire) → AllByRecursion (λ (w : Wire). HasFrames P w.lane) ws → AllByRecursion (λ (e : Edge). HasFrames P e.lane) (edges_behind before ws)
  edges_kept before [] all = tt
  edges_kept before (w ∷ ws) all = (all.0, edges_kept (w ∷ before) ws all.1)

  module _ (l : Layout) (ins : (g : Laid) → IsAmong g l.graphs → (i : InPad) → IsAmong i g.ins → P i.head) (outs : (s : Placed) → IsAmong s (placed l) → P s.what.head) where
    abbrev OnWire : Wire → Type 0
    OnWire w = HasFrames P w.lane

    shortest_kept : AllByRecursion OnWire (map (shortest_wire l) (placed l))
    shortest_kept = all_map OnWire (shortest_wire l) (placed l) outs

    enc_kept : (s : Placed) → IsAmong s (placed l) → OnWire (enc_wire l s)
    enc_kept s i = outs s i

    wires_kept : AllByRecursion OnWire (wires_of l)
    wires_kept =
        let shorts = map (shortest_wire l) (placed l) in let encs = map (enc_wire l) (placed l) in let muxes = map (mux_wire l) (placed l) in
        all_joined OnWire (map (demux_wire l) (read l)) (flat_map (pad_wires l) l.graphs ++ (shorts ++ (encs ++ muxes))) (all_map OnWire (demux_wire l) (read l) (λ s i. tt))
        (all_joined OnWire (flat_map (pad_wires l) l.graphs) (shorts ++ (encs ++ muxes)) (all_flat OnWire (pad_wires l) l.graphs (λ g ig. all_map OnWire (pad_wire l g.graph) g.ins (ins g ig)))
        (all_joined OnWire shorts (encs ++ muxes) shortest_kept
        (all_joined OnWire encs muxes (all_map OnWire (enc_wire l) (placed l) enc_kept) (all_map OnWire (mux_wire l) (placed l) (λ s i. tt)))))

    layout_kept : AllFrames P (edges_of (wires_of l))
    layout_kept = edges_kept [] (wires_of l) wires_kept

  -- ---- what graphs make

  module _ (rules : Rules) (are : AreRules rules) (keeps : AreKeptBy rules P) (job : Job) (heads : List (List StreamHead)) (all : AllByRecursion (λ hs. AllByRecursion P hs) heads) (l : Layout)
      (w : Walked rules job heads l) (of_sources : AllByRecursion (λ (m : SourceMade). P (head_of m)) (sources_of rules job.graphs))
      (come : ComeInOrder (feeds job.graphs) (length job.graphs) [] (graph_order job.graphs))
      (all_in : HasNoLoop (feeds job.graphs) (length job.graphs) → (g : ℕ) → g < length job.graphs → is_in (graph_order job.graphs) g ≡ true)
      (some_outputs : 1 ≤ length job.outputs) where
    abbrev whole : Layout
    whole = layout_of rules job heads w.made w.rows

    abbrev OutsKept : Made → Type 0
    OutsKept m = AllByRecursion (λ (out : OpenOut). P out.head) m.outs

    abbrev place : Made → ℕ
    place m = position_or_len (λ (x : Made). x.laid.graph == m.laid.graph) w.made

    abbrev StandsHere : Made → Type 0
    StandsHere m = Stands rules job.graphs (all_wants rules heads job.graphs) w.made m

    -- the streams that there are
    abbrev shown : List Stream
    shown = shown_in rules heads job.graphs

    abbrev KeptStream : Stream → Type 0
    KeptStream k = P k.head

    inputs_kept : AllByRecursion KeptStream (all_streams heads)
    inputs_kept = streams_kept 0 heads all

    shown_kept : AllByRecursion KeptStream shown
    shown_kept = all_joined KeptStream (source_streams (length heads) (sources_of rules job.graphs)) (all_streams heads) (sources_kept (length heads) (sources_of rules job.graphs) of_sources) inputs_kept

    comes_kept : (ks : List Stream) → AllByRecursion KeptStream ks → (made : List Made) → ((m : Made) → IsAmong m made → OutsKept m) → (i : InPad) → Comes ks made i → P i.head
    comes_kept ks kept made each i (inl s) = subst (λ (j : InPad). P j.head) s.is (each_of KeptStream s.stream ks kept s.there)
    comes_kept ks kept made each i (inr o) = subst (λ (j : InPad). P j.head) o.is
        (each_of (λ (out : OpenOut). P out.head) o.out o.maker.outs (each o.maker o.there) (among_at o.out o.maker.outs o.pad o.at))

    heads_kept : (is : List InPad) → AllByRecursion (λ (i : InPad). P i.head) is → AllByRecursion P (map (λ (i : InPad). i.head) is)
    heads_kept [] each = tt
    heads_kept (i ∷ is) each = (each.0, heads_kept is each.1)

    one_kept : (m : Made) (s : StandsHere m) → ((x : Made) → IsAmong x s.front → OutsKept x) → OutsKept m
    one_kept m s each =
        let row = slice_index_or (all_wants rules heads job.graphs) s.number [] in
        let there = all_there s.front row (are.streams s.how.text (map (λ v. head_in (pad_in s.front v)) row) m.outs (had rules are job heads l w come all_in some_outputs m s)) in
        let from = ins_from rules job heads w.made w.rows come w.are_made m s in
        keeps s.how.text (map (λ (i : InPad). i.head) m.laid.ins) m.outs
        (ap (λ (is : List InPad). rules.configured s.how.text (map (λ h. Some h) (map (λ (i : InPad). i.head) is))) s.how.ins
        ∙ (ap (λ (hs : List (Option StreamHead)). rules.configured s.how.text hs) (sym there) ∙ s.how.outs))
        (heads_kept m.laid.ins (all_among (λ (i : InPad). P i.head) m.laid.ins (λ i ii. comes_kept shown shown_kept s.front each i (each_of (Comes shown s.front) i m.laid.ins from ii))))

    -- of those that were made before others
    made_below : (n : ℕ) (m : Made) → IsAmong m w.made → place m < n → OutsKept m
    made_below zero m i lt = absurd (omega (arith, lt))
    made_below (suc n) m i lt =
        let s = each_of StandsHere m w.made (stands rules are job heads l w come all_in some_outputs) i in
        let low = place_right (λ (x : Made). x.laid.graph == s.number) s.front (m ∷ s.rest) s.fresh in
        let here : length s.front ≤ place m = subst (λ (g : ℕ). length s.front ≤ position_or_len (λ (x : Made). x.laid.graph == g) w.made) (sym s.how.number)
        (subst (λ (ms : List Made). length s.front ≤ position_or_len (λ (x : Made). x.laid.graph == s.number) ms) s.is low) in
        one_kept m s (λ x ix.
        (let before = subst (λ (ms : List Made). position_or_len (λ (y : Made). y.laid.graph == x.laid.graph) ms < length s.front) s.is
        (place_left (λ (y : Made). y.laid.graph == x.laid.graph) x s.front (m ∷ s.rest) ix (nat_self x.laid.graph)) in
        made_below n x (subst (λ (ms : List Made). IsAmong x ms) s.is (among_left x s.front (m ∷ s.rest) ix)) (omega (arith, before, here, lt))))

    made_kept : (m : Made) → IsAmong m w.made → OutsKept m
    made_kept m i = made_below (suc (place m)) m i (omega arith)

    stream_kept : (p : Passed) → Passes rules (inside_of heads job w.made) p → P p.what.head
    stream_kept p t =
        let own = comes_kept (all_streams heads) inputs_kept w.made made_kept t.pad t.from in
        elim t.how [
          | inl e ↦ subst (λ (q : Passed). P q.what.head) e own
          | inr f ↦ subst (λ (q : Passed). P q.what.head) f.is (keeps f.text (t.pad.head ∷ []) (f.made ∷ []) f.outs (own, tt)).0
        ]

    whole_kept : AllFrames P (edges_of (wires_of whole))
    whole_kept = layout_kept whole
        (λ g ig i ii. comes_kept shown shown_kept w.made made_kept i (in_comes rules are job heads l w come all_in some_outputs g ig i ii))
        (by_rows rules are job heads l w come all_in some_outputs (λ (s : OutStream). P s.head) (λ ps p ips ip t. stream_kept p t))

  pub frames_kept : (rules : Rules) (job : Job) (heads : List (List StreamHead)) (p : Plan) → AreRules rules → AreKeptBy rules P → AllByRecursion (λ hs. AllByRecursion P hs) heads
      → AllByRecursion (λ (m : SourceMade). P (head_of m)) p.made
      → ComeInOrder (feeds job.graphs) (length job.graphs) [] (graph_order job.graphs)
      → (HasNoLoop (feeds job.graphs) (length job.graphs) → (g : ℕ) → g < length job.graphs → is_in (graph_order job.graphs) g ≡ true)
      → 1 ≤ length job.outputs → planned rules job heads ≡ Ok p → AllFrames P p.edges
  frames_kept rules job heads p are keeps all made come all_in some h =
      let at = behind_ok (laid_out rules job heads) (λ l. Ok (plan_of l)) p h in
      let w = walked rules job heads at.0 come at.1 in
      let own = subst (λ (ms : List SourceMade). AllByRecursion (λ (m : SourceMade). P (head_of m)) ms) (are_asked rules job heads p h) made in
      subst (λ (q : Plan). AllFrames P q.edges) (ap (λ (l : Layout). plan_of l) w.is ∙ same_ok (plan_of at.0) p at.2) (whole_kept rules are keeps job heads all at.0 w own come all_in some)
