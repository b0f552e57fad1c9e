-- How few the numbers of a plan with graphs are, and that the plan by rows is the layout's.
use Rattle.std.proofs.Common.{◌≡◌, ℕ, suc, ◌+◌, ◌*◌, ◌^◌, ◌<◌, ◌≤◌, Bool, true, false, List, [], ◌∷◌, ◌++◌, map, length, vec_len, refl, sym, ap, ◌∙◌, append_assoc, arith}
use Rattle.std.specs.List.{AllByRecursion, flat_map, list_any, range_with_len}
use Rattle.std.specs.declared.alloc.Global.{Global}
use Rattle.std.specs.declared.vec.Vec.{Vec}
use Rattle.ff_frame.specs.declared.head.StreamHead.{StreamHead}
use Rattle.ff_words.specs.declared.maps.streams.Stream.{Stream}
use Rattle.ff_words.specs.maps.Choice.{all_streams}
use Rattle.ff_plan_layout.specs.declared.layout.InPad.{InPad}
use Rattle.ff_plan_layout.specs.declared.layout.OutStream.{OutStream}
use Rattle.ff_plan_layout.specs.declared.layout.Placed.{Placed}
use Rattle.ff_plan.specs.declared.number.Wire.{Wire}
use Rattle.ff_plan.specs.declared.numbering.Drawing.{Drawing}
use Rattle.ff_plan_layout.specs.declared.layout.GraphText.{GraphText}
use Rattle.ff_plan.specs.declared.planned.Plan.{Plan}
use Rattle.ff_sched.specs.declared.routes.Routes.{Routes}
use Rattle.ff_plan_layout.specs.declared.layout.Laid.{Laid}
use Rattle.ff_source.specs.declared.made.Made.{Made}
use Rattle.ff_plan_layout.specs.Layout.{Layout, place_row, place_from, placed, shows, read, used, used_inputs}
use Rattle.ff_plan_layout.specs.Sources.{source_streams}
use Rattle.ff_plan.specs.Nodes.{plan_of, nodes_of, routes_of}
use Rattle.ff_plan.specs.laws.Numbering.{Firsts, firsts_at, all_sources, demux_wire_in, pad_wire_in, pad_wires_in, shortest_wire_in, enc_wire_in, mux_wire_in, frame_wires_in, wires_in, read_in, streams_in, inputs_in, routes_in, drawing_of, with_drawing, plan_in}
use Rattle.ff_plan_layout.specs.laws.Limits.{HasFewIns}
use Rattle.ff_plan_layout.specs.laws.Rows.{rows}
use Rattle.ff_plan.specs.Wires.{edges_of}
use Rattle.ff_plan_layout.proofs.Sizes.{joined_length, map_length, range_length, row_length}
use Rattle.ff_plan_layout.proofs.Bounds.{filter_few, streams_length}

-- few streams are used
pub few_read : (heads : List (List StreamHead)) (graphs : List Laid) (places : List Placed) → length heads ≤ 16 → AllByRecursion (λ hs. length hs ≤ 16) heads → length (read_in heads graphs places) ≤ 256
few_read heads graphs places le all =
    let kept = filter_few (λ s. list_any (shows s.at) (all_sources graphs places)) (all_streams heads) in
    let most = streams_length 0 heads all in
    omega (arith, kept, most, le)

pub sources_length : (n : ℕ) (made : List Made) → length (source_streams n made) ≡ length made
sources_length n [] = refl
sources_length n (m ∷ ms) = ap suc (sources_length (n + 1) ms)

pub few_used : (heads : List (List StreamHead)) (made : List Made) (graphs : List Laid) (places : List Placed) → length heads + length made ≤ 16 → AllByRecursion (λ hs. length hs ≤ 16) heads
    → length (streams_in heads made graphs places) ≤ 272
few_used heads made graphs places le all =
    let shown = λ (s : Stream). list_any (shows s.at) (all_sources graphs places) in
    let kept = filter_few shown (source_streams (length heads) made ++ all_streams heads) in
    let joined = joined_length (source_streams (length heads) made) (all_streams heads) in
    let few = sources_length (length heads) made in
    let most = streams_length 0 heads all in
    omega (arith, kept, joined, few, most, le)

-- ---- few wires

module _ (f : Firsts) (streams : List Stream) (graphs : List Laid) where
  pub pads_few : (gs : List Laid) → AllByRecursion HasFewIns gs → length (flat_map (pad_wires_in f streams graphs) gs) ≤ 1048576 * length gs
  pads_few [] all = omega arith
  pads_few (g ∷ gs) all =
      let j = joined_length (pad_wires_in f streams graphs g) (flat_map (pad_wires_in f streams graphs) gs) in
      let m = map_length (λ (i : InPad). pad_wire_in f streams graphs g.graph i) g.ins in
      let here = all.0 in
      let rest = pads_few gs all.1 in
      omega (arith, j, m, here, rest)

  frames_few : (ps : List Placed) → length (frame_wires_in f streams graphs ps) ≤ 2 * length ps
  frames_few ps =
      (let j = joined_length (map (shortest_wire_in f streams graphs) ps) (map (enc_wire_in f) ps) in
      let a = map_length (λ (p : Placed). shortest_wire_in f streams graphs p) ps in
      let b = map_length (λ (p : Placed). enc_wire_in f p) ps in
      omega (arith, j, a, b))

  pub wires_few : (inputs : List ℕ) (read : List Stream) (ps : List Placed) → length read ≤ 256 → length graphs ≤ 16 → AllByRecursion HasFewIns graphs → length ps ≤ 16 → length (wires_in f inputs read streams graphs ps) < 2 ^ 32
  wires_few inputs read ps few_streams few_graphs ins few_places =
      let a = map (demux_wire_in f inputs streams) read in let b = flat_map (pad_wires_in f streams graphs) graphs in
      let c = frame_wires_in f streams graphs ps in let d = map (mux_wire_in f) ps in
      let j1 = joined_length a (b ++ (c ++ d)) in let j2 = joined_length b (c ++ d) in let j3 = joined_length c d in
      let la = map_length (λ (k : Stream). demux_wire_in f inputs streams k) read in
      let lb = pads_few graphs ins in
      let lc = frames_few ps in
      let ld = map_length (λ (p : Placed). mux_wire_in f p) ps in
      omega (arith, j1, j2, j3, la, lb, lc, ld, few_streams, few_graphs, few_places)

-- ---- each output has few streams where all have

pub rows_few : (n o : ℕ) (all : List (Vec OutStream Global)) → length (place_from n o (rows all)) ≤ 16 → AllByRecursion (λ v. vec_len v ≤ 16) all
rows_few n o [] few = tt
rows_few n o (v ∷ all) few =
    let j = joined_length (place_row n o 0 v.items) (place_from (n + length v.items) (o + 1) (rows all)) in
    let r = row_length n o 0 v.items in
    let e : v.len ≡ length v.items = v.ok.0 in
    (omega (arith, j, r, e, few), rows_few (n + length v.items) (o + 1) all (omega (arith, j, few)))

-- ---- the plan of a layout

module _ (heads : List (List StreamHead)) (made : List Made) (graphs : List Laid) (outputs : List (List OutStream)) (texts : List GraphText) where
  abbrev whole : Layout
  whole = record { heads = heads; made = made; graphs = graphs; outputs = outputs; texts = texts }

  abbrev streams : List Stream
  streams = used whole

  abbrev inputs : List ℕ
  inputs = used_inputs whole

  abbrev firsts : Firsts
  firsts = firsts_at (length inputs) (length streams) (length graphs) (length outputs) (length (placed whole))

  -- with these wires to the Encs and to the Muxes
  abbrev with_wires : List Wire → Plan
  with_wires ws = record {
    nodes = nodes_of whole;
    edges = edges_of (map (demux_wire_in firsts inputs streams) (read whole) ++ (flat_map (pad_wires_in firsts streams graphs) graphs ++ ws));
    routes = routes_of whole;
    texts = texts;
    made = made;
  }

  pub plan_is : plan_in heads made graphs (placed whole) (length outputs) texts ≡ plan_of whole
  plan_is =
      ap with_wires
      (append_assoc (map (shortest_wire_in firsts streams graphs) (placed whole)) (map (enc_wire_in firsts) (placed whole)) (map (mux_wire_in firsts) (placed whole)))

  -- by what the calls gave
  pub plan_by : (gs : List Laid) (ps : List Placed) (n : ℕ) → gs ≡ graphs → ps ≡ place_from 0 0 outputs → n ≡ length outputs → plan_in heads made gs ps n texts ≡ plan_of whole
  plan_by gs ps n g p e =
      ap (λ (l : List Laid). plan_in heads made l ps n texts) g
      ∙ (ap (λ (l : List Placed). plan_in heads made graphs l n texts) p ∙ (ap (λ (k : ℕ). plan_in heads made graphs (place_from 0 0 outputs) k texts) e ∙ plan_is))

-- by what was drawn
pub drawn_by : (heads : List (List StreamHead)) (graphs : List Laid) (ps : List Placed) (n count sources : ℕ) (texts wholes : List GraphText) (made all : List Made) (is : List ℕ) (read ss : List Stream)
    (d : Drawing) (r : Routes)
    → d ≡ drawing_of count is read ss graphs ps n → count ≡ length heads → is ≡ inputs_in heads graphs ps → read ≡ read_in heads graphs ps → ss ≡ streams_in heads made graphs ps
    → r ≡ routes_in sources graphs ps → sources ≡ length heads + length made → wholes ≡ texts → all ≡ made
    → with_drawing d r wholes all ≡ plan_in heads made graphs ps n texts
drawn_by heads graphs ps n count sources texts wholes made all is read ss d r drawn counted i rd s ways sum same each =
    let drawing = drawing_of (length heads) (inputs_in heads graphs ps) (read_in heads graphs ps) (streams_in heads made graphs ps) graphs ps n in
    let routes = routes_in (length heads + length made) graphs ps in
    ap (λ (x : Drawing). with_drawing x r wholes all) (drawn ∙ (ap (λ (k : ℕ). drawing_of k is read ss graphs ps n) counted
    ∙ (ap (λ (l : List ℕ). drawing_of (length heads) l read ss graphs ps n) i
    ∙ (ap (λ (l : List Stream). drawing_of (length heads) (inputs_in heads graphs ps) l ss graphs ps n) rd
    ∙ ap (λ (l : List Stream). drawing_of (length heads) (inputs_in heads graphs ps) (read_in heads graphs ps) l graphs ps n) s))))
    ∙ (ap (λ (x : Routes). with_drawing drawing x wholes all) (ways ∙ ap (λ (k : ℕ). routes_in k graphs ps) sum)
    ∙ (ap (λ (t : List GraphText). with_drawing drawing routes t all) same ∙ ap (λ (m : List Made). with_drawing drawing routes texts m) each))
