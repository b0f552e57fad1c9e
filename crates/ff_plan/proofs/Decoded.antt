-- The nodes of a plan decode, of an input, its streams that are used.
use Rattle.std.proofs.Common.{◌≡◌, inl, inr, ℕ, ◌<◌, ◌≤◌, ◌==◌, Bool, true, false, cond, List, [], ◌∷◌, ◌++◌, map, length, Option, Some, None, refl, ap, ◌∙◌, arith}
use Rattle.std.specs.Prelude.{nat_lt}
use Rattle.std.specs.List.{cons_option, filter, filter_map}
use Rattle.std.proofs.lemmas.Bool.Decides.{nat_tests}
use Rattle.std.proofs.lemmas.List.{append-nil, map-append}
use Rattle.std.proofs.lemmas.List.Elements.{filter-append, filter_map-append}
use Rattle.ff_source.specs.Sources.{head_of}
use Rattle.ff_words.specs.declared.maps.streams.Stream.{Stream}
use Rattle.ff_words.specs.maps.Choice.{all_streams}
use Rattle.ff_plan_layout.specs.Layout.{IsAmong, Layout, is_shown, placed, read, used, used_inputs}
use Rattle.ff_plan_layout.specs.Sources.{source_streams}
use Rattle.ff_plan_layout.proofs.Among.{was_among}
use Rattle.ff_plan.specs.Decoded.{decoded_by, decoded_of}
use Rattle.ff_plan.specs.Nodes.{nodes_of, output_numbers, start_node}
use Rattle.ff_plan.specs.declared.planned.PlanNode.{PlanNode}
use Rattle.ff_plan.specs.declared.planned.PlanNode.TheVariants as node
use Rattle.ff_plan.proofs.Spots.{known_in, known_from}

module _ (i : ℕ) where
  abbrev decoded : List PlanNode → List ℕ
  decoded nodes = filter_map (decoded_by i) nodes

  -- nodes of which none decodes
  none_decoded : {A : Type 0} (f : A → PlanNode) → ((x : A) → decoded_by i (f x) ≡ None) → (xs : List A) → decoded (map f xs) ≡ []
  none_decoded f none [] = refl
  none_decoded f none (x ∷ xs) = ap (λ (o : Option ℕ). cons_option o (decoded (map f xs))) (none x) ∙ none_decoded f none xs

  abbrev own : Stream → Bool
  own s = s.at.input == i

  module _ (inputs : ℕ) where
    start_is : (s : Stream) (low : Bool) → nat_lt s.at.input inputs ≡ low → start_node inputs s ≡ cond low (node.Dec s.at) (node.Gen s.at.input)
    start_is s low e = ap (λ (b : Bool). cond b (node.Dec s.at) (node.Gen s.at.input)) e

    -- what source filters give
    made_decoded : (ss : List Stream) → ((s : Stream) → IsAmong s ss → inputs ≤ s.at.input) → decoded (map (start_node inputs) ss) ≡ []
    made_decoded [] high = refl
    made_decoded (s ∷ ss) high =
        let le = high s (inl refl) in
        let off : nat_lt s.at.input inputs ≡ false = grind (arith, nat_tests, le) in
        ap (λ (n : PlanNode). cons_option (decoded_by i n) (decoded (map (start_node inputs) ss))) (start_is s false off) ∙ made_decoded ss (λ t a. high t (inr a))

    one_decoded : (s : Stream) (ss : List Stream) (b : Bool) → own s ≡ b → decoded (map (start_node inputs) ss) ≡ map (λ (t : Stream). t.at.stream) (filter own ss)
        → cons_option (decoded_by i (node.Dec s.at)) (decoded (map (start_node inputs) ss)) ≡ map (λ (t : Stream). t.at.stream) (filter own (s ∷ ss))
    one_decoded s ss true e rest =
        ap (λ (b : Bool). cons_option (cond b (Some s.at.stream) None) (decoded (map (start_node inputs) ss))) e
        ∙ (ap (λ (ns : List ℕ). s.at.stream ∷ ns) rest ∙ sym-by e)
      where
        sym-by : own s ≡ true → s.at.stream ∷ map (λ (t : Stream). t.at.stream) (filter own ss) ≡ map (λ (t : Stream). t.at.stream) (cond (own s) (s ∷ filter own ss) (filter own ss))
        sym-by f = rw f refl
    one_decoded s ss false e rest =
        ap (λ (b : Bool). cons_option (cond b (Some s.at.stream) None) (decoded (map (start_node inputs) ss))) e ∙ (rest ∙ by e)
      where
        by : own s ≡ false → map (λ (t : Stream). t.at.stream) (filter own ss) ≡ map (λ (t : Stream). t.at.stream) (cond (own s) (s ∷ filter own ss) (filter own ss))
        by f = rw f refl

    -- streams of inputs
    read_decoded : (ss : List Stream) → ((s : Stream) → IsAmong s ss → s.at.input < inputs)
        → decoded (map (start_node inputs) ss) ≡ map (λ (t : Stream). t.at.stream) (filter own ss)
    read_decoded [] low = refl
    read_decoded (s ∷ ss) low =
        let lt = low s (inl refl) in
        let on : nat_lt s.at.input inputs ≡ true = grind (arith, nat_tests, lt) in
        ap (λ (n : PlanNode). cons_option (decoded_by i n) (decoded (map (start_node inputs) ss))) (start_is s true on)
        ∙ one_decoded s ss (own s) refl (read_decoded ss (λ t a. low t (inr a)))

  module _ (l : Layout) where
    abbrev inputs : ℕ
    inputs = length l.heads

    abbrev of_sources : List Stream
    of_sources = source_streams inputs l.made

    abbrev starts : List PlanNode
    starts = map (start_node inputs) (used l)

    starts_are : starts ≡ map (start_node inputs) (filter (is_shown l) of_sources) ++ map (start_node inputs) (read l)
    starts_are =
        ap (λ (ss : List Stream). map (start_node inputs) ss) (filter-append (is_shown l) of_sources (all_streams l.heads))
        ∙ map-append (start_node inputs) (filter (is_shown l) of_sources) (read l)

    starts_decoded : decoded starts ≡ map (λ (t : Stream). t.at.stream) (filter own (read l))
    starts_decoded =
        let made = map (start_node inputs) (filter (is_shown l) of_sources) in
        let none = made_decoded inputs (filter (is_shown l) of_sources) (λ s a. known_from inputs (map (λ m. head_of m ∷ []) l.made) s (was_among (is_shown l) s of_sources a).0) in
        let here = read_decoded inputs (read l) (λ s a. (let lt = known_in 0 l.heads s (was_among (is_shown l) s (all_streams l.heads) a).0 in omega (arith, lt))) in
        ap (λ (ns : List PlanNode). decoded ns) starts_are
        ∙ (filter_map-append (decoded_by i) made (map (start_node inputs) (read l))
        ∙ (ap (λ (ns : List ℕ). ns ++ decoded (map (start_node inputs) (read l))) none ∙ here))

    -- those of a whole plan
    pub decoded_are : decoded_of (nodes_of l) i ≡ map (λ (t : Stream). t.at.stream) (filter own (read l))
    decoded_are =
        let demuxes = map (λ j. node.Demux j) (used_inputs l) in
        let graphs = map (λ g. node.Graph g.graph) l.graphs in
        let shortests = map (λ o. node.Shortest o) (output_numbers l) in
        let encs = map (λ p. node.Enc p.output p.stream) (placed l) in
        let muxes = map (λ o. node.Mux o) (output_numbers l) in
        let behind = graphs ++ (shortests ++ (encs ++ muxes)) in
        let no_muxes = none_decoded (λ o. node.Mux o) (λ o. refl) (output_numbers l) in
        let no_encs = none_decoded (λ p. node.Enc p.output p.stream) (λ p. refl) (placed l) in
        let no_shortests = none_decoded (λ o. node.Shortest o) (λ o. refl) (output_numbers l) in
        let no_graphs = none_decoded (λ g. node.Graph g.graph) (λ g. refl) l.graphs in
        let no_demuxes = none_decoded (λ j. node.Demux j) (λ j. refl) (used_inputs l) in
        let last : decoded (encs ++ muxes) ≡ [] = filter_map-append (decoded_by i) encs muxes ∙ (ap (λ (ns : List ℕ). ns ++ decoded muxes) no_encs ∙ no_muxes) in
        let later : decoded (shortests ++ (encs ++ muxes)) ≡ [] =
        filter_map-append (decoded_by i) shortests (encs ++ muxes) ∙ (ap (λ (ns : List ℕ). ns ++ decoded (encs ++ muxes)) no_shortests ∙ last) in
        let none : decoded behind ≡ [] = filter_map-append (decoded_by i) graphs (shortests ++ (encs ++ muxes)) ∙ (ap (λ (ns : List ℕ). ns ++ decoded (shortests ++ (encs ++ muxes))) no_graphs ∙ later) in
        filter_map-append (decoded_by i) demuxes (starts ++ behind)
        ∙ (ap (λ (ns : List ℕ). ns ++ decoded (starts ++ behind)) no_demuxes
        ∙ (filter_map-append (decoded_by i) starts behind ∙ (ap (λ (ns : List ℕ). decoded starts ++ ns) none ∙ (append-nil (decoded starts) ∙ starts_decoded))))
