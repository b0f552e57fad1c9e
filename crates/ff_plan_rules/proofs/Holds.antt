-- The rules of graphs are such as the laws of plans need.
use Rattle.std.proofs.Common.{◌≡◌, ℕ, ◌+◌, ◌≤◌, Bool, true, not, List, Option, None, Some, refl, sym, ap, subst, ◌∙◌, arith}
use Rattle.std.specs.Prelude.{slice_get, IsSome}
use Rattle.std.specs.List.{AllByRecursion, filter}
use Rattle.std.specs.Str.{bytes_eq}
use Rattle.std.proofs.lemmas.Option.{slice_get_within, get_or_from_slice_get}
use Rattle.ff_frame.specs.declared.head.StreamHead.{StreamHead}
use Rattle.ff_lang.specs.declared.graph.Filter.{Filter}
use Rattle.ff_lang.specs.declared.graph.Graph.{Graph}
use Rattle.ff_graph_links.specs.pads.Links.{Seen}
use Rattle.ff_stream.specs.edges.Ports.{tally}
use Rattle.ff_graph_links.specs.labels.Labels.{is_one_of, filters_of, ins_of, outs_of, given_in}
use Rattle.ff_graph.specs.Drawings.{seen_graph}
use Rattle.ff_graph.specs.Opens.{sources_in}
use Rattle.ff_graph.specs.Configured.{feeds_one, open_outs}
use Rattle.ff_graph_links.specs.labels.Clear.{IsClear}
use Rattle.ff_plan_layout.specs.laws.Graphs.{IsHad, AreRules, asks, open_taken, open_given}
use Rattle.ff_plan_layout.specs.Pads.{has_label}
use Rattle.ff_plan_layout.specs.declared.open_pads.OpenOut.{OpenOut}
use Rattle.ff_plan_rules.specs.Rules.{output_as, open_ins, graph_rules}
use Rattle.ff_plan_rules.proofs.Lists.{no_some, all_from, tally_map, tally_left, same_text}
use Rattle.ff_plan_rules.proofs.Given.{written, all_ins, all_outs, some_given, fed_is}
use Rattle.ff_plan_rules.proofs.Labelled.{ins_are, outs_are}
use Rattle.ff_plan_rules.proofs.Had.{graph_written, chains_outputs, was_had, opens_size, has_pads, given_at, outputs_long, heads_size}

-- ---- what plans ask of rules

some_is : (x : Option StreamHead) (h : StreamHead) → x ≡ Some h → IsSome x
some_is None h e = absurd (no_some h e)
some_is (Some k) h e = refl

streams_so : (g : Graph) (heads : List (Option StreamHead)) (outs : List OpenOut) → IsHad graph_rules g heads outs
    → AllByRecursion (λ (h : Option StreamHead). IsSome h) heads
streams_so g heads outs had =
    let w = was_had g heads outs had.2 in
    all_from (λ (h : Option StreamHead). IsSome h) heads
    (λ j x at.
    let lt = slice_get_within heads j x at in
    let size = had.1 in
    let opens = opens_size g in
    let h = given_at (seen_graph g) heads w.made had.0 w.is j (omega (arith, lt, size, opens)) in
    some_is x h.0 (sym (get_or_from_slice_get heads j x None at) ∙ h.1))

ins_so : (g : Graph) (heads : List (Option StreamHead)) (outs : List OpenOut) → IsHad graph_rules g heads outs → (label : List ℕ)
    → tally (asks label) (open_ins g) ≡ tally (bytes_eq label) (open_taken g)
ins_so g heads outs had label =
    let w = was_had g heads outs had.2 in
    ins_are (seen_graph g) label (has_pads (seen_graph g) heads w.made had.0 w.is)
    ∙ ap (λ (fs : List Filter). tally (bytes_eq label) (filter (λ l. not (is_one_of l (outs_of fs))) (ins_of fs))) (graph_written g)

outs_so : (g : Graph) (heads : List (Option StreamHead)) (outs : List OpenOut) → IsHad graph_rules g heads outs → IsClear g → (label : List ℕ)
    → tally (has_label label) outs ≡ tally (bytes_eq label) (open_given g)
outs_so g heads outs had clear label =
    let w = was_had g heads outs had.2 in
    let ds = seen_graph g in
    let taken = is_one_of label (all_ins ds) in
    ap (tally (has_label label)) w.open_
    ∙ (tally_map (has_label label) output_as (open_outs ds w.made.heads)
    ∙ (outs_are label (sources_in ds) taken 0 ds w.made.heads
    (λ k d at q l own is.
    let same : label ≡ l = same_text label l is in
    let here : slice_get d.filter.outs q ≡ Some label = subst (λ (t : List ℕ). slice_get d.filter.outs q ≡ Some t) (sym same) own in
    let number : k ≡ 0 + k = omega arith in
    subst (λ (n : ℕ). feeds_one (sources_in ds) (record { filter = n; pad = q }) ≡ taken) number
    (fed_is ds k q d label at here (once ds k q d at here (graph_written g)) (has_pads ds heads w.made had.0 w.is)))
    (outputs_long ds heads w.made had.0 w.is (chains_outputs g.chains))
    (heads_size ds heads w.made had.0 w.is)
    ∙ (sym (tally_left label (λ l. is_one_of l (all_ins ds)) (all_outs ds))
    ∙ ap (λ (fs : List Filter). tally (bytes_eq label) (filter (λ l. not (is_one_of l (ins_of fs))) (outs_of fs))) (graph_written g))))
  where
    once : (ds : List Seen) (k q : ℕ) (d : Seen) → slice_get ds k ≡ Some d → slice_get d.filter.outs q ≡ Some label → written ds ≡ filters_of g
        → tally (bytes_eq label) (all_outs ds) ≤ 1
    once ds k q d e f same =
        let given : is_one_of label (given_in g) ≡ true =
        subst (λ (fs : List Filter). is_one_of label (outs_of fs) ≡ true) same (some_given ds k q d label e f) in
        subst (λ (fs : List Filter). tally (bytes_eq label) (outs_of fs) ≤ 1) (sym same) (clear label given).0

pub are_rules : AreRules graph_rules
are_rules = record { streams = streams_so; ins = λ g heads outs had clear label. ins_so g heads outs had label; outs = outs_so }
