use Rattle.std.proofs.Common.{◌≡◌, ℕ, ◌+◌, ◌≤◌, ◌++◌, List, length, sym, ap, ◌∙◌, arith}
use Rattle.std.proofs.lemmas.List.Elements.{filter-append}
use Rattle.std.specs.List.{filter, list_any, range_with_len}
use Rattle.ff_source.specs.declared.made.Made.{Made}
use Rattle.ff_words.specs.declared.maps.streams.Stream.{Stream}
use Rattle.ff_words.specs.maps.Choice.{all_streams, lists}
use Rattle.ff_plan_layout.specs.declared.layout.Origin.{Origin}
use Rattle.ff_plan_layout.specs.Layout.{shows}
use Rattle.ff_plan_layout.specs.Sources.{source_streams}
use Rattle.ff_plan.specs.laws.Numbering.{all_sources, read_in, streams_in, inputs_in, has_stream, used_of}
use Rattle.ff_plan.proofs.ByRows.{few_read, few_used, drawn_by}
use Rattle.ff_plan_layout.proofs.Bounds.{few_inputs, lists_few, lists_length}
use Rattle.ff_plan.proofs.numbering.plan_placed.Goals as goal

pub draw-requires-clause-inputs : goal.draw-requires-clause-inputs
draw-requires-clause-inputs c =
    let i = ap (λ (l : List ℕ). length l) (c.as_slice-6.ensures.value ∙ c.in_ok-inputs.ensures) in
    let le : length c.args.heads.now ≤ 16 = (let h = c.requires.inputs in omega (arith, h)) in
    let g = few_inputs (has_stream c.as_slice-5.result.now) (length c.args.heads.now) le in
    omega (arith, i, g)

pub draw-requires-clause-read : goal.draw-requires-clause-read
draw-requires-clause-read c =
    let heads = c.args.heads.now in
    let are : c.in_ok-read.read.items ≡ read_in (lists heads) c.args.graphs.now c.args.placed.now =
    c.in_ok-read.ensures ∙ ap (λ (os : List Origin). filter (λ (s : Stream). list_any (shows s.at) os) (all_streams (lists heads))) (c.as_slice.ensures.value ∙ c.in_ok-origins.ensures) in
    let e = ap (λ (l : List Stream). length l) (c.as_slice-7.ensures.value ∙ are) in
    let le : length (lists heads) ≤ 16 = (let l = lists_length heads in let h = c.requires.inputs in omega (arith, l, h)) in
    let f = few_read (lists heads) c.args.graphs.now c.args.placed.now le (lists_few heads c.requires.streams) in
    omega (arith, e, f)

pub draw-requires-clause-streams : goal.draw-requires-clause-streams
draw-requires-clause-streams c =
    let heads = c.args.heads.now in
    let made = c.args.made.items in
    let graphs = c.args.graphs.now in
    let placed = c.args.placed.now in
    let shown : List Origin → Stream → _ = λ os s. list_any (shows s.at) os in
    let read : c.in_ok-read.read.items ≡ read_in (lists heads) graphs placed =
    c.in_ok-read.ensures ∙ ap (λ (os : List Origin). filter (shown os) (all_streams (lists heads))) (c.as_slice.ensures.value ∙ c.in_ok-origins.ensures) in
    let sources : c.in_ok-sources.sources.items ≡ used_of (source_streams (length (lists heads)) made) graphs placed =
    c.in_ok-sources.ensures
    ∙ (ap (λ (os : List Origin). filter (shown os) (source_streams (length heads) c.as_slice-2.result.now)) (c.as_slice-3.ensures.value ∙ c.in_ok-origins.ensures)
    ∙ (ap (λ (ms : List Made). used_of (source_streams (length heads) ms) graphs placed) c.as_slice-2.ensures.value
    ∙ ap (λ (k : ℕ). used_of (source_streams k made) graphs placed) (sym (lists_length heads)))) in
    let are : c.in_ok-streams.streams.items ≡ streams_in (lists heads) made graphs placed =
    c.in_ok-streams.ensures
    ∙ (ap (λ (ss : List Stream). ss ++ c.as_slice-4.result.now) sources
    ∙ (ap (λ (ss : List Stream). used_of (source_streams (length (lists heads)) made) graphs placed ++ ss) (c.as_slice-4.ensures.value ∙ read)
    ∙ sym (filter-append (shown (all_sources graphs placed)) (source_streams (length (lists heads)) made) (all_streams (lists heads))))) in
    let e = ap (λ (l : List Stream). length l) (c.as_slice-8.ensures.value ∙ are) in
    let le : length (lists heads) + length made ≤ 16 = (let l = lists_length heads in let h = c.requires.inputs in omega (arith, l, h)) in
    let f = few_used (lists heads) made graphs placed le (lists_few heads c.requires.streams) in
    omega (arith, e, f)

pub returns : goal.returns
returns c =
    let heads = c.args.heads.now in
    let made = c.args.made.items in
    let graphs = c.args.graphs.now in
    let placed = c.args.placed.now in
    let shown : List Origin → Stream → _ = λ os s. list_any (shows s.at) os in
    let read : c.in_ok-read.read.items ≡ read_in (lists heads) graphs placed =
    c.in_ok-read.ensures ∙ ap (λ (os : List Origin). filter (shown os) (all_streams (lists heads))) (c.as_slice.ensures.value ∙ c.in_ok-origins.ensures) in
    let sources : c.in_ok-sources.sources.items ≡ used_of (source_streams (length (lists heads)) made) graphs placed =
    c.in_ok-sources.ensures
    ∙ (ap (λ (os : List Origin). filter (shown os) (source_streams (length heads) c.as_slice-2.result.now)) (c.as_slice-3.ensures.value ∙ c.in_ok-origins.ensures)
    ∙ (ap (λ (ms : List Made). used_of (source_streams (length heads) ms) graphs placed) c.as_slice-2.ensures.value
    ∙ ap (λ (k : ℕ). used_of (source_streams k made) graphs placed) (sym (lists_length heads)))) in
    let are : c.in_ok-streams.streams.items ≡ streams_in (lists heads) made graphs placed =
    c.in_ok-streams.ensures
    ∙ (ap (λ (ss : List Stream). ss ++ c.as_slice-4.result.now) sources
    ∙ (ap (λ (ss : List Stream). used_of (source_streams (length (lists heads)) made) graphs placed ++ ss) (c.as_slice-4.ensures.value ∙ read)
    ∙ sym (filter-append (shown (all_sources graphs placed)) (source_streams (length (lists heads)) made) (all_streams (lists heads))))) in
    let inputs : c.as_slice-6.result.now ≡ inputs_in (lists heads) graphs placed =
    c.as_slice-6.ensures.value
    ∙ (c.in_ok-inputs.ensures
    ∙ (ap (λ (l : List Stream). filter (has_stream l) (range_with_len 0 (length heads))) (c.as_slice-5.ensures.value ∙ read)
    ∙ ap (λ (k : ℕ). filter (has_stream (read_in (lists heads) graphs placed)) (range_with_len 0 k)) (sym (lists_length heads)))) in
    let together : length heads + c.len.result ≡ length (lists heads) + length made =
    (let a = c.len.ensures in let b = c.args.made.ok.0 in let l = lists_length heads in omega (arith, a, b, l)) in
    drawn_by (lists heads) graphs placed c.args.outputs (length heads) (length heads + c.len.result) c.args.texts.items c.of.result made c.of-2.result c.as_slice-6.result.now c.as_slice-7.result.now c.as_slice-8.result.now
    c.in_ok-drawing.drawing c.in_ok-routes.routes c.in_ok-drawing.ensures (sym (lists_length heads)) inputs (c.as_slice-7.ensures.value ∙ read) (c.as_slice-8.ensures.value ∙ are) c.in_ok-routes.ensures together c.of.ensures c.of-2.ensures
