use Rattle.std.proofs.Common.{◌≡◌, ◌+◌, ◌<◌, length, drop, get_or, ap, ◌∙◌, arith, List}
use Rattle.std.proofs.lemmas.List.{get_or_default}
use Rattle.ff_lang.specs.declared.graph.Chain.{Chain}
use Rattle.ff_graph_links.specs.labels.Labels.{filters_of}
use Rattle.ff_graph_links.specs.labels.Names.{unknown_filter}
use Rattle.ff_graph_links.proofs.LabelsLemmas.Own.{unknown_in, known_on}
use Rattle.ff_graph_links.proofs.LabelsLemmas.Faults.{filters_from, filters_next, count_on}
use Rattle.ff_graph_links.proofs.labels.alone.check_names.Goals as goal

pub returns-in-Err-clause-fault : goal.returns-in-Err-clause-fault
returns-in-Err-clause-fault g c =
    let chains = c.args.graph.now.chains in
    let n = c.loop-chain.chain-index in
    let x = c.chain-item.result in
    let items : c.as_slice-chain-items.result.now ≡ chains = c.as_slice-chain-items.ensures in
    let lt : n < length chains = (let t = c.loop-chain-test.true in let e = ap (λ (l : List Chain). length l) items in omega (arith, t, e)) in
    let at : x ≡ get_or chains n x = c.chain-item.is ∙ (get_or_default c.as_slice-chain-items.result.now n x x c.loop-chain-test.true ∙ ap (λ (l : List Chain). get_or l n x) items) in
    let fs = c.as_slice-filters.result.now in
    let front = filters_from (drop n chains) in
    let rest = filters_from (drop (n + 1) chains) in
    let here = filters_next chains n x fs lt at c.as_slice-filters.ensures in
    let known = g.K.Known.filter c.args.known.now in
    unknown_in known c.args.number c.loop-chain.first front fs rest (unknown_filter known c.args.number 0 (filters_of c.args.graph.now)) c.in-Err.fault here c.loop-chain.invariant.rest c.in-Err.ensures.fault

pub loop-chain-preserved : goal.loop-chain-preserved
loop-chain-preserved g c =
    let chains = c.args.graph.now.chains in
    let n = c.loop-chain.chain-index in
    let x = c.chain-item.result in
    let items : c.as_slice-chain-items.result.now ≡ chains = c.as_slice-chain-items.ensures in
    let lt : n < length chains = (let t = c.loop-chain-test.true in let e = ap (λ (l : List Chain). length l) items in omega (arith, t, e)) in
    let at : x ≡ get_or chains n x = c.chain-item.is ∙ (get_or_default c.as_slice-chain-items.result.now n x x c.loop-chain-test.true ∙ ap (λ (l : List Chain). get_or l n x) items) in
    let fs = c.as_slice-filters.result.now in
    let front = filters_from (drop n chains) in
    let rest = filters_from (drop (n + 1) chains) in
    let here = filters_next chains n x fs lt at c.as_slice-filters.ensures in
    let known = g.K.Known.filter c.args.known.now in
    record {
      rest = known_on known c.args.number c.loop-chain.first front fs rest (unknown_filter known c.args.number 0 (filters_of c.args.graph.now)) here c.loop-chain.invariant.rest c.in-Ok.ensures.fine;
      few = count_on c.loop-chain.first (length (filters_of c.args.graph.now)) front fs rest here c.loop-chain.invariant.few;
    }
