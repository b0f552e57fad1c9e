use Rattle.std.proofs.Common.{◌≡◌, ◌+◌, ◌<◌, length, drop, get_or, ap, ◌∙◌, arith, List}
use Rattle.std.proofs.lemmas.List.{get_or_default}
use Rattle.ff_lang.specs.declared.graph.Chain.{Chain}
use Rattle.ff_graph_links.specs.labels.Labels.{filters_of}
use Rattle.ff_graph_links.specs.labels.Names.{twice_in}
use Rattle.ff_graph_links.proofs.LabelsLemmas.Own.{own_fault_in, own_fine}
use Rattle.ff_graph_links.proofs.LabelsLemmas.Faults.{filters_from, filters_next}
use Rattle.ff_graph_links.proofs.labels.alone.check_chains.Goals as goal

pub returns-in-Err-clause-fault : goal.returns-in-Err-clause-fault
returns-in-Err-clause-fault c =
    let chains = c.args.graph.now.chains in
    let n = c.loop-chain.chain-index in
    let x = c.chain-item.result in
    let items : c.as_slice-chain-items.result.now ≡ chains = c.as_slice-chain-items.ensures in
    let lt : n < length chains = (let t = c.loop-chain-test.true in let e = ap (λ (l : List Chain). length l) items in omega (arith, t, e)) in
    let at : x ≡ get_or chains n x = c.chain-item.is ∙ (get_or_default c.as_slice-chain-items.result.now n x x c.loop-chain-test.true ∙ ap (λ (l : List Chain). get_or l n x) items) in
    let fs = c.as_slice-filters.result.now in
    let front = filters_from (drop n chains) in
    let rest = filters_from (drop (n + 1) chains) in
    let here = filters_next chains n x fs lt at c.as_slice-filters.ensures in
    own_fault_in c.loop-chain.seen.ins.items c.loop-chain.seen.outs.items front fs rest (twice_in c.args.seen.now.ins.items c.args.seen.now.outs.items (filters_of c.args.graph.now))
    c.in-Err.fault here c.loop-chain.invariant c.in-Err.ensures.fault

pub loop-chain-preserved : goal.loop-chain-preserved
loop-chain-preserved c =
    let chains = c.args.graph.now.chains in
    let n = c.loop-chain.chain-index in
    let x = c.chain-item.result in
    let items : c.as_slice-chain-items.result.now ≡ chains = c.as_slice-chain-items.ensures in
    let lt : n < length chains = (let t = c.loop-chain-test.true in let e = ap (λ (l : List Chain). length l) items in omega (arith, t, e)) in
    let at : x ≡ get_or chains n x = c.chain-item.is ∙ (get_or_default c.as_slice-chain-items.result.now n x x c.loop-chain-test.true ∙ ap (λ (l : List Chain). get_or l n x) items) in
    let fs = c.as_slice-filters.result.now in
    let front = filters_from (drop n chains) in
    let rest = filters_from (drop (n + 1) chains) in
    let here = filters_next chains n x fs lt at c.as_slice-filters.ensures in
    own_fine c.loop-chain.seen.ins.items c.loop-chain.seen.outs.items c.check_chain.new.seen.ins.items c.check_chain.new.seen.outs.items front fs rest
    (twice_in c.args.seen.now.ins.items c.args.seen.now.outs.items (filters_of c.args.graph.now)) here c.loop-chain.invariant c.in-Ok.ensures.fine c.in-Ok.ensures.ins c.in-Ok.ensures.outs
