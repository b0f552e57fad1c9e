use Rattle.std.proofs.Common.{◌<◌, ◌∙◌, [], List, length, ap, sym, subst, arith}
use Rattle.ff_node_filter.specs.declared.best.input.Input.{Input}
use Rattle.ff_node_filter.specs.best.Inputs.{bases_of, Keeps}
use Rattle.ff_node_filter.proofs.BestLemmas.Placing.{inputs_more, keeps_more}
use Rattle.ff_node_filter.proofs.best.lead.inputs_of.Goals as goal

pub heads-preserved : goal.heads-preserved
heads-preserved c =
    let heads = c.args.heads.now in
    let p = c.heads.p in
    let lt : p < length heads = omega (arith, c.heads-test.true, c.heads.auto.p-end) in
    record {
      bases = ap (λ (is : List Input). bases_of is) c.in_ok-push.ensures.items ∙ inputs_more c.heads.inputs.items heads p c.new.result c.index-heads-p.result lt c.index-heads-p.is c.new.ensures.tb c.heads.invariant.bases;
      keeps = subst (λ (is : List Input). Keeps is []) (sym {A = List Input} c.in_ok-push.ensures.items) (keeps_more c.heads.inputs.items c.new.result c.new.ensures.end c.new.ensures.closed c.heads.invariant.keeps);
    }
