use Rattle.std.proofs.Common.{◌<◌, ◌^◌, arith}
use Rattle.std.specs.List.{All}
use Rattle.std.proofs.lemmas.List.Elements.{All-from_get_or}
use Rattle.ff_flac_subframe.proofs.RiceLemmas.PartLemmas.{cost_small}
use Rattle.ff_flac_subframe.proofs.rice.quotients.cost_of.Goals as goal

pub overflow_add-result-2 : goal.overflow_add-result-2
overflow_add-result-2 c =
    let few : All (λ u. u < 2 ^ 32) c.args.part.now = All-from_get_or (λ u. u < 2 ^ 32) c.args.part.now 0 (λ i _. (c.type_inv.part i).fits) in
    omega (arith, cost_small c.args.k c.args.part.now c.requires.k c.requires.len few, c.quotients_of.ensures)

pub returns-clause-small : goal.returns-clause-small
returns-clause-small c =
    let few : All (λ u. u < 2 ^ 32) c.args.part.now = All-from_get_or (λ u. u < 2 ^ 32) c.args.part.now 0 (λ i _. (c.type_inv.part i).fits) in
    omega (arith, cost_small c.args.k c.args.part.now c.requires.k c.requires.len few, c.quotients_of.ensures)
