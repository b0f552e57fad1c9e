use Rattle.std.proofs.Common.{◌≡◌, List, [], ◌∷◌, ◌++◌, ap, ◌∙◌}
use Rattle.ff_frame.specs.declared.head.StreamHead.{StreamHead}
use Rattle.ff_fsync.specs.laws.stacks.Stacked.{seen}
use Rattle.ff_fsync.proofs.StacksLemmas.Planning.{made_by}
use Rattle.ff_fsync.proofs.stacks.configured.stack_for.Goals as goal

pub returns-clause-made : goal.returns-clause-made
returns-clause-made c =
    let p = c.in-Ok-planned.plan in
    let shown : c.push.new.self.items ≡ p.head ∷ [] =
    c.in-Ok-push.ensures.items ∙ ap (λ (hs : List StreamHead). hs ++ p.head ∷ []) c.new-shown.ensures.items in
    made_by c.args.direction c.args.args.now c.args.heads.now c.planned.result p (seen c.in-Ok-machine_for.machine) c.push.new.self.items
    c.planned.ensures c.in-Ok-planned.is c.in-Ok-machine_for.ensures shown
