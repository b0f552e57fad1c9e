use Rattle.std.proofs.Common.{ap, ◌∙◌, ◌++◌, ◌∷◌, [], Ok, List, subst, sym}
use Rattle.std.specs.List.{All}
use Rattle.ff_frame.specs.declared.audio.AFrame.{AFrame}
use Rattle.ff_node_flac.specs.laws.Kept.{IsCut}
use Rattle.ff_node_flac.proofs.Gathers.{cut_more, block_cut, all_more}
use Rattle.ff_node_flac.proofs.queue.Queue.cut_one.Goals as goal

pub returns-in-Some-clause-still : goal.returns-in-Some-clause-still
returns-in-Some-clause-still c fed done g =
    let q = c.args.self.now in
    let given = c.in_ok-pull.ensures.gives fed in
    cut_more q.blocks c.pull.new.self q.cut.items c.push_reserved.new.self.items q.codes.items q.counter q.given fed done c.in-Some.block g
    (λ n h. given n h c.in-Some.block (ap Ok c.in-Some.is)) c.in_ok-pull.ensures.ended
    (c.push_reserved.ensures.items ∙ ap (λ (xs : List AFrame). xs ++ c.in-Some.block ∷ []) c.reserve.ensures.items)

pub invariant_of-self-in-Some-clause-each : goal.invariant_of-self-in-Some-clause-each
invariant_of-self-in-Some-clause-each c =
    let q = c.args.self.now in
    let b = c.in-Some.block in
    let is = ap Ok c.in-Some.is in
    let e = c.in_ok-pull.ensures in
    subst (λ (xs : List AFrame). All IsCut xs) (sym (c.push_reserved.ensures.items ∙ ap (λ (xs : List AFrame). xs ++ b ∷ []) c.reserve.ensures.items))
    (all_more q.cut.items b q.each (block_cut q.format b _ q.few_bits q.rate q.alike (e.like b is) (e.sound b is) (e.few b is)))
