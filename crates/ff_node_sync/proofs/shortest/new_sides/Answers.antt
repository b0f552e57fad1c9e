use Rattle.std.proofs.Common.{◌≡◌, ◌+◌, ◌<◌, ◌≤◌, ◌∙◌, ◌++◌, ◌∷◌, [], suc, sym, ap, subst, arith, length, take, List}
use Rattle.std.proofs.Math.Seq.{take-suc}
use Rattle.ff_frame.specs.declared.head.StreamHead.{StreamHead}
use Rattle.ff_node_sync.specs.declared.side.Side.{Side}
use Rattle.ff_node_sync.specs.Lines.{AreNew}
use Rattle.ff_node_sync.proofs.Moving.{new_more, all_new}
use Rattle.ff_node_sync.proofs.shortest.new_sides.Goals as goal

pub heads-preserved : goal.heads-preserved
heads-preserved c =
    let hs = c.args.heads.now in
    let p = c.heads.p in
    let lt : p < length hs = omega (arith, c.heads-test.true) in
    let n : p + 1 ≡ suc p = omega arith in
    let h = c.index-heads-p.result in
    let one : take (p + 1) hs ≡ take p hs ++ h ∷ [] = ap (λ k. take k hs) n ∙ (take-suc hs p h lt
    ∙ ap (λ (g : StreamHead). take p hs ++ g ∷ []) (sym c.index-heads-p.is)) in
    subst (λ (ss : List Side). AreNew (take (p + 1) hs) ss) (sym {A = List Side} c.in_ok-push.ensures.items)
    (new_more (take p hs) (take (p + 1) hs) c.heads.sides.items c.new.result h one c.heads.invariant c.new.ensures.head c.new.ensures.line)

pub returns : goal.returns
returns c =
    let hs = c.args.heads.now in
    let le : length hs ≤ c.heads.p = omega (arith, c.heads-test.false) in
    record { new = all_new c.heads.p hs c.heads.sides.items le c.heads.invariant }
