use Rattle.std.proofs.Common.{◌≡◌, ◌+◌, ◌<◌, ◌≤◌, ◌∙◌, ◌++◌, ◌∷◌, [], suc, sym, ap, subst, arith, length, take, List}
use Rattle.std.proofs.Math.Seq.{take-suc}
use Rattle.std.proofs.lemmas.List.{length-take-le}
use Rattle.ff_frame.specs.declared.head.StreamHead.{StreamHead}
use Rattle.ff_trim.specs.declared.counted.OutputCut.{OutputCut}
use Rattle.ff_trim.specs.declared.tap.Tap.{Tap}
use Rattle.ff_trim.specs.laws.Taps.{ways_of, AreNewWays}
use Rattle.ff_trim.proofs.Ways.{new_more, all_new}
use Rattle.ff_trim.proofs.cutting.new_taps.Goals as goal

pub heads-preserved : goal.heads-preserved
heads-preserved c =
    let hs = c.args.heads.now in
    let cs = c.args.cuts.now in
    let q = c.heads.q in
    let lt : q < length hs = omega (arith, c.heads-test.true) in
    let less : q < length cs = omega (arith, lt, c.requires.each) in
    let n : q + 1 ≡ suc q = omega arith in
    let h = c.index-heads-q.result in
    let k = c.index-cuts-q.result in
    let one : take (q + 1) hs ≡ take q hs ++ h ∷ [] = ap (λ i. take i hs) n ∙ (take-suc hs q h lt ∙ ap (λ (g : StreamHead). take q hs ++ g ∷ []) (sym c.index-heads-q.is)) in
    let two : take (q + 1) cs ≡ take q cs ++ k ∷ [] = ap (λ i. take i cs) n ∙ (take-suc cs q k less ∙ ap (λ (g : OutputCut). take q cs ++ g ∷ []) (sym c.index-cuts-q.is)) in
    let long : length (take q cs) ≡ length (take q hs) = length-take-le q cs (omega (arith, less)) ∙ sym (length-take-le q hs (omega (arith, lt))) in
    subst (λ (ts : List Tap). AreNewWays (take (q + 1) hs) (take (q + 1) cs) (ways_of ts)) (sym {A = List Tap} c.in_ok-push.ensures.items)
    (new_more (take q hs) (take (q + 1) hs) (take q cs) (take (q + 1) cs) c.heads.taps.items c.new.result h k one two long c.heads.invariant c.new.ensures)

pub returns : goal.returns
returns c =
    let hs = c.args.heads.now in
    let cs = c.args.cuts.now in
    let le : length hs ≤ c.heads.q = omega (arith, c.heads-test.false) in
    record { new = all_new c.heads.q hs cs c.heads.taps.items le c.requires.each c.heads.invariant }
