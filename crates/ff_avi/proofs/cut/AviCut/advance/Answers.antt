use Rattle.std.proofs.Common.{◌≡◌, refl, sym, arith}
use Rattle.ff_frame.specs.declared.cut.Cut.TheVariants.{Broken as BrokenAt, Pkt as Packet}
use Rattle.ff_avi.specs.declared.data.Turn.TheVariants.{Broken}
use Rattle.ff_avi.specs.Data.{turn}
use Rattle.ff_avi.proofs.CutLaws.{stays, broken_here, told_so, then_tells, passed_at}
use Rattle.ff_avi.proofs.cut.AviCut.advance.Goals as goal

pub give-requires-clause-times : goal.give-requires-clause-times
give-requires-clause-times c = let near = c.in-Give.ensures.near in (omega (arith, near.3), omega (arith, near.4))

pub returns-in-Broken-clause-tells : goal.returns-in-Broken-clause-tells
returns-in-Broken-clause-tells c = λ stream told e.
    let cut = c.args.self.now in
    let here : turn cut.lanes cut.known cut.place cut.held.bytes ≡ Broken = sym (rw c.as_slice.ensures at c.in-Broken.ensures.value) in
    let at = passed_at cut c.requires (λ z. c.if-len-eq0.false (omega (arith, z))) in
    told_so cut _ cut.first stream (BrokenAt cut.place) told e
    (stays cut _ (record { of_lanes = refl; of_first = refl; of_from = refl; of_left = refl; of_pad = refl; of_known = refl; of_place = refl; of_bytes = refl }), broken_here _ at.0 at.1 at.2 here, refl)

pub returns-in-Pass-clause-on : goal.returns-in-Pass-clause-on
returns-in-Pass-clause-on c = λ e.
    let cut = c.args.self.now in
    (λ head used fed n k. c.begin.ensures.cuts head used fed n (stays cut _ (record { of_lanes = refl; of_first = refl; of_from = refl; of_left = refl; of_pad = refl; of_known = refl; of_place = refl; of_bytes = refl }) head used fed n k), c.begin.ensures.all, c.begin.ensures.shorter)

pub returns-in_ok-p-in-Give-clause-tells : goal.returns-in_ok-p-in-Give-clause-tells
returns-in_ok-p-in-Give-clause-tells c = λ stream told e.
    let cut = c.args.self.now in
    told_so cut c.give.new.self c.in-Give.unit.stream stream (Packet c.in_ok-p-in-Give.p) told e
    (then_tells cut _ c.give.new.self c.in-Give.unit.stream (Packet c.in_ok-p-in-Give.p) (stays cut _ (record { of_lanes = refl; of_first = refl; of_from = refl; of_left = refl; of_pad = refl; of_known = refl; of_place = refl; of_bytes = refl })) refl refl c.in_ok-p-in-Give.ensures.ok)
