use Rattle.std.proofs.Common.{ℕ, [], ◌∷◌, sym, ◌∙◌, subst}
use Rattle.ff_net.specs.laws.Worlds.{lanes_of}
use Rattle.ff_net_threads.specs.laws.links.Ends.{OutEndStands}
use Rattle.ff_net.specs.laws.Steps.{Course}
use Rattle.ff_net.proofs.Moments.{course_trans}
use Rattle.ff_net_threads.proofs.LinksLemmas.Carrying.{some_past, renamed, claimed}
use Rattle.ff_net.proofs.Rounds.{or_true, or_false}
use Rattle.ff_net_threads.proofs.LinksLemmas.Turns.{pour_sends, pour_moves, out_rests_then, none_sent}
use Rattle.ff_net_threads.specs.laws.links.Turns.{over}
use Rattle.ff_net_threads.proofs.links.ends.pour.Goals as goal

pub send-sent-requires-clause-stands : goal.send-sent-requires-clause-stands
send-sent-requires-clause-stands g c claims =
    let l = c.lift-lifted.ensures in
    let s = c.requires.stands (claimed c.lift-lifted.new.end c.args.end.now l.link claims) in
    let y = l.stands s.world some_past s.stand s.fits in record {
      world = y.now;
      stand = y.stand;
      fits = renamed (OutEndStands c.lift-lifted.new.end) (lanes_of c.args.wires.now) (lanes_of c.lift-lifted.new.wires) c.args.end.now.wire c.lift-lifted.new.end.wire y.now l.lanes l.wire y.fits;
    }

pub returns-clause-stands : goal.returns-clause-stands
returns-clause-stands g c world past stand o =
    let l = c.lift-lifted.ensures in
    let end = c.args.end.now in
    let mid = c.lift-lifted.new.end in
    let last = c.send-sent.new.end in
    let lanes = lanes_of c.args.wires.now in
    let lanes' = lanes_of c.lift-lifted.new.wires in
    let x = l.stands world past stand o in
    let y = c.send-sent.ensures.stands x.now past x.stand (renamed (OutEndStands mid) lanes lanes' end.wire mid.wire x.now l.lanes l.wire x.fits) in record {
      now = y.now;
      stand = y.stand;
      fits = renamed (OutEndStands last) lanes' lanes mid.wire end.wire y.now (sym l.lanes) (sym l.wire) y.fits;
      course = course_trans (end.wire ∷ []) [] world x.now y.now past past past x.course (subst (λ (w : ℕ). Course (w ∷ []) [] x.now y.now past past) l.wire y.course);
    }

pub returns-clause-sends : goal.returns-clause-sends
returns-clause-sends g c = pour_sends c.args.end.now c.lift-lifted.new.end c.send-sent.new.end c.if-end.false c.lift-lifted.ensures.goes_on c.lift-lifted.ensures.sender c.send-sent.ensures.sends

pub returns-clause-moved : goal.returns-clause-moved
returns-clause-moved g c t =
    pour_moves c.args.end.now c.lift-lifted.new.end c.send-sent.new.end c.if-end.false c.lift-lifted.ensures.goes_on c.lift-lifted.ensures.sender c.lift-lifted.result c.send-sent.result c.send-sent.ensures.moved (λ n. (c.send-sent.ensures.still n).0) c.lift-lifted.ensures.moved (or_true c.lift-lifted.result c.send-sent.result t)

pub returns-clause-still : goal.returns-clause-still
returns-clause-still g c n =
    let no = or_false c.lift-lifted.result c.send-sent.result n in
    let up = c.lift-lifted.ensures.still no.0 in
    let sends = c.send-sent.ensures.still no.1 in
    (out_rests_then c.args.end.now c.lift-lifted.new.end c.send-sent.new.end up.0 sends.0, sends.1 ∙ up.1)

pub returns-then-end-clause-why : goal.returns-then-end-clause-why
returns-then-end-clause-why g c n = over c.if-end.true

pub returns-clause-why : goal.returns-clause-why
returns-clause-why g c n =
    let no = or_false c.lift-lifted.result c.send-sent.result n in
    none_sent c.args.wires.now c.args.end.now c.lift-lifted.new.end c.send-sent.new.end (c.lift-lifted.ensures.still no.0).0 (c.send-sent.ensures.still no.1).0 (c.lift-lifted.ensures.empty no.0) (c.send-sent.ensures.why no.1)
