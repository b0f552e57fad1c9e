use Rattle.ff_test_machines.specs.Joins.{kept_of}
use Rattle.ff_test_machines.proofs.JoinSteps.{accept_first, accept_second}
use Rattle.ff_test_machines.proofs.join.JoinMachine.feed.Goals as goal

pub returns-then-port-eq0-clause-accepted : goal.returns-then-port-eq0-clause-accepted
returns-then-port-eq0-clause-accepted c past s o v =
    let m = c.args.self.now in
    accept_first m.lane (kept_of m.first) (kept_of m.second) m.next m.ended m.stopped past s c.args.port (kept_of c.keep.new.self) c.args.item c.if-port-eq0.true c.in_ok-keep.ensures.kept o v

pub returns-clause-accepted : goal.returns-clause-accepted
returns-clause-accepted c past s o v =
    let m = c.args.self.now in
    accept_second m.lane (kept_of m.first) (kept_of m.second) m.next m.ended m.stopped past s c.args.port (kept_of c.keep-2.new.self) c.args.item c.requires c.if-port-eq0.false c.in_ok-keep-2.ensures.kept o v
