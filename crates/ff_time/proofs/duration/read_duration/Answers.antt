use Rattle.ff_time.proofs.Following.{Follows-start}
use Rattle.ff_time.proofs.Places.{Reads-ok, Reads-big}
use Rattle.ff_time.proofs.Exits.{exit_none, exit_room, goes_on, exit_value, exit_end}
use Rattle.ff_time.proofs.duration.read_duration.Goals as goal

pub loop-at-init : goal.loop-at-init
loop-at-init c = Follows-start

pub loop-at-preserved : goal.loop-at-preserved
loop-at-preserved c =
    goes_on c.args.text.now c.loop-at.at c.missing.result c.loop-at.reading c.in-Some.next c.loop-at-test.true c.loop-at.invariant c.in-Some.ensures c.missing.ensures.count c.if-at-missing-le-LONGEST.true

pub returns-in_default-clause-ok : goal.returns-in_default-clause-ok
returns-in_default-clause-ok c = (exit_room c.args.text.now c.loop-at.at c.missing.result c.loop-at.reading c.in-Some.next c.loop-at-test.true c.loop-at.invariant c.in-Some.ensures c.missing.ensures.count c.if-at-missing-le-LONGEST.false).ok

pub returns-in_default-clause-too_big : goal.returns-in_default-clause-too_big
returns-in_default-clause-too_big c = (exit_room c.args.text.now c.loop-at.at c.missing.result c.loop-at.reading c.in-Some.next c.loop-at-test.true c.loop-at.invariant c.in-Some.ensures c.missing.ensures.count c.if-at-missing-le-LONGEST.false).too_big

pub returns-in_default-clause-bad_time : goal.returns-in_default-clause-bad_time
returns-in_default-clause-bad_time c = (exit_room c.args.text.now c.loop-at.at c.missing.result c.loop-at.reading c.in-Some.next c.loop-at-test.true c.loop-at.invariant c.in-Some.ensures c.missing.ensures.count c.if-at-missing-le-LONGEST.false).bad_time

pub returns-in_default-2-clause-ok : goal.returns-in_default-2-clause-ok
returns-in_default-2-clause-ok c = (exit_none c.args.text.now c.loop-at.at c.loop-at.reading c.loop-at-test.true c.loop-at.invariant c.in_default.ensures).ok

pub returns-in_default-2-clause-too_big : goal.returns-in_default-2-clause-too_big
returns-in_default-2-clause-too_big c = (exit_none c.args.text.now c.loop-at.at c.loop-at.reading c.loop-at-test.true c.loop-at.invariant c.in_default.ensures).too_big

pub returns-in_default-2-clause-bad_time : goal.returns-in_default-2-clause-bad_time
returns-in_default-2-clause-bad_time c = (exit_none c.args.text.now c.loop-at.at c.loop-at.reading c.loop-at-test.true c.loop-at.invariant c.in_default.ensures).bad_time

pub returns-in-Some-value-clause-ok : goal.returns-in-Some-value-clause-ok
returns-in-Some-value-clause-ok c = (Reads-ok c.args.text.now c.in-Some-value.value (exit_value c.args.text.now c.loop-at.at c.in-Some-value.value c.loop-at.reading c.loop-at-test.false c.loop-at.invariant c.in-Some-value.ensures) c.if-value-le-GREATEST.true).ok

pub returns-in-Some-value-clause-too_big : goal.returns-in-Some-value-clause-too_big
returns-in-Some-value-clause-too_big c = (Reads-ok c.args.text.now c.in-Some-value.value (exit_value c.args.text.now c.loop-at.at c.in-Some-value.value c.loop-at.reading c.loop-at-test.false c.loop-at.invariant c.in-Some-value.ensures) c.if-value-le-GREATEST.true).too_big

pub returns-in-Some-value-clause-bad_time : goal.returns-in-Some-value-clause-bad_time
returns-in-Some-value-clause-bad_time c = (Reads-ok c.args.text.now c.in-Some-value.value (exit_value c.args.text.now c.loop-at.at c.in-Some-value.value c.loop-at.reading c.loop-at-test.false c.loop-at.invariant c.in-Some-value.ensures) c.if-value-le-GREATEST.true).bad_time

pub returns-in-Some-2-clause-ok : goal.returns-in-Some-2-clause-ok
returns-in-Some-2-clause-ok c = (Reads-big c.args.text.now c.in-Some-value.value (exit_value c.args.text.now c.loop-at.at c.in-Some-value.value c.loop-at.reading c.loop-at-test.false c.loop-at.invariant c.in-Some-value.ensures) c.if-value-le-GREATEST.false).ok

pub returns-in-Some-2-clause-too_big : goal.returns-in-Some-2-clause-too_big
returns-in-Some-2-clause-too_big c = (Reads-big c.args.text.now c.in-Some-value.value (exit_value c.args.text.now c.loop-at.at c.in-Some-value.value c.loop-at.reading c.loop-at-test.false c.loop-at.invariant c.in-Some-value.ensures) c.if-value-le-GREATEST.false).too_big

pub returns-in-Some-2-clause-bad_time : goal.returns-in-Some-2-clause-bad_time
returns-in-Some-2-clause-bad_time c = (Reads-big c.args.text.now c.in-Some-value.value (exit_value c.args.text.now c.loop-at.at c.in-Some-value.value c.loop-at.reading c.loop-at-test.false c.loop-at.invariant c.in-Some-value.ensures) c.if-value-le-GREATEST.false).bad_time

pub returns-in-None-clause-ok : goal.returns-in-None-clause-ok
returns-in-None-clause-ok c = (exit_end c.args.text.now c.loop-at.at c.loop-at.reading c.loop-at-test.false c.loop-at.invariant c.in-None.ensures).ok

pub returns-in-None-clause-too_big : goal.returns-in-None-clause-too_big
returns-in-None-clause-too_big c = (exit_end c.args.text.now c.loop-at.at c.loop-at.reading c.loop-at-test.false c.loop-at.invariant c.in-None.ensures).too_big

pub returns-in-None-clause-bad_time : goal.returns-in-None-clause-bad_time
returns-in-None-clause-bad_time c = (exit_end c.args.text.now c.loop-at.at c.loop-at.reading c.loop-at-test.false c.loop-at.invariant c.in-None.ensures).bad_time
