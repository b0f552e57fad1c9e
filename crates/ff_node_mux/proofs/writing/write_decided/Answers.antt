use Rattle.std.proofs.Common.{◌∷◌, ◌++◌, [], ◌∙◌, refl, subst, arith, rules}
use Rattle.ff_node_mux.specs.merge.Queues.{merging}
use Rattle.ff_format.specs.Layouts.{Layout}
use Rattle.ff_node_mux.specs.laws.Writing.{Wrote, Stuck}
use Rattle.ff_node_mux.proofs.WriteSteps.{wrote_more, stuck_more}
use Rattle.ff_node_mux.proofs.writing.write_decided.Goals as goal

pub returns-in_err-go-clause-stuck : goal.returns-in_err-go-clause-stuck
returns-in_err-go-clause-stuck g c =
    let K = g.K.Sink in
    let W = g.W.Writer in
    let i = c.packets.invariant in
    let layout = W.layout c.args.writer.now in
    let mid = merging c.packets.merge.queues.items in
    let now = K.holds c.write_next.new.snk in
    let here : Stuck layout mid (K.holds c.packets.snk) now (W.counts c.packets.writer) c.in_err-go.field-0.0 =
    subst (λ (l : Layout). Stuck l mid (K.holds c.packets.snk) now (W.counts c.packets.writer) c.in_err-go.field-0.0) i.layout c.in_err-go.ensures.stuck in
    let all = stuck_more layout (merging c.args.merge.now.queues.items) mid (K.holds c.args.snk.now) (K.holds c.packets.snk) now
    (W.counts c.args.writer.now) (W.counts c.packets.writer) i.wrote.0 i.wrote.1 c.in_err-go.field-0.0 here in
    search (rules, all)

pub packets-preserved : goal.packets-preserved
packets-preserved g c =
    let K = g.K.Sink in
    let W = g.W.Writer in
    let i = c.packets.invariant in
    let layout = W.layout c.args.writer.now in
    let mid = merging c.packets.merge.queues.items in
    let new = merging c.write_next.new.merge.queues.items in
    let now = K.holds c.write_next.new.snk in
    let counts'' = W.counts c.write_next.new.writer in
    let go = c.if-not-go.false in
    let one = c.in_ok-go.ensures.wrote (cc (go)) in
    let more : Wrote layout mid new (K.holds c.packets.snk) now (W.counts c.packets.writer) counts'' (one.0 ∷ []) =
    subst (λ (l : Layout). Wrote l mid new (K.holds c.packets.snk) now (W.counts c.packets.writer) counts'' (one.0 ∷ [])) i.layout one.1 in
    let low = i.written in
    let high = c.in_ok-go.ensures.written c.in_ok-go.go refl in record {
      wrote = (
        i.wrote.0 ++ one.0 ∷ [],
        wrote_more layout (merging c.args.merge.now.queues.items) mid (K.holds c.args.snk.now) (K.holds c.packets.snk) now
            (W.counts c.args.writer.now) (W.counts c.packets.writer) i.wrote.0 i.wrote.1 new counts'' (one.0 ∷ []) more,
      );
      alike = record { bases = c.write_next.ensures.alike.bases ∙ i.alike.bases; shut = λ p. c.write_next.ensures.alike.shut p ∙ i.alike.shut p };
      written = omega (arith, low, high);
      faults = c.in_ok-go.ensures.sound c.in_ok-go.go refl ∙ i.faults;
      name = c.write_next.ensures.name ∙ i.name;
      layout = c.write_next.ensures.layout ∙ i.layout;
      still = λ n h. let a = i.still n h in c.write_next.ensures.still_counts a.0 a.1;
    }
