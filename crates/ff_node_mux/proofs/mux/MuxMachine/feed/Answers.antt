use Rattle.std.proofs.Common.{◌<◌, ◌∙◌, List, true, refl, sym, subst}
use Rattle.std.specs.Prelude.{option_to_list, Result, Ok, Err, OnErr}
use Rattle.ff_frame.specs.declared.event.Event.{Event}
use Rattle.ff_node_mux.specs.merge.Queues.{merging}
use Rattle.ff_net.specs.Pasts.{Past, fed}
use Rattle.ff_format.specs.Layouts.{Layout}
use Rattle.ff_node_mux.specs.laws.Mixing.{lanes_long}
use Rattle.ff_node_mux.specs.Muxing.{head_bases, MuxStands}
use Rattle.ff_node_mux.specs.Telling.{TellsFed}
use Rattle.ff_node_mux.proofs.MuxSteps.{mux_after, mux_fed, mux_same}
use Rattle.ff_node_mux.proofs.StreamTells.{told_of_head}
use Rattle.ff_node_mux.proofs.TellSteps.{tells_put}
use Rattle.ff_node_mux.proofs.Texts.{none_is}
use Rattle.ff_node_mux.proofs.mux.MuxMachine.feed.Goals as goal

-- a stream that was shut has closed
pub returns-then-is_shut-clause-accepted : goal.returns-then-is_shut-clause-accepted
returns-then-is_shut-clause-accepted g c = λ past s o v. absurd ((s.0.1.closed_is c.args.port).0 (sym c.is_shut.ensures ∙ c.if-is_shut.true) o)

pub returns-then-is_some-clause-accepted : goal.returns-then-is_some-clause-accepted
returns-then-is_some-clause-accepted g c = λ past s o v.
    let m = c.args.self.now in
    let holds = g.K.Sink.holds m.snk in
    let layout = g.W.Writer.layout m.writer in
    let counts = g.W.Writer.counts m.writer in
    let took = c.in_ok-take_in.ensures.taken in (
      mux_after holds holds layout counts counts m.totals c.totals_on-totals.result m.heads.items m.unended c.left_with-unended.result m.begun
          (merging m.merge.queues.items) (merging c.take_in.new.merge.queues.items) m.fault past c.args.port c.args.item s.0
          c.totals_on-totals.ensures c.left_with-unended.ensures c.requires o v took.shut_here took.shut_others
          (sym c.is_some-2.ensures ∙ c.if-is_some.true) refl,
      tells_put m.first (head_bases m.heads.items) past m.events.items c.reserve.new.self.items c.put.new.events.items (option_to_list c.told_by-event.result)
          c.args.port c.args.item c.put.ensures c.reserve.ensures.items
          (c.told_by-event.ensures ∙ told_of_head m.first m.heads.items c.args.port c.index.result.now c.args.item
          (subst (λ n. c.args.port < n) (lanes_long m.heads.items) c.requires) c.index.ensures) s.1,
    )

pub returns-clause-accepted : goal.returns-clause-accepted
returns-clause-accepted g c = λ past s o v.
    let m = c.args.self.now in
    let holds = g.K.Sink.holds m.snk in
    let now = g.K.Sink.holds c.write_on-self.new.snk in
    let layout = g.W.Writer.layout m.writer in
    let counts = g.W.Writer.counts m.writer in
    let counts' = g.W.Writer.counts c.write_on-self.new.writer in
    let merge = merging m.merge.queues.items in
    let merge_fed = merging c.take_in.new.merge.queues.items in
    let merge' = merging c.write_on-self.new.merge.queues.items in
    let took = c.in_ok-take_in.ensures.taken in
    let alike = c.write_on-self.ensures.alike in
    let none = none_is m.fault (sym c.is_some-2.ensures ∙ c.if-is_some.false) in
    let done = mux_fed holds now layout counts counts' m.totals c.totals_on-totals.result m.heads.items m.unended c.left_with-unended.result m.begun
    merge merge' m.fault past c.args.port c.args.item s.0 c.totals_on-totals.ensures c.left_with-unended.ensures c.requires o v
    (alike.shut c.args.port ∙ took.shut_here) (λ q ne. alike.shut q ∙ took.shut_others q ne)
    none merge_fed (took.rest (c.is_some.ensures ∙ (sym c.is_some-2.ensures ∙ c.if-is_some.false)))
    c.write_on-self.result c.write_on-self.ensures.ok c.write_on-self.ensures.stuck c.write_on-self.ensures.kinds in (
      subst (λ (l : Layout). MuxStands now l counts' c.totals_on-totals.result m.heads.items c.left_with-unended.result true merge' c.write_on-self.result
          (fed past c.args.port c.args.item)) (sym c.write_on-self.ensures.layout) done,
      tells_put m.first (head_bases m.heads.items) past m.events.items c.reserve.new.self.items c.put.new.events.items (option_to_list c.told_by-event.result)
          c.args.port c.args.item c.put.ensures c.reserve.ensures.items
          (c.told_by-event.ensures ∙ told_of_head m.first m.heads.items c.args.port c.index.result.now c.args.item
          (subst (λ n. c.args.port < n) (lanes_long m.heads.items) c.requires) c.index.ensures) s.1,
    )

on_any : {A E : Type 0} (P : Type 0) (r : Result A E) → P → OnErr r P
on_any P (Ok x) p = tt
on_any P (Err e) p = p

pub returns-in_err-take_in-clause-unchanged : goal.returns-in_err-take_in-clause-unchanged
returns-in_err-take_in-clause-unchanged g c =
    let m = c.args.self.now in
    let holds = g.K.Sink.holds m.snk in
    let layout = g.W.Writer.layout m.writer in
    let counts = g.W.Writer.counts m.writer in
    let bases = head_bases m.heads.items in
    let merge = merging m.merge.queues.items in
    let merge' = merging c.take_in.new.merge.queues.items in
    let Before : Past → Type 0 = λ past. MuxStands holds layout counts m.totals m.heads.items m.unended m.begun merge m.fault past
    × TellsFed m.first bases m.events.items past.task.tells past.told past.feeds in
    let After : Past → Type 0 = λ past. MuxStands holds layout counts m.totals m.heads.items m.unended m.begun merge' m.fault past
    × TellsFed m.first bases c.reserve.new.self.items past.task.tells past.told past.feeds in
    let kept : (past : Past) → Before past → After past = λ past s. (
      mux_same holds layout counts m.totals m.heads.items m.unended m.begun merge merge' m.fault past c.in_err-take_in.ensures.unchanged s.0,
      subst (λ (es : List Event). TellsFed m.first bases es past.task.tells past.told past.feeds) (sym c.reserve.ensures.items) s.1,
    ) in
    on_any ((past : Past) → Before past → After past) c.from_residual.result kept
