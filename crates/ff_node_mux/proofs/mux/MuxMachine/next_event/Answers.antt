use Rattle.std.proofs.Common.{◌≡◌, ◌∷◌, ◌++◌, List, Option, ◌∙◌, ap, subst}
use Rattle.std.specs.Prelude.{option_to_list}
use Rattle.ff_node_mux.specs.merge.Queues.{merging}
use Rattle.ff_frame.specs.declared.event.Event.{Event}
use Rattle.ff_node_mux.specs.Muxing.{head_bases}
use Rattle.ff_node_mux.specs.Telling.{TellsFed}
use Rattle.ff_node_mux.proofs.MuxSteps.{mux_told}
use Rattle.ff_node_mux.proofs.TellSteps.{tells_next}
use Rattle.ff_node_mux.proofs.mux.MuxMachine.next_event.Goals as goal

pub returns-clause-gives : goal.returns-clause-gives
returns-clause-gives g c = λ e is past s.
    let m = c.args.self.now in
    let bases = head_bases m.heads.items in
    let rest = c.pop_front.new.self.items in
    let items : m.events.items ≡ e ∷ rest = c.pop_front.ensures.items ∙ ap (λ (o : Option Event). option_to_list o ++ rest) is in (
      (
        mux_told (g.K.Sink.holds m.snk) (g.W.Writer.layout m.writer) (g.W.Writer.counts m.writer) m.totals m.heads.items m.unended m.begun (merging m.merge.queues.items) m.fault past e s.0,
        tells_next m.first bases past e rest (subst (λ (es : List Event). TellsFed m.first bases es past.task.tells past.told past.feeds) items s.1),
      ),
      λ r. (let none = r.is_source in cc),
    )
