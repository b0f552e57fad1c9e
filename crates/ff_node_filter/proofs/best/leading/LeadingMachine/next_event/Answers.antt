use Rattle.ff_node_filter.specs.laws.best.LeadLaws.{reads_nothing}
use Rattle.ff_node_filter.proofs.best.leading.LeadingMachine.next_event.Goals as goal

pub returns-clause-gives : goal.returns-clause-gives
returns-clause-gives g c = λ e is past s.
    let lead = c.args.self.now.lead in (
      record {
        inner = s.inner;
        plain = s.plain;
        graph = s.graph;
        bases = s.bases;
        count = s.count;
        tells_is = s.tells_is;
        tells = c.next-event.ensures.gives s.graph s.bases past.told past.feeds e is s.tells;
      },
      reads_nothing (g.M.Machine.view c.args.self.now.machine) lead (g.met.M.Machine.laws c.args.self.now.machine) past s,
    )
