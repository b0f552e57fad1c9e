use Rattle.std.proofs.Common.{◌∙◌, ap}
use Rattle.ff_host.specs.declared.tally.Marks.{Marks}
use Rattle.ff_host.proofs.Noted.{kept_count}
use Rattle.ff_host.proofs.memory.mem_host.MemHostHost.create_sink.Goals as goal

pub returns-clause-ins : goal.returns-clause-ins
returns-clause-ins c = λ other.
    kept_count (λ m. m.in_faults) c.make_room.new.table c.set_marks-2.new.table c.args.name.now _ c.set_marks-2.ensures (ap (λ (m : Marks). m.in_faults) c.marks_of-was.ensures) other
    ∙ ap (λ (m : Marks). m.in_faults) (c.in_ok-make_room.ensures.same other)
