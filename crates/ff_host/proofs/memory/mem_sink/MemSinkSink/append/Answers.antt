use Rattle.std.proofs.Common.{subst, ℕ, List, refl}
use Rattle.ff_host.specs.laws.memory.MemEnds.{MemWriting}
use Rattle.ff_host.specs.laws.memory.Plan.{FailsNext}
use Rattle.ff_host.proofs.memory.mem_sink.MemSinkSink.append.Goals as goal

pub returns-then-fails_next-clause-exact : goal.returns-then-fails_next-clause-exact
returns-then-fails_next-clause-exact c =
    let inside = c.self.inside in
    let fails = subst (λ (planned : List ℕ). FailsNext inside.failed planned inside.appends) c.deref.ensures.value (c.fails_next.ensures.0 c.if-fails_next.true) in (
      λ _. subst (λ (s : MemWriting). FailsNext s.failed s.planned_appends s.appends) c.self.view_is fails,
      λ _. refl,
    )
