use Rattle.std.proofs.Common.{subst, ℕ, List, refl}
use Rattle.ff_host.specs.laws.memory.MemEnds.{MemWriting}
use Rattle.ff_host.specs.laws.memory.Plan.{FailsNext}
use Rattle.ff_host.proofs.memory.mem_sink.MemSinkSink.patch.Goals as goal

pub returns-then-fails-clause-exact : goal.returns-then-fails-clause-exact
returns-then-fails-clause-exact c =
    let inside = c.self.inside in
    let fails = subst (λ (planned : List ℕ). FailsNext inside.failed planned inside.patches) c.deref.ensures.value (c.fails_next-fails.ensures.0 c.if-fails.true) in (
      λ _. subst (λ (s : MemWriting). FailsNext s.failed s.planned_patches s.patches) c.self.view_is fails,
      λ _. refl,
    )
