use Rattle.std.proofs.Common.{◌∙◌, ◌↔◌, List, IsTrue, subst, sym, refl}
use Rattle.ff_host.specs.laws.memory.MemHost.{marks_in}
use Rattle.ff_host.specs.laws.memory.Plan.{IsPlannedNext}
use Rattle.ff_host.specs.declared.memory.plan.FailAt.{FailAt}
use Rattle.ff_host.specs.declared.memory.plan.HostCall.TheVariants.{CloseSink}
use Rattle.ff_host.specs.declared.tally.Marks.{Marks}
use Rattle.ff_host.proofs.memory.mem_host.MemHostHost.close_sink.Goals as goal

pub returns-then-is_planned_next-clause-exact : goal.returns-then-is_planned_next-clause-exact
returns-then-is_planned_next-clause-exact c =
    let by_marks = subst (λ (m : Marks). IsTrue c.is_planned_next.result ↔ IsPlannedNext c.deref.result.now c.args.name.now CloseSink m.closes) c.marks_of-was.ensures c.is_planned_next.ensures in
    let exact = subst (λ (plan : List FailAt). IsTrue c.is_planned_next.result ↔ IsPlannedNext plan c.args.name.now CloseSink (marks_in c.args.self.now c.args.name.now).closes) c.deref.ensures.value by_marks in
    (λ _. exact.0 c.if-is_planned_next.true, λ _. refl)

pub returns-clause-exact : goal.returns-clause-exact
returns-clause-exact c =
    let by_marks = subst (λ (m : Marks). IsTrue c.is_planned_next.result ↔ IsPlannedNext c.deref.result.now c.args.name.now CloseSink m.closes) c.marks_of-was.ensures c.is_planned_next.ensures in
    let exact = subst (λ (plan : List FailAt). IsTrue c.is_planned_next.result ↔ IsPlannedNext plan c.args.name.now CloseSink (marks_in c.args.self.now c.args.name.now).closes) c.deref.ensures.value by_marks in
    (λ e. absurd cc, λ planned. sym c.if-is_planned_next.false ∙ exact.1 planned)
