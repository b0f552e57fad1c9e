use Rattle.std.proofs.Common.{◌+◌, ◌||◌, not, Some, sym, subst, ap, ◌∙◌, arith}
use Rattle.ff_sched.specs.State.{exited_at}
use Rattle.ff_sched.proofs.Unchoking.{IsFound, Sought, found_of, sought_skips, sought_adds, asked_sound}
use Rattle.ff_sched.proofs.choking.asked_for.Goals as goal
use Rattle.ff_sched.proofs.choking.asked_for.Goals.{in-Some+else-k-source+then-another, in-Some+else-k-source+else-another, in-None}

pub returns-then-k-source-clause-this : goal.returns-then-k-source-clause-this
returns-then-k-source-clause-this c = λ e. (
  c.loop-j.j,
  asked_sound c.args.routes.now c.args.state.now c.trailing-least.result c.loop-j.j c.args.source
      (found_of c.args.routes.now c.args.state.now c.trailing-least.result c.trailing-least.ensures.some c.trailing-least.ensures.none)
      (let a = c.loop-j-test.true in let b = c.loop-j.invariant.count in omega arith) (sym c.asked_by.ensures.source ∙ c.in-Some.is ∙ ap Some c.if-k-source.true),
)

pub loop-j-preserved : goal.loop-j-preserved
loop-j-preserved c =
    let r = c.args.routes.now in let s = c.args.state.now in let i = c.loop-j.invariant in
    let f : IsFound r s c.trailing-least.result = found_of r s c.trailing-least.result c.trailing-least.ensures.some c.trailing-least.ensures.none in record {
      count = i.count;
      sought = elim c.match-asked_by.branch [
        | in-Some+else-k-source+then-another w ↦ subst (Sought r s c.args.source (c.loop-j.j + 1)) (ap (λ b. b || not (exited_at s w.in-Some.k)) w.if-another.true ∙ sym w.if-another.true ∙ sym w.another-is)
            (sought_adds r s c.trailing-least.result c.args.source c.loop-j.j w.in-Some.k c.loop-j.another f (let a = c.loop-j-test.true in let b = i.count in omega arith) (sym c.asked_by.ensures.source ∙ w.in-Some.is) w.if-k-source.false i.sought)
        | in-Some+else-k-source+else-another w ↦ subst (Sought r s c.args.source (c.loop-j.j + 1)) (ap (λ b. b || not (exited_at s w.in-Some.k)) w.if-another.false ∙ sym w.goes_on-another.ensures ∙ sym w.another-is)
            (sought_adds r s c.trailing-least.result c.args.source c.loop-j.j w.in-Some.k c.loop-j.another f (let a = c.loop-j-test.true in let b = i.count in omega arith) (sym c.asked_by.ensures.source ∙ w.in-Some.is) w.if-k-source.false i.sought)
        | in-None w ↦ subst (Sought r s c.args.source (c.loop-j.j + 1)) (sym w.another-is)
            (sought_skips r s c.trailing-least.result c.args.source c.loop-j.j c.loop-j.another f (sym c.asked_by.ensures.source ∙ w.in-None.is) i.sought)
      ];
    }
