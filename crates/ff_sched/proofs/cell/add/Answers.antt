use Rattle.std.proofs.Common.{rules, subst, ◌≡◌, List, ℕ, ap, refl, ◌∙◌}
use Rattle.crossbeam_utils.specs.Seq.{cell_view}
use Rattle.ff_frame.specs.declared.event.Event.{Event}
use Rattle.ff_sched.specs.Events.{step_of}
use Rattle.ff_sched.specs.laws.Words.{state_of}
use Rattle.ff_sched.specs.Histories.{MayCome}
use Rattle.ff_sched.proofs.Histories.{tells, told, later_same}
use Rattle.ff_sched.proofs.Steps.{one_more}
use Rattle.ff_sched.proofs.cell.add.Goals as goal

pub compare_exchange_as-requires : goal.compare_exchange_as-requires
compare_exchange_as-requires g c =
    let v = cell_view c.args.seat.now in let next : List ℕ = c.stepped-next.result in
    let s : state_of next ≡ step_of (state_of c.args.words) g.E.Named.event = c.stepped-next.ensures ∙ ap (step_of (state_of c.args.words)) c.requires.named in (
      search rules,
      (
        search rules,
        (
          c.requires.cell,
          tells _ v g.E.Named.event c.args.words next c.requires.opened c.requires.share s (one_more c.args.words next g.E.Named.event s)
              (subst (λ (e : Event). MayCome v.routes (state_of c.args.words) e) c.requires.named c.requires.may),
        ),
      ),
    )

pub returns-in-Ok-clause-yes : goal.returns-in-Ok-clause-yes
returns-in-Ok-clause-yes g c =
    let v = cell_view c.args.seat.now in let next : List ℕ = c.stepped-next.result in
    let s : state_of next ≡ step_of (state_of c.args.words) g.E.Named.event = c.stepped-next.ensures ∙ ap (step_of (state_of c.args.words)) c.requires.named in
    λ _. told g.E.Named.event v v (cell_view c.compare_exchange_as.new.pass) c.in-Ok.field-0 c.args.words next (later_same v) c.in-Ok.ensures.rule.0 c.in-Ok.ensures.rule.1 (one_more c.args.words next g.E.Named.event s)

pub returns-in-Err-clause-no : goal.returns-in-Err-clause-no
returns-in-Err-clause-no g c = λ _. c.in-Err.ensures.rule.1.0 refl
