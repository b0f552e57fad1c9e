use Rattle.std.proofs.Common.{◌+◌, List, ℕ, set, get_or, ◌∙◌, sym, ap, subst}
use Rattle.ff_sched.specs.laws.Words.{state_of}
use Rattle.ff_sched.specs.Events.{step_of, IsSmall}
use Rattle.ff_sched.proofs.Steps.{step_grant, step_sent, step_finished, step_best, step_exited}
use Rattle.ff_sched.proofs.words.stepped.Goals as goal
use Rattle.ff_sched.proofs.words.stepped.Goals.{in-Grant, in-Sent, in-Finished, in-Best, in-Exited}

counted : List ℕ → List ℕ
counted vs = set vs 18 (get_or vs 18 0 + 1)

pub returns : goal.returns
unfolding counted
returns c = elim c.match-event.branch [
  | in-Grant w ↦ (λ i. state_of (counted (w.words-is i))) ∙ step_grant _ w.in-Grant.field-0 c.requires.wide ∙ ap (step_of (state_of c.args.words)) (sym w.in-Grant.is)
  | in-Sent w ↦ let r = subst IsSmall w.in-Sent.is c.requires.small in
      (λ i. state_of (counted (w.words-is i))) ∙ step_sent _ _ _ c.requires.wide r.0 r.1 ∙ ap (step_of (state_of c.args.words)) (sym w.in-Sent.is)
  | in-Finished w ↦ let r = subst IsSmall w.in-Finished.is c.requires.small in
      (λ i. state_of (counted (w.words-is i))) ∙ step_finished _ _ _ c.requires.wide r w.with_bit.ensures.same w.with_bit.ensures.others ∙ ap (step_of (state_of c.args.words)) (sym w.in-Finished.is)
  | in-Best w ↦ let r = subst IsSmall w.in-Best.is c.requires.small in
      (λ i. state_of (counted (w.words-is i))) ∙ step_best _ _ _ _ c.requires.wide r.0 w.with_four.ensures.same w.with_four.ensures.others ∙ ap (step_of (state_of c.args.words)) (sym w.in-Best.is)
  | in-Exited w ↦ let r = subst IsSmall w.in-Exited.is c.requires.small in
      (λ i. state_of (counted (w.words-is i))) ∙ step_exited _ _ _ c.requires.wide r w.with_bit-in-Exited.ensures.same w.with_bit-in-Exited.ensures.others ∙ ap (step_of (state_of c.args.words)) (sym w.in-Exited.is)
]
