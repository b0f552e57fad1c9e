use Rattle.std.proofs.Common.{◌≡◌, ◌++◌, ◌∷◌, [], sym, ap, ◌∙◌, subst, length}
use Rattle.crossbeam_utils.specs.Seq.{cell_view}
use Rattle.ff_sched.specs.Histories.{all_in, Rises}
use Rattle.ff_sched.specs.laws.Passing.{Passing, logs_of}
use Rattle.ff_sched.specs.laws.Writing.{write_all, Gathers}
use Rattle.ff_sched.proofs.Closing.{gathers_more, write_all-append, logs-snoc}
use Rattle.ff_sched.proofs.close.gather.Goals as goal

pub loop-pass-preserved : goal.loop-pass-preserved
loop-pass-preserved c =
    let i = c.loop-pass.invariant in let ys = c.loop-pass.yielded in let p = c.in-Some.pass in let v = cell_view c.args.seat.now in let w = cell_view c.loop-pass.seat in let u = cell_view c.pass.inside.seat in
    let log = c.pass.inside.log.items in let es = c.args.events.now.items in let is = c.pass.view_is in let log_is : log ≡ p.log = ap (λ (q : Passing). q.log) is in record {
      table = c.absorb.ensures.cell ∙ i.table;
      gathers = subst (Gathers (ys ++ p ∷ []) v) (sym c.absorb.ensures.joined) (gathers_more ys p v w u i.gathers (subst (λ (q : Passing). Rises (length q.seen) q.log) is c.pass.invariant.rises) (sym (ap (λ (q : Passing). q.share) is) ∙ c.pass.invariant.share) (sym log_is ∙ c.pass.invariant.mine) c.pass.invariant.opened
          (sym (ap (λ (q : Passing). q.cell.routes) is)) (sym (ap (λ (q : Passing). q.cell.opening) is)) (sym (ap (λ (q : Passing). q.seen) is)));
      written = c.write_log.ensures ∙ ap (write_all log) i.written ∙ sym (write_all-append (all_in (logs_of ys)) log es) ∙ ap (λ l. write_all l es) (ap (λ l. all_in (logs_of ys) ++ l) log_is ∙ sym (logs-snoc ys p));
    }
