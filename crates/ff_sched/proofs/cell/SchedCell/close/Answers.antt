use Rattle.std.proofs.Common.{◌≡◌, ◌++◌, ◌∷◌, [], List, All, length, sym, ap, ◌∙◌, subst}
use Rattle.crossbeam_utils.specs.Seq.{cell_view}
use Rattle.std.proofs.lemmas.List.Elements.{All-weaker}
use Rattle.ff_sched.specs.Histories.{all_in, Rises}
use Rattle.ff_sched.specs.laws.Passing.{Scheduler, Passing, IsHistory, logs_of}
use Rattle.ff_sched.specs.laws.Writing.{write_all}
use Rattle.ff_sched.proofs.Closing.{closed, all_left, all_last}
use Rattle.ff_sched.proofs.cell.SchedCell.close.Goals as goal

pub gather-requires : goal.gather-requires
gather-requires g c =
    let rest = c.pop.new.self.items in let last = c.in-Some.last in let self = c.args.self in
    let of : All (λ p. p.cell ≡ self) (rest ++ last ∷ []) = subst (All (λ (p : Passing). p.cell ≡ self)) c.in-Some.ensures.items c.requires.cell in
    let table = ap (λ (s : Scheduler). s.table) (sym c.self.view_is) in (
      ap (λ (q : Passing). q.cell.table) c.last.view_is ∙ ap (λ (s : Scheduler). s.table) (all_last (λ (p : Passing). p.cell ≡ self) rest last of) ∙ table,
      All-weaker (λ (p : Passing). p.cell ≡ self) (λ p. p.cell.table ≡ c.self.inside.cell.table.shared.table_id) (λ p e. ap (λ (s : Scheduler). s.table) e ∙ table) rest (all_left (λ (p : Passing). p.cell ≡ self) rest (last ∷ []) of),
    )

pub last_look-requires-clause-cell : goal.last_look-requires-clause-cell
last_look-requires-clause-cell g c =
    let rest = c.pop.new.self.items in let last = c.in-Some.last in let self = c.args.self in
    let of : All (λ p. p.cell ≡ self) (rest ++ last ∷ []) = subst (All (λ (p : Passing). p.cell ≡ self)) c.in-Some.ensures.items c.requires.cell in
    c.gather.ensures.cell ∙ ap (λ (q : Passing). q.cell.table) c.last.view_is ∙ ap (λ (s : Scheduler). s.table) (all_last (λ (p : Passing). p.cell ≡ self) rest last of ∙ sym c.self.view_is)

pub returns-clause-ok : goal.returns-clause-ok
returns-clause-ok g c =
    let rest = c.pop.new.self.items in let last = c.in-Some.last in let self = c.args.self in let row = c.in-Ok.events.items in let is = c.last.view_is in let events = c.gather.new.events.items in
    let all : c.args.passes.items ≡ rest ++ last ∷ [] = c.in-Some.ensures.items in
    subst (λ (ps : List Passing). IsHistory self ps events) (sym all)
    (closed self rest last (cell_view c.last.inside.seat) (cell_view c.gather.new.seat) (cell_view c.last_look.new.seat) row events (subst (λ (q : Passing). Rises (length q.seen) q.log) is c.last.invariant.rises) (sym (ap (λ (q : Passing). q.log) is) ∙ c.last.invariant.mine)
    (sym (ap (λ (q : Passing). q.cell.opening) is)) (sym (ap (λ (q : Passing). q.cell.routes) is)) (sym (ap (λ (q : Passing). q.seen) is)) c.gather.ensures.gathered c.last_look.ensures
    (c.in-Ok.ensures ∙ c.count_of.ensures ∙ ap (λ (ps : List Passing). length (all_in (logs_of ps))) all)
    (c.gather.ensures.written ∙ ap (write_all (all_in (logs_of rest))) (c.write_log.ensures ∙ ap (λ l. write_all l row) (ap (λ (q : Passing). q.log) is))) (subst (All (λ (p : Passing). p.cell ≡ self)) all c.requires.cell))
