-- What a step of a cell does to a pass.
use Rattle.std.proofs.Common.{◌≡◌, ℕ, ◌-◌, List, [], ◌∷◌, ◌++◌}
use Rattle.atomic_table.specs.Seated.{TableId}
use Rattle.ff_frame.specs.declared.event.Event.{Event}
use Rattle.ff_sched.specs.declared.logged.Logged.{Logged}
use Rattle.ff_sched.specs.declared.rule.View.{View}
use Rattle.ff_sched.specs.State.{State}
use Rattle.ff_sched.specs.Histories.{logged}
use Rattle.ff_sched.specs.laws.Rule.{Adds, Refuses}
use Rattle.ff_sched.specs.laws.Passing.{Passing, Told, IsChoked}

abbrev pub seen_as : View → TableId → ℕ → List Logged → ℕ → Passing
seen_as v table share log spare = record { cell = record { table = table; routes = v.routes; opening = v.opening }; share = share; seen = v.seen; log = log; spare = spare }

pub told_pass : (v w : View) (t t' : TableId) (e : Event) (place share : ℕ) (log log' : List Logged) (spare spare' : ℕ) → Adds e v place w → t' ≡ t → log' ≡ log ++ logged place e ∷ [] → spare' ≡ spare - 1 → Told (seen_as v t share log spare) e place (seen_as w t' share log' spare')
told_pass v w t t' e place share log log' spare spare' a table l s = record {
  same = λ i. record { cell = record { table = table i; routes = (a.same i).routes; opening = (a.same i).opening }; share = share; seen = w.seen; log = l i; spare = s i };
  between = a.between;
  seen = a.seen;
  at = a.at;
  legal = a.legal;
}

pub choked_pass : (v w : View) (t t' : TableId) (source share : ℕ) (state : State) (log : List Logged) (spare : ℕ) → Refuses v source state w → t' ≡ t → IsChoked (seen_as v t share log spare) source state (seen_as w t' share log spare)
choked_pass v w t t' source share state log spare r table = record {
  same = λ i. record { cell = record { table = table i; routes = (r.same i).routes; opening = (r.same i).opening }; share = share; seen = w.seen; log = log; spare = spare };
  more = r.more;
  folded = r.folded;
  choked = r.choked;
}
