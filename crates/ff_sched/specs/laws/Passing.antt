-- What a contract sees of a cell and of a pass, and what each call does to a pass. Each fact can be read alone.
use Rattle.std.specs.Prelude.{◌≡◌, ℕ, true, ◌-◌, ◌^◌, List, [], ◌∷◌, ◌++◌, length, map, All}
use Rattle.atomic_table.specs.Seated.{TableId}
use Rattle.ff_frame.specs.declared.event.Event.{Event}
use Rattle.ff_sched.specs.declared.logged.Logged.{Logged}
use Rattle.ff_sched.specs.declared.routes.Routes.{Routes}
use Rattle.ff_sched.specs.declared.rule.View.{View}
use Rattle.ff_sched.specs.State.{State}
use Rattle.ff_sched.specs.Events.{fold}
use Rattle.ff_sched.specs.Unchoked.{Unchokes}
use Rattle.ff_sched.specs.Histories.{IsLegal, StandsIn, logged, weigh, numbered, all_in, StartsWith, Rises}

-- a cell: which it is, the routes, and the state in which it was made
pub record Scheduler : Type 0 where
  pub table : TableId
  pub routes : Routes
  pub opening : State

-- a pass: its cell, how many events it may add in all, the history as far as the pass has seen it, the events that it added
-- with their places, and for how many more there is room
pub record Passing : Type 0 where
  pub cell : Scheduler
  pub share : ℕ
  pub seen : List Event
  pub log : List Logged
  pub spare : ℕ

abbrev pub logs_of : List Passing → List (List Logged)
logs_of ps = map (λ p. p.log) ps

-- The event was added to the history of the pass's cell: it stands at this place, behind all that the pass had seen and what
-- others added since, and ends what the pass has seen now. The pass's log has it and is else as it was. The history is legal
pub record Told (p : Passing) (e : Event) (place : ℕ) (q : Passing) : Type 0 where
  pub same : q ≡ record p { seen = q.seen; log = p.log ++ logged place e ∷ []; spare = p.spare - 1 }
  pub between : List Event
  pub seen : q.seen ≡ (p.seen ++ between) ++ e ∷ []
  pub at : length (p.seen ++ between) ≡ place
  pub legal : IsLegal p.cell.routes p.cell.opening q.seen

-- The pass added nothing. The state is what a history leaves that begins with all that the pass had seen, and it doesn't
-- unchoke the source
pub record IsChoked (p : Passing) (source : ℕ) (state : State) (q : Passing) : Type 0 where
  pub same : q ≡ record p { seen = q.seen }
  pub more : StartsWith q.seen p.seen
  pub folded : state ≡ fold p.cell.opening q.seen
  pub choked : Unchokes p.cell.routes state source → ⊥

-- the whole right of a new cell
abbrev pub IsFirst : Scheduler → Passing → Type 0
IsFirst cell p = p ≡ record { cell = cell; share = 2 ^ 62; seen = []; log = []; spare = 0 }

-- a part of the share went to a new pass
abbrev pub IsSplit : Passing → ℕ → Passing → Passing → Type 0
IsSplit p n q r = (q ≡ record p { share = p.share - n }) × (r ≡ record p { share = n; log = []; spare = 0 })

-- The one history of a cell whose passes are together. It is legal, and what any of the passes had seen is a front of it. Each
-- entry of each log is its event at that place, and the places of each log rise. However entries are weighed, all logs together
-- weigh what the numbered history weighs: so each place below its length is in the logs, once, and no other is
pub record IsHistory (cell : Scheduler) (passes : List Passing) (events : List Event) : Type 0 where
  pub legal : IsLegal cell.routes cell.opening events
  pub seen : All (λ p. StartsWith events p.seen) passes
  pub stand : All (λ p. All (StandsIn events) p.log) passes
  pub in_order : All (λ p. Rises (length p.seen) p.log) passes
  pub once : (h : Logged → ℕ) → weigh h (all_in (logs_of passes)) ≡ weigh h (numbered 0 events)

-- a new cell, and a seat with the whole share that knows the routes and the opening state
pub record IsOpened (table : TableId) (state : State) (routes : Routes) (id : TableId) (v : View) : Type 0 where
  pub table_is : id ≡ table
  pub view_is : v ≡ record { opened = true; routes = routes; opening = state; share = 2 ^ 62; seen = []; sights = []; mine = [] }
