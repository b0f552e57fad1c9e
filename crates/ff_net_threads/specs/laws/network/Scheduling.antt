-- What the scheduler and a run of a network come to: the one history of what happened, and what each machine did in it.
use Rattle.std.specs.Prelude.{◌≡◌, ◌≢◌, ℕ, ◌+◌, ◌-◌, ◌*◌, ◌^◌, ◌<◌, ◌≤◌, Bool, true, false, All, List, [], filter, length, map, slice_get, slice_index_or, Option}
use Rattle.std.specs.Prelude.{None, Some}
use mathlib.Core.List.{IsPrefix}
use Rattle.ff_frame.specs.declared.event.Event.{Event}
use Rattle.ff_frame.specs.declared.event.Event.TheVariants.{Grant}
use Rattle.ff_frame.specs.declared.event.Ticket.{Ticket}
use Rattle.ff_sched.specs.declared.logged.Logged.{Logged}
use Rattle.ff_sched.specs.declared.routes.Routes.{Routes}
use Rattle.ff_sched.specs.Histories.{IsLegal, Rises, StandsIn, all_in, numbered, weigh}
use Rattle.ff_sched.specs.laws.Passing.{Passing, Scheduler}
use Rattle.ff_sched.specs.State.{State}
use Rattle.ff_net.specs.laws.Laws.{reads_of}
use Rattle.ff_net.specs.laws.Logs.{AreTicketsOf, GrantsFirst, PassStep, tickets_in, told_in}
use Rattle.ff_net.specs.laws.Nodes.{pass_of}
use Rattle.ff_net.specs.Pasts.{Feed, Past, Task}
use Rattle.ff_net.specs.laws.Views.{View}
use Rattle.ff_net.specs.Ways.{Flow}
use Rattle.ff_net_threads.specs.declared.links.linked.Linked.{Linked}
use Rattle.ff_net_threads.specs.declared.network.run.NodeFault.{NodeFault}
use Rattle.ff_net_threads.specs.laws.network.Networks.{node_at}
use Rattle.ff_net_threads.specs.laws.network.Runs.{FedPart, FedAll}

-- a pass of this cell that has seen and added nothing, and may add so many events
abbrev pub new_pass : Scheduler → ℕ → Passing
new_pass cell share = record { cell = cell; share = share; seen = []; log = []; spare = 0 }

-- how many events the pass of a node may add
abbrev pub node_share : ℕ
node_share = 2 ^ 45

-- each node has a new pass of this cell, and this pass has the right to all other events
pub record AreSeated {M : Type 0} (cell : Scheduler) (nodes : List (Linked M)) (left : Passing) : Type 0 where
  pub each : (k : ℕ) (d : Linked M) → k < length nodes → pass_of (node_at nodes k d) ≡ new_pass cell node_share
  pub rest : left ≡ new_pass cell (2 ^ 62 - length nodes * node_share)

-- each source is one of the routes'
pub record AllRouted {M : Type 0} (view : M → View) (routes : Routes) (machines : List M) : Type 0 where
  pub each : (k s : ℕ) (d : M) → k < length machines → (view (slice_index_or machines k d)).source ≡ Some s → s < routes.sources

-- the passes of nodes after a run, which went on from those before it
pub record AllPassed {M : Type 0} (nodes : List (Linked M)) (passes : List Passing) : Type 0 where
  pub count : length passes ≡ length nodes
  pub each : (k : ℕ) (d : Linked M) (e : Passing) → k < length nodes → PassStep (pass_of (node_at nodes k d)) (slice_index_or passes k e)

abbrev pub logs_in : List Passing → List (List Logged)
logs_in passes = map (λ p. p.log) passes

-- What the log of a machine's pass says of its past. The grants are the tickets that it was allowed, and at most one more that its
-- node held, each of the machine's own source; the other events were told by the machine, in this order, and stand behind the
-- grants
pub record IsLogOf (v : View) (past : Past) (log : List Logged) : Type 0 where
  pub own : AreTicketsOf v.source (tickets_in log)
  pub allowed : IsPrefix past.allowed (tickets_in log)
  pub one_more : length (tickets_in log) ≤ length past.allowed + 1
  pub told : IsPrefix (told_in log) past.told
  pub in_order : GrantsFirst log

-- the machine was fed no more than is on these edges in the solution, but for a break, and its pass has this log
pub record LoggedPart (v : View) (task : Task) (solution : ℕ → Flow) (edges : List ℕ) (log : List Logged) : Type 0 where
  pub fed : FedPart v task solution edges
  pub logged : IsLogOf v fed.past log

-- its pass has this log, which has all events that are due by what the machine was fed
pub record LoggedAll (v : View) (task : Task) (log : List Logged) : Type 0 where
  pub past : Past
  pub fits : v.stands past
  pub task_is : past.task ≡ task
  pub logged : IsLogOf v past log
  pub all_told : told_in log ≡ task.tells past.feeds

-- and the machine was fed the streams on these edges in the solution, to their ends
pub record LoggedSink (v : View) (task : Task) (solution : ℕ → Flow) (edges : List ℕ) (log : List Logged) : Type 0 where
  pub fed : FedAll v task solution edges
  pub logged : IsLogOf v fed.past log
  pub all_told : told_in log ≡ task.tells fed.past.feeds

-- what the logs of the machines' passes say of them, for these tasks
pub record AreLogged {M : Type 0} (view : M → View) (tasks : ℕ → Task) (solution : ℕ → Flow) (ins outs : ℕ → List ℕ)
    (machines : List M) (fault : Option NodeFault) (logs : List (List Logged)) : Type 0 where
  pub below : (k : ℕ) (e : M) → k < length machines
      → LoggedPart (view (slice_index_or machines k e)) (tasks k) solution (ins k) (slice_index_or logs k [])
  -- where no fault is reported
  pub settled : fault ≡ None → (k : ℕ) (e : M) → k < length machines
      → LoggedAll (view (slice_index_or machines k e)) (tasks k) (slice_index_or logs k [])
  pub sinks : fault ≡ None → (k : ℕ) (e : M) → k < length machines → outs k ≡ []
      → LoggedSink (view (slice_index_or machines k e)) (tasks k) solution (ins k) (slice_index_or logs k [])

-- What a machine with this past has read, in a history: a place for each unit that it tried, under a ticket of its own. At this
-- place the history has a grant of the machine's source, and the places rise. A machine that is no source has read nothing
pub record ReadsUnderGrants (v : View) (past : Past) (events : List Event) : Type 0 where
  pub one_each : length (reads_of v past) ≡ v.tried
  pub granted : (s i p : ℕ) → v.source ≡ Some s → slice_get (reads_of v past) i ≡ Some p → slice_get events p ≡ Some (Grant s)
  pub in_order : (i p q : ℕ) → slice_get (reads_of v past) i ≡ Some p → slice_get (reads_of v past) (i + 1) ≡ Some q → p < q
  pub only_sources : v.source ≡ None → reads_of v past ≡ []

-- among so many machines with these tasks only one has events of this kind to tell, and no grant is of it
pub record TellsAlone (tasks : ℕ → Task) (count k : ℕ) (kind : Event → Bool) : Type 0 where
  pub no_grant : (s : ℕ) → kind (Grant s) ≡ false
  pub no_other : (j : ℕ) (feeds : List Feed) → j < count → j ≢ k → filter kind ((tasks j).tells feeds) ≡ []

-- The events of this kind in a history are those that a machine with this log has told, in its order, and each stands behind
-- every grant of the log
pub record AreToldBy (kind : Event → Bool) (events : List Event) (log : List Logged) : Type 0 where
  pub same : filter kind events ≡ filter kind (told_in log)
  pub behind_grants : (p i : ℕ) (e : Event) (t : Ticket) → slice_get events p ≡ Some e → kind e ≡ true → slice_get (tickets_in log) i ≡ Some t → t.place < p

-- of these machines only that with this number can be this source
abbrev pub IsOnlySource : {M : Type 0} → (M → View) → List M → ℕ → ℕ → Type 0
IsOnlySource {M} view machines k s = (j : ℕ) (e : M) → j < length machines → (view (slice_index_or machines j e)).source ≡ Some s → j ≡ k

-- A history of a run and the logs of its machines, by number. `known` says of tasks that the machines were there for them, and
-- `solution` what is on the edges in the solution of the network then
pub record Scheduled {M : Type 0} (view : M → View) (routes : Routes) (state : State) (known : (ℕ → Task) → Type 0)
    (solution : (ℕ → Task) → ℕ → Flow) (ins outs : ℕ → List ℕ) (machines : List M) (fault : Option NodeFault) (events : List Event) : Type 0 where
  -- each grant stands where the state that the events before it leave unchokes its source
  pub legal : IsLegal routes state events
  pub logs : List (List Logged)
  pub as_many : length logs ≡ length machines
  -- each entry of a log is the event of the history at its place, and the places of a log rise
  pub stand : (k : ℕ) → All (StandsIn events) (slice_index_or logs k [])
  pub rise : (k : ℕ) → Rises (length events) (slice_index_or logs k [])
  -- however entries are weighed, all logs together weigh what the numbered history weighs: so each event is an entry of one log
  pub once : (h : Logged → ℕ) → weigh h (all_in logs) ≡ weigh h (numbered 0 events)
  -- at the place of each ticket of a log stands the grant of its source, and these places rise
  pub granted : (k i : ℕ) (t : Ticket) → slice_get (tickets_in (slice_index_or logs k [])) i ≡ Some t
      → slice_get events t.place ≡ Some (Grant t.source)
  pub in_order : (k i : ℕ) (t u : Ticket) → slice_get (tickets_in (slice_index_or logs k [])) i ≡ Some t
      → slice_get (tickets_in (slice_index_or logs k [])) (i + 1) ≡ Some u → t.place < u.place
  -- so what can be behind a machine with such a log has read under grants of this history alone
  pub reads : (k : ℕ) (e : M) (past : Past) → k < length machines → (view (slice_index_or machines k e)).stands past
      → IsLogOf (view (slice_index_or machines k e)) past (slice_index_or logs k []) → ReadsUnderGrants (view (slice_index_or machines k e)) past events
  -- and the logs tell what each machine was allowed and has told
  pub logged : (tasks : ℕ → Task) → known tasks → AreLogged view tasks (solution tasks) ins outs machines fault logs
  -- events that only one machine has to tell stand as it told them, behind its grants
  pub told : (tasks : ℕ → Task) → known tasks → (k : ℕ) (kind : Event → Bool) → k < length machines → TellsAlone tasks (length machines) k kind
      → AreToldBy kind events (slice_index_or logs k [])
  -- and each grant of a source that only one machine is was granted to it
  pub own : (tasks : ℕ → Task) → known tasks → (k s p : ℕ) → k < length machines → IsOnlySource view machines k s → slice_get events p ≡ Some (Grant s)
      → (i : ℕ) × (slice_get (tickets_in (slice_index_or logs k [])) i ≡ Some (record { source = s; place = p }))
