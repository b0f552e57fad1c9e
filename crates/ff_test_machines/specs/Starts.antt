-- What the machines are there for, and where they can be.
use Rattle.std.specs.Prelude.{ℕ, List, false, None, Some}
use Rattle.ff_stream.specs.declared.item.Item.{Item}
use Rattle.ff_stream.specs.Stream.{whole_stream}
use Rattle.ff_net.specs.Pasts.{Past, Task, no_events, units_of}
use Rattle.ff_test_machines.specs.declared.join.Join.{Join}
use Rattle.ff_test_machines.specs.declared.relay.Out.{Out}
use Rattle.ff_test_machines.specs.declared.relay.Relay.{Relay}
use Rattle.ff_test_machines.specs.declared.source.Source.{Source}
use Rattle.ff_test_machines.specs.Joins.{Joins, join, kept_of}
use Rattle.ff_test_machines.specs.Lists.{Lists, Exits, exits, list_of}
use Rattle.ff_test_machines.specs.Relays.{Relays, relay, no_cause}

-- to give these items, and the end, and to tell that this source has exited
abbrev pub list_task : ℕ → List Item → Task
list_task number items = record { means = list_of items; cause = no_cause; source = Some (units_of (whole_stream items)); tells = exits number }

-- to repeat the first items, so many, on so many outputs
abbrev pub relay_task : ℕ → ℕ → Task
relay_task limit count = record { means = relay limit count; cause = no_cause; source = None; tells = no_events }

-- to give the first of each pair
abbrev pub join_task : Task
join_task = record { means = join; cause = no_cause; source = None; tells = no_events }

-- the machine can be where it is after this past
abbrev pub source_stands : Source → Past → Type 0
source_stands m past = Lists m.lane m.items.items m.next m.ended m.ticket m.failed past
    × Exits m.number m.stopped m.told past.task.tells past.told past.stopped

abbrev pub relay_stands : Relay → Past → Type 0
relay_stands m past = Relays m.lane m.limit m.left m.closed m.given.items m.outs.items past

abbrev pub join_stands : Join → Past → Type 0
join_stands m past = Joins m.lane (kept_of m.first) (kept_of m.second) m.next m.ended m.stopped past

-- an output to which nothing went
abbrev pub fresh_out : Out
fresh_out = record { next = 0; stopped = false }
