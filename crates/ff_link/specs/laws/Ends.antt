-- How the ends of a link stand to its queues.
use Rattle.std.specs.Prelude.{◌≡◌, ◌≤◌, ℕ, Option, List, [], ◌∷◌, length, true, Some, None}
use Rattle.std.specs.Arc.{arc_value}
use Rattle.crossbeam_queue.specs.Passes.{view, IsPassOf, ruled_capacity}
use Rattle.ff_link.specs.declared.ends.Sender.TheInside.{Inside as SenderInside}
use Rattle.ff_link.specs.declared.ends.Receiver.TheInside.{Inside as ReceiverInside}
use Rattle.ff_link.specs.declared.ends.Finished.TheInside.{Inside as FinishedInside}
use Rattle.ff_link.specs.laws.Views.{Sending, Receiving, Ended}

abbrev pub told_list : Option ℕ → List ℕ
told_list None = []
told_list (Some n) = n ∷ []

pub record IsSender (s : SenderInside) : Type 0 where
  pub of_down : IsPassOf (arc_value s.queues).down s.down
  pub of_up : IsPassOf (arc_value s.queues).up s.up
  pub room : ruled_capacity (arc_value s.queues).down ≡ (view s.down).room
  pub may_put : (view s.down).puts ≡ true
  pub may_hear : (view s.up).takes ≡ true
  pub counted : s.puts ≡ length (view s.down).sent
  pub heard : (view s.up).taken ≡ told_list s.told

abbrev pub sending : SenderInside → Sending
sending s = record {
  link = record { down = s.down.table_id; up = s.up.table_id; claims = (view s.down).way.claims };
  lane = (view s.down).way.lane;
  room = (view s.down).room;
  sent = (view s.down).sent;
  told = s.told;
  full_looks = s.full_looks;
  up_looks = s.up_looks;
}

pub record IsReceiver (r : ReceiverInside) : Type 0 where
  pub of_down : IsPassOf (arc_value r.queues).down r.down
  pub of_up : IsPassOf (arc_value r.queues).up r.up
  pub room : ruled_capacity (arc_value r.queues).up ≡ 1
  pub has_room : 1 ≤ (view r.up).room
  pub may_take : (view r.down).takes ≡ true
  pub may_tell : (view r.up).puts ≡ true
  pub counted : r.taken ≡ length (view r.down).taken
  pub untold : (view r.up).sent ≡ []

abbrev pub receiving : ReceiverInside → Receiving
receiving r = record {
  link = record { down = r.down.table_id; up = r.up.table_id; claims = (view r.down).way.claims };
  lane = (view r.down).way.lane;
  room = (view r.down).room;
  taken = (view r.down).taken;
  empty_looks = r.empty_looks;
}

pub record IsFinished (f : FinishedInside) : Type 0 where
  pub of_down : IsPassOf (arc_value f.queues).down f.down
  pub of_up : IsPassOf (arc_value f.queues).up f.up
  pub may_take : (view f.down).takes ≡ true
  pub may_tell : (view f.up).puts ≡ true
  pub counted : f.taken ≡ length (view f.down).taken
  pub told : (view f.up).sent ≡ f.taken ∷ []

abbrev pub finished : FinishedInside → Ended
finished f = record {
  link = record { down = f.down.table_id; up = f.up.table_id; claims = (view f.down).way.claims };
  lane = (view f.down).way.lane;
  room = (view f.down).room;
  taken = (view f.down).taken;
}
