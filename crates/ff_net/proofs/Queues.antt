-- One wire changes, and the others stay.
use Rattle.std.proofs.Common.{All, ◌≡◌, ◌≢◌, ℕ, zero, suc, ◌<◌, ◌==◌, Bool, true, false, if◌then◌else◌, List, [], ◌∷◌, ◌++◌, length, slice_index_or, slice_set, refl, ap, sym, ◌∙◌, subst, arith, get_or-set_same, get_or-set_other, Option, None, Some}
use Rattle.std.proofs.lemmas.List.{length-set, length-map}
use Rattle.std.proofs.lemmas.Bool.Decides.{nat_tests}
use Rattle.ff_stream.specs.declared.item.Item.{Item}
use Rattle.ff_stream.specs.declared.item.Lane.{Lane}
use Rattle.ff_stream.specs.Stream.{still_open, LiesBelow}
use Rattle.ff_stream.specs.Items.{with_item, Leads}
use Rattle.ff_stream.specs.laws.Order.{leads_below, leads_push, below_self}
use Rattle.ff_stream.specs.Ports.{nothing}
use Rattle.ff_stream.specs.laws.LaneLaws.{nothing_valid}
use Rattle.ff_net.specs.declared.wires.Queue.{Queue}
use Rattle.ff_net.specs.Ways.{lane_at, IsValidOn}
use Rattle.ff_net.specs.laws.Worlds.{Wire, fresh, sizes_in, QueueStands, QueuesStand, lanes_in, with_wire, put_on, take_on, finish_on}

-- a queue that changes and keeps its lane
pub lanes_set : (queues : List Queue) (w : ℕ) (d new : Queue) → w < length queues → new.lane ≡ (slice_index_or queues w d).lane → lanes_in (slice_set queues w new) ≡ lanes_in queues
lanes_set [] w d new lt e = absurd (omega arith)
lanes_set (q ∷ qs) zero d new lt e = ap (λ (l : Lane). l ∷ lanes_in qs) e
lanes_set (q ∷ qs) (suc w) d new lt e = ap (λ (ls : List Lane). q.lane ∷ ls) (lanes_set qs w d new (omega arith) e)

pub nothing_valid_on : (lane : Option Lane) → IsValidOn lane nothing
nothing_valid_on None = refl
nothing_valid_on (Some l) = nothing_valid l

module _ (queues : List Queue) (world : ℕ → Wire) (w : ℕ) (old q : Queue) (wire : Wire) (lt : w < length queues) (stands : QueuesStand queues world) (is : old ≡ slice_index_or queues w old) (same_lane : q.lane ≡ old.lane) (here : QueueStands q wire) (valid : IsValidOn (lane_at (lanes_in queues) w) wire.sent) where
  each_at : (v : ℕ) (d : Queue) (b : Bool) → (v == w) ≡ b → v < length queues → QueueStands (slice_index_or (slice_set queues w q) v d) (if b then wire else world v)
  each_at v d true e vlt =
      let same : v ≡ w = grind (arith, nat_tests) in
      rw (same, get_or-set_same queues w q d lt) here
  each_at v d false e vlt =
      let other : v ≢ w = grind (arith, nat_tests) in
      rw (get_or-set_other queues w v q d other) (stands.each v d vlt)

  ordered_at : (v : ℕ) (b : Bool) → LiesBelow wire.taken wire.sent → let r : Wire = if b then wire else world v in LiesBelow r.taken r.sent
  ordered_at v true o = o
  ordered_at v false o = stands.ordered v

  valid_at : (v : ℕ) (b : Bool) → (v == w) ≡ b → let r : Wire = if b then wire else world v in IsValidOn (lane_at (lanes_in queues) v) r.sent
  valid_at v true e = let same : v ≡ w = grind (arith, nat_tests) in subst (λ (u : ℕ). IsValidOn (lane_at (lanes_in queues) u) wire.sent) (sym same) valid
  valid_at v false e = stands.valid v

  pub queues_set : QueuesStand (slice_set queues w q) (with_wire world w wire)
  queues_set = record {
    each = λ v d vlt. each_at v d (v == w) refl (rw length-set at vlt);
    ordered = λ v. ordered_at v (v == w) (leads_below q.content.items wire.taken wire.sent here.leads);
    valid = λ v. subst (λ (ls : List Lane). IsValidOn (lane_at ls v) (with_wire world w wire v).sent) (sym (lanes_set queues w old q lt (same_lane ∙ ap (λ (r : Queue). r.lane) is))) (valid_at v (v == w) refl);
  }

pub queue_stands : (queues : List Queue) (world : ℕ → Wire) (w : ℕ) (old : Queue) → w < length queues → QueuesStand queues world → old ≡ slice_index_or queues w old → QueueStands old (world w)
queue_stands queues world w old lt stands is = subst (λ (q : Queue). QueueStands q (world w)) (sym is) (stands.each w old lt)

pub put_stands : (queues : List Queue) (world : ℕ → Wire) (w : ℕ) (old new : Queue) (x : Item) → w < length queues → QueuesStand queues world → (world w).sent.mark ≡ still_open → IsValidOn (lane_at (lanes_in queues) w) (with_item (world w).sent x)
    → old ≡ slice_index_or queues w old → new.content.items ≡ old.content.items ++ x ∷ [] → new.finished ≡ old.finished → new.lane ≡ old.lane → QueuesStand (slice_set queues w new) (put_on world w x)
put_stands queues world w old new x lt stands o valid is items fin lane =
    let was = queue_stands queues world w old lt stands is in
    queues_set queues world w old new (record { sent = with_item (world w).sent x; taken = (world w).taken; finished = (world w).finished }) lt stands is lane
    (record { leads = rw items (leads_push old.content.items (world w).taken (world w).sent x was.leads o); finished = fin ∙ was.finished }) valid

pub take_stands : (queues : List Queue) (world : ℕ → Wire) (w : ℕ) (old new : Queue) (x : Item) → w < length queues → QueuesStand queues world
    → old ≡ slice_index_or queues w old → old.content.items ≡ x ∷ new.content.items → new.finished ≡ old.finished → new.lane ≡ old.lane
    → ((world w).taken.mark ≡ still_open) × QueuesStand (slice_set queues w new) (take_on world w x)
take_stands queues world w old new x lt stands is items fin lane =
    let was = queue_stands queues world w old lt stands is in
    let leads : Leads (world w).taken (x ∷ new.content.items) (world w).sent = subst (λ (xs : List Item). Leads (world w).taken xs (world w).sent) items was.leads in (
      leads.0,
      queues_set queues world w old new (record { sent = (world w).sent; taken = with_item (world w).taken x; finished = (world w).finished }) lt stands is lane
          (record { leads = leads.1; finished = fin ∙ was.finished }) (stands.valid w),
    )

pub finish_stands : (queues : List Queue) (world : ℕ → Wire) (w : ℕ) (old new : Queue) → w < length queues → QueuesStand queues world
    → old ≡ slice_index_or queues w old → new.content.items ≡ old.content.items → new.finished ≡ true → new.lane ≡ old.lane → QueuesStand (slice_set queues w new) (finish_on world w)
finish_stands queues world w old new lt stands is items fin lane =
    let was = queue_stands queues world w old lt stands is in
    queues_set queues world w old new (record { sent = (world w).sent; taken = (world w).taken; finished = true }) lt stands is lane
    (record { leads = rw items (was.leads); finished = fin }) (stands.valid w)

pub queue_fresh : (q : Queue) → q.content.items ≡ [] → q.finished ≡ false → QueueStands q fresh
queue_fresh q e f = record { leads = rw e refl; finished = f }

pub each_push : (queues : List Queue) (q : Queue) → ((w : ℕ) (d : Queue) → w < length queues → QueueStands (slice_index_or queues w d) fresh) → QueueStands q fresh → (w : ℕ) (d : Queue) → w < length (queues ++ q ∷ []) → QueueStands (slice_index_or (queues ++ q ∷ []) w d) fresh
each_push [] q h s zero d lt = s
each_push [] q h s (suc w) d lt = absurd (omega arith)
each_push (l ∷ ls) q h s zero d lt = h zero d (omega arith)
each_push (l ∷ ls) q h s (suc w) d lt = each_push ls q (λ v e vlt. h (suc v) e (omega arith)) s w d (omega arith)

pub queues_fresh : (queues : List Queue) → ((w : ℕ) (d : Queue) → w < length queues → QueueStands (slice_index_or queues w d) fresh) → QueuesStand queues (λ w. fresh)
queues_fresh queues each = record { each = each; ordered = λ w. below_self nothing; valid = λ w. nothing_valid_on (lane_at (lanes_in queues) w) }

pub in_queues : (queues : List Queue) (w : ℕ) → w < length (lanes_in queues) → w < length queues
in_queues queues w lt = subst (λ (n : ℕ). w < n) (simp length-map) lt

pub finished_of : (queues : List Queue) (world : ℕ → Wire) (w : ℕ) → QueuesStand queues world → w < length queues → ((d : Queue) → (slice_index_or queues w d).finished ≡ true) → (world w).finished ≡ true
finished_of [] world w stands lt f = absurd (omega arith)
finished_of (q ∷ qs) world w stands lt f = sym (stands.each w q lt).finished ∙ f q

-- a queue that changes and keeps its size
pub sizes_set : (queues : List Queue) (w : ℕ) (d new : Queue) → w < length queues → new.size ≡ (slice_index_or queues w d).size → sizes_in (slice_set queues w new) ≡ sizes_in queues
sizes_set [] w d new lt e = absurd (omega arith)
sizes_set (q ∷ qs) zero d new lt e = ap (λ (n : ℕ). n ∷ sizes_in qs) e
sizes_set (q ∷ qs) (suc w) d new lt e = ap (λ (ns : List ℕ). q.size ∷ ns) (sizes_set qs w d new (omega arith) e)

-- one number more at the end
pub sizes_push : (size : ℕ) (queues : List Queue) (q : Queue) → All (λ n. n ≡ size) (sizes_in queues) → q.size ≡ size → All (λ n. n ≡ size) (sizes_in (queues ++ q ∷ []))
sizes_push size [] q a e zero d lt = e
sizes_push size [] q a e (suc k) d lt = absurd (omega arith)
sizes_push size (r ∷ rs) q a e zero d lt = a zero d (omega arith)
sizes_push size (r ∷ rs) q a e (suc k) d lt = sizes_push size rs q (λ j b less. a (suc j) b (omega arith)) e k d (omega arith)
