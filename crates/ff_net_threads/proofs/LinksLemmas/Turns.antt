-- What the steps of a turn come to.
use Rattle.std.proofs.Common.{◌≡◌, ◌≢◌, ℕ, zero, suc, ◌<◌, ◌⊎◌, inl, inr, Bool, true, false, ◌||◌, List, [], ◌∷◌, ◌++◌, ◌^◌, length, slice_index_or, slice_set, ◌≤◌, refl, ap, sym, ◌∙◌, subst, arith, Option, None, Some, is_some, get_or-set_other}
use Rattle.ff_stream.specs.declared.item.Item.{Item}
use Rattle.ff_stream.specs.Items.{Closes}
use Rattle.ff_stream.specs.laws.Order.{closed_below}
use Rattle.ff_stream.specs.Ports.{IsClosed}
use Rattle.ff_link.specs.laws.Sendings.{stream_of}
use Rattle.ff_net.specs.Ways.{Flow}
use Rattle.ff_net.proofs.PortSteps.{out_wire_at}
use Rattle.ff_link.specs.laws.Views.{Sending, Receiving}
use Rattle.ff_net.specs.declared.node.Node.{Node}
use Rattle.ff_net.specs.declared.ports.InPort.{InPort}
use Rattle.ff_net.specs.declared.ports.OutPort.{OutPort}
use Rattle.ff_net.specs.declared.wires.Wires.{Wires}
use Rattle.ff_net.specs.Pasts.{Past, Task}
use Rattle.ff_net.specs.laws.Ports.{in_at, in_wires, out_at}
use Rattle.ff_net.specs.laws.Worlds.{Wire, Stand, IsEmpty, IsFull, lanes_of}
use Rattle.ff_net.specs.declared.wires.Queue.{Queue}
use Rattle.ff_net.specs.laws.Logs.{WasChoked}
use Rattle.ff_net.specs.laws.Nodes.{IsDone, pass_of}
use Rattle.ff_sched.specs.laws.Passing.{Passing}
use Rattle.ff_net.specs.laws.Steps.{Moves, Stepped, HasMoved as HasMovedThere}
use Rattle.ff_net.specs.laws.Turns.{IsIdle, IsRefused, full, empty, choked}
use Rattle.ff_net.specs.laws.Views.{View}
use Rattle.ff_net.proofs.Flows.{same_or_not}
use Rattle.ff_net.proofs.Moments.{stepped_as, stepped_then, then_moves}
use Rattle.ff_net.proofs.Changes.{true_not_false}
use Rattle.ff_net_threads.specs.declared.links.ends.InEnd.{InEnd}
use Rattle.ff_net_threads.specs.declared.links.ends.OutEnd.{OutEnd}
use Rattle.ff_net_threads.specs.declared.links.linked.Linked.{Linked}
use Rattle.ff_net_threads.specs.laws.links.Ends.{taken_in, taken_of, in_end_at}
use Rattle.ff_net_threads.specs.laws.links.Nodes.{Behind}
use Rattle.ff_net_threads.proofs.LinksLemmas.Linking.{in_nth, out_nth, count_map}
use Rattle.ff_net_threads.specs.laws.links.Turns.{TakesOneAtMost, InMoves, took, ended as in_ended, laid, InRests, FoundEmpty, CannotTake, link_shut, found_empty, Shuts, SendsOneAtMost, OutMoves, sent as was_sent, ended as out_ended, lifted, OutRests, FoundFull, CannotSend, nothing, found_full, spent, HasDrawnNone, due, cannot, HasMoved, at_input, at_output, at_node, at_end, at_pass}

pub false_if_not : (b : Bool) → (b ≡ true → ⊥) → b ≡ false
false_if_not true h = absurd (h refl)
false_if_not false h = refl

some_none : {A : Type 0} (o : Option A) (x : A) → o ≡ Some x → o ≡ None → ⊥
some_none o x e f = cc

longer : (xs : List Item) (x : Item) → xs ++ x ∷ [] ≢ xs
longer [] x e = cc
longer (y ∷ xs) x e = longer xs x (cc (e))

-- the last item of a list is one
same_last : (xs : List Item) (x y : Item) → xs ++ x ∷ [] ≡ xs ++ y ∷ [] → y ≡ x
same_last [] x y e = cc (e)
same_last (z ∷ zs) x y e = same_last zs x y (cc (e))

-- of one end of a list that is set, and of the others
pub in_other : (now now' : List InEnd) (p k : ℕ) (end : InEnd) → now' ≡ slice_set now p end → k ≢ p → in_end_at now' k ≡ in_end_at now k
in_other now now' p k end set n = ap (λ (es : List InEnd). in_end_at es k) set ∙ get_or-set_other now p k end _ n

pub in_each : (R : InEnd → InEnd → Type 0) (olds now now' : List InEnd) (p : ℕ) (end : InEnd) → now' ≡ slice_set now p end → in_end_at now p ≡ in_end_at olds p → R (in_end_at now p) (in_end_at now' p) → ((k : ℕ) → R (in_end_at olds k) (in_end_at now k)) → (k : ℕ) → R (in_end_at olds k) (in_end_at now' k)
in_each R olds now now' p end set same here others k = elim (same_or_not k p) [
  | inl e ↦ subst (λ (n : ℕ). R (in_end_at olds n) (in_end_at now' n)) (sym e) (subst (λ (o : InEnd). R o (in_end_at now' p)) same here)
  | inr n ↦ subst (λ (x : InEnd). R (in_end_at olds k) x) (sym (in_other now now' p k end set n)) (others k)
]

pub out_other : (now now' : List OutEnd) (q k : ℕ) (end d : OutEnd) → now' ≡ slice_set now q end → k ≢ q → slice_index_or now' k d ≡ slice_index_or now k d
out_other now now' q k end d set n = ap (λ (es : List OutEnd). slice_index_or es k d) set ∙ get_or-set_other now q k end d n

pub out_each : (R : OutEnd → OutEnd → Type 0) (olds now now' : List OutEnd) (q : ℕ) (end : OutEnd) → now' ≡ slice_set now q end → ((d : OutEnd) → slice_index_or now q d ≡ slice_index_or olds q d) → ((d : OutEnd) → R (slice_index_or now q d) (slice_index_or now' q d))
    → ((k : ℕ) (d : OutEnd) → R (slice_index_or olds k d) (slice_index_or now k d)) → (k : ℕ) (d : OutEnd) → R (slice_index_or olds k d) (slice_index_or now' k d)
out_each R olds now now' q end set same here others k d = elim (same_or_not k q) [
  | inl e ↦ subst (λ (n : ℕ). R (slice_index_or olds n d) (slice_index_or now' n d)) (sym e) (subst (λ (o : OutEnd). R o (slice_index_or now' q d)) (same d) (here d))
  | inr n ↦ subst (λ (x : OutEnd). R (slice_index_or olds k d) x) (sym (out_other now now' q k end d set n)) (others k d)
]

pub takes_self : (e : InEnd) → TakesOneAtMost e e
takes_self e = record { more = inl refl; ended = λ n. (n, refl) }

pub in_rests_self : (e : InEnd) → InRests e e
in_rests_self e = record { taken = refl; going = refl; held = refl }

pub shuts_self : (e : InEnd) → Shuts e e
shuts_self e = record { wire = refl; taken = refl; held = refl; ended = λ n. n }

pub sends_self : (e : OutEnd) → SendsOneAtMost e e
sends_self e = record { more = inl refl; closes = λ x c same. absurd (longer e.sender.sent x (sym same)); ended = λ d. (d, refl) }

pub out_rests_self : (e : OutEnd) → OutRests e e
out_rests_self e = record { sent = refl; done = refl; held = refl }

-- an end that took an item
pub fetched_item : (old new : InEnd) (r r' : Receiving) (x : Item) → old.taking ≡ Some r → new.taking ≡ Some r' → r'.taken ≡ r.taken ++ x ∷ [] → TakesOneAtMost old new
fetched_item old new r r' x is now more =
    let was : taken_of old ≡ r.taken = ap (λ (t : Option Receiving). taken_in t old.finished) is in
    let has : taken_of new ≡ taken_of old ++ x ∷ [] = ap (λ (t : Option Receiving). taken_in t new.finished) now ∙ (more ∙ ap (λ (xs : List Item). xs ++ x ∷ []) (sym was)) in
    record { more = inr (x, has); ended = λ n. absurd (some_none old.taking r is n) }

pub fetched_differs : (old : InEnd) (r r' : Receiving) (x : Item) → old.taking ≡ Some r → r'.taken ≡ r.taken ++ x ∷ [] → r'.taken ≢ taken_of old
fetched_differs old r r' x is more same = longer r.taken x (sym more ∙ (same ∙ ap (λ (t : Option Receiving). taken_in t old.finished) is))

-- an end that found none
pub fetched_none : (old new : InEnd) (r r' : Receiving) → old.taking ≡ Some r → new.taking ≡ Some r' → r'.taken ≡ r.taken → new.held ≡ old.held → TakesOneAtMost old new × InRests old new
fetched_none old new r r' is now same held =
    let taken : taken_of new ≡ taken_of old = ap (λ (t : Option Receiving). taken_in t new.finished) now ∙ (same ∙ sym (ap (λ (t : Option Receiving). taken_in t old.finished) is)) in (
      record { more = inl taken; ended = λ n. absurd (some_none old.taking r is n) },
      record { taken = taken; going = ap (λ (t : Option Receiving). is_some t) now ∙ sym (ap (λ (t : Option Receiving). is_some t) is); held = held },
    )

-- an end that had finished its link
pub fetched_ended : (old new : InEnd) → old.taking ≡ None → new.taking ≡ None → new.finished ≡ old.finished → new.held ≡ old.held → TakesOneAtMost old new × InRests old new
fetched_ended old new was now finished held =
    let taking : new.taking ≡ old.taking = now ∙ sym was in
    let taken : taken_of new ≡ taken_of old = cc (taking, finished) in (
      record { more = inl taken; ended = λ n. (now, taken) },
      record { taken = taken; going = ap (λ (t : Option Receiving). is_some t) taking; held = held },
    )

-- an end that finishes its link
pub shut_takes : (old new : InEnd) → new.taking ≡ None → taken_of new ≡ taken_of old → TakesOneAtMost old new
shut_takes old new shut taken = record { more = inl taken; ended = λ n. (shut, taken) }

-- a look at the link, and what was held is laid or not
module _ (old mid new : InEnd) (taking : new.taking ≡ mid.taking) (finished : new.finished ≡ mid.finished) where
  laid_taken : taken_of new ≡ taken_of mid
  laid_taken = cc (taking, finished)

  pub draw_takes : TakesOneAtMost old mid → TakesOneAtMost old new
  draw_takes t = record {
    more = elim (t.more) [ inl e ↦ inl (laid_taken ∙ e) | inr m ↦ inr (m.0, laid_taken ∙ m.1) ];
    ended = λ n. (taking ∙ (t.ended n).0, laid_taken ∙ (t.ended n).1);
  }

  pub draw_moves : (fetched layed : Bool) → (fetched ≡ true → taken_of mid ≢ taken_of old) → (fetched ≡ false → InRests old mid) → (layed ≡ true → (is_some mid.held ≡ true) × (new.held ≡ None)) → (fetched ≡ true) ⊎ (layed ≡ true) → InMoves old new
  draw_moves true layed moved still lays which = took (λ e. moved refl (sym laid_taken ∙ e))
  draw_moves false layed moved still lays (inl t) = absurd (true_not_false (sym t))
  draw_moves false layed moved still lays (inr l) = laid (ap (λ (h : Option Item). is_some h) (sym (still refl).held) ∙ (lays l).0) (lays l).1

  pub draw_rests : InRests old mid → new.held ≡ mid.held → InRests old new
  draw_rests r held = record { taken = laid_taken ∙ r.taken; going = ap (λ (t : Option Receiving). is_some t) taking ∙ r.going; held = held ∙ r.held }

-- nothing lies on a wire that is empty, so it isn't full
some_queue : (queues : List Queue) (w : ℕ) → w < length queues → Queue
some_queue [] w lt = absurd (omega arith)
some_queue (q ∷ qs) w lt = q

pub full_not_empty : (wires : Wires) (w : ℕ) → w < length (lanes_of wires) → IsFull wires w → IsEmpty wires w → ⊥
full_not_empty wires w lt f e =
    let queues : List Queue = wires.queues.items in
    let d : Queue = some_queue queues w (subst (λ (n : ℕ). w < n) (count_map (λ (q : Queue). q.lane) queues) lt) in
    let most : length (slice_index_or queues w d).content.items ≡ (slice_index_or queues w d).size = f.as_many d in
    let some : 1 ≤ (slice_index_or queues w d).size = f.some d in
    let none : length (slice_index_or queues w d).content.items ≡ 0 = ap length (e d) in
    omega (arith, most, some, none)

-- an end that looked, or had finished its link, and laid nothing
pub none_drawn : (wires : Wires) (old mid new : InEnd) → new.taking ≡ mid.taking → new.held ≡ None → new.held ≡ mid.held → InRests old mid → (old.held ≡ None → (mid.taking ≡ None) ⊎ FoundEmpty old mid) → CannotTake wires old new
none_drawn wires old mid new taking none held rests looked = elim (looked (sym rests.held ∙ (sym held ∙ none))) [
  | inl s ↦ link_shut (taking ∙ s)
  | inr f ↦ found_empty none (f.0, f.1, taking ∙ f.2, f.3)
]

-- an end that lifted nothing and sent nothing
pub none_sent : (wires : Wires) (old mid new : OutEnd) → mid ≡ old → OutRests mid new → (old.held ≡ None → IsEmpty wires old.wire) → (new.held ≡ None) ⊎ FoundFull mid new ⊎ (2 ^ 40 < length new.sender.sent) → CannotSend wires old new
none_sent wires old mid new same rests clear why = elim why [
  | inl none ↦ nothing none (clear (sym (ap (λ (o : OutEnd). o.held) same) ∙ (sym rests.held ∙ none)))
  | inr more ↦ elim more [ inl f ↦ found_full (subst (λ (o : OutEnd). FoundFull o new) same f) | inr many ↦ spent many ]
]

pub takes_then : (a b c : InEnd) → TakesOneAtMost a b → Shuts b c → TakesOneAtMost a c
takes_then a b c t s = record {
  more = elim (t.more) [ inl e ↦ inl (s.taken ∙ e) | inr m ↦ inr (m.0, s.taken ∙ m.1) ];
  ended = λ n. (s.ended (t.ended n).0, s.taken ∙ (t.ended n).1);
}

pub moves_shuts : (a b c : InEnd) → InMoves a b → Shuts b c → InMoves a c
moves_shuts a b c (took n) s = took (λ e. n (sym s.taken ∙ e))
moves_shuts a b c (in_ended i n) s = in_ended i (s.ended n)
moves_shuts a b c (laid i n) s = laid i (s.held ∙ n)

is_some_none : (b c d : Option Receiving) → is_some c ≡ is_some b → b ≡ None → c ≡ None
is_some_none b None d e n = refl
is_some_none b (Some r) d e n = absurd (true_not_false (e ∙ ap (λ (t : Option Receiving). is_some t) n))

-- what moved after nothing had moved, or after an end that rests may still end
pub rests_moves : (a b c : InEnd) → TakesOneAtMost a b → InMoves b c → (taken_of b ≡ taken_of a) ⊎ (taken_of b ≢ taken_of a) → Shuts b c → InMoves a c
rests_moves a b c t m (inr n) s = took (λ e. n (sym s.taken ∙ e))
rests_moves a b c t (took n) (inl e) s = absurd (n s.taken)
rests_moves a b c t (in_ended i n) (inl e) s = pick a.taking refl
  where
    pick : (o : Option Receiving) → a.taking ≡ o → InMoves a c
    pick None is = absurd (true_not_false (sym i ∙ ap (λ (t : Option Receiving). is_some t) (t.ended is).0))
    pick (Some r) is = in_ended (ap (λ (t : Option Receiving). is_some t) is) n
rests_moves a b c t (laid i n) (inl e) s = absurd (true_not_false (sym i ∙ ap (λ (h : Option Item). is_some h) (sym s.held ∙ n)))

-- an end that sends an item
pub sent_item : (old new : OutEnd) (x : Item) → old.done ≡ false → new.sender.sent ≡ old.sender.sent ++ x ∷ [] → (Closes x → new.done ≡ true) → SendsOneAtMost old new
sent_item old new x goes more closes = record {
  more = inr (x, more);
  closes = λ y c same. closes (subst Closes (same_last old.sender.sent x y (sym more ∙ same)) c);
  ended = λ d. absurd (true_not_false (sym d ∙ goes));
}

pub sent_differs : (xs ys : List Item) (x : Item) → ys ≡ xs ++ x ∷ [] → ys ≢ xs
sent_differs xs ys x more same = longer xs x (sym more ∙ same)

-- an end that sends nothing
pub sent_none : (old new : OutEnd) → old.done ≡ false → new.sender.sent ≡ old.sender.sent → SendsOneAtMost old new
sent_none old new goes same = record {
  more = inl same;
  closes = λ x c more. absurd (longer old.sender.sent x (sym more ∙ same));
  ended = λ d. absurd (true_not_false (sym d ∙ goes));
}

-- an item is lifted or not, and then something sent or not
module _ (old mid new : OutEnd) (goes : old.done ≡ false) (goes' : mid.done ≡ false) (sender : mid.sender ≡ old.sender) where
  same_sent : mid.sender.sent ≡ old.sender.sent
  same_sent = ap (λ (s : Sending). s.sent) sender

  pub pour_sends : SendsOneAtMost mid new → SendsOneAtMost old new
  pour_sends s = record {
    more = subst (λ (xs : List Item). (new.sender.sent ≡ xs) ⊎ ((x : Item) × (new.sender.sent ≡ xs ++ x ∷ []))) same_sent s.more;
    closes = λ x c e. s.closes x c (e ∙ ap (λ (xs : List Item). xs ++ x ∷ []) (sym same_sent));
    ended = λ d. absurd (true_not_false (sym d ∙ goes));
  }

  pub pour_moves : (up sends : Bool) → (sends ≡ true → (new.sender.sent ≢ mid.sender.sent) ⊎ (new.done ≡ true)) → (sends ≡ false → OutRests mid new) → (up ≡ true → (old.held ≡ None) × (is_some mid.held ≡ true)) → (up ≡ true) ⊎ (sends ≡ true) → OutMoves old new
  pour_moves up true moved still lifts which = elim (moved refl) [ inl n ↦ was_sent (λ e. n (e ∙ sym same_sent)) | inr d ↦ out_ended goes d ]
  pour_moves up false moved still lifts (inl l) = lifted (lifts l).0 (ap (λ (h : Option Item). is_some h) (still refl).held ∙ (lifts l).1)
  pour_moves up false moved still lifts (inr t) = absurd (true_not_false (sym t))

pub out_rests_then : (a b c : OutEnd) → b ≡ a → OutRests b c → OutRests a c
out_rests_then a b c e r = subst (λ (x : OutEnd). OutRests x c) e r

port_nth : (ports : List InPort) (p : ℕ) → slice_index_or (in_wires ports) p 0 ≡ (in_at ports p).wire
port_nth [] p = refl
port_nth (x ∷ xs) zero = refl
port_nth (x ∷ xs) (suc p) = port_nth xs p

less_or_not : (m n : ℕ) → (m < n) ⊎ (n ≤ m)
less_or_not m zero = inr (omega arith)
less_or_not zero (suc n) = inl (omega arith)
less_or_not (suc m) (suc n) = elim (less_or_not m n) [ inl l ↦ inl (omega (arith, l)) | inr g ↦ inr (omega (arith, g)) ]

module _ {M : Type 0} (view : M → View) where
  -- idle since a moment, and so since another with the same pass
  idle_before : (may_take : Bool) (before other node : Node M) (wires : Wires) (world : ℕ → Wire) (past : Past) → pass_of before ≡ pass_of other → IsIdle view may_take before node wires world past → IsIdle view may_take other node wires world past
  idle_before may_take before other node wires world past same i = record { no_room = i.no_room; no_item = i.no_item; refused = λ may. since (i.refused may) }
    where
      since : IsRefused view before node wires → IsRefused view other node wires
      since (full q lt f) = full q lt f
      since (empty p lt e) = empty p lt e
      since (choked s is was) = choked s is (subst (λ (p : Passing). WasChoked p s node.pass) same was)

  -- a node that has moved, or whose pass has added something
  pub node_moved_or : (how : (ℕ → Wire) → Past → (ℕ → Wire) → Past → Type 0) (a b : Node M) (wires wires' : Wires) → ((x : ℕ → Wire) (p : Past) (y : ℕ → Wire) (q : Past) → how x p y q → HasMovedThere a b x p y q)
      → Stepped view how a wires b wires' → Stepped view (λ x p y q. Moves x y p q) a wires b wires' ⊎ (length (pass_of a).log < length (pass_of b).log)
  node_moved_or how a b wires wires' moved step = elim (less_or_not (length (pass_of a).log) (length (pass_of b).log)) [
    | inl l ↦ inr l
    | inr g ↦ inl (stepped_as view how (λ x p y q. Moves x y p q) a wires b wires' (λ x p y q c h. elim (moved x p y q h) [ inl m ↦ m | inr l ↦ absurd (let less : length (pass_of a).log < length (pass_of b).log = l in omega (arith, less, g)) ]) step)
  ]

  -- nothing was taken, and the ends stayed
  pub drawn_none_then : (old drawn last : Linked M) → ((p : ℕ) → in_end_at last.ins.items p ≡ in_end_at drawn.ins.items p) → HasDrawnNone view old drawn → HasDrawnNone view old last
  drawn_none_then old drawn last same (due node s d) = due node s d
  drawn_none_then old drawn last same (cannot h) = cannot (λ p lt. subst (λ (e : InEnd). CannotTake old.wires (in_end_at old.ins.items p) e) (sym (same p)) (h p lt))

  -- where the node has finished an input, its link is finished
  pub shut_port : (l : Linked M) (task : Task) → Behind view task l → (last : List InEnd) → ((world : ℕ → Wire) → Stand l.wires world → (p : ℕ) → p < length l.ins.items → (world (in_end_at l.ins.items p).wire).finished ≡ true → (in_end_at last p).taking ≡ None)
      → (p : ℕ) → p < length l.node.ins.items → (in_at l.node.ins.items p).done ≡ true → (in_end_at last p).taking ≡ None
  shut_port l task b last shut p lt done =
      let wire : (in_end_at l.ins.items p).wire ≡ (in_at l.node.ins.items p).wire = sym (in_nth l.ins.items p) ∙ (ap (λ (ws : List ℕ). slice_index_or ws p 0) b.wired.in_wires ∙ port_nth l.node.ins.items p) in
      let count : length l.node.ins.items ≡ length l.ins.items = sym (count_map (λ (x : InPort). x.wire) l.node.ins.items) ∙ (ap length (sym b.wired.in_wires) ∙ count_map (λ (x : InEnd). x.wire) l.ins.items) in
      shut b.world b.stand p (subst (λ (n : ℕ). p < n) count lt) (subst (λ (w : ℕ). (b.world w).finished ≡ true) (sym wire) (sym (b.fits.ins p lt).flag ∙ done))

  module _ (old drawn turned last : Linked M) (filled : Stepped view (λ a p b q. Unit {0}) old.node old.wires drawn.node drawn.wires) (node : last.node ≡ turned.node) where
    -- the node moved
    pub node_moved : Stepped view (λ a p b q. Moves a b p q) drawn.node drawn.wires turned.node turned.wires → HasMoved view old last
    node_moved step = at_node turned.wires (subst (λ (n : Node M). Stepped view (λ a p b q. Moves a b p q) old.node old.wires n turned.wires) (sym node)
        (stepped_then view (λ a p b q. Unit {0}) (λ a p b q. Moves a b p q) (λ a p b q. Moves a b p q) old.node old.wires drawn.node drawn.wires turned.node turned.wires (λ a p b q c r x y u m. then_moves _ _ a b c p q r x y m) filled step))

    -- the node is idle
    pub node_idle : (may_take : Bool) → pass_of drawn.node ≡ pass_of old.node → last.wires ≡ turned.wires → Stepped view (λ a p b q. IsIdle view may_take drawn.node turned.node turned.wires b q) drawn.node drawn.wires turned.node turned.wires
        → Stepped view (λ a p b q. IsIdle view may_take old.node last.node last.wires b q) old.node old.wires last.node last.wires
    node_idle may_take pass wires step = subst (λ (n : Node M). Stepped view (λ a p b q. IsIdle view may_take old.node n last.wires b q) old.node old.wires n last.wires) (sym node)
        (subst (λ (w : Wires). Stepped view (λ a p b q. IsIdle view may_take old.node turned.node w b q) old.node old.wires turned.node w) (sym wires)
        (stepped_then view (λ a p b q. Unit {0}) (λ a p b q. IsIdle view may_take drawn.node turned.node turned.wires b q) (λ a p b q. IsIdle view may_take old.node turned.node turned.wires b q) old.node old.wires drawn.node drawn.wires turned.node turned.wires
        (λ a p b q c r x y u i. idle_before may_take drawn.node old.node turned.node turned.wires c r pass i) filled step))

  -- where the receiver of a link has finished, or a closing item was sent, nothing more goes on the node's output
  pub stop_port : (poured last : Linked M) (task : Task) → Behind view task poured → Behind view task last → last.outs.items ≡ poured.outs.items → ((world : ℕ → Wire) → Stand poured.wires world → (q : ℕ) → q < length poured.node.outs.items → (world (out_at poured.node.outs.items q).wire).finished ≡ true → (out_at last.node.outs.items q).done ≡ true)
      → (q : ℕ) (d : OutEnd) → q < length last.node.outs.items → (slice_index_or last.outs.items q d).done ≡ true → (out_at last.node.outs.items q).done ≡ true
  stop_port poured last task b a same stops q d lt done =
      let was : OutEnd = slice_index_or poured.outs.items q d in
      let now : OutEnd = slice_index_or last.outs.items q d in
      let here : q < length last.outs.items = subst (λ (n : ℕ). q < n) (ends_count last a) lt in
      let there : q < length poured.outs.items = subst (λ (es : List OutEnd). q < length es) same here in
      elim ((b.outs q d there).done (subst (λ (es : List OutEnd). (slice_index_or es q d).done ≡ true) same done)) [
        | inl closed ↦
            let sent : IsClosed (stream_of now.sender.sent) = subst (λ (es : List OutEnd). IsClosed (stream_of (slice_index_or es q d).sender.sent)) (sym same) closed in
            let taken : IsClosed (a.world now.wire).taken = subst (λ (r : Flow). IsClosed r) (closed_below (stream_of now.sender.sent) (a.world now.wire).taken (a.outs q d here).below sent) sent in
            let put : IsClosed (a.world now.wire).sent = subst (λ (r : Flow). IsClosed r) (closed_below (a.world now.wire).taken (a.world now.wire).sent (a.stand.ordered now.wire) taken) taken in
            over (out_at last.node.outs.items q).done refl (subst (λ (w : ℕ). IsClosed (a.world w).sent) (end_wire last a here) put)
        | inr told ↦
            stops b.world b.stand q (subst (λ (n : ℕ). q < n) (sym (ends_count poured b)) there) (subst (λ (w : ℕ). (b.world w).finished ≡ true) (end_wire poured b there) told.1)
      ]
    where
      ends_count : (l : Linked M) → Behind view task l → length l.node.outs.items ≡ length l.outs.items
      ends_count l s = sym (count_map (λ (x : OutPort). x.wire) l.node.outs.items) ∙ (ap length (sym s.wired.out_wires) ∙ count_map (λ (x : OutEnd). x.wire) l.outs.items)

      end_wire : (l : Linked M) → Behind view task l → q < length l.outs.items → (slice_index_or l.outs.items q d).wire ≡ (out_at l.node.outs.items q).wire
      end_wire l s less = sym (out_nth l.outs.items q d less) ∙ (ap (λ (ws : List ℕ). slice_index_or ws q 0) s.wired.out_wires ∙ out_wire_at l.node.outs.items q)

      over : (o : Bool) → (out_at last.node.outs.items q).done ≡ o → IsClosed (a.world (out_at last.node.outs.items q).wire).sent → (out_at last.node.outs.items q).done ≡ true
      over true is c = is
      over false is c = absurd (c ((a.fits.outs q lt).unclosed is))

  -- what a node has that moved after it was turned, or did not
  pub after_stop : (P : Node M → Type 0) (turned poured stopped last : Linked M) (stops : Bool) → poured.node ≡ turned.node → last.node ≡ stopped.node → (stops ≡ false → stopped.node ≡ poured.node) → P turned.node → (stops ≡ true → P stopped.node) → P last.node
  after_stop P turned poured stopped last true pour shut still was now = subst P (sym shut) (now refl)
  after_stop P turned poured stopped last false pour shut still was now = subst P (sym (shut ∙ (still refl ∙ pour))) was

  -- what moved in a turn, by its parts
  pub moved_of : (old drawn turned stopped last : Linked M) (draws turns pours stops shuts : Bool) → pass_of drawn.node ≡ pass_of old.node → last.node ≡ stopped.node → (stops ≡ false → stopped.node ≡ turned.node) → ((p : ℕ) → Shuts (in_end_at drawn.ins.items p) (in_end_at last.ins.items p)) → ((p : ℕ) → TakesOneAtMost (in_end_at old.ins.items p) (in_end_at drawn.ins.items p))
      → (draws ≡ true → (p : ℕ) × InMoves (in_end_at old.ins.items p) (in_end_at drawn.ins.items p))
      → (draws ≡ false → ((p : ℕ) → InRests (in_end_at old.ins.items p) (in_end_at drawn.ins.items p)) × Stepped view (λ a p b q. Unit {0}) old.node old.wires drawn.node drawn.wires)
      → Stepped view (λ a p b q. Unit {0}) drawn.node drawn.wires turned.node turned.wires
      → (turns ≡ true → Stepped view (λ a p b q. Moves a b p q) drawn.node drawn.wires turned.node turned.wires ⊎ (length (pass_of drawn.node).log < length (pass_of turned.node).log) ⊎ ((IsDone old.node → ⊥) × IsDone turned.node))
      → (pours ≡ true → (q : ℕ) × ((d : OutEnd) → OutMoves (slice_index_or old.outs.items q d) (slice_index_or last.outs.items q d)))
      → (pours ≡ false → stops ≡ true → Stepped view (λ a p b q. Moves a b p q) turned.node turned.wires stopped.node stopped.wires)
      → (shuts ≡ true → (p : ℕ) × InMoves (in_end_at drawn.ins.items p) (in_end_at last.ins.items p))
      → ((((draws || turns) || pours) || stops) || shuts) ≡ true → HasMoved view old last
  moved_of old drawn turned stopped last true turns pours stops shuts pass node kept ends takes draw rest step turn pour stop shut e =
      let h = draw refl in
      at_input h.0 (moves_shuts (in_end_at old.ins.items h.0) (in_end_at drawn.ins.items h.0) (in_end_at last.ins.items h.0) h.1 (ends h.0))
  moved_of old drawn turned stopped last false turns true stops shuts pass node kept ends takes draw rest step turn pour stop shut e = let h = pour refl in at_output h.0 h.1
  moved_of old drawn turned stopped last false turns false true shuts pass node kept ends takes draw rest step turn pour stop shut e =
      node_moved old turned stopped last
      (stepped_then view (λ a p b q. Unit {0}) (λ a p b q. Unit {0}) (λ a p b q. Unit {0}) old.node old.wires drawn.node drawn.wires turned.node turned.wires (λ a p b q c r x y u m. tt) (rest refl).1 step)
      node (stop refl refl)
  moved_of old drawn turned stopped last false true false false shuts pass node kept ends takes draw rest step turn pour stop shut e =
      elim (turn refl) [
        | inl s ↦ node_moved old drawn turned last (rest refl).1 (node ∙ kept refl) s
        | inr more ↦ elim more [
          | inl l ↦ at_pass (subst (λ (n : Node M). length (pass_of old.node).log < length (pass_of n).log) (sym (node ∙ kept refl)) (subst (λ (p : Passing). length p.log < length (pass_of turned.node).log) pass l))
          | inr d ↦ at_end d.0 (subst (λ (n : Node M). IsDone n) (sym (node ∙ kept refl)) d.1)
        ]
      ]
  moved_of old drawn turned stopped last false false false false shuts pass node kept ends takes draw rest step turn pour stop shut e =
      let h = shut e in
      let o : InEnd = in_end_at old.ins.items h.0 in
      let d : InEnd = in_end_at drawn.ins.items h.0 in
      at_input h.0 (rests_moves o d (in_end_at last.ins.items h.0) (takes h.0) h.1 (inl ((rest refl).0 h.0).taken) (ends h.0))
