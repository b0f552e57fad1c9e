-- What the log of a node's pass says, from moment to moment.
use Rattle.std.proofs.Common.{◌≡◌, ◌⊎◌, ℕ, inl, inr, true, false, List, [], ◌∷◌, ◌++◌, length, refl, ap, sym, ◌∙◌, subst, Option, None, Some, IsSome, append-nil, append_assoc}
use Rattle.std.proofs.lemmas.List.Elements.{All-append, All-cons, All-nil}
use mathlib.Core.List.{IsPrefix}
use Rattle.ff_stream.specs.laws.Order.{prefix_self, prefix_trans}
use Rattle.ff_stream.specs.declared.item.Item.{Item}
use Rattle.ff_stream.specs.declared.item.Lane.{Lane}
use Rattle.ff_stream.specs.Ports.{stream_at}
use Rattle.ff_stream.specs.Stream.{still_open}
use Rattle.ff_frame.specs.declared.event.Ticket.{Ticket}
use Rattle.ff_frame.specs.declared.event.Event.{Event}
use Rattle.ff_frame.specs.declared.event.Event.TheVariants.{Grant, Sent, Finished, Best, Exited}
use Rattle.ff_sched.specs.declared.logged.Logged.{Logged}
use Rattle.ff_sched.specs.Events.{IsTold, fold}
use Rattle.ff_sched.specs.Histories.{StartsWith, logged}
use Rattle.ff_sched.specs.laws.Passing.{IsChoked, Passing, Scheduler}
use Rattle.ff_sched.specs.State.{State}
use Rattle.ff_sched.specs.Unchoked.{Unchokes}
use Rattle.ff_net.specs.declared.fault.Fault.{Fault}
use Rattle.ff_net.specs.declared.node.Node.{Node}
use Rattle.ff_net.specs.laws.Laws.{IsPending, IsReading}
use Rattle.ff_net.specs.laws.Logs.{AreTicketsOf, GrantsFirst, WasChoked, hand_of, ticket_of, tickets_in, telling_of, told_in}
use Rattle.ff_net.specs.laws.Nodes.{LogStands}
use Rattle.ff_net.specs.Pasts.{Past, IsIn, gave_item, was_stopped, was_told}
use Rattle.ff_net.specs.laws.Views.{View, IsSameShape}
use Rattle.ff_net.proofs.Flows.{same_or_not, stream_at-with_item_other}

pub fault_back : (a b : Option Fault) → ((c : Fault) → a ≡ Some c → b ≡ Some c) → b ≡ None → a ≡ None
fault_back None b h e = refl
fault_back (Some c) b h e = let s : b ≡ Some c = h c refl in cc

pub tickets_append : (xs ys : List Logged) → tickets_in (xs ++ ys) ≡ tickets_in xs ++ tickets_in ys
tickets_append [] ys = refl
tickets_append (x ∷ xs) ys = ap (λ (ts : List Ticket). ticket_of x.event x.place ++ ts) (tickets_append xs ys) ∙ sym (append_assoc (ticket_of x.event x.place) (tickets_in xs) (tickets_in ys))

pub told_append : (xs ys : List Logged) → told_in (xs ++ ys) ≡ told_in xs ++ told_in ys
told_append [] ys = refl
told_append (x ∷ xs) ys = ap (λ (es : List Event). telling_of x.event ++ es) (told_append xs ys) ∙ sym (append_assoc (telling_of x.event) (told_in xs) (told_in ys))

pub no_ticket_told : (e : Event) (place : ℕ) → IsTold e → ticket_of e place ≡ []
no_ticket_told (Grant s) place t = absurd t
no_ticket_told (Sent j u) place t = refl
no_ticket_told (Finished j) place t = refl
no_ticket_told (Best g i) place t = refl
no_ticket_told (Exited s) place t = refl

telling_told : (e : Event) → IsTold e → telling_of e ≡ e ∷ []
telling_told (Grant s) t = absurd t
telling_told (Sent j u) t = refl
telling_told (Finished j) t = refl
telling_told (Best g i) t = refl
telling_told (Exited s) t = refl

-- one entry more
pub tickets_more : (log : List Logged) (l : Logged) → tickets_in (log ++ l ∷ []) ≡ tickets_in log ++ ticket_of l.event l.place
tickets_more log l = tickets_append log (l ∷ []) ∙ ap (λ (ts : List Ticket). tickets_in log ++ ts) (append-nil (ticket_of l.event l.place))

told_more : (log : List Logged) (l : Logged) → told_in (log ++ l ∷ []) ≡ told_in log ++ telling_of l.event
told_more log l = told_append log (l ∷ []) ∙ ap (λ (es : List Event). told_in log ++ es) (append-nil (telling_of l.event))

pub tickets_told : (log log' : List Logged) (e : Event) (place : ℕ) → IsTold e → log' ≡ log ++ logged place e ∷ [] → tickets_in log' ≡ tickets_in log
tickets_told log log' e place is more = ap tickets_in more ∙ (tickets_more log (logged place e) ∙ (ap (λ (ts : List Ticket). tickets_in log ++ ts) (no_ticket_told e place is) ∙ append-nil (tickets_in log)))

front_of_nothing : (es : List Event) → IsPrefix es [] → es ≡ []
front_of_nothing [] f = refl
front_of_nothing (e ∷ es) f = absurd (let no = f.1 in cc (no))

-- pending outputs
pub pending_same : (past since : Past) → since.gave ≡ past.gave → since.stopped ≡ past.stopped → (n q : ℕ) → IsPending n since q → IsPending n past q
pending_same past since gave stopped n q p = record {
  there = p.there;
  goes_on = λ i. p.goes_on (subst (λ (qs : List ℕ). IsIn q qs) (sym stopped) i);
  unclosed = ap (λ ss. (stream_at ss q).mark) (sym gave) ∙ p.unclosed;
}

pub pending_gave : (past : Past) (k : ℕ) (x : Item) → (stream_at past.gave k).mark ≡ still_open → (n q : ℕ) → IsPending n (gave_item past k x) q → IsPending n past q
pending_gave past k x o n q p = record {
  there = p.there;
  goes_on = p.goes_on;
  unclosed = elim (same_or_not q k) [
    | inl e ↦ ap (λ (r : ℕ). (stream_at past.gave r).mark) e ∙ o
    | inr other ↦ ap (λ s. s.mark) (sym (stream_at-with_item_other past.gave k q x other)) ∙ p.unclosed
  ];
}

pub pending_stopped : (past : Past) (k n q : ℕ) → IsPending n (was_stopped past k) q → IsPending n past q
pending_stopped past k n q p = record { there = p.there; goes_on = λ i. p.goes_on (inr i); unclosed = p.unclosed }

-- a source that is reading was reading before
pub reading_back : (a b : View) (past since : Past) → ((c : Fault) → a.fault ≡ Some c → b.fault ≡ Some c) → b.source ≡ a.source → b.out_lanes ≡ a.out_lanes → ((n q : ℕ) → IsPending n since q → IsPending n past q) → IsReading b since → IsReading a past
reading_back a b past since stays source lanes pending r = record {
  is_source = subst (λ (s : Option ℕ). IsSome s) source r.is_source;
  sound = fault_back a.fault b.fault stays r.sound;
  port = r.port;
  pending = pending (length a.out_lanes) r.port (subst (λ (ls : List Lane). IsPending (length ls) since r.port) lanes r.pending);
}

-- what was choked after room was made
pub choked_after : (p m q : Passing) (source : ℕ) (state : State) → m ≡ record p { spare = m.spare } → IsChoked m source state q → WasChoked p source q
choked_after p m q source state e k =
    let cell : m.cell ≡ p.cell = ap (λ (r : Passing). r.cell) e in record {
      same = k.same ∙ (ap (λ (r : Passing). record r { seen = q.seen }) e ∙ ap (λ (n : ℕ). record p { seen = q.seen; spare = n }) (sym (ap (λ (r : Passing). r.spare) k.same)));
      more = subst (λ (es : List Event). StartsWith q.seen es) (ap (λ (r : Passing). r.seen) e) k.more;
      choked = λ u. k.choked (subst (λ (s : State). Unchokes m.cell.routes s source) (sym k.folded) (subst (λ (c : Scheduler). Unchokes c.routes (fold c.opening q.seen) source) (sym cell) u));
    }

-- tickets stay those of a source
pub still_of : (a b : Option ℕ) (ts us : List Ticket) → b ≡ a → us ≡ ts → AreTicketsOf a ts → AreTicketsOf b us
still_of a b ts us source same own = subst (λ (o : Option ℕ). AreTicketsOf o us) (sym source) (subst (λ (xs : List Ticket). AreTicketsOf a xs) (sym same) own)

module _ {M : Type 0} (view : M → View) (node node' : Node M) where
  -- neither the machine nor what was logged has changed
  pub log_still : (past : Past) → node'.machine ≡ node.machine → node'.pass.log ≡ node.pass.log → node'.hand ≡ node.hand → (node'.refused ≡ false → node.refused ≡ false) → (node'.quiet ≡ true → node.quiet ≡ true) → LogStands view node past → LogStands view node' past
  log_still past machine log hand refused quiet l = record {
    granted = ap tickets_in log ∙ (l.granted ∙ ap (λ (h : Option Ticket). past.allowed ++ hand_of h) (sym hand));
    own = still_of _ _ _ _ (ap (λ m. (view m).source) machine) (ap tickets_in log) l.own;
    told = subst (λ (ls : List Logged). IsPrefix (told_in ls) past.told) (sym log) l.told;
    all_told = λ r. ap told_in log ∙ l.all_told (refused r);
    in_order = subst GrantsFirst (sym log) l.in_order;
    unread = λ i. l.unread (subst (λ m. IsReading (view m) past) machine i);
    quiet = λ q. elim (l.quiet (quiet q)) [ inl all ↦ inl all | inr i ↦ inr (subst (λ m. IsReading (view m) past) (sym machine) i) ];
  }

  -- the machine was called, and told nothing
  pub log_called : (past since : Past) → ((c : Fault) → (view node.machine).fault ≡ Some c → (view node'.machine).fault ≡ Some c) → IsSameShape (view node.machine) (view node'.machine) → node'.pass.log ≡ node.pass.log → (node'.refused ≡ false → node.refused ≡ false) → node'.quiet ≡ false
      → since.told ≡ past.told → since.allowed ++ hand_of node'.hand ≡ past.allowed ++ hand_of node.hand → ((n q : ℕ) → IsPending n since q → IsPending n past q) → LogStands view node past → LogStands view node' since
  log_called past since stays shape log refused quiet told allowed pending l = record {
    granted = ap tickets_in log ∙ (l.granted ∙ sym allowed);
    own = still_of _ _ _ _ shape.source (ap tickets_in log) l.own;
    told = subst (λ (ls : List Logged). IsPrefix (told_in ls) since.told) (sym log) (subst (λ (es : List Event). IsPrefix (told_in node.pass.log) es) (sym told) l.told);
    all_told = λ r. ap told_in log ∙ (l.all_told (refused r) ∙ sym told);
    in_order = subst GrantsFirst (sym log) l.in_order;
    unread = λ i. told ∙ l.unread (reading_back (view node.machine) (view node'.machine) past since stays shape.source shape.out_lanes pending i);
    quiet = λ q. absurd (let no : true ≡ false = sym q ∙ quiet in cc (no));
  }

  -- the machine was asked what it has to tell, and had nothing
  pub log_asked : (past : Past) → ((c : Fault) → (view node.machine).fault ≡ Some c → (view node'.machine).fault ≡ Some c) → IsSameShape (view node.machine) (view node'.machine) → node'.pass.log ≡ node.pass.log → node'.hand ≡ node.hand → (node'.refused ≡ false → node.refused ≡ false)
      → (past.told ≡ past.task.tells past.feeds) ⊎ IsReading (view node'.machine) past → LogStands view node past → LogStands view node' past
  log_asked past stays shape log hand refused quiet l = record {
    granted = ap tickets_in log ∙ (l.granted ∙ ap (λ (h : Option Ticket). past.allowed ++ hand_of h) (sym hand));
    own = still_of _ _ _ _ shape.source (ap tickets_in log) l.own;
    told = subst (λ (ls : List Logged). IsPrefix (told_in ls) past.told) (sym log) l.told;
    all_told = λ r. ap told_in log ∙ l.all_told (refused r);
    in_order = subst GrantsFirst (sym log) l.in_order;
    unread = λ i. l.unread (reading_back (view node.machine) (view node'.machine) past past stays shape.source shape.out_lanes (λ n q x. x) i);
    quiet = λ q. quiet;
  }

  -- a source that is reading was granted a unit
  pub log_granted : (past : Past) (source place : ℕ) → (view node.machine).source ≡ Some source → node'.machine ≡ node.machine → node'.pass.log ≡ node.pass.log ++ logged place (Grant source) ∷ [] → node.hand ≡ None → node'.hand ≡ Some (record { source = source; place = place }) → (node'.refused ≡ false → node.refused ≡ false) → (node'.quiet ≡ true → node.quiet ≡ true)
      → IsReading (view node.machine) past → LogStands view node past → LogStands view node' past
  log_granted past source place is machine log empty hand refused quiet reading l =
      let entry : Logged = logged place (Grant source) in
      let ticket : Ticket = record { source = source; place = place } in
      let none : past.told ≡ [] = l.unread reading in
      let before : told_in node.pass.log ≡ [] = front_of_nothing (told_in node.pass.log) (subst (λ (es : List Event). IsPrefix (told_in node.pass.log) es) none l.told) in
      let now : told_in node'.pass.log ≡ [] = ap told_in log ∙ (told_more node.pass.log entry ∙ (append-nil (told_in node.pass.log) ∙ before)) in
      let is_own : Ticket → Type 0 = λ (t : Ticket). (view node.machine).source ≡ Some t.source in
      let held : past.allowed ++ hand_of node.hand ≡ past.allowed = ap (λ (h : Option Ticket). past.allowed ++ hand_of h) empty ∙ append-nil past.allowed in record {
        granted = ap tickets_in log ∙ (tickets_more node.pass.log entry ∙ (ap (λ (ts : List Ticket). ts ++ ticket ∷ []) (l.granted ∙ held) ∙ ap (λ (h : Option Ticket). past.allowed ++ hand_of h) (sym hand)));
        own = still_of _ _ _ _ (ap (λ m. (view m).source) machine) (ap tickets_in log ∙ tickets_more node.pass.log entry)
            (All-append is_own (tickets_in node.pass.log) (ticket ∷ []) l.own (All-cons is_own ticket [] is (All-nil is_own)));
        told = subst (λ (es : List Event). IsPrefix es past.told) (sym now) (past.told, refl);
        all_told = λ r. now ∙ sym none;
        in_order = record { grants = node'.pass.log; tellings = []; all = sym (append-nil node'.pass.log); only_grants = now; no_grants = refl };
        unread = λ i. none;
        quiet = λ q. inr (subst (λ m. IsReading (view m) past) (sym machine) reading);
      }

  -- an event was to be told, and the cell didn't take it
  pub log_lost : (past : Past) (e : Event) → (view node'.machine).source ≡ (view node.machine).source → node'.pass.log ≡ node.pass.log → node'.hand ≡ node.hand → node'.refused ≡ true → node'.quiet ≡ false → (IsReading (view node'.machine) (was_told past e) → ⊥) → LogStands view node past → LogStands view node' (was_told past e)
  log_lost past e source log hand refused quiet over l = record {
    granted = ap tickets_in log ∙ (l.granted ∙ ap (λ (h : Option Ticket). past.allowed ++ hand_of h) (sym hand));
    own = still_of _ _ _ _ source (ap tickets_in log) l.own;
    told = subst (λ (ls : List Logged). IsPrefix (told_in ls) (past.told ++ e ∷ [])) (sym log) (prefix_trans (told_in node.pass.log) past.told (past.told ++ e ∷ []) l.told (e ∷ [], refl));
    all_told = λ r. absurd (let no : true ≡ false = sym refused ∙ r in cc (no));
    in_order = subst GrantsFirst (sym log) l.in_order;
    unread = λ i. absurd (over i);
    quiet = λ q. absurd (let no : true ≡ false = sym q ∙ quiet in cc (no));
  }

  -- an event was told
  pub log_told : (past : Past) (e : Event) (place : ℕ) → (view node'.machine).source ≡ (view node.machine).source → IsTold e → node'.pass.log ≡ node.pass.log ++ logged place e ∷ [] → node'.hand ≡ node.hand → node.refused ≡ false → node'.quiet ≡ false → (IsReading (view node'.machine) (was_told past e) → ⊥) → LogStands view node past → LogStands view node' (was_told past e)
  log_told past e place source is log hand refused quiet over l =
      let entry : Logged = logged place e in
      let now : told_in node'.pass.log ≡ past.told ++ e ∷ [] = ap told_in log ∙ (told_more node.pass.log entry ∙ (ap (λ (es : List Event). told_in node.pass.log ++ es) (telling_told e is) ∙ ap (λ (es : List Event). es ++ e ∷ []) (l.all_told refused))) in
      let o = l.in_order in record {
        granted = tickets_told node.pass.log node'.pass.log e place is log ∙ (l.granted ∙ ap (λ (h : Option Ticket). past.allowed ++ hand_of h) (sym hand));
        own = still_of _ _ _ _ source (tickets_told node.pass.log node'.pass.log e place is log) l.own;
        told = subst (λ (es : List Event). IsPrefix es (past.told ++ e ∷ [])) (sym now) (prefix_self (past.told ++ e ∷ []));
        all_told = λ r. now;
        in_order = record {
          grants = o.grants;
          tellings = o.tellings ++ entry ∷ [];
          all = log ∙ (ap (λ (ls : List Logged). ls ++ entry ∷ []) o.all ∙ append_assoc o.grants o.tellings (entry ∷ []));
          only_grants = o.only_grants;
          no_grants = tickets_told o.tellings (o.tellings ++ entry ∷ []) e place is refl ∙ o.no_grants;
        };
        unread = λ i. absurd (over i);
        quiet = λ q. absurd (let no : true ≡ false = sym q ∙ quiet in cc (no));
      }
