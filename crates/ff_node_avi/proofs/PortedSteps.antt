-- What a machine that gives closed streams at several ports does at each step.
use Rattle.std.specs.Prelude.{◌≡◌, ◌≢◌, ℕ, zero, suc, ◌+◌, ◌<◌, ◌≤◌, ◌==◌, Bool, true, false, cond, List, [], ◌∷◌, ◌++◌, length, take, slice_get, nat_le, refl, Option, Some, None}
use Rattle.std.proofs.Common.{sym, subst, ap, inl, inr, ◌∙◌, arith, append-nil, length-append}
use Rattle.std.proofs.lemmas.List.{take_all}
use Rattle.std.proofs.lemmas.Bool.Decides.{nat_tests}
use Rattle.ff_frame.specs.declared.packet.Pkt.{Pkt}
use Rattle.ff_frame.specs.declared.event.Event.{Event}
use Rattle.ff_frame.specs.declared.event.Ticket.{Ticket}
use Rattle.ff_stream.specs.declared.item.Item.{Item}
use Rattle.ff_stream.specs.declared.item.Item.TheVariants.{Packet}
use Rattle.ff_stream.specs.Stream.{Mark, still_open, LiesBelow}
use Rattle.ff_stream.specs.Items.{with_item}
use Rattle.ff_stream.specs.Ports.{stream_at, AllBelow}
use Rattle.ff_stream.specs.laws.Order.{below_trans, nothing_below, same_stream}
use Rattle.ff_net.specs.declared.fault.Fault.{Fault}
use Rattle.ff_net.specs.Ways.{Flow, with_item_at}
use Rattle.ff_net.specs.Pasts.{Past, Task, start, due, gave_item, was_asked, was_allowed, was_stopped, was_told}
use Rattle.ff_net.proofs.Flows.{stream_at-with_item_same, stream_at-with_item_other, same_or_not}
use Rattle.ff_node_demux.specs.Sources.{count}
use Rattle.ff_node_avi.specs.Ported.{items_at, flows, all_at, part_at, all_of, units_in, waits_at, IsSettled, HasGiven, Gives}
use Rattle.ff_node_avi.specs.laws.PortedLaws.{flows_at, items_append, part_below, parts_below, closed_part, ported_due}

pub same_port : (p : ℕ) → (p == p) ≡ true
same_port p = grind (arith, nat_tests)

pub other_port : (p q : ℕ) → q ≢ p → (p == q) ≡ false
other_port p q n = pick (p == q) refl
  where
    pick : (b : Bool) → (p == q) ≡ b → (p == q) ≡ false
    pick true e = let same : q ≡ p = grind (arith, nat_tests) in absurd (n same)
    pick false e = e

pub waits_here : (p : ℕ) (x : Pkt) → waits_at (Some (p, x)) p ≡ Packet x ∷ []
waits_here p x = ap (λ (b : Bool). cond b (Packet x ∷ []) []) (same_port p)

pub waits_elsewhere : (p q : ℕ) (x : Pkt) → q ≢ p → waits_at (Some (p, x)) q ≡ []
waits_elsewhere p q x n = ap (λ (b : Bool). cond b (Packet x ∷ []) []) (other_port p q n)

get_within : (us : List (ℕ × Item)) (n : ℕ) (u : ℕ × Item) → slice_get us n ≡ Some u → n < length us
get_within [] n u e = cc
get_within (y ∷ ys) zero u e = omega arith
get_within (y ∷ ys) (suc n) u e = let r = get_within ys n u e in omega (arith, r)

take_one_more : (us : List (ℕ × Item)) (n : ℕ) (u : ℕ × Item) → slice_get us n ≡ Some u → take (n + 1) us ≡ take n us ++ u ∷ []
take_one_more [] n u e = cc
take_one_more (y ∷ ys) zero u e = let same : y ≡ u = cc in ap (λ (z : ℕ × Item). z ∷ []) same
take_one_more (y ∷ ys) (suc n) u e = let k : suc n + 1 ≡ suc (n + 1) = omega arith in rw k (ap (λ (zs : List (ℕ × Item)). y ∷ zs) (take_one_more ys n u e))

some_differs : {A : Type 0} (a b : A) → Some a ≡ Some b → a ≡ b
some_differs a b e = cc

none_of : {P : Type 0} (w : ℕ × Pkt) → None ≡ Some w → P
none_of w e = cc

module _ (us : List (ℕ × Item)) (m : Mark) (ports : ℕ) where
  -- a port had nothing to give
  pub ported_asked : (n : ℕ) (ended ticket : Bool) (waiting : Option (ℕ × Pkt)) (going closed : ℕ → Bool) (fault : Option Fault) (past : Past) (port : ℕ)
      → (fault ≡ None → IsSettled ended ticket waiting closed port)
      → Gives us m ports n ended ticket waiting going closed fault past
      → Gives us m ports n ended ticket waiting going closed fault (was_asked past port)
  ported_asked n ended ticket waiting going closed fault past port settled l = record {
    means = l.means;
    source = l.source;
    fed_nothing = l.fed_nothing;
    tickets = l.tickets;
    in_range = l.in_range;
    at_end = l.at_end;
    closes = l.closes;
    stopped = l.stopped;
    goes = l.goes;
    held = l.held;
    shut = l.shut;
    gave = l.gave;
    below = l.below;
    idle = λ none p go asked. elim asked [
      | inl e ↦ subst (λ (q : ℕ). IsSettled ended ticket waiting closed q) e (settled none)
      | inr i ↦ l.idle none p go i
    ];
  }

  -- a ticket
  pub ported_allowed : (n : ℕ) (ended : Bool) (going closed : ℕ → Bool) (fault : Option Fault) (past : Past) (t : Ticket)
      → Gives us m ports n ended false None going closed fault past
      → Gives us m ports n ended true None going closed fault (was_allowed past t)
  ported_allowed n ended going closed fault past t l = record {
    means = l.means;
    source = l.source;
    fed_nothing = l.fed_nothing;
    tickets = omega (arith, l.tickets, length-append past.allowed (t ∷ []));
    in_range = l.in_range;
    at_end = l.at_end;
    closes = l.closes;
    stopped = l.stopped;
    goes = l.goes;
    held = λ w e. none_of w e;
    shut = l.shut;
    gave = l.gave;
    below = l.below;
    idle = λ none p go asked. absurd asked;
  }

  pub ported_told : (n : ℕ) (ended ticket : Bool) (waiting : Option (ℕ × Pkt)) (going closed : ℕ → Bool) (fault : Option Fault) (past : Past) (e : Event)
      → Gives us m ports n ended ticket waiting going closed fault past
      → Gives us m ports n ended ticket waiting going closed fault (was_told past e)
  ported_told n ended ticket waiting going closed fault past e l = record {
    means = l.means;
    source = l.source;
    fed_nothing = l.fed_nothing;
    tickets = l.tickets;
    in_range = l.in_range;
    at_end = l.at_end;
    closes = l.closes;
    stopped = l.stopped;
    goes = l.goes;
    held = l.held;
    shut = l.shut;
    gave = l.gave;
    below = l.below;
    idle = l.idle;
  }

  -- its own source failed
  pub ported_failed : (n : ℕ) (ended ticket : Bool) (waiting : Option (ℕ × Pkt)) (going closed : ℕ → Bool) (fault : Option Fault) (f : Fault) (past : Past)
      → Gives us m ports n ended ticket waiting going closed fault past
      → Gives us m ports n ended ticket waiting going closed (Some f) past
  ported_failed n ended ticket waiting going closed fault f past l = record {
    means = l.means;
    source = l.source;
    fed_nothing = l.fed_nothing;
    tickets = l.tickets;
    in_range = l.in_range;
    at_end = l.at_end;
    closes = l.closes;
    stopped = l.stopped;
    goes = l.goes;
    held = l.held;
    shut = l.shut;
    gave = l.gave;
    below = l.below;
    idle = λ none p go asked. cc;
  }

  -- an output was stopped: what waits there is dropped
  pub ported_stopped : (n : ℕ) (ended ticket : Bool) (waiting waiting' : Option (ℕ × Pkt)) (going going' closed : ℕ → Bool) (fault : Option Fault) (past : Past) (port : ℕ)
      → going' port ≡ false → ((q : ℕ) → q ≢ port → going' q ≡ going q)
      → ((w : ℕ × Pkt) → waiting' ≡ Some w → (waiting ≡ Some w) × (w.0 ≢ port))
      → ((q : ℕ) → q ≢ port → waits_at waiting' q ≡ waits_at waiting q)
      → Gives us m ports n ended ticket waiting going closed fault past
      → Gives us m ports n ended ticket waiting' going' closed fault (was_stopped past port)
  ported_stopped n ended ticket waiting waiting' going going' closed fault past port out others kept same l =
      let differs : (q : ℕ) → going' q ≡ true → q ≢ port = λ q go e. (let f : going' q ≡ false = ap going' e ∙ out in cc (f, go)) in
      let went : (q : ℕ) → going' q ≡ true → going q ≡ true = λ q go. sym (others q (differs q go)) ∙ go in
      record {
        means = l.means;
        source = l.source;
        fed_nothing = l.fed_nothing;
        tickets = l.tickets;
        in_range = l.in_range;
        at_end = l.at_end;
        closes = l.closes;
        stopped = λ q go. ((l.stopped q (went q go)).0, λ i. elim i [ inl e ↦ differs q go (sym e) | inr i ↦ (l.stopped q (went q go)).1 i ]);
        goes = λ q lt n. others q (λ e. n (inl (sym e))) ∙ l.goes q lt (λ i. n (inr i));
        held = λ w e. let k = kept w e in let h = l.held w k.0 in (others w.0 k.1 ∙ h.0, h.1, h.2);
        shut = l.shut;
        gave = λ q go.
            let g = l.gave q (went q go) in
            record { items = ap (λ (zs : List Item). (stream_at past.gave q).items ++ zs) (same q (differs q go)) ∙ g.items; mark = g.mark };
        below = l.below;
        idle = λ none q go asked.
            let s = l.idle none q (went q go) asked in
            record { none = same q (differs q go) ∙ s.none; unticketed = s.unticketed; shut = s.shut };
      }

  -- ---- under a ticket

  ticketed : (ended ticket : Bool) (waiting : Option (ℕ × Pkt)) (closed : ℕ → Bool) (p : ℕ) → ended ≡ false → ticket ≡ true → IsSettled ended ticket waiting closed p → ⊥
  ticketed ended ticket waiting closed p e t s = let f = s.unticketed e in cc (f, t)

  -- a unit is used, which then waits, or is dropped where its port was stopped
  pub ported_used : (n : ℕ) (waiting' : Option (ℕ × Pkt)) (going closed : ℕ → Bool) (past : Past) (port : ℕ) (x : Pkt)
      → slice_get us n ≡ Some (port, Packet x)
      → ((w : ℕ × Pkt) → waiting' ≡ Some w → going w.0 ≡ true)
      → ((q : ℕ) → going q ≡ true → waits_at waiting' q ≡ items_at q ((port, Packet x) ∷ []))
      → Gives us m ports n false true None going closed None past
      → Gives us m ports (n + 1) false false waiting' going closed None past
  ported_used n waiting' going closed past port x get kept waits l =
      let more = get_within us n (port, Packet x) get in
      let one = take_one_more us n (port, Packet x) get in
      record {
        means = l.means;
        source = l.source;
        fed_nothing = l.fed_nothing;
        tickets = omega (arith, l.tickets);
        in_range = omega (arith, more);
        at_end = λ e. cc;
        closes = l.closes;
        stopped = l.stopped;
        goes = l.goes;
        held = λ w e. (kept w e, refl, refl);
        shut = l.shut;
        gave = λ q go.
            let g = l.gave q go in
            let items : (stream_at past.gave q).items ≡ items_at q (take n us) = sym (append-nil (stream_at past.gave q).items) ∙ g.items in
            record {
              items = ap (λ (zs : List Item). (stream_at past.gave q).items ++ zs) (waits q go)
                  ∙ (ap (λ (zs : List Item). zs ++ items_at q ((port, Packet x) ∷ [])) items
                  ∙ (sym (items_append q (take n us) ((port, Packet x) ∷ [])) ∙ ap (items_at q) (sym one)));
              mark = g.mark;
            };
        below = λ q. below_trans (stream_at past.gave q) (stream_at (flows (part_at us m (n + count false)) ports) q) (stream_at (flows (part_at us m (n + 1 + count false)) ports) q) (l.below q)
            (parts_below us m (n + count false) (n + 1 + count false) ports (omega arith) q);
        idle = λ none q go asked. absurd (ticketed false true None closed q refl refl (l.idle refl q go asked));
      }

  -- the end is found
  pub ported_ended : (n : ℕ) (going closed : ℕ → Bool) (fault : Option Fault) (past : Past) → n ≡ length us
      → Gives us m ports n false true None going closed None past
      → Gives us m ports n true false None going closed fault past
  ported_ended n going closed fault past all l = record {
    means = l.means;
    source = l.source;
    fed_nothing = l.fed_nothing;
    tickets = omega (arith, l.tickets);
    in_range = l.in_range;
    at_end = λ e. all;
    closes = l.closes;
    stopped = l.stopped;
    goes = l.goes;
    held = λ w e. none_of w e;
    shut = λ q e. refl;
    gave = l.gave;
    below = λ q. below_trans (stream_at past.gave q) (stream_at (flows (part_at us m (n + count false)) ports) q) (stream_at (flows (part_at us m (n + count true)) ports) q) (l.below q)
        (parts_below us m (n + count false) (n + count true) ports (omega arith) q);
    idle = λ none q go asked. absurd (ticketed false true None closed q refl refl (l.idle refl q go asked));
  }

  -- ---- an item is given

  -- what was given is due
  pub record Gave (n : ℕ) (ended ticket : Bool) (going closed : ℕ → Bool) (fault : Option Fault) (past : Past) (port : ℕ) (x : Item) : Type 0 where
    pub now : Gives us m ports n ended ticket None going closed fault (gave_item past port x)
    pub unclosed : (stream_at past.gave port).mark ≡ still_open
    pub below : LiesBelow (with_item (stream_at past.gave port) x) (stream_at (due past) port)

  -- where an item makes a port's stream the one of its units so far, all lie below these
  grown : (n : ℕ) (past : Past) (port : ℕ) (x : Item) → port < ports → AllBelow past.gave (flows (part_at us m n) ports)
      → with_item (stream_at past.gave port) x ≡ part_at us m n port
      → AllBelow (with_item_at past.gave port x) (flows (part_at us m n) ports)
  grown n past port x lt below is q = elim (same_or_not q port) [
    | inl e ↦ subst (λ (k : ℕ). LiesBelow (stream_at (with_item_at past.gave port x) k) (stream_at (flows (part_at us m n) ports) k)) (sym e)
        (inl (stream_at-with_item_same past.gave port x ∙ (is ∙ sym (flows_at (part_at us m n) ports port lt))))
    | inr d ↦ subst (λ (s : Flow). LiesBelow s (stream_at (flows (part_at us m n) ports) q)) (sym (stream_at-with_item_other past.gave port q x d)) (below q)
  ]

  open_at : (n p : ℕ) → n ≤ length us → part_at us m n p ≡ record { items = items_at p (take n us); mark = still_open }
  open_at n p le = let t : nat_le n (length us) ≡ true = grind (arith, nat_tests) in same_stream (part_at us m n p) (record { items = items_at p (take n us); mark = still_open }) refl (ap (λ (b : Bool). cond b still_open m) t)

  -- the packet that waits
  pub ported_gives : (n : ℕ) (going closed : ℕ → Bool) (fault : Option Fault) (past : Past) (port : ℕ) (x : Pkt)
      → Gives us m ports n false false (Some (port, x)) going closed fault past
      → Gave n false false going closed fault past port (Packet x)
  ported_gives n going closed fault past port x l =
      let h = l.held (port, x) refl in
      let there = l.stopped port h.0 in
      let g = l.gave port h.0 in
      let unshut : closed port ≡ false = not_shut (closed port) refl in
      let stays_open : (stream_at past.gave port).mark ≡ still_open = g.mark ∙ ap (λ (b : Bool). cond b m still_open) unshut in
      let items : (stream_at past.gave port).items ++ Packet x ∷ [] ≡ items_at port (take n us) =
      ap (λ (zs : List Item). (stream_at past.gave port).items ++ zs) (sym (waits_here port x)) ∙ g.items in
      let same : n + count false ≡ n = omega arith in
      let is : with_item (stream_at past.gave port) (Packet x) ≡ part_at us m n port =
      same_stream (with_item (stream_at past.gave port) (Packet x)) (record { items = items_at port (take n us); mark = still_open }) items stays_open ∙ sym (open_at n port l.in_range) in
      record {
        now = record {
          means = l.means;
          source = l.source;
          fed_nothing = l.fed_nothing;
          tickets = l.tickets;
          in_range = l.in_range;
          at_end = l.at_end;
          closes = l.closes;
          stopped = l.stopped;
          goes = l.goes;
          held = λ w e. none_of w e;
          shut = l.shut;
          gave = λ q go. elim (same_or_not q port) [
            | inl e ↦ subst (λ (k : ℕ). HasGiven us m n None (closed k) k (stream_at (with_item_at past.gave port (Packet x)) k)) (sym e)
                (subst (λ (s : Flow). HasGiven us m n None (closed port) port s) (sym (stream_at-with_item_same past.gave port (Packet x)))
                (record { items = append-nil ((stream_at past.gave port).items ++ Packet x ∷ []) ∙ items; mark = g.mark }))
            | inr d ↦ subst (λ (s : Flow). HasGiven us m n None (closed q) q s) (sym (stream_at-with_item_other past.gave port q (Packet x) d))
                (let o = l.gave q go in record { items = ap (λ (zs : List Item). (stream_at past.gave q).items ++ zs) (sym (waits_elsewhere port q x d)) ∙ o.items; mark = o.mark })
          ];
          below = subst (λ (k : ℕ). AllBelow (with_item_at past.gave port (Packet x)) (flows (part_at us m k) ports)) (sym same)
              (grown n past port (Packet x) there.0 (subst (λ (k : ℕ). AllBelow past.gave (flows (part_at us m k) ports)) same l.below) is);
          idle = λ none q go asked. absurd asked;
        };
        unclosed = stays_open;
        below = subst (λ (s : Flow). LiesBelow s (stream_at (due past) port)) (sym is)
            (subst (λ (s : Flow). LiesBelow (part_at us m n port) s)
            (sym (ap (λ (ss : List Flow). stream_at ss port) (ported_due us m ports n false false (Some (port, x)) going closed fault past l) ∙ flows_at (part_at us m (length past.allowed)) ports port there.0))
            (part_below us m n (length past.allowed) port (omega (arith, l.tickets))));
      }
    where
      not_shut : (b : Bool) → closed port ≡ b → closed port ≡ false
      not_shut true c = let t = l.shut port c in cc
      not_shut false c = c

  -- the closing item of a port
  pub ported_closes : (n : ℕ) (ticket : Bool) (going closed closed' : ℕ → Bool) (fault : Option Fault) (past : Past) (port : ℕ) (x : Item)
      → going port ≡ true → closed port ≡ false → closed' port ≡ true → ((q : ℕ) → q ≢ port → closed' q ≡ closed q)
      → ((r : Flow) → with_item r x ≡ record { items = r.items; mark = m })
      → Gives us m ports n true ticket None going closed fault past
      → Gave n true ticket going closed' fault past port x
  ported_closes n ticket going closed closed' fault past port x go unshut now others is l =
      let there = l.stopped port go in
      let g = l.gave port go in
      let stays_open : (stream_at past.gave port).mark ≡ still_open = g.mark ∙ ap (λ (b : Bool). cond b m still_open) unshut in
      let all : n ≡ length us = l.at_end refl in
      let taken : take n us ≡ us = take_all n us (omega (arith, all)) in
      let items : (stream_at past.gave port).items ≡ items_at port us = sym (append-nil (stream_at past.gave port).items) ∙ (g.items ∙ ap (items_at port) taken) in
      let made : with_item (stream_at past.gave port) x ≡ all_at us m port = is (stream_at past.gave port) ∙ ap (λ (zs : List Item). record { items = zs; mark = m }) items in
      let grows : with_item (stream_at past.gave port) x ≡ part_at us m (n + count true) port = made ∙ sym (closed_part us m (n + count true) port (omega (arith, all))) in
      record {
        now = record {
          means = l.means;
          source = l.source;
          fed_nothing = l.fed_nothing;
          tickets = l.tickets;
          in_range = l.in_range;
          at_end = l.at_end;
          closes = l.closes;
          stopped = l.stopped;
          goes = l.goes;
          held = λ w e. none_of w e;
          shut = λ q e. refl;
          gave = λ q go. elim (same_or_not q port) [
            | inl e ↦ subst (λ (k : ℕ). HasGiven us m n None (closed' k) k (stream_at (with_item_at past.gave port x) k)) (sym e)
                (subst (λ (s : Flow). HasGiven us m n None (closed' port) port s) (sym (stream_at-with_item_same past.gave port x ∙ made))
                (record { items = append-nil (items_at port us) ∙ ap (items_at port) (sym taken); mark = sym (ap (λ (b : Bool). cond b m still_open) now) }))
            | inr d ↦ subst (λ (s : Flow). HasGiven us m n None (closed' q) q s) (sym (stream_at-with_item_other past.gave port q x d))
                (let o = l.gave q go in record { items = o.items; mark = o.mark ∙ ap (λ (b : Bool). cond b m still_open) (sym (others q d)) })
          ];
          below = grown (n + count true) past port x there.0 l.below grows;
          idle = λ none q go asked. absurd asked;
        };
        unclosed = stays_open;
        below = subst (λ (s : Flow). LiesBelow s (stream_at (due past) port)) (sym grows)
            (subst (λ (s : Flow). LiesBelow (part_at us m (n + count true) port) s)
            (sym (ap (λ (ss : List Flow). stream_at ss port) (ported_due us m ports n true ticket None going closed fault past l) ∙ flows_at (part_at us m (length past.allowed)) ports port there.0))
            (part_below us m (n + count true) (length past.allowed) port (omega (arith, l.tickets))));
      }

  -- nothing was done yet
  pub ported_start : (task : Task) (going closed : ℕ → Bool) → ((p : ℕ) → closed p ≡ false) → task.means ≡ all_of us m ports → task.source ≡ Some (units_in us m ports) → m ≢ still_open
      → ((p : ℕ) → going p ≡ true → p < ports) → ((p : ℕ) → p < ports → going p ≡ true)
      → Gives us m ports 0 false false None going closed None (start task)
  ported_start task going closed unshut means source closes there goes = record {
    means = means;
    source = source;
    fed_nothing = λ p. refl;
    tickets = refl;
    in_range = omega arith;
    at_end = λ e. cc;
    closes = closes;
    stopped = λ p go. (there p go, λ i. i);
    goes = λ p lt n. goes p lt;
    held = λ w e. none_of w e;
    shut = λ p e. (let f = unshut p in cc);
    gave = λ p go. record { items = refl; mark = sym (ap (λ (b : Bool). cond b m still_open) (unshut p)) };
    below = λ p. nothing_below (stream_at (flows (part_at us m 0) ports) p);
    idle = λ none p go asked. absurd asked;
  }
