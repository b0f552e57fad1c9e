-- What each step of a node changes.
use Rattle.std.proofs.Common.{◌≡◌, ◌≢◌, ℕ, ◌<◌, ◌≤◌, ◌⊎◌, inl, inr, Bool, true, false, List, length, slice_set, refl, ap, sym, ◌∙◌, subst, Option, None, Some, IsTrue, ◌↔◌, is_some}
use mathlib.Core.List.{IsPrefix}
use Rattle.std.proofs.lemmas.List.{length-set}
use Rattle.ff_stream.specs.declared.item.Item.{Item}
use Rattle.ff_stream.specs.declared.item.Item.TheVariants.{Broken}
use Rattle.ff_stream.specs.declared.item.Lane.{Lane}
use Rattle.ff_stream.specs.Stream.{Mark, still_open, LiesBelow, opened, opened_mark}
use Rattle.ff_stream.specs.Items.{Closes, with_item}
use Rattle.ff_stream.specs.laws.Order.{below_self, below_trans, with_item_above, with_item_open, with_item_closed, opened_below, prefix_self}
use Rattle.ff_stream.specs.Ports.{AllBelow, stream_at, IsClosed}
use Rattle.ff_net.specs.declared.fault.Fault.{Fault}
use Rattle.ff_net.specs.declared.ports.InPort.{InPort}
use Rattle.ff_net.specs.declared.ports.OutPort.{OutPort}
use Rattle.ff_net.specs.declared.node.Node.{Node}
use Rattle.ff_net.specs.Ways.{Flow}
use Rattle.ff_net.specs.Pasts.{Past, IsIn, gave_item, was_stopped}
use Rattle.ff_net.specs.laws.Laws.{NoMatter}
use Rattle.ff_net.specs.laws.Ports.{in_at, out_at, AreDone}
use Rattle.ff_net.specs.laws.Worlds.{Wire, put_on, take_on, finish_on}
use Rattle.ff_net.specs.laws.Nodes.{HeldIs, FedAllButOne, OutStands, InStands, IsSound, IsSame, MayClose, NodeStands, LogStands, in_wires_of, out_wires_of, HaveLanes}
use Rattle.ff_net.specs.laws.Steps.{Course}
use Rattle.ff_net.specs.laws.Views.{View}
use Rattle.ff_net.proofs.Logs.{fault_back, log_still}
use Rattle.ff_net.proofs.Flows.{same_or_not, stream_at-with_item_same, stream_at-with_item_other}
use Rattle.ff_net.proofs.Matters.{no_matter_lasts}
use Rattle.ff_net.proofs.Moments.{with_wire_same, with_wire_other, with_wire_keeps, with_wire_each}
use Rattle.ff_net.proofs.PortSteps.{set_own, out_step, in_step, in_keep, out_keep, out_apart, in_apart}

pub true_not_false : true ≡ false → ⊥
true_not_false e = cc

pub none_held : (o : Option Item) → is_some o ≡ false → o ≡ None
none_held None e = refl
none_held (Some x) e = cc

-- only the past changes
pub course_past : (ins outs : List ℕ) (world : ℕ → Wire) (past since : Past) → since.task ≡ past.task → IsPrefix past.allowed since.allowed → ((q : ℕ) → IsIn q past.stopped → IsIn q since.stopped) → Course ins outs world world past since
course_past ins outs world past since task allowed stopped = record {
  sent = λ w n. refl;
  taken = λ w n. refl;
  finished = λ w n. refl;
  sent_grows = λ w. below_self (world w).sent;
  taken_grows = λ w. below_self (world w).taken;
  stays_finished = λ w f. f;
  stays_taken = λ w f. refl;
  task = task;
  allowed = allowed;
  stopped = stopped;
}

-- an item is put on one of the node's wires
pub course_put : (ins outs : List ℕ) (world : ℕ → Wire) (w : ℕ) (x : Item) (past : Past) → IsIn w outs → (world w).sent.mark ≡ still_open → Course ins outs world (put_on world w x) past past
course_put ins outs world w x past i o =
    let w' : Wire = record { sent = with_item (world w).sent x; taken = (world w).taken; finished = (world w).finished } in record {
      sent = λ v n. ap (λ (u : Wire). u.sent) (with_wire_other world w w' v (λ e. n (subst (λ (r : ℕ). IsIn r outs) (sym e) i)));
      taken = λ v n. with_wire_keeps (λ (u : Wire). u.taken) world w w' v refl;
      finished = λ v n. with_wire_keeps (λ (u : Wire). u.finished) world w w' v refl;
      sent_grows = with_wire_each (λ a b. LiesBelow a.sent b.sent) world w w' (with_item_above (world w).sent x o) (λ u. below_self u.sent);
      taken_grows = with_wire_each (λ a b. LiesBelow a.taken b.taken) world w w' (below_self (world w).taken) (λ u. below_self u.taken);
      stays_finished = λ v f. with_wire_keeps (λ (u : Wire). u.finished) world w w' v refl ∙ f;
      stays_taken = λ v f. with_wire_keeps (λ (u : Wire). u.taken) world w w' v refl;
      task = refl;
      allowed = prefix_self past.allowed;
      stopped = λ q s. s;
    }

pub course_take : (ins outs : List ℕ) (world : ℕ → Wire) (w : ℕ) (x : Item) (past since : Past) → since.task ≡ past.task → since.allowed ≡ past.allowed → since.stopped ≡ past.stopped → IsIn w ins → (world w).finished ≡ false → (world w).taken.mark ≡ still_open → Course ins outs world (take_on world w x) past since
course_take ins outs world w x past since task allowed stopped i goes o =
    let w' : Wire = record { sent = (world w).sent; taken = with_item (world w).taken x; finished = (world w).finished } in record {
      sent = λ v n. with_wire_keeps (λ (u : Wire). u.sent) world w w' v refl;
      taken = λ v n. ap (λ (u : Wire). u.taken) (with_wire_other world w w' v (λ e. n (subst (λ (r : ℕ). IsIn r ins) (sym e) i)));
      finished = λ v n. with_wire_keeps (λ (u : Wire). u.finished) world w w' v refl;
      sent_grows = with_wire_each (λ a b. LiesBelow a.sent b.sent) world w w' (below_self (world w).sent) (λ u. below_self u.sent);
      taken_grows = with_wire_each (λ a b. LiesBelow a.taken b.taken) world w w' (with_item_above (world w).taken x o) (λ u. below_self u.taken);
      stays_finished = λ v f. with_wire_keeps (λ (u : Wire). u.finished) world w w' v refl ∙ f;
      stays_taken = λ v f. ap (λ (u : Wire). u.taken) (with_wire_other world w w' v (λ e. true_not_false (sym f ∙ (ap (λ (u : ℕ). (world u).finished) e ∙ goes))));
      task = task;
      allowed = subst (λ ts. IsPrefix past.allowed ts) (sym allowed) (prefix_self past.allowed);
      stopped = λ q s. subst (λ (qs : List ℕ). IsIn q qs) (sym stopped) s;
    }

pub finish_stays : (world : ℕ → Wire) (w v : ℕ) → (world v).finished ≡ true → (finish_on world w v).finished ≡ true
finish_stays world w v f =
    let w' : Wire = record { sent = (world w).sent; taken = (world w).taken; finished = true } in
    elim (same_or_not v w) [ inl e ↦ ap (λ (u : Wire). u.finished) (with_wire_same world w w' v e) | inr n ↦ ap (λ (u : Wire). u.finished) (with_wire_other world w w' v n) ∙ f ]

pub course_finish : (ins outs : List ℕ) (world : ℕ → Wire) (w : ℕ) (past : Past) → IsIn w ins → Course ins outs world (finish_on world w) past past
course_finish ins outs world w past i =
    let w' : Wire = record { sent = (world w).sent; taken = (world w).taken; finished = true } in record {
      sent = λ v n. with_wire_keeps (λ (u : Wire). u.sent) world w w' v refl;
      taken = λ v n. with_wire_keeps (λ (u : Wire). u.taken) world w w' v refl;
      finished = λ v n. ap (λ (u : Wire). u.finished) (with_wire_other world w w' v (λ e. n (subst (λ (r : ℕ). IsIn r ins) (sym e) i)));
      sent_grows = with_wire_each (λ a b. LiesBelow a.sent b.sent) world w w' (below_self (world w).sent) (λ u. below_self u.sent);
      taken_grows = with_wire_each (λ a b. LiesBelow a.taken b.taken) world w w' (below_self (world w).taken) (λ u. below_self u.taken);
      stays_finished = finish_stays world w;
      stays_taken = λ v f. with_wire_keeps (λ (u : Wire). u.taken) world w w' v refl;
      task = refl;
      allowed = prefix_self past.allowed;
      stopped = λ q s. s;
    }

-- an input that may close stays so where the past goes on with the same lanes
pub may_stay : {M : Type 0} (view : M → View) (node node' : Node M) (past since : Past) → (view node'.machine).in_lanes ≡ (view node.machine).in_lanes → length node'.outs.items ≡ length node.outs.items → (AreDone node.outs.items → AreDone node'.outs.items)
    → since.task ≡ past.task → AllBelow past.got since.got → ((q : ℕ) → IsIn q past.stopped → IsIn q since.stopped) → (q : ℕ) → MayClose view node past q → MayClose view node' since q
may_stay view node node' past since lanes len done task got grows q m = (
  subst (λ (n : ℕ). 0 < n) (sym len) m.0,
  elim (m.1) [
    | inl h ↦ inl (subst (λ (ls : List Lane). NoMatter ls (length node'.outs.items) since q) (sym lanes) (subst (λ (n : ℕ). NoMatter (view node.machine).in_lanes n since q) (sym len) (no_matter_lasts (view node.machine).in_lanes past since (length node.outs.items) q task got grows h)))
    | inr d ↦ inr (done d)
  ],
)

got_self : (past since : Past) → since.got ≡ past.got → AllBelow past.got since.got
got_self past since got = subst (λ (ss : List Flow). AllBelow past.got ss) (sym got) (λ q. below_self (stream_at past.got q))

-- an output where something was done wasn't done
pub may_out : {M : Type 0} (view : M → View) (node node' : Node M) (past since : Past) (p : ℕ) → (view node'.machine).in_lanes ≡ (view node.machine).in_lanes → length node'.outs.items ≡ length node.outs.items → p < length node.outs.items → (out_at node.outs.items p).done ≡ false
    → since.task ≡ past.task → since.got ≡ past.got → ((q : ℕ) → IsIn q past.stopped → IsIn q since.stopped) → (q : ℕ) → MayClose view node past q → MayClose view node' since q
may_out view node node' past since p lanes len there busy task got grows =
    may_stay view node node' past since lanes len (λ d. absurd (true_not_false (sym (d p there) ∙ busy))) task (got_self past since got) grows

pub may_machine : {M : Type 0} (view : M → View) (node node' : Node M) (past since : Past) → (view node'.machine).in_lanes ≡ (view node.machine).in_lanes → node'.outs.items ≡ node.outs.items
    → since.task ≡ past.task → since.got ≡ past.got → ((q : ℕ) → IsIn q past.stopped → IsIn q since.stopped) → (q : ℕ) → MayClose view node past q → MayClose view node' since q
may_machine view node node' past since lanes same task got grows =
    may_stay view node node' past since lanes (ap length same) (λ d. subst (λ (os : List OutPort). AreDone os) (sym same) d) task (got_self past since got) grows

module _ {M : Type 0} (view : M → View) where
  -- the machine changes, and no port
  pub machine_step : (node node' : Node M) (world : ℕ → Wire) (past since : Past) → NodeStands view node world past → (view node'.machine).stands since → (IsSound view node' → IsSound view node) → (node'.refused ≡ false → node.refused ≡ false)
      → node'.ins.items ≡ node.ins.items → node'.outs.items ≡ node.outs.items → (view node'.machine).in_lanes ≡ (view node.machine).in_lanes → since.task ≡ past.task → since.got ≡ past.got → since.gave ≡ past.gave → since.stopped ≡ past.stopped → LogStands view node' since
      → NodeStands view node' world since
  machine_step node node' world past since was now back fine same_ins same_outs same_lanes task got gave stopped log =
      let grows : (q : ℕ) → IsIn q past.stopped → IsIn q since.stopped = λ q i. subst (λ (qs : List ℕ). IsIn q qs) (sym stopped) i in record {
        machine = now;
        ins = λ q lt.
            let i : InPort = in_at node.ins.items q in
            subst (λ (is : List InPort). InStands (in_at is q) (world (in_at is q).wire) (stream_at since.got q) node'.refused (IsSound view node') (MayClose view node' since q)) (sym same_ins)
            (subst (λ (ss : List Flow). InStands i (world i.wire) (stream_at ss q) node'.refused (IsSound view node') (MayClose view node' since q)) (sym got)
            (in_keep i (world i.wire) (world i.wire) (stream_at past.got q) node.refused node'.refused (IsSound view node) (IsSound view node') (MayClose view node past q) (MayClose view node' since q) refl refl fine back (may_machine view node node' past since same_lanes same_outs task got grows q) (was.ins q (subst (λ (is : List InPort). q < length is) same_ins lt))));
        outs = λ q lt.
            let o : OutPort = out_at node.outs.items q in
            subst (λ (os : List OutPort). OutStands (out_at os q) (world (out_at os q).wire) (stream_at since.gave q) (IsIn q since.stopped) (IsSound view node')) (sym same_outs)
            (subst (λ (ss : List Flow). OutStands o (world o.wire) (stream_at ss q) (IsIn q since.stopped) (IsSound view node')) (sym gave)
            (out_keep o (world o.wire) (world o.wire) (stream_at past.gave q) (IsIn q past.stopped) (IsIn q since.stopped) (IsSound view node) (IsSound view node') refl (λ f. f) (grows q) back (was.outs q (subst (λ (os : List OutPort). q < length os) same_outs lt))));
        beyond = λ q le. ap (λ (ss : List Flow). stream_at ss q) got ∙ was.beyond q (subst (λ (is : List InPort). length is ≤ q) same_ins le);
        stopped = λ q i. ap (λ (os : List OutPort). (out_at os q).done) same_outs ∙ was.stopped q (subst (λ (qs : List ℕ). IsIn q qs) stopped i);
        log = log;
      }

  pub same_stands : (node node' : Node M) (world : ℕ → Wire) (past : Past) → IsSame node node' → NodeStands view node world past → NodeStands view node' world past
  same_stands node node' world past same was =
      machine_step node node' world past past was (subst (λ m. (view m).stands past) (sym same.machine) was.machine) (λ s. (sym same.refused ∙ s.0, ap (λ m. (view m).fault) (sym same.machine) ∙ s.1)) (λ r. sym same.refused ∙ r) same.ins same.outs (ap (λ m. (view m).in_lanes) same.machine) refl refl refl refl
      (log_still view node node' past same.machine (ap (λ p. p.log) same.pass) same.hand (λ r. sym same.refused ∙ r) (λ q. sym same.quiet ∙ q) was.log)

  -- a port that isn't done wasn't stopped
  pub busy_goes_on : (node : Node M) (world : ℕ → Wire) (past : Past) (p : ℕ) → NodeStands view node world past → (out_at node.outs.items p).done ≡ false → IsIn p past.stopped → ⊥
  busy_goes_on node world past p was busy i = true_not_false (sym (was.stopped p i) ∙ busy)

  -- an item that was pulled is held
  held_port : (old port : OutPort) (wire : Wire) (gave : Flow) (stopped stopped' sound sound' : Type 0) (x : Item) → OutStands old wire gave stopped sound → (sound' → sound) → old.held ≡ None → old.done ≡ false → gave.mark ≡ still_open
      → port.held ≡ Some x → port.done ≡ false → OutStands port wire (with_item gave x) stopped' sound'
  held_port old port wire gave stopped stopped' sound sound' x o back none busy unclosed held busy' =
      let same : wire.sent ≡ gave = subst (λ (h : Option Item). HeldIs h wire.sent gave) none (o.held busy) in record {
        held = λ d. subst (λ (h : Option Item). HeldIs h wire.sent (with_item gave x)) (sym held) (ap (λ (s : Flow). with_item s x) same);
        unclosed = λ d. o.unclosed busy;
        opened_below = below_trans (opened wire.sent) gave (with_item gave x) o.opened_below (with_item_above gave x unclosed);
        exact = λ s. below_trans wire.sent gave (with_item gave x) (o.exact (back s)) (with_item_above gave x unclosed);
        done = λ d. absurd (true_not_false (sym d ∙ busy'));
      }

  pub fill_some : (node node' : Node M) (world : ℕ → Wire) (past : Past) (p : ℕ) (x : Item) → NodeStands view node world past → (view node'.machine).stands (gave_item past p x) → ((c : Fault) → (view node.machine).fault ≡ Some c → (view node'.machine).fault ≡ Some c)
      → LogStands view node' (gave_item past p x) → (view node'.machine).in_lanes ≡ (view node.machine).in_lanes → node'.refused ≡ node.refused → node'.ins.items ≡ node.ins.items → node'.outs.items ≡ slice_set node.outs.items p (record (out_at node.outs.items p) { held = Some x })
      → p < length node.outs.items → (out_at node.outs.items p).held ≡ None → (out_at node.outs.items p).done ≡ false → (stream_at past.gave p).mark ≡ still_open
      → NodeStands view node' world (gave_item past p x)
  fill_some node node' world past p x was now stays log same_lanes refused ins outs there none busy unclosed =
      let back : IsSound view node' → IsSound view node = λ s. (sym refused ∙ s.0, fault_back (view node.machine).fault (view node'.machine).fault stays s.1) in
      let old : OutPort = out_at node.outs.items p in
      let port : OutPort = record old { held = Some x } in
      out_step view node node' world world past (gave_item past p x) p was now back (may_out view node node' past (gave_item past p x) p same_lanes (ap length outs ∙ simp length-set) there busy refl refl (λ q i. i)) log (λ r. sym refused ∙ r) (λ q i. i)
      port ins outs there refl (λ v. refl) (λ v. refl) (λ q n. stream_at-with_item_other past.gave p q x n) (λ q lt n. refl)
      (subst (λ (s : Flow). OutStands port (world old.wire) s (IsIn p past.stopped) (IsSound view node')) (sym (stream_at-with_item_same past.gave p x)) (held_port old port (world old.wire) (stream_at past.gave p) (IsIn p past.stopped) (IsIn p past.stopped) (IsSound view node) (IsSound view node') x (was.outs p there) back none busy unclosed refl busy))
      (λ q i n. i) (λ i. absurd (busy_goes_on node world past p was busy i))

  sent_port : (old port : OutPort) (wire : Wire) (gave : Flow) (stopped stopped' sound sound' : Type 0) (x : Item) → OutStands old wire gave stopped sound → old.held ≡ Some x → old.done ≡ false
      → port.held ≡ None → (IsTrue port.done ↔ Closes x) → OutStands port (record { sent = with_item wire.sent x; taken = wire.taken; finished = wire.finished }) gave stopped' sound'
  sent_port old port wire gave stopped stopped' sound sound' x o held busy none closes =
      let given : with_item wire.sent x ≡ gave = subst (λ (h : Option Item). HeldIs h wire.sent gave) held (o.held busy) in record {
        held = λ d. subst (λ (h : Option Item). HeldIs h (with_item wire.sent x) gave) (sym none) given;
        unclosed = λ d. with_item_open wire.sent x (λ c. true_not_false (sym (closes.1 c) ∙ d)) (o.unclosed busy);
        opened_below = subst (λ (s : Flow). LiesBelow (opened s) gave) (sym given) (opened_below gave);
        exact = λ s. inl given;
        done = λ d. inl (with_item_closed wire.sent x (closes.0 d));
      }

  pub send_done : (node node' : Node M) (world : ℕ → Wire) (past : Past) (p : ℕ) (x : Item) (closes : Bool) (ports lanes : List Lane) → NodeStands view node world past → node'.machine ≡ node.machine → LogStands view node' past → node'.refused ≡ node.refused → node'.ins.items ≡ node.ins.items
      → node'.outs.items ≡ slice_set node.outs.items p (record (out_at node.outs.items p) { held = None; done = closes }) → p < length node.outs.items → HaveLanes (out_wires_of node) ports lanes
      → (out_at node.outs.items p).held ≡ Some x → (out_at node.outs.items p).done ≡ false → (IsTrue closes ↔ Closes x)
      → NodeStands view node' (put_on world (out_at node.outs.items p).wire x) past
  send_done node node' world past p x closes ports lanes was machine log refused ins outs there apart held busy same_close =
      let old : OutPort = out_at node.outs.items p in
      let w = world old.wire in
      let w' : Wire = record { sent = with_item w.sent x; taken = w.taken; finished = w.finished } in
      let port : OutPort = record old { held = None; done = closes } in
      let back : IsSound view node' → IsSound view node = λ s. (sym refused ∙ s.0, ap (λ m. (view m).fault) (sym machine) ∙ s.1) in
      out_step view node node' world (put_on world old.wire x) past past p was (subst (λ m. (view m).stands past) (sym machine) was.machine) back (may_out view node node' past past p (ap (λ m. (view m).in_lanes) machine) (ap length outs ∙ simp length-set) there busy refl refl (λ q i. i)) log (λ r. sym refused ∙ r) (λ q i. i)
      port ins outs there refl (λ v. with_wire_keeps (λ (u : Wire). u.taken) world old.wire w' v refl) (λ v. with_wire_keeps (λ (u : Wire). u.finished) world old.wire w' v refl) (λ q n. refl)
      (λ q lt n. ap (λ (u : Wire). u.sent) (with_wire_other world old.wire w' (out_at node.outs.items q).wire (out_apart node.outs.items ports lanes apart p q there lt n)))
      (subst (λ (u : Wire). OutStands port u (stream_at past.gave p) (IsIn p past.stopped) (IsSound view node')) (sym (with_wire_same world old.wire w' old.wire refl)) (sent_port old port w (stream_at past.gave p) (IsIn p past.stopped) (IsIn p past.stopped) (IsSound view node) (IsSound view node') x (was.outs p there) held busy refl same_close))
      (λ q i n. i) (λ i. absurd (busy_goes_on node world past p was busy i))

  -- an output is told that its receiver has finished
  pub told : (node node' : Node M) (world : ℕ → Wire) (past : Past) (p : ℕ) (held : Option Item) → NodeStands view node world past → (view node'.machine).stands (was_stopped past p) → ((c : Fault) → (view node.machine).fault ≡ Some c → (view node'.machine).fault ≡ Some c)
      → LogStands view node' (was_stopped past p) → (view node'.machine).in_lanes ≡ (view node.machine).in_lanes → node'.refused ≡ node.refused → node'.ins.items ≡ node.ins.items → node'.outs.items ≡ slice_set node.outs.items p (record (out_at node.outs.items p) { held = held; done = true })
      → p < length node.outs.items → (out_at node.outs.items p).done ≡ false → (world (out_at node.outs.items p).wire).finished ≡ true
      → NodeStands view node' world (was_stopped past p)
  told node node' world past p held was now stays log same_lanes refused ins outs there busy finished =
      let back : IsSound view node' → IsSound view node = λ s. (sym refused ∙ s.0, fault_back (view node.machine).fault (view node'.machine).fault stays s.1) in
      let o = was.outs p there in
      out_step view node node' world world past (was_stopped past p) p was now back (may_out view node node' past (was_stopped past p) p same_lanes (ap length outs ∙ simp length-set) there busy refl refl (λ q i. inr i)) log (λ r. sym refused ∙ r) (λ q i. inr i)
      (record (out_at node.outs.items p) { held = held; done = true }) ins outs there refl (λ v. refl) (λ v. refl) (λ q n. refl) (λ q lt n. refl)
      (record {
        held = λ d. absurd (true_not_false d);
        unclosed = λ d. absurd (true_not_false d);
        opened_below = o.opened_below;
        exact = λ s. o.exact (back s);
        done = λ d. inr (finished, inl refl);
      })
      (λ q i n. elim i [ inl e ↦ absurd (n (sym e)) | inr j ↦ j ]) (λ i. refl)

  -- Broken is put in place of what is held
  pub broke : (node node' : Node M) (world : ℕ → Wire) (past : Past) (p : ℕ) (ports lanes : List Lane) → NodeStands view node world past → node'.machine ≡ node.machine → LogStands view node' past → node'.refused ≡ node.refused → node'.ins.items ≡ node.ins.items
      → node'.outs.items ≡ slice_set node.outs.items p (record (out_at node.outs.items p) { done = true }) → p < length node.outs.items → HaveLanes (out_wires_of node) ports lanes → (out_at node.outs.items p).done ≡ false → (IsSound view node → ⊥)
      → NodeStands view node' (put_on world (out_at node.outs.items p).wire Broken) past
  broke node node' world past p ports lanes was machine log refused ins outs there apart busy faulty =
      let old : OutPort = out_at node.outs.items p in
      let o = was.outs p there in
      let w = world old.wire in
      let w' : Wire = record { sent = with_item w.sent Broken; taken = w.taken; finished = w.finished } in
      let port : OutPort = record old { done = true } in
      let back : IsSound view node' → IsSound view node = λ s. (sym refused ∙ s.0, ap (λ m. (view m).fault) (sym machine) ∙ s.1) in
      let with_mark : Mark → Flow = λ m. record { items = w.sent.items; mark = m } in
      let same : opened (with_item w.sent Broken) ≡ opened w.sent = ap with_mark (sym (ap opened_mark (o.unclosed busy))) in
      out_step view node node' world (put_on world old.wire Broken) past past p was (subst (λ m. (view m).stands past) (sym machine) was.machine) back (may_out view node node' past past p (ap (λ m. (view m).in_lanes) machine) (ap length outs ∙ simp length-set) there busy refl refl (λ q i. i)) log (λ r. sym refused ∙ r) (λ q i. i)
      port ins outs there refl (λ v. with_wire_keeps (λ (u : Wire). u.taken) world old.wire w' v refl) (λ v. with_wire_keeps (λ (u : Wire). u.finished) world old.wire w' v refl) (λ q n. refl)
      (λ q lt n. ap (λ (u : Wire). u.sent) (with_wire_other world old.wire w' (out_at node.outs.items q).wire (out_apart node.outs.items ports lanes apart p q there lt n)))
      (subst (λ (u : Wire). OutStands port u (stream_at past.gave p) (IsIn p past.stopped) (IsSound view node')) (sym (with_wire_same world old.wire w' old.wire refl)) (record {
        held = λ d. absurd (true_not_false d);
        unclosed = λ d. absurd (true_not_false d);
        opened_below = subst (λ (s : Flow). LiesBelow s (stream_at past.gave p)) (sym same) o.opened_below;
        exact = λ s. absurd (faulty (back s));
        done = λ d. inl (with_item_closed w.sent Broken tt);
      }))
      (λ q i n. i) (λ i. absurd (busy_goes_on node world past p was busy i))

  -- an item was taken, and fed or refused
  pub took : (node node' : Node M) (world : ℕ → Wire) (past since : Past) (p : ℕ) (x : Item) (ports lanes : List Lane) → NodeStands view node world past → (view node'.machine).stands since → ((c : Fault) → (view node.machine).fault ≡ Some c → (view node'.machine).fault ≡ Some c) → node.refused ≡ false
      → ((q : ℕ) → MayClose view node past q → MayClose view node' since q) → LogStands view node' since → node'.ins.items ≡ node.ins.items → node'.outs.items ≡ node.outs.items → p < length node.ins.items → HaveLanes (in_wires_of node) ports lanes
      → (in_at node.ins.items p).done ≡ false → since.gave ≡ past.gave → since.stopped ≡ past.stopped → ((q : ℕ) → q ≢ p → stream_at since.got q ≡ stream_at past.got q)
      → FedAllButOne (stream_at since.got p) (with_item (world (in_at node.ins.items p).wire).taken x) → (node'.refused ≡ false → stream_at since.got p ≡ with_item (world (in_at node.ins.items p).wire).taken x)
      → NodeStands view node' (take_on world (in_at node.ins.items p).wire x) since
  took node node' world past since p x ports lanes was now stays fresh may log ins outs there apart busy gave stopped got lacks exact =
      let old : InPort = in_at node.ins.items p in
      let w = world old.wire in
      let w' : Wire = record { sent = w.sent; taken = with_item w.taken x; finished = w.finished } in
      let back : IsSound view node' → IsSound view node = λ s. (fresh, fault_back (view node.machine).fault (view node'.machine).fault stays s.1) in
      let i = was.ins p there in
      in_step view node node' world (take_on world old.wire x) past since p was now back may log (λ r. fresh) (λ q s. subst (λ (qs : List ℕ). IsIn q qs) (sym stopped) s)
      old outs (ins ∙ sym (set_own node.ins.items p _)) there gave stopped got (λ v. with_wire_keeps (λ (u : Wire). u.sent) world old.wire w' v refl) (λ v f. with_wire_keeps (λ (u : Wire). u.finished) world old.wire w' v refl ∙ f)
      (λ q lt n. (
        ap (λ (u : Wire). u.taken) (with_wire_other world old.wire w' (in_at node.ins.items q).wire (in_apart node.ins.items ports lanes apart p q there lt n)),
        with_wire_keeps (λ (u : Wire). u.finished) world old.wire w' (in_at node.ins.items q).wire refl,
      ))
      (subst (λ (u : Wire). InStands old u (stream_at since.got p) node'.refused (IsSound view node') (MayClose view node' since p)) (sym (with_wire_same world old.wire w' old.wire refl)) (record {
        fed = lacks;
        exact = exact;
        flag = i.flag;
        reason = λ d s. absurd (true_not_false (sym d ∙ busy));
      }))

  -- an input is finished, and with reason
  pub closed : (node node' : Node M) (world : ℕ → Wire) (past : Past) (p : ℕ) (ports lanes : List Lane) → NodeStands view node world past → node'.machine ≡ node.machine → LogStands view node' past → node'.refused ≡ node.refused → node'.outs.items ≡ node.outs.items
      → node'.ins.items ≡ slice_set node.ins.items p (record (in_at node.ins.items p) { done = true }) → p < length node.ins.items → HaveLanes (in_wires_of node) ports lanes
      → (IsSound view node → IsClosed (world (in_at node.ins.items p).wire).taken ⊎ MayClose view node past p)
      → NodeStands view node' (finish_on world (in_at node.ins.items p).wire) past
  closed node node' world past p ports lanes was machine log refused outs ins there apart why =
      let old : InPort = in_at node.ins.items p in
      let w = world old.wire in
      let w' : Wire = record { sent = w.sent; taken = w.taken; finished = true } in
      let back : IsSound view node' → IsSound view node = λ s. (sym refused ∙ s.0, ap (λ m. (view m).fault) (sym machine) ∙ s.1) in
      let may : (q : ℕ) → MayClose view node past q → MayClose view node' past q = may_machine view node node' past past (ap (λ m. (view m).in_lanes) machine) outs refl refl (λ q i. i) in
      let i = was.ins p there in
      in_step view node node' world (finish_on world old.wire) past past p was (subst (λ m. (view m).stands past) (sym machine) was.machine) back may log (λ r. sym refused ∙ r) (λ q s. s)
      (record old { done = true }) outs ins there refl refl (λ q n. refl) (λ v. with_wire_keeps (λ (u : Wire). u.sent) world old.wire w' v refl) (finish_stays world old.wire)
      (λ q lt n. (
        with_wire_keeps (λ (u : Wire). u.taken) world old.wire w' (in_at node.ins.items q).wire refl,
        ap (λ (u : Wire). u.finished) (with_wire_other world old.wire w' (in_at node.ins.items q).wire (in_apart node.ins.items ports lanes apart p q there lt n)),
      ))
      (subst (λ (u : Wire). InStands (record old { done = true }) u (stream_at past.got p) node'.refused (IsSound view node') (MayClose view node' past p)) (sym (with_wire_same world old.wire w' old.wire refl)) (record {
        fed = i.fed;
        exact = λ r. i.exact (sym refused ∙ r);
        flag = refl;
        reason = λ d s. elim (why (back s)) [ inl c ↦ inl c | inr m ↦ inr (may p m) ];
      }))
