-- One port changes, and the others stay.
use Rattle.std.proofs.Common.{◌≡◌, ◌≢◌, ℕ, zero, suc, ◌<◌, ◌≤◌, inl, inr, Bool, true, false, List, [], ◌∷◌, map, length, slice_index_or, slice_set, refl, ap, sym, ◌∙◌, subst, arith, get_or-set_same, get_or-set_other, Some}
use Rattle.std.proofs.lemmas.List.{length-set, length-map}
use Rattle.ff_stream.specs.declared.item.Lane.{Lane}
use Rattle.ff_stream.specs.Stream.{LiesBelow, opened}
use Rattle.ff_stream.specs.Ports.{stream_at, IsClosed}
use Rattle.ff_net.specs.declared.ports.InPort.{InPort}
use Rattle.ff_net.specs.declared.ports.OutPort.{OutPort}
use Rattle.ff_net.specs.declared.node.Node.{Node}
use Rattle.ff_net.specs.Ways.{Flow, lane_at}
use Rattle.ff_net.specs.Pasts.{Past, IsIn}
use Rattle.ff_net.specs.laws.Ports.{in_at, out_at, in_wires, out_wires}
use Rattle.ff_net.specs.laws.Worlds.{Wire}
use Rattle.ff_net.specs.laws.Nodes.{LogStands, HeldIs, FedAllButOne, OutStands, InStands, IsSound, MayClose, NodeStands, HaveLanes}
use Rattle.ff_net.specs.laws.Views.{View}
use Rattle.ff_net.proofs.Flows.{same_or_not, there_lane}

pub in_wire_at : (ports : List InPort) (p : ℕ) → slice_index_or (in_wires ports) p 0 ≡ (in_at ports p).wire
in_wire_at [] p = refl
in_wire_at (x ∷ xs) zero = refl
in_wire_at (x ∷ xs) (suc p) = in_wire_at xs p

pub out_wire_at : (ports : List OutPort) (p : ℕ) → slice_index_or (out_wires ports) p 0 ≡ (out_at ports p).wire
out_wire_at [] p = refl
out_wire_at (x ∷ xs) zero = refl
out_wire_at (x ∷ xs) (suc p) = out_wire_at xs p

pub in_count : (ports : List InPort) → length (in_wires ports) ≡ length ports
in_count ports = simp length-map

pub out_count : (ports : List OutPort) → length (out_wires ports) ≡ length ports
out_count ports = simp length-map

pub in_wire_in : (ports : List InPort) (p v : ℕ) → p < length ports → (in_at ports p).wire ≡ v → IsIn v (in_wires ports)
in_wire_in [] p v lt e = absurd (omega arith)
in_wire_in (x ∷ xs) zero v lt e = inl e
in_wire_in (x ∷ xs) (suc p) v lt e = inr (in_wire_in xs p v (omega arith) e)

pub out_wire_in : (ports : List OutPort) (p v : ℕ) → p < length ports → (out_at ports p).wire ≡ v → IsIn v (out_wires ports)
out_wire_in [] p v lt e = absurd (omega arith)
out_wire_in (x ∷ xs) zero v lt e = inl e
out_wire_in (x ∷ xs) (suc p) v lt e = inr (out_wire_in xs p v (omega arith) e)

-- a port that changes and keeps its wire
pub out_wires_set : (ports : List OutPort) (p : ℕ) (port : OutPort) → p < length ports → port.wire ≡ (out_at ports p).wire → out_wires (slice_set ports p port) ≡ out_wires ports
out_wires_set [] p port lt e = refl
out_wires_set (x ∷ xs) zero port lt e = ap (λ (w : ℕ). w ∷ out_wires xs) e
out_wires_set (x ∷ xs) (suc p) port lt e = ap (λ (ws : List ℕ). x.wire ∷ ws) (out_wires_set xs p port (omega arith) e)

pub in_wires_set : (ports : List InPort) (p : ℕ) (port : InPort) → p < length ports → port.wire ≡ (in_at ports p).wire → in_wires (slice_set ports p port) ≡ in_wires ports
in_wires_set [] p port lt e = refl
in_wires_set (x ∷ xs) zero port lt e = ap (λ (w : ℕ). w ∷ in_wires xs) e
in_wires_set (x ∷ xs) (suc p) port lt e = ap (λ (ws : List ℕ). x.wire ∷ ws) (in_wires_set xs p port (omega arith) e)

pub set_set : {A : Type 0} (xs : List A) (p : ℕ) (a b : A) → slice_set (slice_set xs p a) p b ≡ slice_set xs p b
set_set [] p a b = refl
set_set (x ∷ xs) zero a b = refl
set_set (x ∷ xs) (suc p) a b = ap (λ ys. x ∷ ys) (set_set xs p a b)

pub set_own : {A : Type 0} (xs : List A) (p : ℕ) (d : A) → slice_set xs p (slice_index_or xs p d) ≡ xs
set_own [] p d = refl
set_own (x ∷ xs) zero d = refl
set_own (x ∷ xs) (suc p) d = ap (λ ys. x ∷ ys) (set_own xs p d)

-- two changes of one output are one
pub set_again : (a b c : List OutPort) (p : ℕ) (x y z : OutPort) → p < length a → b ≡ slice_set a p x → c ≡ slice_set b p y → (out_at b p ≡ x → y ≡ z) → c ≡ slice_set a p z
set_again a b c p x y z lt e f h =
    let at : out_at b p ≡ x = ap (λ (xs : List OutPort). out_at xs p) e ∙ get_or-set_same a p x _ lt in
    f ∙ (ap (λ (xs : List OutPort). slice_set xs p y) e ∙ (set_set a p x y ∙ ap (λ (w : OutPort). slice_set a p w) (h at)))

-- each wire's lane is that of its port
lanes_at : (ws : List ℕ) (ports lanes : List Lane) → map (lane_at lanes) ws ≡ map Some ports → (p : ℕ) → p < length ws → lane_at lanes (slice_index_or ws p 0) ≡ lane_at ports p
lanes_at [] ports lanes e p lt = absurd (omega arith)
lanes_at (w ∷ ws) [] lanes e p lt = cc
lanes_at (w ∷ ws) (l ∷ ls) lanes e zero lt = cc (e)
lanes_at (w ∷ ws) (l ∷ ls) lanes e (suc p) lt = let rest : map (lane_at lanes) ws ≡ map Some ls = cc (e) in lanes_at ws ls lanes rest p (omega arith)

pub count_ports : (ws : List ℕ) (ports lanes : List Lane) → map (lane_at lanes) ws ≡ map Some ports → length ws ≡ length ports
count_ports ws ports lanes e = simp length-map at (ap length e)

lane_some : (ports : List Lane) (p : ℕ) → p < length ports → (l : Lane) × (lane_at ports p ≡ Some l)
lane_some [] p lt = absurd (omega arith)
lane_some (l ∷ ls) zero lt = (l, refl)
lane_some (l ∷ ls) (suc p) lt = lane_some ls p (omega arith)

pub out_lane : (outs : List OutPort) (ports lanes : List Lane) → HaveLanes (out_wires outs) ports lanes → (p : ℕ) → p < length outs → lane_at lanes (out_at outs p).wire ≡ lane_at ports p
out_lane outs ports lanes h p lt = subst (λ (w : ℕ). lane_at lanes w ≡ lane_at ports p) (out_wire_at outs p) (lanes_at (out_wires outs) ports lanes h.lanes_are p (subst (λ (n : ℕ). p < n) (sym (out_count outs)) lt))

pub in_lane : (ins : List InPort) (ports lanes : List Lane) → HaveLanes (in_wires ins) ports lanes → (p : ℕ) → p < length ins → lane_at lanes (in_at ins p).wire ≡ lane_at ports p
in_lane ins ports lanes h p lt = subst (λ (w : ℕ). lane_at lanes w ≡ lane_at ports p) (in_wire_at ins p) (lanes_at (in_wires ins) ports lanes h.lanes_are p (subst (λ (n : ℕ). p < n) (sym (in_count ins)) lt))

pub out_ports_count : (outs : List OutPort) (ports lanes : List Lane) → HaveLanes (out_wires outs) ports lanes → length outs ≡ length ports
out_ports_count outs ports lanes h = sym (out_count outs) ∙ count_ports (out_wires outs) ports lanes h.lanes_are

pub in_ports_count : (ins : List InPort) (ports lanes : List Lane) → HaveLanes (in_wires ins) ports lanes → length ins ≡ length ports
in_ports_count ins ports lanes h = sym (in_count ins) ∙ count_ports (in_wires ins) ports lanes h.lanes_are

-- a port's wire is there
pub out_wire_there : (outs : List OutPort) (ports lanes : List Lane) → HaveLanes (out_wires outs) ports lanes → (p : ℕ) → p < length outs → (out_at outs p).wire < length lanes
out_wire_there outs ports lanes h p lt =
    let l = lane_some ports p (subst (λ (n : ℕ). p < n) (out_ports_count outs ports lanes h) lt) in
    there_lane lanes (out_at outs p).wire l.0 (out_lane outs ports lanes h p lt ∙ l.1)

pub in_wire_there : (ins : List InPort) (ports lanes : List Lane) → HaveLanes (in_wires ins) ports lanes → (p : ℕ) → p < length ins → (in_at ins p).wire < length lanes
in_wire_there ins ports lanes h p lt =
    let l = lane_some ports p (subst (λ (n : ℕ). p < n) (in_ports_count ins ports lanes h) lt) in
    there_lane lanes (in_at ins p).wire l.0 (in_lane ins ports lanes h p lt ∙ l.1)

pub out_apart : (outs : List OutPort) (ports lanes : List Lane) → HaveLanes (out_wires outs) ports lanes → (p q : ℕ) → p < length outs → q < length outs → q ≢ p → (out_at outs q).wire ≢ (out_at outs p).wire
out_apart outs ports lanes h p q plt qlt n e = n (h.apart q p (subst (λ (k : ℕ). q < k) (sym (out_count outs)) qlt) (subst (λ (k : ℕ). p < k) (sym (out_count outs)) plt) (out_wire_at outs q ∙ (e ∙ sym (out_wire_at outs p))))

pub in_apart : (ins : List InPort) (ports lanes : List Lane) → HaveLanes (in_wires ins) ports lanes → (p q : ℕ) → p < length ins → q < length ins → q ≢ p → (in_at ins q).wire ≢ (in_at ins p).wire
in_apart ins ports lanes h p q plt qlt n e = n (h.apart q p (subst (λ (k : ℕ). q < k) (sym (in_count ins)) qlt) (subst (λ (k : ℕ). p < k) (sym (in_count ins)) plt) (in_wire_at ins q ∙ (e ∙ sym (in_wire_at ins p))))

pub in_keep : (port : InPort) (wire wire' : Wire) (got : Flow) (refused refused' : Bool) (sound sound' may may' : Type 0) → wire'.taken ≡ wire.taken → wire'.finished ≡ wire.finished → (refused' ≡ false → refused ≡ false) → (sound' → sound) → (may → may')
    → InStands port wire got refused sound may → InStands port wire' got refused' sound' may'
in_keep port wire wire' got refused refused' sound sound' may may' taken finished fine back goes i = record {
  fed = subst (λ (t : Flow). FedAllButOne got t) (sym taken) i.fed;
  exact = λ r. i.exact (fine r) ∙ sym taken;
  flag = i.flag ∙ sym finished;
  reason = λ d s. elim (i.reason d (back s)) [ inl c ↦ inl (subst (λ (t : Flow). IsClosed t) (sym taken) c) | inr m ↦ inr (goes m) ];
}

pub out_keep : (port : OutPort) (wire wire' : Wire) (gave : Flow) (stopped stopped' sound sound' : Type 0) → wire'.sent ≡ wire.sent → (wire.finished ≡ true → wire'.finished ≡ true) → (stopped → stopped') → (sound' → sound)
    → OutStands port wire gave stopped sound → OutStands port wire' gave stopped' sound'
out_keep port wire wire' gave stopped stopped' sound sound' same stays stops back o = record {
  held = λ d. subst (λ (s : Flow). HeldIs port.held s gave) (sym same) (o.held d);
  unclosed = λ d. ap (λ (s : Flow). s.mark) same ∙ o.unclosed d;
  opened_below = subst (λ (s : Flow). LiesBelow (opened s) gave) (sym same) o.opened_below;
  exact = λ s. subst (λ (t : Flow). LiesBelow t gave) (sym same) (o.exact (back s));
  done = λ d. elim (o.done d) [ inl c ↦ inl (λ e. c (sym (ap (λ (s : Flow). s.mark) same) ∙ e)) | inr f ↦ inr (stays f.0, stops f.1) ];
}

module _ {M : Type 0} (view : M → View) (node node' : Node M) (world world' : ℕ → Wire) (past past' : Past) (p : ℕ)
    (was : NodeStands view node world past) (now : (view node'.machine).stands past') (back : IsSound view node' → IsSound view node) (may : (q : ℕ) → MayClose view node past q → MayClose view node' past' q)
    (log : LogStands view node' past') (fine : node'.refused ≡ false → node.refused ≡ false)
    (stopped_grows : (q : ℕ) → IsIn q past.stopped → IsIn q past'.stopped) where
  -- an output changes
  pub out_step : (port : OutPort) → node'.ins.items ≡ node.ins.items → node'.outs.items ≡ slice_set node.outs.items p port → p < length node.outs.items → past'.got ≡ past.got
      → ((v : ℕ) → (world' v).taken ≡ (world v).taken) → ((v : ℕ) → (world' v).finished ≡ (world v).finished) → ((q : ℕ) → q ≢ p → stream_at past'.gave q ≡ stream_at past.gave q)
      → ((q : ℕ) → q < length node.outs.items → q ≢ p → (world' (out_at node.outs.items q).wire).sent ≡ (world (out_at node.outs.items q).wire).sent)
      → OutStands port (world' port.wire) (stream_at past'.gave p) (IsIn p past'.stopped) (IsSound view node')
      → ((q : ℕ) → IsIn q past'.stopped → q ≢ p → IsIn q past.stopped) → (IsIn p past'.stopped → port.done ≡ true)
      → NodeStands view node' world' past'
  out_step port same_ins outs_set there got taken finished gave others here stopped_other stopped_here =
      let at : (q : ℕ) → out_at node'.outs.items q ≡ out_at (slice_set node.outs.items p port) q = λ q. ap (λ (os : List OutPort). out_at os q) outs_set in
      let at_p : out_at node'.outs.items p ≡ port = at p ∙ get_or-set_same node.outs.items p port _ there in
      let at_q : (q : ℕ) → q ≢ p → out_at node'.outs.items q ≡ out_at node.outs.items q = λ q n. at q ∙ get_or-set_other node.outs.items p q port _ n in
      let len : length node'.outs.items ≡ length node.outs.items = ap length outs_set ∙ simp length-set in record {
        machine = now;
        ins = λ q lt.
            let i : InPort = in_at node.ins.items q in
            subst (λ (is : List InPort). InStands (in_at is q) (world' (in_at is q).wire) (stream_at past'.got q) node'.refused (IsSound view node') (MayClose view node' past' q)) (sym same_ins)
            (subst (λ (ss : List Flow). InStands i (world' i.wire) (stream_at ss q) node'.refused (IsSound view node') (MayClose view node' past' q)) (sym got)
            (in_keep i (world i.wire) (world' i.wire) (stream_at past.got q) node.refused node'.refused (IsSound view node) (IsSound view node') (MayClose view node past q) (MayClose view node' past' q) (taken i.wire) (finished i.wire) fine back (may q) (was.ins q (subst (λ (is : List InPort). q < length is) same_ins lt))));
        outs = λ q lt. elim (same_or_not q p) [
          | inl e ↦ subst (λ (r : ℕ). OutStands (out_at node'.outs.items r) (world' (out_at node'.outs.items r).wire) (stream_at past'.gave r) (IsIn r past'.stopped) (IsSound view node')) (sym e)
              (subst (λ (o : OutPort). OutStands o (world' o.wire) (stream_at past'.gave p) (IsIn p past'.stopped) (IsSound view node')) (sym at_p) here)
          | inr n ↦
              let o : OutPort = out_at node.outs.items q in
              let qlt : q < length node.outs.items = subst (λ (k : ℕ). q < k) len lt in
              subst (λ (r : OutPort). OutStands r (world' r.wire) (stream_at past'.gave q) (IsIn q past'.stopped) (IsSound view node')) (sym (at_q q n))
              (subst (λ (s : Flow). OutStands o (world' o.wire) s (IsIn q past'.stopped) (IsSound view node')) (sym (gave q n))
              (out_keep o (world o.wire) (world' o.wire) (stream_at past.gave q) (IsIn q past.stopped) (IsIn q past'.stopped) (IsSound view node) (IsSound view node') (others q qlt n) (λ f. finished o.wire ∙ f) (stopped_grows q) back (was.outs q qlt)))
        ];
        beyond = λ q le. ap (λ (ss : List Flow). stream_at ss q) got ∙ was.beyond q (subst (λ (is : List InPort). length is ≤ q) same_ins le);
        stopped = λ q i. elim (same_or_not q p) [
          | inl e ↦ subst (λ (r : ℕ). (out_at node'.outs.items r).done ≡ true) (sym e) (ap (λ (o : OutPort). o.done) at_p ∙ stopped_here (subst (λ (r : ℕ). IsIn r past'.stopped) e i))
          | inr n ↦ ap (λ (o : OutPort). o.done) (at_q q n) ∙ was.stopped q (stopped_other q i n)
        ];
        log = log;
      }

  -- an input changes
  pub in_step : (port : InPort) → node'.outs.items ≡ node.outs.items → node'.ins.items ≡ slice_set node.ins.items p port → p < length node.ins.items → past'.gave ≡ past.gave → past'.stopped ≡ past.stopped
      → ((q : ℕ) → q ≢ p → stream_at past'.got q ≡ stream_at past.got q) → ((v : ℕ) → (world' v).sent ≡ (world v).sent) → ((v : ℕ) → (world v).finished ≡ true → (world' v).finished ≡ true)
      → ((q : ℕ) → q < length node.ins.items → q ≢ p → ((world' (in_at node.ins.items q).wire).taken ≡ (world (in_at node.ins.items q).wire).taken) × ((world' (in_at node.ins.items q).wire).finished ≡ (world (in_at node.ins.items q).wire).finished))
      → InStands port (world' port.wire) (stream_at past'.got p) node'.refused (IsSound view node') (MayClose view node' past' p)
      → NodeStands view node' world' past'
  in_step port same_outs ins_set there gave stopped got sent finished others here =
      let at : (q : ℕ) → in_at node'.ins.items q ≡ in_at (slice_set node.ins.items p port) q = λ q. ap (λ (os : List InPort). in_at os q) ins_set in
      let at_p : in_at node'.ins.items p ≡ port = at p ∙ get_or-set_same node.ins.items p port _ there in
      let at_q : (q : ℕ) → q ≢ p → in_at node'.ins.items q ≡ in_at node.ins.items q = λ q n. at q ∙ get_or-set_other node.ins.items p q port _ n in
      let len : length node'.ins.items ≡ length node.ins.items = ap length ins_set ∙ simp length-set in record {
        machine = now;
        ins = λ q lt. elim (same_or_not q p) [
          | inl e ↦ subst (λ (r : ℕ). InStands (in_at node'.ins.items r) (world' (in_at node'.ins.items r).wire) (stream_at past'.got r) node'.refused (IsSound view node') (MayClose view node' past' r)) (sym e)
              (subst (λ (i : InPort). InStands i (world' i.wire) (stream_at past'.got p) node'.refused (IsSound view node') (MayClose view node' past' p)) (sym at_p) here)
          | inr n ↦
              let i : InPort = in_at node.ins.items q in
              let qlt : q < length node.ins.items = subst (λ (k : ℕ). q < k) len lt in
              let o = others q qlt n in
              subst (λ (r : InPort). InStands r (world' r.wire) (stream_at past'.got q) node'.refused (IsSound view node') (MayClose view node' past' q)) (sym (at_q q n))
              (subst (λ (s : Flow). InStands i (world' i.wire) s node'.refused (IsSound view node') (MayClose view node' past' q)) (sym (got q n))
              (in_keep i (world i.wire) (world' i.wire) (stream_at past.got q) node.refused node'.refused (IsSound view node) (IsSound view node') (MayClose view node past q) (MayClose view node' past' q) o.0 o.1 fine back (may q) (was.ins q qlt)))
        ];
        outs = λ q lt.
            let o : OutPort = out_at node.outs.items q in
            subst (λ (os : List OutPort). OutStands (out_at os q) (world' (out_at os q).wire) (stream_at past'.gave q) (IsIn q past'.stopped) (IsSound view node')) (sym same_outs)
            (subst (λ (ss : List Flow). OutStands o (world' o.wire) (stream_at ss q) (IsIn q past'.stopped) (IsSound view node')) (sym gave)
            (out_keep o (world o.wire) (world' o.wire) (stream_at past.gave q) (IsIn q past.stopped) (IsIn q past'.stopped) (IsSound view node) (IsSound view node') (sent o.wire) (finished o.wire) (stopped_grows q) back (was.outs q (subst (λ (os : List OutPort). q < length os) same_outs lt))));
        beyond = λ q le. let le' : length node.ins.items ≤ q = subst (λ (n : ℕ). n ≤ q) len le in let other : q ≢ p = omega arith in got q other ∙ was.beyond q le';
        stopped = λ q i. ap (λ (os : List OutPort). (out_at os q).done) same_outs ∙ was.stopped q (subst (λ (qs : List ℕ). IsIn q qs) stopped i);
        log = log;
      }
