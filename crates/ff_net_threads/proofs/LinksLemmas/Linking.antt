-- What each step of a node with its ends keeps.
use Rattle.std.proofs.Common.{◌≡◌, ◌≢◌, ℕ, zero, suc, ◌<◌, inl, inr, true, false, Bool, List, [], ◌∷◌, length, map, slice_index_or, slice_set, refl, ap, sym, ◌∙◌, subst, arith, Option, None, Some, get_or-set_same, get_or-set_other}
use Rattle.std.proofs.lemmas.List.{length-set}
use Rattle.ff_stream.specs.declared.item.Lane.{Lane}
use Rattle.ff_stream.specs.Stream.{LiesBelow, still_open}
use Rattle.ff_stream.specs.Items.{with_item}
use Rattle.ff_stream.specs.declared.item.Item.{Item}
use Rattle.ff_link.specs.laws.Sendings.{stream_of, IsSending}
use Rattle.ff_link.proofs.Sendings.{nothing_sent}
use Rattle.ff_link.specs.laws.Views.{Link, Sending, Receiving}
use Rattle.ff_net.specs.declared.node.Node.{Node}
use Rattle.ff_net.specs.declared.wires.Wires.{Wires}
use Rattle.ff_net.specs.Ways.{Flow, lane_at, IsValidOn}
use Rattle.ff_net.specs.laws.Laws.{FaultStep}
use Rattle.ff_net.specs.laws.Logs.{PassStep}
use Rattle.ff_net.specs.Pasts.{Past, Task, IsIn, start}
use Rattle.ff_net.specs.laws.Worlds.{Wire, fresh, lanes_of}
use Rattle.ff_net.specs.laws.Nodes.{HeldIs, NodeStands, IsOf, IsShaped, HaveLanes, AreApart, in_wires_of, out_wires_of}
use Rattle.ff_sched.specs.laws.Passing.{Scheduler}
use Rattle.ff_net.specs.laws.Steps.{Stepped}
use Rattle.ff_net.specs.laws.Views.{View}
use Rattle.ff_net.proofs.Flows.{same_or_not, there_lane}
use Rattle.ff_net.proofs.Moments.{fault_self, fault_then, pass_self, pass_then}
use Rattle.ff_net.proofs.NetSteps.{other_stands}
use Rattle.ff_net.proofs.Rounds.{shaped_later}
use Rattle.ff_net_threads.proofs.LinksLemmas.Carrying.{claimed}
use Rattle.ff_net_threads.specs.declared.links.ends.InEnd.{InEnd}
use Rattle.ff_net_threads.specs.declared.links.ends.OutEnd.{OutEnd}
use Rattle.ff_net_threads.specs.declared.links.linked.Linked.{Linked}
use Rattle.ff_net_threads.specs.laws.links.Ends.{taken_of, InEndStands, OutEndStands, Draws, Pours, CanPour, claims_of, in_link, out_link, in_end_at, new_in, new_out}
use Rattle.ff_net_threads.specs.laws.links.Nodes.{in_ends_wires, out_ends_wires, in_ends_links, out_ends_links, IsWired, IsLawful, Behind, Follows, IsBeginning}

pub map_set_same : {A B : Type 0} (f : A → B) (xs : List A) (p : ℕ) (x d : A) → p < length xs → f x ≡ f (slice_index_or xs p d) → map f (slice_set xs p x) ≡ map f xs
map_set_same f [] p x d lt e = refl
map_set_same f (y ∷ ys) zero x d lt e = ap (λ z. z ∷ map f ys) e
map_set_same f (y ∷ ys) (suc p) x d lt e = ap (λ zs. f y ∷ zs) (map_set_same f ys p x d (omega arith) e)

pub in_member : (ends : List InEnd) (p : ℕ) → p < length ends → IsIn (in_end_at ends p).wire (in_ends_wires ends)
in_member [] p lt = absurd (omega arith)
in_member (e ∷ es) zero lt = inl refl
in_member (e ∷ es) (suc p) lt = inr (in_member es p (omega arith))

pub out_member : (ends : List OutEnd) (q : ℕ) (d : OutEnd) → q < length ends → IsIn (slice_index_or ends q d).wire (out_ends_wires ends)
out_member [] q d lt = absurd (omega arith)
out_member (e ∷ es) zero d lt = inl refl
out_member (e ∷ es) (suc q) d lt = inr (out_member es q d (omega arith))

pub in_nth : (ends : List InEnd) (p : ℕ) → slice_index_or (in_ends_wires ends) p 0 ≡ (in_end_at ends p).wire
in_nth [] p = refl
in_nth (e ∷ es) zero = refl
in_nth (e ∷ es) (suc p) = in_nth es p

pub out_nth : (ends : List OutEnd) (q : ℕ) (d : OutEnd) → q < length ends → slice_index_or (out_ends_wires ends) q 0 ≡ (slice_index_or ends q d).wire
out_nth [] q d lt = absurd (omega arith)
out_nth (e ∷ es) zero d lt = refl
out_nth (e ∷ es) (suc q) d lt = out_nth es q d (omega arith)

pub count_map : {A B : Type 0} (f : A → B) (xs : List A) → length (map f xs) ≡ length xs
count_map f [] = refl
count_map f (x ∷ xs) = ap suc (count_map f xs)

pub ins_differ : (ends : List InEnd) (ws : List ℕ) → in_ends_wires ends ≡ ws → AreApart ws → (p q : ℕ) → p < length ends → q < length ends → p ≢ q → (in_end_at ends p).wire ≢ (in_end_at ends q).wire
ins_differ ends ws e apart p q plt qlt n same =
    let apart' : AreApart (in_ends_wires ends) = subst AreApart (sym e) apart in
    let len : length (in_ends_wires ends) ≡ length ends = count_map (λ (x : InEnd). x.wire) ends in
    n (apart' p q (subst (λ (k : ℕ). p < k) (sym len) plt) (subst (λ (k : ℕ). q < k) (sym len) qlt) (in_nth ends p ∙ (same ∙ sym (in_nth ends q))))

pub outs_differ : (ends : List OutEnd) (ws : List ℕ) (d : OutEnd) → out_ends_wires ends ≡ ws → AreApart ws → (p q : ℕ) → p < length ends → q < length ends → p ≢ q → (slice_index_or ends p d).wire ≢ (slice_index_or ends q d).wire
outs_differ ends ws d e apart p q plt qlt n same =
    let apart' : AreApart (out_ends_wires ends) = subst AreApart (sym e) apart in
    let len : length (out_ends_wires ends) ≡ length ends = count_map (λ (x : OutEnd). x.wire) ends in
    n (apart' p q (subst (λ (k : ℕ). p < k) (sym len) plt) (subst (λ (k : ℕ). q < k) (sym len) qlt) (out_nth ends p d plt ∙ (same ∙ sym (out_nth ends q d qlt))))

-- the wires of ports are there
pub wire_there : (ws : List ℕ) (ports lanes : List Lane) → map (lane_at lanes) ws ≡ map Some ports → (w : ℕ) → IsIn w ws → w < length lanes
wire_there [] ports lanes e w i = absurd i
wire_there (v ∷ vs) [] lanes e w i = cc
wire_there (v ∷ vs) (l ∷ ls) lanes e w (inl same) = let here : lane_at lanes v ≡ Some l = cc (e) in subst (λ (u : ℕ). u < length lanes) same (there_lane lanes v l here)
wire_there (v ∷ vs) (l ∷ ls) lanes e w (inr i) = let rest : map (lane_at lanes) vs ≡ map Some ls = cc (e) in wire_there vs ls lanes rest w i

was_false : (b c : Bool) → (b ≡ true → c ≡ true) → c ≡ false → b ≡ false
was_false true c h e = let no : true ≡ false = sym (h refl) ∙ e in cc
was_false false c h e = refl

pub in_end_keep : (e : InEnd) (lane : Option Lane) (wire wire' : Wire) → wire'.sent ≡ wire.sent → (wire.finished ≡ true → wire'.finished ≡ true) → InEndStands e lane wire → InEndStands e lane wire'
in_end_keep e lane wire wire' sent stays i = record {
  carried = λ f. subst (λ (s : Flow). HeldIs e.held s (stream_of (taken_of e))) (sym sent) (i.carried (was_false wire.finished wire'.finished stays f));
  lying = λ x h. subst (λ (s : Flow). (s.mark ≡ still_open) × IsValidOn lane (with_item s x)) (sym sent) (i.lying x h);
  below = subst (λ (s : Flow). LiesBelow s (stream_of (taken_of e))) (sym sent) i.below;
  going = i.going;
  shut = λ t. stays (i.shut t);
}

pub out_end_keep : (e : OutEnd) (lane : Option Lane) (wire wire' : Wire) → wire'.taken ≡ wire.taken → wire'.finished ≡ wire.finished → OutEndStands e lane wire → OutEndStands e lane wire'
out_end_keep e lane wire wire' taken finished o = record {
  lane_is = o.lane_is;
  sending = o.sending;
  carried = λ d. subst (λ (s : Flow). HeldIs e.held (stream_of e.sender.sent) s) (sym taken) (o.carried d);
  unclosed = o.unclosed;
  below = subst (λ (s : Flow). LiesBelow (stream_of e.sender.sent) s) (sym taken) o.below;
  listening = λ d. finished ∙ o.listening d;
  done = λ d. elim (o.done d) [ inl c ↦ inl c | inr t ↦ inr (t.0, finished ∙ t.1) ];
}

in_new_stands : (w : ℕ) (r : Receiving) (lane : Option Lane) → r.taken ≡ [] → r.link.claims ≡ true → lane ≡ Some r.lane → InEndStands (new_in w r) lane fresh
in_new_stands w r lane none claims on = record {
  carried = λ f. sym (ap stream_of none);
  lying = λ x e. absurd (let no : None ≡ Some x = e in cc (no));
  below = inl (sym (ap stream_of none));
  going = λ q e. let same : r ≡ q = cc (e) in (on ∙ ap (λ (z : Receiving). Some z.lane) same, ap (λ (z : Receiving). z.link.claims) (sym same) ∙ claims);
  shut = λ e. absurd (let no : Some r ≡ None = e in cc (no));
}

out_new_stands : (w : ℕ) (s : Sending) (lane : Option Lane) → s.sent ≡ [] → lane ≡ Some s.lane → OutEndStands (new_out w s) lane fresh
out_new_stands w s lane none on = record {
  lane_is = on;
  sending = subst (λ (xs : List Item). IsSending s.lane xs) (sym none) (nothing_sent s.lane);
  carried = λ d. ap stream_of none;
  unclosed = λ d. ap (λ (xs : List Item). (stream_of xs).mark) none;
  below = inl (ap stream_of none);
  listening = λ d. refl;
  done = λ d. absurd (let no : false ≡ true = d in cc (no));
}

pub out_link_nth : (ends : List OutEnd) (q : ℕ) (d : OutEnd) → q < length ends → slice_index_or (out_ends_links ends) q None ≡ out_link (slice_index_or ends q d)
out_link_nth [] q d lt = absurd (omega arith)
out_link_nth (e ∷ es) zero d lt = refl
out_link_nth (e ∷ es) (suc q) d lt = out_link_nth es q d (omega arith)

have_after : (ws ws' : List ℕ) (ports ports' lanes lanes' : List Lane) → ws' ≡ ws → ports' ≡ ports → lanes' ≡ lanes → HaveLanes ws ports lanes → HaveLanes ws' ports' lanes'
have_after ws ws' ports ports' lanes lanes' e f g h =
    subst (λ (vs : List ℕ). HaveLanes vs ports' lanes') (sym e) (subst (λ (ls : List Lane). HaveLanes ws ls lanes') (sym f) (subst (λ (ls : List Lane). HaveLanes ws ports ls) (sym g) h))

-- of one wire, no other is
only : (w v : ℕ) → v ≢ w → IsIn v (w ∷ []) → ⊥
only w v n (inl e) = n (sym e)
only w v n (inr i) = i

module _ {M : Type 0} (view : M → View) where
  pub follows_self : (l : Linked M) → Follows view l l
  follows_self l = record {
    ins_same = refl;
    outs_same = refl;
    in_lanes_same = refl;
    out_lanes_same = refl;
    source_same = refl;
    lanes_same = refl;
    in_ends_same = refl;
    out_ends_same = refl;
    in_links_same = refl;
    out_links_same = refl;
    fares = fault_self (view l.node.machine);
    passes = pass_self l.node.pass;
    goes = λ task b. b;
  }

  pub follows_then : (a b c : Linked M) → Follows view a b → Follows view b c → Follows view a c
  follows_then a b c x y = record {
    ins_same = y.ins_same ∙ x.ins_same;
    outs_same = y.outs_same ∙ x.outs_same;
    in_lanes_same = y.in_lanes_same ∙ x.in_lanes_same;
    out_lanes_same = y.out_lanes_same ∙ x.out_lanes_same;
    source_same = y.source_same ∙ x.source_same;
    lanes_same = y.lanes_same ∙ x.lanes_same;
    in_ends_same = y.in_ends_same ∙ x.in_ends_same;
    out_ends_same = y.out_ends_same ∙ x.out_ends_same;
    in_links_same = y.in_links_same ∙ x.in_links_same;
    out_links_same = y.out_links_same ∙ x.out_links_same;
    fares = fault_then _ _ _ x.fares y.fares;
    passes = pass_then _ _ _ x.passes y.passes;
    goes = λ task s. y.goes task (x.goes task s);
  }

  relaned : (node : Node M) (wires wires' : Wires) → lanes_of wires' ≡ lanes_of wires → IsShaped view node wires → IsShaped view node wires'
  relaned node wires wires' same s = record {
    ins = subst (λ (ls : List Lane). HaveLanes (in_wires_of node) (view node.machine).in_lanes ls) (sym same) s.ins;
    outs = subst (λ (ls : List Lane). HaveLanes (out_wires_of node) (view node.machine).out_lanes ls) (sym same) s.outs;
  }

  pub in_end_there : (l : Linked M) → IsWired view l → (p : ℕ) → p < length l.ins.items → (in_end_at l.ins.items p).wire < length (lanes_of l.wires)
  in_end_there l wired p lt = wire_there (in_wires_of l.node) (view l.node.machine).in_lanes (lanes_of l.wires) wired.shaped.ins.lanes_are (in_end_at l.ins.items p).wire (subst (λ (ws : List ℕ). IsIn (in_end_at l.ins.items p).wire ws) wired.in_wires (in_member l.ins.items p lt))

  pub out_end_there : (l : Linked M) → IsWired view l → (q : ℕ) (d : OutEnd) → q < length l.outs.items → (slice_index_or l.outs.items q d).wire < length (lanes_of l.wires)
  out_end_there l wired q d lt = wire_there (out_wires_of l.node) (view l.node.machine).out_lanes (lanes_of l.wires) wired.shaped.outs.lanes_are (slice_index_or l.outs.items q d).wire (subst (λ (ws : List ℕ). IsIn (slice_index_or l.outs.items q d).wire ws) wired.out_wires (out_member l.outs.items q d lt))

  pub can_pour : (l : Linked M) → IsLawful view l → (q : ℕ) (d : OutEnd) → q < length l.outs.items → claims_of (slice_index_or l.outs.items q d) ≡ true → CanPour l.wires (slice_index_or l.outs.items q d)
  can_pour l h q d lt claims = (let b = (h.vouched q d lt claims).1 in record { world = b.world; stand = b.stand; fits = b.outs q d lt })

  module _ (l l' : Linked M) (p : ℕ) (there : p < length l.ins.items) (node : l'.node ≡ l.node) (outs : l'.outs.items ≡ l.outs.items) (lanes : lanes_of l'.wires ≡ lanes_of l.wires) (draws : Draws l.wires l'.wires l.ins.items l'.ins.items p) where
    in_set : (k : ℕ) → in_end_at l'.ins.items k ≡ in_end_at (slice_set l.ins.items p draws.end) k
    in_set k = ap (λ (es : List InEnd). in_end_at es k) draws.set

    in_wires_kept : in_ends_wires l'.ins.items ≡ in_ends_wires l.ins.items
    in_wires_kept = ap in_ends_wires draws.set ∙ map_set_same (λ (e : InEnd). e.wire) l.ins.items p draws.end _ there draws.wire

    drawn_goes : (task : Task) → Behind view task l → Behind view task l'
    drawn_goes task b =
        let old : InEnd = in_end_at l.ins.items p in
        let y = draws.stands b.world b.past b.stand (b.ins p there) in
        let member : IsIn old.wire (in_wires_of l.node) = subst (λ (ws : List ℕ). IsIn old.wire ws) b.wired.in_wires (in_member l.ins.items p there) in
        let len : length l'.ins.items ≡ length l.ins.items = ap length draws.set ∙ simp length-set in record {
          wired = record {
            shaped = subst (λ (n : Node M). IsShaped view n l'.wires) (sym node) (relaned l.node l.wires l'.wires lanes b.wired.shaped);
            apart = subst (λ (n : Node M). (w : ℕ) → IsIn w (in_wires_of n) → IsIn w (out_wires_of n) → ⊥) (sym node) b.wired.apart;
            in_wires = in_wires_kept ∙ (b.wired.in_wires ∙ ap (λ (n : Node M). in_wires_of n) (sym node));
            out_wires = ap out_ends_wires outs ∙ (b.wired.out_wires ∙ ap (λ (n : Node M). out_wires_of n) (sym node));
          };
          world = y.now;
          past = b.past;
          stand = y.stand;
          fits = subst (λ (n : Node M). NodeStands view n y.now b.past) (sym node)
              (other_stands view l.node [] (old.wire ∷ []) b.world y.now b.past b.past b.past y.course (λ w a i. i) (λ w a i. elim i [ inl e ↦ b.wired.apart w (subst (λ (v : ℕ). IsIn v (in_wires_of l.node)) e member) a | inr n ↦ n ]) b.fits);
          task_is = b.task_is;
          ins = λ k lt. elim (same_or_not k p) [
            | inl same ↦
                let at : in_end_at l'.ins.items k ≡ draws.end = ap (λ (n : ℕ). in_end_at l'.ins.items n) same ∙ (in_set p ∙ get_or-set_same l.ins.items p draws.end _ there) in
                subst (λ (e : InEnd). InEndStands e (lane_at (lanes_of l'.wires) e.wire) (y.now e.wire)) (sym at)
                (subst (λ (ls : List Lane). InEndStands draws.end (lane_at ls draws.end.wire) (y.now draws.end.wire)) (sym lanes)
                (subst (λ (w : ℕ). InEndStands draws.end (lane_at (lanes_of l.wires) w) (y.now w)) (sym draws.wire) y.fits))
            | inr other ↦
                let at : in_end_at l'.ins.items k ≡ in_end_at l.ins.items k = in_set k ∙ get_or-set_other l.ins.items p k draws.end _ other in
                let klt : k < length l.ins.items = subst (λ (n : ℕ). k < n) len lt in
                let e : InEnd = in_end_at l.ins.items k in
                let away : e.wire ≢ old.wire = ins_differ l.ins.items (in_wires_of l.node) b.wired.in_wires b.wired.shaped.ins.apart k p klt there other in
                subst (λ (f : InEnd). InEndStands f (lane_at (lanes_of l'.wires) f.wire) (y.now f.wire)) (sym at)
                (subst (λ (ls : List Lane). InEndStands e (lane_at ls e.wire) (y.now e.wire)) (sym lanes)
                (in_end_keep e (lane_at (lanes_of l.wires) e.wire) (b.world e.wire) (y.now e.wire) (y.course.sent e.wire (only old.wire e.wire away)) (y.course.stays_finished e.wire) (b.ins k klt)))
          ];
          outs = λ q d lt.
              let e : OutEnd = slice_index_or l.outs.items q d in
              subst (λ (es : List OutEnd). OutEndStands (slice_index_or es q d) (lane_at (lanes_of l'.wires) (slice_index_or es q d).wire) (y.now (slice_index_or es q d).wire)) (sym outs)
              (subst (λ (ls : List Lane). OutEndStands e (lane_at ls e.wire) (y.now e.wire)) (sym lanes)
              (out_end_keep e (lane_at (lanes_of l.wires) e.wire) (b.world e.wire) (y.now e.wire) (y.course.taken e.wire (λ i. i)) (y.course.finished e.wire (λ i. i)) (b.outs q d (subst (λ (es : List OutEnd). q < length es) outs lt))));
        }

    pub drawn : Follows view l l'
    drawn = record {
      ins_same = ap (λ (n : Node M). in_wires_of n) node;
      outs_same = ap (λ (n : Node M). out_wires_of n) node;
      in_lanes_same = ap (λ (n : Node M). (view n.machine).in_lanes) node;
      out_lanes_same = ap (λ (n : Node M). (view n.machine).out_lanes) node;
      source_same = ap (λ (n : Node M). (view n.machine).source) node;
      lanes_same = lanes;
      in_ends_same = in_wires_kept;
      out_ends_same = ap out_ends_wires outs;
      in_links_same = ap in_ends_links draws.set ∙ map_set_same (λ (e : InEnd). in_link e) l.ins.items p draws.end _ there draws.link;
      out_links_same = ap out_ends_links outs;
      fares = subst (λ (n : Node M). FaultStep (view l.node.machine) (view n.machine)) (sym node) (fault_self (view l.node.machine));
      passes = subst (λ (n : Node M). PassStep l.node.pass n.pass) (sym node) (pass_self l.node.pass);
      goes = drawn_goes;
    }

  module _ (l l' : Linked M) (q : ℕ) (there : q < length l.outs.items) (node : l'.node ≡ l.node) (ins : l'.ins.items ≡ l.ins.items) (lanes : lanes_of l'.wires ≡ lanes_of l.wires) (pours : Pours l.wires l'.wires l.outs.items l'.outs.items q) where
    out_wires_kept : out_ends_wires l'.outs.items ≡ out_ends_wires l.outs.items
    out_wires_kept = ap out_ends_wires pours.set ∙ map_set_same (λ (e : OutEnd). e.wire) l.outs.items q pours.end pours.old there (pours.wire ∙ ap (λ (e : OutEnd). e.wire) (sym (pours.is pours.old)))

    poured_goes : (task : Task) → Behind view task l → Behind view task l'
    poured_goes task b =
        let old : OutEnd = pours.old in
        let y = pours.stands b.world b.past b.stand (subst (λ (e : OutEnd). OutEndStands e (lane_at (lanes_of l.wires) e.wire) (b.world e.wire)) (pours.is old) (b.outs q old there)) in
        let member : IsIn old.wire (out_wires_of l.node) = subst (λ (ws : List ℕ). IsIn old.wire ws) b.wired.out_wires (subst (λ (e : OutEnd). IsIn e.wire (out_ends_wires l.outs.items)) (pours.is old) (out_member l.outs.items q old there)) in
        let len : length l'.outs.items ≡ length l.outs.items = ap length pours.set ∙ simp length-set in record {
          wired = record {
            shaped = subst (λ (n : Node M). IsShaped view n l'.wires) (sym node) (relaned l.node l.wires l'.wires lanes b.wired.shaped);
            apart = subst (λ (n : Node M). (w : ℕ) → IsIn w (in_wires_of n) → IsIn w (out_wires_of n) → ⊥) (sym node) b.wired.apart;
            in_wires = ap in_ends_wires ins ∙ (b.wired.in_wires ∙ ap (λ (n : Node M). in_wires_of n) (sym node));
            out_wires = out_wires_kept ∙ (b.wired.out_wires ∙ ap (λ (n : Node M). out_wires_of n) (sym node));
          };
          world = y.now;
          past = b.past;
          stand = y.stand;
          fits = subst (λ (n : Node M). NodeStands view n y.now b.past) (sym node)
              (other_stands view l.node (old.wire ∷ []) [] b.world y.now b.past b.past b.past y.course (λ w a i. elim i [ inl e ↦ b.wired.apart w a (subst (λ (v : ℕ). IsIn v (out_wires_of l.node)) e member) | inr n ↦ n ]) (λ w a i. i) b.fits);
          task_is = b.task_is;
          ins = λ k lt.
              let klt : k < length l.ins.items = subst (λ (es : List InEnd). k < length es) ins lt in
              let e : InEnd = in_end_at l.ins.items k in
              subst (λ (es : List InEnd). InEndStands (in_end_at es k) (lane_at (lanes_of l'.wires) (in_end_at es k).wire) (y.now (in_end_at es k).wire)) (sym ins)
              (subst (λ (ls : List Lane). InEndStands e (lane_at ls e.wire) (y.now e.wire)) (sym lanes)
              (in_end_keep e (lane_at (lanes_of l.wires) e.wire) (b.world e.wire) (y.now e.wire) (y.course.sent e.wire (λ i. i)) (y.course.stays_finished e.wire) (b.ins k klt)));
          outs = λ k d lt. elim (same_or_not k q) [
            | inl same ↦
                let at : slice_index_or l'.outs.items k d ≡ pours.end = ap (λ (n : ℕ). slice_index_or l'.outs.items n d) same ∙ (ap (λ (es : List OutEnd). slice_index_or es q d) pours.set ∙ get_or-set_same l.outs.items q pours.end d there) in
                subst (λ (e : OutEnd). OutEndStands e (lane_at (lanes_of l'.wires) e.wire) (y.now e.wire)) (sym at)
                (subst (λ (ls : List Lane). OutEndStands pours.end (lane_at ls pours.end.wire) (y.now pours.end.wire)) (sym lanes)
                (subst (λ (w : ℕ). OutEndStands pours.end (lane_at (lanes_of l.wires) w) (y.now w)) (sym pours.wire) y.fits))
            | inr other ↦
                let at : slice_index_or l'.outs.items k d ≡ slice_index_or l.outs.items k d = ap (λ (es : List OutEnd). slice_index_or es k d) pours.set ∙ get_or-set_other l.outs.items q k pours.end d other in
                let klt : k < length l.outs.items = subst (λ (n : ℕ). k < n) len lt in
                let e : OutEnd = slice_index_or l.outs.items k d in
                let away : e.wire ≢ old.wire = subst (λ (f : OutEnd). e.wire ≢ f.wire) (pours.is d) (outs_differ l.outs.items (out_wires_of l.node) d b.wired.out_wires b.wired.shaped.outs.apart k q klt there other) in
                subst (λ (f : OutEnd). OutEndStands f (lane_at (lanes_of l'.wires) f.wire) (y.now f.wire)) (sym at)
                (subst (λ (ls : List Lane). OutEndStands e (lane_at ls e.wire) (y.now e.wire)) (sym lanes)
                (out_end_keep e (lane_at (lanes_of l.wires) e.wire) (b.world e.wire) (y.now e.wire) (y.course.taken e.wire (only old.wire e.wire away)) (y.course.finished e.wire (only old.wire e.wire away)) (b.outs k d klt)))
          ];
        }

    pub poured : Follows view l l'
    poured = record {
      ins_same = ap (λ (n : Node M). in_wires_of n) node;
      outs_same = ap (λ (n : Node M). out_wires_of n) node;
      in_lanes_same = ap (λ (n : Node M). (view n.machine).in_lanes) node;
      out_lanes_same = ap (λ (n : Node M). (view n.machine).out_lanes) node;
      source_same = ap (λ (n : Node M). (view n.machine).source) node;
      lanes_same = lanes;
      in_ends_same = ap in_ends_wires ins;
      out_ends_same = out_wires_kept;
      in_links_same = ap in_ends_links ins;
      out_links_same = ap out_ends_links pours.set ∙ map_set_same (λ (e : OutEnd). out_link e) l.outs.items q pours.end pours.old there (pours.link ∙ ap (λ (e : OutEnd). out_link e) (sym (pours.is pours.old)));
      fares = subst (λ (n : Node M). FaultStep (view l.node.machine) (view n.machine)) (sym node) (fault_self (view l.node.machine));
      passes = subst (λ (n : Node M). PassStep l.node.pass n.pass) (sym node) (pass_self l.node.pass);
      goes = poured_goes;
    }

  -- the node takes a turn on its wires
  pub turned : (how : (ℕ → Wire) → Past → (ℕ → Wire) → Past → Type 0) (l l' : Linked M) → l'.ins.items ≡ l.ins.items → l'.outs.items ≡ l.outs.items → Stepped view how l.node l.wires l'.node l'.wires
      → Follows view l l'
  turned how l l' ins outs step = record {
    ins_same = step.ins_same;
    outs_same = step.outs_same;
    in_lanes_same = step.in_lanes_same;
    out_lanes_same = step.out_lanes_same;
    source_same = step.source_same;
    lanes_same = step.lanes_same;
    in_ends_same = ap in_ends_wires ins;
    out_ends_same = ap out_ends_wires outs;
    in_links_same = ap in_ends_links ins;
    out_links_same = ap out_ends_links outs;
    fares = step.fares;
    passes = step.passes;
    goes = λ task b.
        let y = step.goes b.world b.past b.stand b.fits in record {
          wired = record {
            shaped = shaped_later view how l.node l.wires l'.node l'.wires step b.wired.shaped;
            apart = λ w i o. b.wired.apart w (subst (λ (ws : List ℕ). IsIn w ws) step.ins_same i) (subst (λ (ws : List ℕ). IsIn w ws) step.outs_same o);
            in_wires = ap in_ends_wires ins ∙ (b.wired.in_wires ∙ sym step.ins_same);
            out_wires = ap out_ends_wires outs ∙ (b.wired.out_wires ∙ sym step.outs_same);
          };
          world = y.now;
          past = y.since;
          stand = y.stand;
          fits = y.fits;
          task_is = y.course.task ∙ b.task_is;
          ins = λ k lt.
              let klt : k < length l.ins.items = subst (λ (es : List InEnd). k < length es) ins lt in
              let e : InEnd = in_end_at l.ins.items k in
              let member : IsIn e.wire (in_wires_of l.node) = subst (λ (ws : List ℕ). IsIn e.wire ws) b.wired.in_wires (in_member l.ins.items k klt) in
              subst (λ (es : List InEnd). InEndStands (in_end_at es k) (lane_at (lanes_of l'.wires) (in_end_at es k).wire) (y.now (in_end_at es k).wire)) (sym ins)
              (subst (λ (ls : List Lane). InEndStands e (lane_at ls e.wire) (y.now e.wire)) (sym step.lanes_same)
              (in_end_keep e (lane_at (lanes_of l.wires) e.wire) (b.world e.wire) (y.now e.wire) (y.course.sent e.wire (λ o. b.wired.apart e.wire member o)) (y.course.stays_finished e.wire) (b.ins k klt)));
          outs = λ k d lt.
              let klt : k < length l.outs.items = subst (λ (es : List OutEnd). k < length es) outs lt in
              let e : OutEnd = slice_index_or l.outs.items k d in
              let member : IsIn e.wire (out_wires_of l.node) = subst (λ (ws : List ℕ). IsIn e.wire ws) b.wired.out_wires (out_member l.outs.items k d klt) in
              subst (λ (es : List OutEnd). OutEndStands (slice_index_or es k d) (lane_at (lanes_of l'.wires) (slice_index_or es k d).wire) (y.now (slice_index_or es k d).wire)) (sym outs)
              (subst (λ (ls : List Lane). OutEndStands e (lane_at ls e.wire) (y.now e.wire)) (sym step.lanes_same)
              (out_end_keep e (lane_at (lanes_of l.wires) e.wire) (b.world e.wire) (y.now e.wire) (y.course.taken e.wire (λ i. b.wired.apart e.wire i member)) (y.course.finished e.wire (λ i. b.wired.apart e.wire i member)) (b.outs k d klt)));
        };
  }

  -- how a node begins
  pub begins : (task : Task) (l : Linked M) → IsBeginning view task l.node l.wires l.ins.items l.outs.items → Behind view task l
  begins task l b = record {
    wired = record { shaped = b.shaped; apart = b.apart; in_wires = b.in_wires; out_wires = b.out_wires };
    world = λ w. fresh;
    past = start task;
    stand = b.wires_new;
    fits = b.node_new;
    task_is = refl;
    ins = λ p lt.
        let n = b.ins_new p lt in
        let e : InEnd = in_end_at l.ins.items p in
        subst (λ (f : InEnd). InEndStands f (lane_at (lanes_of l.wires) e.wire) fresh) (sym n.1) (in_new_stands e.wire n.0 (lane_at (lanes_of l.wires) e.wire) n.2 n.3 n.4);
    outs = λ q d lt.
        let n = b.outs_new q d lt in
        let e : OutEnd = slice_index_or l.outs.items q d in
        subst (λ (f : OutEnd). OutEndStands f (lane_at (lanes_of l.wires) e.wire) fresh) (sym n.1) (out_new_stands e.wire n.0 (lane_at (lanes_of l.wires) e.wire) n.2 n.3);
  }

  -- a node that goes on stays wired
  pub wired_after : (old new : Linked M) → Follows view old new → IsWired view old → IsWired view new
  wired_after old new f w = record {
    shaped = record {
      ins = have_after (in_wires_of old.node) (in_wires_of new.node) (view old.node.machine).in_lanes (view new.node.machine).in_lanes (lanes_of old.wires) (lanes_of new.wires) f.ins_same f.in_lanes_same f.lanes_same w.shaped.ins;
      outs = have_after (out_wires_of old.node) (out_wires_of new.node) (view old.node.machine).out_lanes (view new.node.machine).out_lanes (lanes_of old.wires) (lanes_of new.wires) f.outs_same f.out_lanes_same f.lanes_same w.shaped.outs;
    };
    apart = λ v a b. w.apart v (subst (λ (ws : List ℕ). IsIn v ws) f.ins_same a) (subst (λ (ws : List ℕ). IsIn v ws) f.outs_same b);
    in_wires = f.in_ends_same ∙ (w.in_wires ∙ sym f.ins_same);
    out_wires = f.out_ends_same ∙ (w.out_wires ∙ sym f.outs_same);
  }

  -- and lawful
  pub lawful_after : (old new : Linked M) → Follows view old new → IsLawful view old → IsLawful view new
  lawful_after old new f l = record {
    wired = wired_after old new f l.wired;
    vouched = λ q d lt claims.
        let count : length new.outs.items ≡ length old.outs.items = sym (count_map (λ (x : OutEnd). x.wire) new.outs.items) ∙ (ap length f.out_ends_same ∙ count_map (λ (x : OutEnd). x.wire) old.outs.items) in
        let lt' : q < length old.outs.items = subst (λ (n : ℕ). q < n) count lt in
        let link : out_link (slice_index_or new.outs.items q d) ≡ out_link (slice_index_or old.outs.items q d) = sym (out_link_nth new.outs.items q d lt) ∙ (ap (λ (ls : List (Option Link)). slice_index_or ls q None) f.out_links_same ∙ out_link_nth old.outs.items q d lt') in
        let b = l.vouched q d lt' (claimed (slice_index_or new.outs.items q d) (slice_index_or old.outs.items q d) link claims) in
        (b.0, f.goes b.0 b.1);
  }

  -- and of its cell
  pub of_after : (cell : Scheduler) (old new : Linked M) → Follows view old new → IsOf view cell old.node → IsOf view cell new.node
  of_after cell old new f o = record {
    pass = f.passes.cell ∙ o.pass;
    source = λ s is. o.source s (sym f.source_same ∙ is);
  }
