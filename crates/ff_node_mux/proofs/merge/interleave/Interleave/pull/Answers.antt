use Rattle.std.proofs.Common.{◌≡◌, ◌∙◌, ◌∷◌, drop, set, sym, ap, subst, arith, refl, length, List}
use Rattle.ff_frame.specs.declared.packet.Pkt.{Pkt}
use Rattle.ff_node_mux.specs.declared.merge.queue.PacketQueue.{PacketQueue}
use Rattle.ff_node_mux.specs.merge.Merges.{Placed}
use Rattle.ff_node_mux.specs.merge.Queues.{Waiting, merging, Gave}
use Rattle.ff_node_mux.proofs.MergeLemmas.Placing.{waiting_there}
use Rattle.ff_node_mux.proofs.MergeLemmas.Giving.{gave, waits_unknown, waits_empty}
use Rattle.ff_node_mux.proofs.merge.interleave.Interleave.pull.Goals as goal

pub returns-then-not-is_known-clause-waits : goal.returns-then-not-is_known-clause-waits
returns-then-not-is_known-clause-waits c e = waits_unknown c.args.self.now.queues.items (sym c.is_known.ensures ∙ c.if-not-is_known.true)

pub returns-in_default-clause-waits : goal.returns-in_default-clause-waits
returns-in_default-clause-waits c e = waits_empty c.args.self.now.queues.items c.in_default.ensures

pub returns-in-None-clause-waits : goal.returns-in-None-clause-waits
returns-in-None-clause-waits c e =
    let v = c.args.self.now.queues in
    let f = c.in-Some.ensures in
    let below = f.below in
    let is = waiting_there v.items c.in-Some.stream c.index_mut.result.now below c.index_mut.ensures.value in
    let some : c.index_mut.result.now.queue.items ≡ f.packet ∷ f.others = ap (λ (w : Waiting). w.packets) (sym is) ∙ f.waits in
    let none : c.index_mut.result.now.queue.items ≡ drop 1 c.index_mut.result.now.queue.items = c.in-None.ensures.items ∙ c.pop_front.ensures.rest in
    let clash : f.packet ∷ f.others ≡ f.others = sym some ∙ (none ∙ ap (λ (ps : List Pkt). drop 1 ps) some) in
    let long : length (f.packet ∷ f.others) ≡ length f.others = ap (λ (ps : List Pkt). length ps) clash in
    absurd (omega (arith, long))

pub returns-in-Some-pop_front-clause-gives : goal.returns-in-Some-pop_front-clause-gives
returns-in-Some-pop_front-clause-gives c x e =
    let v = c.args.self.now.queues in
    let f = c.in-Some.ensures in
    let below = f.below in
    let j = c.index_mut.result.now in
    let is = waiting_there v.items c.in-Some.stream j below c.index_mut.ensures.value in
    let some : j.queue.items ≡ f.packet ∷ f.others = ap (λ (w : Waiting). w.packets) (sym is) ∙ f.waits in
    let took : j.queue.items ≡ c.in-Some-pop_front.packet ∷ c.pop_front.new.self.items = c.in-Some-pop_front.ensures.items in
    let both : f.packet ∷ f.others ≡ c.in-Some-pop_front.packet ∷ c.pop_front.new.self.items = sym some ∙ took in
    let same : f.packet ≡ c.in-Some-pop_front.packet = cc (both) in
    let rest : c.pop_front.new.self.items ≡ f.others = cc (both) in
    let placed : (c.in-Some.stream, f.packet) ≡ x = ap (λ (p : Pkt). let y : Placed = (c.in-Some.stream, p) in y) same ∙ cc (e) in
    let q : PacketQueue = record { tb = j.tb; queue = c.pop_front.new.self; after = j.after } in
    subst (λ (y : Placed). Gave (merging v.items) (merging (set v.items c.in-Some.stream q)) y) placed
    (gave v.items c.in-Some.stream q j f.packet f.others below c.index_mut.ensures.value refl refl some rest (sym c.is_known.ensures ∙ c.if-not-is_known.false) f.first)
