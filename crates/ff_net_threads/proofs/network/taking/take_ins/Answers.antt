use Rattle.std.proofs.Common.{◌≡◌, ◌<◌, ℕ, length, get_or, sym, ap, ◌∙◌, subst, arith}
use Rattle.std.proofs.lemmas.Grind.{common_steps}
use Rattle.ff_net.specs.Pasts.{IsIn}
use Rattle.ff_net_threads.specs.declared.links.ends.InEnd.{InEnd}
use Rattle.ff_net_threads.specs.laws.links.Ends.{no_in}
use Rattle.ff_net_threads.specs.laws.network.Nodes.{IsNewIn}
use Rattle.ff_net_threads.proofs.NetworkLemmas.Each.{one_pushed, nth_in}
use Rattle.ff_net_threads.proofs.NetworkLemmas.Taken.{one_wire, in_is_new, receiver_stays}
use Rattle.ff_net_threads.proofs.network.taking.take_ins.Goals as goal

pub take_end-requires : goal.take_end-requires
take_end-requires c =
    let was = c.loop-k.invariant in
    let k = c.loop-k.k in
    let wires = c.args.wires.now in
    let lt : k < length wires = (let test = c.loop-k-test.true in omega (arith, test)) in
    let h = c.requires.there.1 (get_or wires k 0) (nth_in wires k 0 lt) in
    let many = was.as_many in
    (_, (let t = h.there in omega (arith, t, many)), λ d. was.still k d (omega arith) lt ∙ h.is d)

pub loop-k-preserved : goal.loop-k-preserved
loop-k-preserved c =
    let was = c.loop-k.invariant in
    let k = c.loop-k.k in
    let wires = c.args.wires.now in
    let lt : k < length wires = (let test = c.loop-k-test.true in omega (arith, test)) in
    let long : length c.loop-k.ends.items ≡ k = (let count = was.count in let ok = c.loop-k.ends.ok.0 in omega arith) in
    record {
      count = (let count = was.count in let len = c.push_reserved.ensures.len in omega arith);
      room = grind (arith, common_steps);
      wires_are = one_wire (λ (e : InEnd). e.wire) c.loop-k.ends.items c.push_reserved.new.self.items c.new.result wires k was.wires_are c.push_reserved.ensures.items lt (ap (λ (e : InEnd). e.wire) c.new.ensures);
      ends = λ new has p below. one_pushed (λ j e. IsNewIn new e) c.loop-k.ends.items c.push_reserved.new.self.items c.new.result no_in k c.push_reserved.ensures.items long
          (λ j l. was.ends new has j l)
          (in_is_new new c.args.receivers.now.items (get_or wires k 0) c.take_end.result c.new.result c.new.ensures (has (get_or wires k 0) (nth_in wires k 0 lt)) (λ e. sym (was.still k e (omega arith) lt) ∙ c.take_end.ensures.taken e))
          p below;
      still = λ p d above there. c.take_end.ensures.kept (get_or wires p 0) d (λ same. let equal : p ≡ k = c.requires.apart p k there lt same in omega (arith, above, equal)) ∙ was.still p d (omega (arith, above)) there;
      kept = λ w d out. c.take_end.ensures.kept w d (λ same. out (subst (λ (v : ℕ). IsIn v wires) (sym same) (nth_in wires k 0 lt))) ∙ was.kept w d out;
      as_many = c.take_end.ensures.as_many ∙ was.as_many;
    }

pub returns-clause-kept : goal.returns-clause-kept
returns-clause-kept c new w out h = receiver_stays new c.args.receivers.now.items c.loop-k.receivers.items w (λ d. c.loop-k.invariant.kept w d out) c.loop-k.invariant.as_many h
