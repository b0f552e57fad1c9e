use Rattle.std.proofs.Common.{◌≡◌, ◌<◌, ◌-◌, ℕ, true, false, ◌||◌, sym, subst, ◌∷◌, [], arith}
use Rattle.ff_stream.specs.Items.{Closes}
use Rattle.ff_stream.specs.Stream.{still_open}
use Rattle.ff_stream.specs.Ports.{stream_at}
use Rattle.ff_net.specs.Ways.{AreValid, with_item_at}
use Rattle.ff_net.specs.Pasts.{fed}
use Rattle.ff_test_machines.specs.Relays.{Relays}
use Rattle.ff_test_machines.proofs.RelaySteps.{fed_over, fed_closing, fed_data, only_port, closed_with}
use Rattle.ff_test_machines.proofs.relay.RelayMachine.feed.Goals as goal

pub returns-then-self-eq0-2-clause-accepted : goal.returns-then-self-eq0-2-clause-accepted
returns-then-self-eq0-2-clause-accepted c past s o v =
    let m = c.args.self.now in
    let e : c.args._port ≡ 0 = only_port c.args._port c.requires in
    let at : (stream_at past.got 0).mark ≡ still_open → AreValid (m.lane ∷ []) (with_item_at past.got 0 c.args.item) → Relays m.lane m.limit m.left (m.closed || c.closes-closes.result) m.given.items m.outs.items (fed past 0 c.args.item) =
    λ o v. fed_over m.lane m.limit m.left m.closed m.given.items m.outs.items past s c.args.item c.closes-closes.result c.if-self-eq0-2.true c.closes-closes.ensures o (v 0) in
    subst (λ (p : ℕ). (stream_at past.got p).mark ≡ still_open → AreValid (m.lane ∷ []) (with_item_at past.got p c.args.item) → Relays m.lane m.limit m.left (m.closed || c.closes-closes.result) m.given.items m.outs.items (fed past p c.args.item)) (sym e) at o v

pub returns-then-closes-clause-accepted : goal.returns-then-closes-clause-accepted
returns-then-closes-clause-accepted c past s o v =
    let m = c.args.self.now in
    let x = c.args.item in
    let e : c.args._port ≡ 0 = only_port c.args._port c.requires in
    let more : 0 < m.left = omega (arith, c.if-self-eq0-2.false) in
    let b : c.closes-closes.result ≡ true = c.if-closes.true in
    let at : (stream_at past.got 0).mark ≡ still_open → AreValid (m.lane ∷ []) (with_item_at past.got 0 x) → Relays m.lane m.limit m.left (m.closed || c.closes-closes.result) c.push.new.self.items m.outs.items (fed past 0 x) =
    λ o v. rw (c.in-Ok.ensures.items, b) (fed_closing m.lane m.limit m.left m.closed m.given.items m.outs.items past s x more (c.closes-closes.ensures.0 b) o
    (rw b at (closed_with m.lane m.limit m.left m.closed m.given.items m.outs.items past s x c.closes-closes.result c.closes-closes.ensures o)) (v 0)) in
    subst (λ (p : ℕ). (stream_at past.got p).mark ≡ still_open → AreValid (m.lane ∷ []) (with_item_at past.got p x) → Relays m.lane m.limit m.left (m.closed || c.closes-closes.result) c.push.new.self.items m.outs.items (fed past p x)) (sym e) at o v

pub returns-else-closes-clause-accepted : goal.returns-else-closes-clause-accepted
returns-else-closes-clause-accepted c past s o v =
    let m = c.args.self.now in
    let x = c.args.item in
    let e : c.args._port ≡ 0 = only_port c.args._port c.requires in
    let more : 0 < m.left = omega (arith, c.if-self-eq0-2.false) in
    let b : c.closes-closes.result ≡ false = c.if-closes.false in
    let goes_on : Closes x → ⊥ = λ h. let t : c.closes-closes.result ≡ true = c.closes-closes.ensures.1 h in cc (t, b) in
    let at : (stream_at past.got 0).mark ≡ still_open → AreValid (m.lane ∷ []) (with_item_at past.got 0 x) → Relays m.lane m.limit (m.left - 1) (m.closed || c.closes-closes.result) c.push.new.self.items m.outs.items (fed past 0 x) =
    λ o v. rw (c.in-Ok.ensures.items, b) (fed_data m.lane m.limit m.left m.closed m.given.items m.outs.items past s x more goes_on o
    (rw b at (closed_with m.lane m.limit m.left m.closed m.given.items m.outs.items past s x c.closes-closes.result c.closes-closes.ensures o)) (v 0)) in
    subst (λ (p : ℕ). (stream_at past.got p).mark ≡ still_open → AreValid (m.lane ∷ []) (with_item_at past.got p x) → Relays m.lane m.limit (m.left - 1) (m.closed || c.closes-closes.result) c.push.new.self.items m.outs.items (fed past p x)) (sym e) at o v
