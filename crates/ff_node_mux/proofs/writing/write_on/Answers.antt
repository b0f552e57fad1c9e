use Rattle.std.proofs.Common.{◌≡◌, ◌≤◌, ℕ, List, [], length, refl, sym, ◌∙◌, subst, arith}
use Rattle.ff_node_mux.specs.merge.Merges.{Placed}
use Rattle.ff_node_mux.specs.merge.Queues.{merging}
use Rattle.ff_net.specs.declared.fault.Fault.TheVariants.{NoMemory}
use Rattle.ff_format.specs.Layouts.{Layout, body}
use Rattle.ff_format.specs.laws.Patches.{replacing}
use Rattle.ff_node_mux.specs.laws.Writing.{text_before}
use Rattle.ff_node_mux.proofs.Ends.{header_stands, replaced_inside}
use Rattle.ff_node_mux.proofs.Texts.{front_none}
use Rattle.ff_node_mux.proofs.WriteSteps.{stuck_early, stuck_first, stuck_midway, wrote_so_far, stuck_at_end, wrote_to_end, stuck_last}
use Rattle.ff_node_mux.proofs.writing.write_on.Goals as goal

pub returns-in_default-clause-stuck : goal.returns-in_default-clause-stuck
returns-in_default-clause-stuck g c =
    let K = g.K.Sink in
    let W = g.W.Writer in
    let layout = W.layout c.args.writer.now in
    let old = merging c.args.merge.now.queues.items in
    let before = K.holds c.args.snk.now in
    let counts = W.counts c.args.writer.now in
    stuck_early layout old before counts c.args.begun c.args.whole before [] (text_before c.args.begun layout) NoMemory (front_none before) refl (λ e. cc)

pub returns-then-is_some-clause-stuck : goal.returns-then-is_some-clause-stuck
returns-then-is_some-clause-stuck g c =
    let K = g.K.Sink in
    let W = g.W.Writer in
    let layout = W.layout c.args.writer.now in
    let old = merging c.args.merge.now.queues.items in
    let before = K.holds c.args.snk.now in
    let counts = W.counts c.args.writer.now in
    let text = c.deref.result.now in
    let is : text ≡ text_before c.args.begun layout = c.deref.ensures.value ∙ c.in-Ok.ensures in
    stuck_first layout old before counts c.args.begun c.args.whole (K.holds c.write-fault.new.snk) text c.write-fault.result is
    c.write-fault.ensures.front c.write-fault.ensures.kinds

pub returns-in-Err-clause-stuck : goal.returns-in-Err-clause-stuck
returns-in-Err-clause-stuck g c =
    let K = g.K.Sink in
    let W = g.W.Writer in
    let layout = W.layout c.args.writer.now in
    let old = merging c.args.merge.now.queues.items in
    let before = K.holds c.args.snk.now in
    let counts = W.counts c.args.writer.now in
    let text = c.deref.result.now in
    let is : text ≡ text_before c.args.begun layout = c.deref.ensures.value ∙ c.in-Ok.ensures in
    let between = K.holds c.write-fault.new.snk in
    let adds = c.write-fault.ensures.ok (sym c.is_some.ensures ∙ c.if-is_some.false) in
    let written = K.holds c.write_decided.new.snk in
    stuck_midway layout old before counts c.args.begun c.args.whole between written text c.in-Err.fault adds is c.in-Err.ensures.stuck

pub returns-then-not-whole-clause-ok : goal.returns-then-not-whole-clause-ok
returns-then-not-whole-clause-ok g c = λ e.
    let K = g.K.Sink in
    let W = g.W.Writer in
    let layout = W.layout c.args.writer.now in
    let old = merging c.args.merge.now.queues.items in
    let before = K.holds c.args.snk.now in
    let counts = W.counts c.args.writer.now in
    let text = c.deref.result.now in
    let is : text ≡ text_before c.args.begun layout = c.deref.ensures.value ∙ c.in-Ok.ensures in
    let between = K.holds c.write-fault.new.snk in
    let adds = c.write-fault.ensures.ok (sym c.is_some.ensures ∙ c.if-is_some.false) in
    let written = K.holds c.write_decided.new.snk in
    let new = merging c.write_decided.new.merge.queues.items in
    let counts' = W.counts c.write_decided.new.writer in
    wrote_so_far layout old before counts c.args.begun c.args.whole new between written counts' text adds is c.in-Ok-write_decided.ensures.ok
    c.args.totals c.if-not-whole.true

pub returns-in_default-last-clause-stuck : goal.returns-in_default-last-clause-stuck
returns-in_default-last-clause-stuck g c =
    let K = g.K.Sink in
    let W = g.W.Writer in
    let layout = W.layout c.args.writer.now in
    let old = merging c.args.merge.now.queues.items in
    let before = K.holds c.args.snk.now in
    let counts = W.counts c.args.writer.now in
    let text = c.deref.result.now in
    let is : text ≡ text_before c.args.begun layout = c.deref.ensures.value ∙ c.in-Ok.ensures in
    let between = K.holds c.write-fault.new.snk in
    let adds = c.write-fault.ensures.ok (sym c.is_some.ensures ∙ c.if-is_some.false) in
    let written = K.holds c.write_decided.new.snk in
    let new = merging c.write_decided.new.merge.queues.items in
    let counts' = W.counts c.write_decided.new.writer in
    stuck_at_end layout old before counts c.args.begun c.args.whole new between written counts' text adds is c.in-Ok-write_decided.ensures.ok

pub write_end-requires : goal.write_end-requires
write_end-requires g c =
    let K = g.K.Sink in
    let W = g.W.Writer in
    let layout = W.layout c.args.writer.now in
    let writer = c.write_decided.new.writer in
    let written = K.written c.write_decided.new.snk in
    let text = c.deref.result.now in
    let is : text ≡ text_before c.args.begun layout = c.deref.ensures.value ∙ c.in-Ok.ensures in
    let first = c.write-fault.ensures.written (sym c.is_some.ensures ∙ c.if-is_some.false) in
    let later = c.in-Ok-write_decided.ensures.written in
    let header : length layout.header ≤ written =
    header_stands layout (K.written c.args.snk.now) written c.args.begun text c.requires.room is (omega (arith, first, later)) in
    replaced_inside (W.layout writer) (W.counts writer) c.args.totals written (replacing c.in-Ok-last.patch)
    (λ none. c.requires.counted (λ n h. let a = c.write_decided.ensures.still_counts n h in none a.0 a.1))
    (subst (λ (l : Layout). length l.header ≤ written) (sym c.write_decided.ensures.layout) header)
    c.in-Ok-last.ensures (λ n. g.met.W.Writer.inside writer n c.args.totals)

pub returns-clause-ok : goal.returns-clause-ok
returns-clause-ok g c = λ none.
    let K = g.K.Sink in
    let W = g.W.Writer in
    let layout = W.layout c.args.writer.now in
    let old = merging c.args.merge.now.queues.items in
    let before = K.holds c.args.snk.now in
    let counts = W.counts c.args.writer.now in
    let text = c.deref.result.now in
    let is : text ≡ text_before c.args.begun layout = c.deref.ensures.value ∙ c.in-Ok.ensures in
    let between = K.holds c.write-fault.new.snk in
    let adds = c.write-fault.ensures.ok (sym c.is_some.ensures ∙ c.if-is_some.false) in
    let written = K.holds c.write_decided.new.snk in
    let new = merging c.write_decided.new.merge.queues.items in
    let counts' = W.counts c.write_decided.new.writer in
    let now = K.holds c.write_end.new.snk in
    let tail = c.deref-2.result.now in
    let same = c.write_decided.ensures.layout in
    let tails = subst (λ (l : Layout). (ps : List Placed) → counts' ps → tail ≡ l.tail ps) same
    (λ ps h. c.deref-2.ensures.value ∙ c.in-Ok-tail.ensures ps h) in
    let replaced = replacing c.in-Ok-last.patch in
    let lasts = subst (λ (l : Layout). (ps : List Placed) → counts' ps → replaced ≡ l.last (length (body l ps)) c.args.totals) same c.in-Ok-last.ensures in
    wrote_to_end layout old before counts c.args.begun c.args.whole new between written counts' text adds is c.in-Ok-write_decided.ensures.ok
    now tail tails c.if-not-whole.false replaced c.args.totals lasts (c.write_end.ensures.ok none)

pub returns-clause-stuck : goal.returns-clause-stuck
returns-clause-stuck g c =
    let K = g.K.Sink in
    let W = g.W.Writer in
    let layout = W.layout c.args.writer.now in
    let old = merging c.args.merge.now.queues.items in
    let before = K.holds c.args.snk.now in
    let counts = W.counts c.args.writer.now in
    let text = c.deref.result.now in
    let is : text ≡ text_before c.args.begun layout = c.deref.ensures.value ∙ c.in-Ok.ensures in
    let between = K.holds c.write-fault.new.snk in
    let adds = c.write-fault.ensures.ok (sym c.is_some.ensures ∙ c.if-is_some.false) in
    let written = K.holds c.write_decided.new.snk in
    let new = merging c.write_decided.new.merge.queues.items in
    let counts' = W.counts c.write_decided.new.writer in
    let now = K.holds c.write_end.new.snk in
    let tail = c.deref-2.result.now in
    let same = c.write_decided.ensures.layout in
    let tails = subst (λ (l : Layout). (ps : List Placed) → counts' ps → tail ≡ l.tail ps) same
    (λ ps h. c.deref-2.ensures.value ∙ c.in-Ok-tail.ensures ps h) in
    stuck_last layout old before counts c.args.begun c.args.whole new between written counts' text adds is c.in-Ok-write_decided.ensures.ok
    now tail tails c.if-not-whole.false c.write_end.result c.write_end.ensures.front c.write_end.ensures.kinds

pub returns-in_default-tail-clause-stuck : goal.returns-in_default-tail-clause-stuck
returns-in_default-tail-clause-stuck g c =
    let K = g.K.Sink in
    let W = g.W.Writer in
    let layout = W.layout c.args.writer.now in
    let old = merging c.args.merge.now.queues.items in
    let before = K.holds c.args.snk.now in
    let counts = W.counts c.args.writer.now in
    let text = c.deref.result.now in
    let is : text ≡ text_before c.args.begun layout = c.deref.ensures.value ∙ c.in-Ok.ensures in
    let between = K.holds c.write-fault.new.snk in
    let adds = c.write-fault.ensures.ok (sym c.is_some.ensures ∙ c.if-is_some.false) in
    let written = K.holds c.write_decided.new.snk in
    let new = merging c.write_decided.new.merge.queues.items in
    let counts' = W.counts c.write_decided.new.writer in
    stuck_at_end layout old before counts c.args.begun c.args.whole new between written counts' text adds is c.in-Ok-write_decided.ensures.ok
