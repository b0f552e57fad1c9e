use Rattle.std.proofs.Common.{◌≡◌, ◌+◌, ◌∙◌, take, ap, sym, refl, inl, inr, Some, pos}
use Rattle.ff_frame.specs.Packet.{packet_at}
use Rattle.ff_frame.specs.declared.cut.Cut.TheVariants.{End, Broken, NotYet}
use Rattle.ff_flac_dec.specs.declared.front.Front.TheVariants.{Wait, Other, Whole}
use Rattle.ff_flac_dec.specs.Streams.{stream_of}
use Rattle.ff_flac_dec.specs.Packets.{unit}
use Rattle.ff_flac_dec.proofs.Longest.{waits_below}
use Rattle.ff_flac_dec.proofs.UnitLaws.{wait_more}
use Rattle.ff_flac_dec.proofs.CutLaws.{whole_gives, over_left, tags_left, never_tags, broken_left, same_cut}
use Rattle.ff_flac_dec.specs.Trailers.{are_tags}
use Rattle.ff_flac_dec.proofs.cut.FlacCutPacketCut.pull.Goals as goal

pub returns-in_ok-p-in-Whole-clause-settles : goal.returns-in_ok-p-in-Whole-clause-settles
returns-in_ok-p-in-Whole-clause-settles c = λ p ok head fed n cuts.
    let cut = c.args.self.now in
    let e : unit (stream_of cut.head.head) cut.held.bytes ≡ Whole c.in-Whole.len c.in-Whole.block =
    sym (rw (c.as_slice.ensures, c.stream-stream.ensures) at c.in_ok-found.ensures.exact) ∙ c.in-Whole.is in
    let same : p ≡ c.in_ok-p-in-Whole.p = cc (ok) in
    let p_is : p ≡ packet_at (pos cut.count) (pos c.in-Whole.block) (cut.head.start + cut.used) (take c.in-Whole.len cut.held.bytes) =
    same
    ∙ (c.in_ok-p-in-Whole.ensures ∙ ap (λ xs. packet_at (pos cut.count) (pos c.in-Whole.block) (cut.head.start + cut.used) xs) (c.front.ensures ∙ ap (take c.in-Whole.len) c.as_slice-in-Whole.ensures)) in
    whole_gives cut _ head fed n c.in-Whole.len c.in-Whole.block p cut.frames cuts e refl (ap (λ k. cut.count + k) c.from.ensures) refl c.skip.ensures.bytes p_is

pub returns-in_ok-p-in-Whole-clause-gives : goal.returns-in_ok-p-in-Whole-clause-gives
returns-in_ok-p-in-Whole-clause-gives c = λ p ok head fed n cuts.
    let cut = c.args.self.now in
    let e : unit (stream_of cut.head.head) cut.held.bytes ≡ Whole c.in-Whole.len c.in-Whole.block =
    sym (rw (c.as_slice.ensures, c.stream-stream.ensures) at c.in_ok-found.ensures.exact) ∙ c.in-Whole.is in
    let same : p ≡ c.in_ok-p-in-Whole.p = cc (ok) in
    let p_is : p ≡ packet_at (pos cut.count) (pos c.in-Whole.block) (cut.head.start + cut.used) (take c.in-Whole.len cut.held.bytes) =
    same
    ∙ (c.in_ok-p-in-Whole.ensures ∙ ap (λ xs. packet_at (pos cut.count) (pos c.in-Whole.block) (cut.head.start + cut.used) xs) (c.front.ensures ∙ ap (take c.in-Whole.len) c.as_slice-in-Whole.ensures)) in
    let w =
    whole_gives cut _ head fed n c.in-Whole.len c.in-Whole.block p cut.frames cuts e refl (ap (λ k. cut.count + k) c.from.ensures) refl c.skip.ensures.bytes p_is in
    (w.0, λ more r. w.1 more)

pub returns-in-Other-clause-ends : goal.returns-in-Other-clause-ends
returns-in-Other-clause-ends c = λ ok head fed n cuts.
    let cut = c.args.self.now in
    let e : unit (stream_of cut.head.head) cut.held.bytes ≡ Other =
    sym (rw (c.as_slice.ensures, c.stream-stream.ensures) at c.in_ok-found.ensures.exact) ∙ c.in-Other.is in
    let o : c.behind_frames.result ≡ End = cc (ok) in
    let h = c.behind_frames.ensures.over o in
    tags_left cut head fed n cut.frames cuts h.0 e (sym (ap are_tags c.as_slice-in-Other.ensures) ∙ h.1)

pub returns-in-Other-clause-breaks : goal.returns-in-Other-clause-breaks
returns-in-Other-clause-breaks c = λ offset ok head fed n cuts more r.
    let cut = c.args.self.now in
    let e : unit (stream_of cut.head.head) cut.held.bytes ≡ Other =
    sym (rw (c.as_slice.ensures, c.stream-stream.ensures) at c.in_ok-found.ensures.exact) ∙ c.in-Other.is in
    let o : c.behind_frames.result ≡ Broken offset = cc (ok) in
    let h = c.behind_frames.ensures.broken offset o in
    let b = broken_left cut head fed n cut.frames cuts (inl (e, never_tags cut c.as_slice-in-Other.result.now c.as_slice-in-Other.ensures h.1)) more r in
    (b.0, b.1 ∙ ap Some (sym h.0))

pub returns-in-Wait-clause-ends : goal.returns-in-Wait-clause-ends
returns-in-Wait-clause-ends c = λ ok head fed n cuts.
    let o : c.unfinished.result ≡ End = cc (ok) in
    let h = c.unfinished.ensures.over.0 o in
    over_left c.args.self.now head fed n cuts h.0 h.1

pub returns-in-Wait-clause-breaks : goal.returns-in-Wait-clause-breaks
returns-in-Wait-clause-breaks c = λ offset ok head fed n cuts more r.
    let cut = c.args.self.now in
    let e : unit (stream_of cut.head.head) cut.held.bytes ≡ Wait =
    sym (rw (c.as_slice.ensures, c.stream-stream.ensures) at c.in_ok-found.ensures.exact) ∙ c.in-Wait.is in
    let o : c.unfinished.result ≡ Broken offset = cc (ok) in
    let h = (c.unfinished.ensures.broken offset).0 o in
    let b = broken_left cut head fed n cut.frames cuts (inr (h.0, h.1, e)) more r in (b.0, b.1 ∙ ap Some (sym h.2))

pub returns-in-Wait-clause-stays : goal.returns-in-Wait-clause-stays
returns-in-Wait-clause-stays c = λ offset ok.
    let o : c.unfinished.result ≡ Broken offset = cc (ok) in
    let h = (c.unfinished.ensures.broken offset).0 o in (same_cut c.args.self.now _ _ _, h.2)

pub returns-in-Wait-clause-still : goal.returns-in-Wait-clause-still
returns-in-Wait-clause-still c = λ ok.
    let cut = c.args.self.now in
    let e : unit (stream_of cut.head.head) cut.held.bytes ≡ Wait =
    sym (rw (c.as_slice.ensures, c.stream-stream.ensures) at c.in_ok-found.ensures.exact) ∙ c.in-Wait.is in
    (same_cut c.args.self.now _ _ _, waits_below (stream_of cut.head.head) cut.frames cut.held.bytes (wait_more (stream_of cut.head.head) cut.held.bytes e))

pub returns-in-Wait-clause-few : goal.returns-in-Wait-clause-few
returns-in-Wait-clause-few c = λ ok.
    let cut = c.args.self.now in
    let e : unit (stream_of cut.head.head) cut.held.bytes ≡ Wait =
    sym (rw (c.as_slice.ensures, c.stream-stream.ensures) at c.in_ok-found.ensures.exact) ∙ c.in-Wait.is in
    let o : c.unfinished.result ≡ NotYet = cc (ok) in
    (c.unfinished.ensures.not_yet.0 o, waits_below (stream_of cut.head.head) cut.frames cut.held.bytes (wait_more (stream_of cut.head.head) cut.held.bytes e))
