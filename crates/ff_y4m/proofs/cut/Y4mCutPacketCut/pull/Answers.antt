use Rattle.std.proofs.Common.{◌≡◌, ◌+◌, ◌∙◌, ap, sym, refl, inl, inr, arith, Some, pos}
use Rattle.ff_frame.specs.Packet.{packet_at}
use Rattle.ff_frame.specs.declared.cut.Cut.TheVariants.{End, Broken}
use Rattle.ff_y4m.specs.declared.frame.Front.TheVariants.{Wait, Other, Frame}
use Rattle.ff_y4m.specs.Packets.{unit, packet_in}
use Rattle.ff_y4m.proofs.UnitLaws.{frame_at, wait_few}
use Rattle.ff_y4m.proofs.CutLaws.{frame_gives, over_left, broken_left}
use Rattle.ff_y4m.proofs.cut.Y4mCutPacketCut.pull.Goals as goal

pub overflow_add-line : goal.overflow_add-line
overflow_add-line c =
    let e : unit c.args.self.now.head.frame_bytes c.args.self.now.held.bytes ≡ Frame c.in-Frame.line = sym (rw c.as_slice.ensures at c.in-Frame.ensures) in
    let f = frame_at c.args.self.now.head.frame_bytes c.in-Frame.line c.args.self.now.held.bytes e in
    omega (arith, f.2)

pub take_out-requires : goal.take_out-requires
take_out-requires c =
    let e : unit c.args.self.now.head.frame_bytes c.args.self.now.held.bytes ≡ Frame c.in-Frame.line = sym (rw c.as_slice.ensures at c.in-Frame.ensures) in
    let f = frame_at c.args.self.now.head.frame_bytes c.in-Frame.line c.args.self.now.held.bytes e in
    f.3

pub overflow_add-self-in-Frame : goal.overflow_add-self-in-Frame
overflow_add-self-in-Frame c =
    let e : unit c.args.self.now.head.frame_bytes c.args.self.now.held.bytes ≡ Frame c.in-Frame.line = sym (rw c.as_slice.ensures at c.in-Frame.ensures) in
    let f = frame_at c.args.self.now.head.frame_bytes c.in-Frame.line c.args.self.now.held.bytes e in
    omega (arith, f.2)

pub overflow_add-self-in-Frame-2 : goal.overflow_add-self-in-Frame-2
overflow_add-self-in-Frame-2 c =
    let e : unit c.args.self.now.head.frame_bytes c.args.self.now.held.bytes ≡ Frame c.in-Frame.line = sym (rw c.as_slice.ensures at c.in-Frame.ensures) in
    let f = frame_at c.args.self.now.head.frame_bytes c.in-Frame.line c.args.self.now.held.bytes e in
    let s = c.args.self.now.size in
    omega (arith, f.2, s)

pub overflow_add-self-in-Frame-3 : goal.overflow_add-self-in-Frame-3
overflow_add-self-in-Frame-3 c =
    let e : unit c.args.self.now.head.frame_bytes c.args.self.now.held.bytes ≡ Frame c.in-Frame.line = sym (rw c.as_slice.ensures at c.in-Frame.ensures) in
    let f = frame_at c.args.self.now.head.frame_bytes c.in-Frame.line c.args.self.now.held.bytes e in
    let s = c.args.self.now.size in
    omega (arith, f.2, s, c.requires)

pub returns-in_ok-planes-in-Frame-clause-gives : goal.returns-in_ok-planes-in-Frame-clause-gives
returns-in_ok-planes-in-Frame-clause-gives c = λ p ok head fed n cuts.
    let cut = c.args.self.now in
    let e : unit cut.head.frame_bytes cut.held.bytes ≡ Frame c.in-Frame.line = sym (rw c.as_slice.ensures at c.in-Frame.ensures) in
    let same : p ≡ c.packet-p.result = cc in
    let p_is : p ≡ packet_in cut.head.frame_bytes (cut.head.start + cut.used) cut.count c.in-Frame.line cut.held.bytes =
    same ∙ (c.packet-p.ensures ∙ ap (λ xs. packet_at (pos cut.count) (pos 1) (cut.head.start + cut.used) xs) c.in_ok-planes-in-Frame.ensures.ok) in
    frame_gives cut _ head fed n c.in-Frame.line p cuts e refl refl refl c.in_ok-planes-in-Frame.ensures.rest p_is

pub returns-in_ok-planes-in-Frame-clause-place : goal.returns-in_ok-planes-in-Frame-clause-place
returns-in_ok-planes-in-Frame-clause-place c = λ p ok.
    let cut = c.args.self.now in
    let e : unit cut.head.frame_bytes cut.held.bytes ≡ Frame c.in-Frame.line = sym (rw c.as_slice.ensures at c.in-Frame.ensures) in
    let f = frame_at cut.head.frame_bytes c.in-Frame.line cut.held.bytes e in
    let same : p ≡ c.packet-p.result = cc in
    let p_is : p ≡ packet_in cut.head.frame_bytes (cut.head.start + cut.used) cut.count c.in-Frame.line cut.held.bytes =
    same ∙ (c.packet-p.ensures ∙ ap (λ xs. packet_at (pos cut.count) (pos 1) (cut.head.start + cut.used) xs) c.in_ok-planes-in-Frame.ensures.ok) in
    (ap (λ q. q.pos) p_is, omega arith, omega (arith, f.2))

pub returns-in-Other-clause-breaks : goal.returns-in-Other-clause-breaks
returns-in-Other-clause-breaks c = λ offset ok head fed n cuts more r.
    let cut = c.args.self.now in
    let e : unit cut.head.frame_bytes cut.held.bytes ≡ Other = sym (rw c.as_slice.ensures at c.in-Other.ensures) in
    let same : cut.head.start + cut.used ≡ offset = cc (ok) in
    let b = broken_left cut head fed n cuts (inl e) more r in (b.0, b.1 ∙ ap Some same)

pub returns-in-Wait-clause-ends : goal.returns-in-Wait-clause-ends
returns-in-Wait-clause-ends c = λ ok head fed n cuts.
    let o : c.unfinished.result ≡ End = cc (ok) in
    let h = c.unfinished.ensures.over.0 o in
    over_left c.args.self.now head fed n cuts h.0 h.1

pub returns-in-Wait-clause-breaks : goal.returns-in-Wait-clause-breaks
returns-in-Wait-clause-breaks c = λ offset ok head fed n cuts more r.
    let cut = c.args.self.now in
    let e : unit cut.head.frame_bytes cut.held.bytes ≡ Wait = sym (rw c.as_slice.ensures at c.in-Wait.ensures) in
    let o : c.unfinished.result ≡ Broken offset = cc (ok) in
    let h = (c.unfinished.ensures.broken offset).0 o in
    let b = broken_left cut head fed n cuts (inr (h.0, h.1, e)) more r in (b.0, b.1 ∙ ap Some (sym h.2))

pub returns-in-Wait-clause-still : goal.returns-in-Wait-clause-still
returns-in-Wait-clause-still c = λ ok.
    let cut = c.args.self.now in
    let e : unit cut.head.frame_bytes cut.held.bytes ≡ Wait = sym (rw c.as_slice.ensures at c.in-Wait.ensures) in
    (refl, wait_few cut.head.frame_bytes cut.held.bytes e)

pub returns-in-Wait-clause-stays : goal.returns-in-Wait-clause-stays
returns-in-Wait-clause-stays c = λ offset ok.
    let o : c.unfinished.result ≡ Broken offset = cc (ok) in
    let h = (c.unfinished.ensures.broken offset).0 o in (refl, h.2)

pub returns-in_ok-planes-in-Frame-clause-further : goal.returns-in_ok-planes-in-Frame-clause-further
returns-in_ok-planes-in-Frame-clause-further c =
    let cut = c.args.self.now in
    let e : unit cut.head.frame_bytes cut.held.bytes ≡ Frame c.in-Frame.line = sym (rw c.as_slice.ensures at c.in-Frame.ensures) in
    let f = frame_at cut.head.frame_bytes c.in-Frame.line cut.held.bytes e in
    omega (arith, f.2)
