-- Where a cut of YUV4MPEG2 wants more, its next packet is open.
use Rattle.std.proofs.Common.{◌≡◌, ℕ, ◌+◌, List, [], ◌++◌, Some, None, inl, sym, ap, ◌∙◌, append-nil}
use Rattle.std.specs.Prelude.{slice_get}
use Rattle.ff_frame.specs.declared.packet.Pkt.{Pkt}
use Rattle.ff_y4m.specs.declared.head.Y4mHead.{Y4mHead}
use Rattle.ff_y4m.specs.declared.frame.Front.TheVariants.{Wait, Frame}
use Rattle.ff_y4m.specs.Packets.{unit, packets_from, packet_in, demuxed}
use Rattle.ff_y4m.specs.Cuts.{Goes, y4m_cutter}
use Rattle.ff_y4m.proofs.DecidedLaws.{wait_more, frame_found}
use Rattle.ff_y4m.proofs.UnitLaws.{packets_frame, packets_none}
use Rattle.ff_input.specs.laws.Reading.{IsUndecided}
use Rattle.ff_input.proofs.OpenSteps.{get_behind, get_past}

pub y4m_open : (head : Y4mHead) (used n : ℕ) (held fed : List ℕ) → unit head.frame_bytes held ≡ Wait → ((more : List ℕ) → Goes head used n held fed more)
    → IsUndecided y4m_cutter head fed n
y4m_open head used n held fed wait goes =
    let size = head.frame_bytes in
    let at = head.start + used in
    let m = wait_more size held wait in
    let more = m.0 in
    let g = goes more in
    let h = goes [] in
    let frame : unit size (held ++ more) ≡ Frame m.1 = frame_found size m.1 (held ++ more) m.2 in
    let some : slice_get (demuxed head (fed ++ more)) n ≡ Some (packet_in size at n m.1 (held ++ more)) =
    ap (λ (ps : List Pkt). slice_get ps n) (g.packets ∙ ap (λ (ps : List Pkt). g.given ++ ps) (packets_frame size at n m.1 (held ++ more) frame))
    ∙ get_behind g.given (packet_in size at n m.1 (held ++ more)) _ n g.number in
    let none : slice_get (demuxed head fed) n ≡ None =
    ap (λ (xs : List ℕ). slice_get (demuxed head xs) n) (sym (append-nil fed))
    ∙ (ap (λ (ps : List Pkt). slice_get ps n) (h.packets ∙ ap (λ (ps : List Pkt). h.given ++ ps) (ap (packets_from size 0 at n) (append-nil held) ∙ packets_none size at n held (inl wait)))
    ∙ get_past h.given n h.number) in
    (more, inl (λ same. let clash = sym some ∙ (same ∙ none) in cc))
