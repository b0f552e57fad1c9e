-- Where a cut of FLAC wants more, its next packet is open, or whether tags end it.
use Rattle.std.proofs.Common.{◌≡◌, ◌⊎◌, inl, inr, Bool, true, false, cond, ℕ, ◌+◌, List, [], ◌++◌, take, Some, None, refl, sym, ap, ◌∙◌, append-nil}
use Rattle.std.specs.Prelude.{slice_get, pos}
use Rattle.ff_frame.specs.Packet.{packet_at}
use Rattle.ff_frame.specs.declared.packet.Pkt.{Pkt}
use Rattle.ff_flac_frame.specs.declared.stream.FlacStream.{FlacStream}
use Rattle.ff_flac_frame.specs.Frame.{IsStream}
use Rattle.ff_flac_frame.proofs.Whole.{is_not_yet}
use Rattle.ff_flac_dec.specs.declared.head.FlacHead.{FlacHead}
use Rattle.ff_flac_dec.specs.declared.front.Front.TheVariants.{Wait, Other, Whole}
use Rattle.ff_flac_dec.specs.Streams.{stream_of}
use Rattle.ff_flac_dec.specs.Packets.{unit, packets_from, demuxed, broken_at}
use Rattle.ff_flac_dec.specs.Cuts.{Goes, flac_cutter}
use Rattle.ff_flac_dec.proofs.UnitLaws.{wait_more, unit_begins, other-append, other_some, packets_whole, packets_none, broken_other}
use Rattle.ff_flac_dec.specs.Trailers.{are_tags}
use Rattle.ff_flac_dec.specs.laws.Trails.{may_be_tags, MayGoOn}
use Rattle.ff_flac_dec.proofs.TrailLaws.{tags_open}
use Rattle.ff_input.specs.laws.Reading.{IsUndecided}
use Rattle.ff_input.proofs.OpenSteps.{get_behind, get_past}

module _ (head : FlacHead) (used count n : ℕ) (held fed : List ℕ) (is : IsStream (stream_of head.head))
    (goes : (more : List ℕ) → Goes head used count n held fed more) where
  abbrev s : FlacStream
  s = stream_of head.head

  abbrev at : ℕ
  at = head.start + used

  -- no packet is there yet
  none_yet : (unit s held ≡ Wait) ⊎ (unit s held ≡ Other) → slice_get (demuxed head fed) n ≡ None
  none_yet e =
      let h = goes [] in
      ap (λ (xs : List ℕ). slice_get (demuxed head xs) n) (sym (append-nil fed))
      ∙ (ap (λ (ps : List Pkt). slice_get ps n) (h.packets ∙ ap (λ (ps : List Pkt). h.given ++ ps) (ap (packets_from s 0 at count) (append-nil held) ∙ packets_none s at count held e))
      ∙ get_past h.given n h.number)

  frame_open : unit s held ≡ Wait → IsUndecided flac_cutter head fed n
  frame_open wait =
      let m = is_not_yet s is held (wait_more s held wait) in
      let more = m.1 in
      let len = m.3 in
      let block = m.2.header.block in
      let g = goes more in
      let frame : unit s (held ++ more) ≡ Whole len block = unit_begins s (held ++ more) m.2 len m.5 in
      let some : slice_get (demuxed head (fed ++ more)) n ≡ Some (packet_at (pos count) (pos block) at (take len (held ++ more))) =
      ap (λ (ps : List Pkt). slice_get ps n) (g.packets ∙ ap (λ (ps : List Pkt). g.given ++ ps) (packets_whole s is at count len block (held ++ more) frame))
      ∙ get_behind g.given (packet_at (pos count) (pos block) at (take len (held ++ more))) _ n g.number in
      (more, inl (λ same. let clash = sym some ∙ (same ∙ none_yet (inl wait)) in cc))

  -- where the packets break off behind the last frame, if tags aren't there
  broken_behind : unit s held ≡ Other → (more : List ℕ) → broken_at head (fed ++ more) ≡ cond (are_tags (held ++ more)) None (Some at)
  broken_behind e more =
      let all = other-append s is held more e in
      (goes more).place ∙ broken_other s at (held ++ more) (other_some s is (held ++ more) all) all

  tags_are_open : unit s held ≡ Other → may_be_tags held ≡ true → IsUndecided flac_cutter head fed n
  tags_are_open e may =
      let m = tags_open held may in
      let here : broken_at head fed ≡ cond (are_tags held) None (Some at) =
      ap (broken_at head) (sym (append-nil fed)) ∙ (broken_behind e [] ∙ ap (λ xs. cond (are_tags xs) None (Some at)) (append-nil held)) in
      (m.0, inr (none_yet (inr e), λ same. m.1 (told_apart (are_tags (held ++ m.0)) (are_tags held) at (sym (broken_behind e m.0) ∙ (same ∙ here)))))
    where
      told_apart : (x y : Bool) (place : ℕ) → cond x None (Some place) ≡ cond y None (Some place) → x ≡ y
      told_apart true true place k = refl
      told_apart false false place k = refl
      told_apart true false place k = cc
      told_apart false true place k = cc

  pub flac_open : MayGoOn s held → IsUndecided flac_cutter head fed n
  flac_open (inl wait) = frame_open wait
  flac_open (inr e) = tags_are_open e.0 e.1
