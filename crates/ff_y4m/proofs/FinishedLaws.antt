-- The finished files.
use Rattle.std.proofs.Common.{◌≡◌, ℕ, List, [], ◌∷◌, ◌++◌, Some, refl, ap, ◌∙◌, append-nil}
use Rattle.std.specs.Prelude.{map}
use Rattle.std.specs.List.{flat_map}
use Rattle.ff_frame.specs.declared.packet.Pkt.{Pkt}
use Rattle.ff_y4m.specs.Header.{frame_line, frames, header}
use Rattle.ff_y4m.specs.Layout.{PicturesAreFiles}

frames_of : (packets : List (ℕ × Pkt)) → flat_map (λ (p : ℕ × Pkt). frame_line ++ p.1.bytes) packets ≡ frames (map (λ p. p.1) packets)
frames_of [] = refl
frames_of (p ∷ packets) = ap (λ xs. frame_line ++ p.1.bytes ++ xs) (frames_of packets)

pub pictures_are_files : PicturesAreFiles
pictures_are_files head totals packets =
    ap Some (append-nil (header head ++ flat_map (λ (p : ℕ × Pkt). frame_line ++ p.1.bytes) packets) ∙ ap (λ xs. header head ++ xs) (frames_of packets))
