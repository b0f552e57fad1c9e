-- The frames that are written are read again.
use Rattle.std.proofs.Common.{◌≡◌, ℕ, zero, suc, ◌+◌, ◌≤◌, List, [], ◌∷◌, ◌++◌, drop, length, None, refl, sym, ap, ◌∙◌, arith, length-append, lit<}
use Rattle.std.specs.Prelude.{All}
use Rattle.std.proofs.lemmas.List.{drop-drop, drop_all, take_all, take-append-le}
use Rattle.ff_frame.specs.declared.packet.Pkt.{Pkt}
use Rattle.ff_y4m.specs.declared.frame.Front.TheVariants.{Frame}
use Rattle.ff_y4m.specs.Packets.{unit, packet_in, packets_from, broken_from}
use Rattle.ff_y4m.specs.Header.{frame_line, frames, planes_of}
use Rattle.ff_y4m.proofs.UnitLaws.{unit_at, frame_made, packets_frame, broken_frame}
use Rattle.ff_y4m.proofs.CutLaws.{drop-append}

pub line_frame : (size : ℕ) (xs : List ℕ) → size ≤ length xs → unit size (frame_line ++ xs) ≡ Frame 5
line_frame size xs le = unit_at size (frame_line ++ xs) refl ∙ frame_made size (length (frame_line ++ xs)) 5 (lit< tt) (omega (arith, le, length-append frame_line xs))

behind : (size : ℕ) (xs ys : List ℕ) → length xs ≡ size → drop (5 + 1 + size) (frame_line ++ (xs ++ ys)) ≡ ys
behind size xs ys e =
    let all = frame_line ++ (xs ++ ys) in
    let sum : 5 + 1 + size ≡ 6 + size = omega arith in
    ap (λ k. drop k all) sum ∙ (sym (drop-drop size 6 all) ∙ (drop-append size xs ys (omega (arith, e)) ∙ ap (λ zs. zs ++ ys) (drop_all size xs (omega (arith, e)))))

planes_in : (size at n : ℕ) (xs ys : List ℕ) → length xs ≡ size → (packet_in size at n 5 (frame_line ++ (xs ++ ys))).bytes ≡ xs
planes_in size at n xs ys e = take-append-le size xs ys (omega (arith, e)) ∙ take_all size xs (omega (arith, e))

pub read_frames : (ps : List Pkt) (size at n : ℕ) → All (λ (p : Pkt). length p.bytes ≡ size) ps → (planes_of (packets_from size 0 at n (frames ps)) ≡ planes_of ps) × (broken_from size 0 at (frames ps) ≡ None)
read_frames [] size at n a = (refl, refl)
read_frames (p ∷ ps) size at n a =
    let len : length p.bytes ≡ size = a zero p (omega arith) in
    let all : List ℕ = frame_line ++ (p.bytes ++ frames ps) in
    let e : unit size all ≡ Frame 5 = line_frame size (p.bytes ++ frames ps) (omega (arith, len, length-append p.bytes (frames ps))) in
    let rest = behind size p.bytes (frames ps) len in
    let next = read_frames ps size (at + (5 + 1 + size)) (n + 1) (λ k d lt. a (suc k) d (omega arith)) in
    let tail : planes_of (packets_from size 0 (at + (5 + 1 + size)) (n + 1) (drop (5 + 1 + size) all)) ≡ planes_of ps =
    ap (λ xs. planes_of (packets_from size 0 (at + (5 + 1 + size)) (n + 1) xs)) rest ∙ next.0 in (
      ap planes_of (packets_frame size at n 5 all e) ∙ (ap (λ xs. xs ∷ planes_of (packets_from size 0 (at + (5 + 1 + size)) (n + 1) (drop (5 + 1 + size) all))) (planes_in size at n p.bytes (frames ps) len) ∙ ap (λ xs. p.bytes ∷ xs) tail),
      broken_frame size at 5 all e ∙ (ap (broken_from size 0 (at + (5 + 1 + size))) rest ∙ next.1),
    )
