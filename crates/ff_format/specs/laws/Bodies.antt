-- The bytes of packets, with one packet more.
use Rattle.std.proofs.Common.{◌≡◌, ℕ, ◌+◌, List, [], ◌∷◌, ◌++◌, length, ap, ◌∙◌, append-nil, length-append}
use Rattle.std.proofs.lemmas.List.Concat.{flat_map-append}
use Rattle.ff_format.specs.Layouts.{bytes_in}
use Rattle.ff_frame.specs.declared.packet.Pkt.{Pkt}

pub bytes_then : (packets : List (ℕ × Pkt)) (i : ℕ) (p : Pkt) → bytes_in (packets ++ (i, p) ∷ []) ≡ bytes_in packets ++ p.bytes
bytes_then packets i p =
    flat_map-append (λ (q : ℕ × Pkt). q.1.bytes) packets ((i, p) ∷ []) ∙ ap (λ (xs : List ℕ). bytes_in packets ++ xs) (append-nil p.bytes)

pub size_then : (packets : List (ℕ × Pkt)) (i : ℕ) (p : Pkt) → length (bytes_in (packets ++ (i, p) ∷ [])) ≡ length (bytes_in packets) + length p.bytes
size_then packets i p = ap length (bytes_then packets i p) ∙ length-append (bytes_in packets) p.bytes
