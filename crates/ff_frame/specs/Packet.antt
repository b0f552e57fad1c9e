-- Coded packets.
use Rattle.std.specs.Prelude.{ℕ, ℤ, List}
use Rattle.ff_frame.specs.declared.packet.Pkt.{Pkt}

-- the packet of these fields, whose presentation and decoding time are one
abbrev pub packet_at : ℤ → ℤ → ℕ → List ℕ → Pkt
packet_at time duration place bytes = record { pts = time; dts = time; duration = duration; pos = place; bytes = bytes }
