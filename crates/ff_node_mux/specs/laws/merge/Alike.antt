-- A merge goes by the packets of its streams and by which of them are whole; that of one stream has its packets.
use Rattle.std.proofs.Common.{◌≡◌, ℕ, zero, suc, ◌<◌, Bool, cond, ◌==◌, List, [], ◌∷◌, refl, ap, ◌∙◌, arith}
use Rattle.std.specs.Prelude.{◌||◌, ◌&&◌}
use Rattle.ff_time.specs.Fraction.{Fraction}
use Rattle.ff_frame.specs.declared.packet.Pkt.{Pkt}
use Rattle.ff_stream.specs.Stream.{Stream, is_whole}
use Rattle.ff_node_mux.specs.merge.Merges.{Placed, placed, has, others_go_on, decided, merge_to, interleaved}
use Rattle.ff_node_mux.specs.laws.merge.Fronting.{merge-same}

others_alike : (n : ℕ) (rs ss : ℕ → Stream Pkt) (p : ℕ) (xs : List Placed) → ((q : ℕ) → q < n → is_whole (rs q).mark ≡ is_whole (ss q).mark)
    → others_go_on n rs p xs ≡ others_go_on n ss p xs
others_alike zero rs ss p xs h = refl
others_alike (suc n) rs ss p xs h =
    ap (λ (b : Bool). b && ((n == p) || (is_whole (rs n).mark || has n xs))) (others_alike n rs ss p xs (λ q lt. h q (omega (arith, lt))))
    ∙ ap (λ (b : Bool). others_go_on n ss p xs && ((n == p) || (b || has n xs))) (h n (omega arith))

decided_alike : (n : ℕ) (rs ss : ℕ → Stream Pkt) (xs : List Placed) → ((q : ℕ) → q < n → is_whole (rs q).mark ≡ is_whole (ss q).mark)
    → decided n rs xs ≡ decided n ss xs
decided_alike n rs ss [] h = refl
decided_alike n rs ss (x ∷ xs) h =
    ap (λ (b : Bool). cond b (x ∷ decided n rs xs) []) (others_alike n rs ss x.0 xs h)
    ∙ ap (λ (ys : List Placed). cond (others_go_on n ss x.0 xs) (x ∷ ys) []) (decided_alike n rs ss xs h)

decided_one : (ss : ℕ → Stream Pkt) (ps : List Pkt) → decided 1 ss (placed 0 ps) ≡ placed 0 ps
decided_one ss [] = refl
decided_one ss (p ∷ ps) = ap (λ (xs : List Placed). (0, p) ∷ xs) (decided_one ss ps)

module _ (base : ℕ → Fraction) where
  pub interleaved_alike : (n : ℕ) (rs ss : ℕ → Stream Pkt) → ((q : ℕ) → q < n → (rs q).items ≡ (ss q).items)
      → ((q : ℕ) → q < n → is_whole (rs q).mark ≡ is_whole (ss q).mark) → interleaved n base rs ≡ interleaved n base ss
  interleaved_alike n rs ss items marks =
      ap (λ (xs : List Placed). decided n rs xs) (merge-same base n rs ss items) ∙ decided_alike n rs ss (merge_to base n ss) marks

  -- of one stream all is decided
  pub interleaved_one : (ss : ℕ → Stream Pkt) → interleaved 1 base ss ≡ placed 0 (ss 0).items
  interleaved_one ss = decided_one ss (ss 0).items
