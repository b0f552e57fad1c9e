-- Packets in shape are valid for their lane, up to the limits.
use Rattle.std.specs.Prelude.{ℕ, ◌+◌, ◌||◌, Bool, true, false, cond, List, [], ◌∷◌, refl}
use Rattle.std.proofs.Common.{ap}
use mathlib.Core.List.{IsPrefix}
use Rattle.ff_reader.specs.Cutters.{Cutter}
use Rattle.ff_stream.specs.declared.item.Lane.TheVariants.{Packets}
use Rattle.ff_stream.specs.laws.LaneLaws.{valid_front}
use Rattle.ff_stream.specs.Lanes.{AreInShape, IsValid}
use Rattle.ff_stream.specs.Within.{before_pass, within, passes_limits}
use Rattle.ff_stream.specs.laws.WithinLaws.{within_valid}
use Rattle.ff_net.specs.Ways.{Flow}
use Rattle.ff_node_demux.specs.Demuxing.{mark_at, items_of, break_of, demux_of, passes_in_demux, ends_beyond}

module _ {A : Type 0} (weak strong : ℕ → A → Bool) where
  abbrev both : ℕ → A → Bool
  both n x = weak n x || strong n x

  -- with more limits less is left
  fewer : (n : ℕ) (xs : List A) → IsPrefix (before_pass both n xs) (before_pass weak n xs)
  fewer n [] = ([], refl)
  fewer n (x ∷ xs) = pick (weak n x) (strong n x) (fewer (n + 1) xs)
    where
      pick : (w s : Bool) → IsPrefix (before_pass both (n + 1) xs) (before_pass weak (n + 1) xs)
          → IsPrefix (cond (w || s) [] (x ∷ before_pass both (n + 1) xs)) (cond w [] (x ∷ before_pass weak (n + 1) xs))
      pick true s r = ([], refl)
      pick false true r = (x ∷ before_pass weak (n + 1) xs, refl)
      pick false false r = (r.0, ap (λ (ys : List A). x ∷ ys) r.1)

pub demux_valid : {H C : Type 0} (cutter : Cutter H C) (head : H) (file : List ℕ)
    → AreInShape (Packets (cutter.stream_head head)) (items_of cutter head file)
    → IsValid (Packets (cutter.stream_head head)) (demux_of cutter head file)
unfolding demux_of
demux_valid cutter head file shape =
    let lane = Packets (cutter.stream_head head) in
    let s : Flow = record { items = items_of cutter head file; mark = mark_at (break_of cutter head file) } in
    valid_front lane (within (passes_in_demux lane) s) (within (passes_limits lane) s) (fewer (passes_limits lane) (λ n x. ends_beyond x) 0 s.items) (within_valid lane s shape)
