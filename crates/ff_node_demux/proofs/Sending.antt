-- A demuxer is told by what it does: what it keeps of its own numbers and of its cut stays true where the cut is the same.
use Rattle.std.proofs.Common.{◌≡◌, ◌≢◌, ◌^◌, ◌≤◌, ◌<◌, true, false, length, Some, None, ap, sym, subst, ◌∙◌}
use Rattle.std.proofs.Props.{props}
use Rattle.ff_reader.specs.declared.cutter.PacketCut.{Ghosts}
use Rattle.ff_net.specs.declared.fault.Fault.TheVariants.{TooLarge}
use Rattle.ff_node_demux.specs.declared.demux.Demux.{Demux}

module _ {S C H : Type 0} {G : Ghosts C H} (m : Demux S C H G) where
  -- with another cut
  abbrev over_cut : (cut : C) → 0 < length m.piece.items → G.is.stream_head (G.is.head_of cut) ≡ m.head → (m.ended ≡ false → G.is.place cut ≤ 2 ^ 50)
      → m.given ≤ 2 ^ 40 → m.fault ≢ Some TooLarge → (m.told ≡ true → m.ended ≡ false → m.stopped ≡ false → m.fault ≢ None) → Demux S C H G
  over_cut cut some_piece same_head near few fits over = record {
    input = m.input;
    head = m.head;
    src = m.src;
    cut = cut;
    piece = m.piece;
    skip = m.skip;
    given = m.given;
    ticket = m.ticket;
    ended = m.ended;
    stopped = m.stopped;
    told = m.told;
    fault = m.fault;
    some_piece = some_piece;
    same_head = same_head;
    near = near;
    few = few;
    fits = fits;
    over = over;
  }

  Same : C → Type 0
  Same cut = (some_piece : 0 < length m.piece.items) (same_head : G.is.stream_head (G.is.head_of cut) ≡ m.head) (near : m.ended ≡ false → G.is.place cut ≤ 2 ^ 50)
      (few : m.given ≤ 2 ^ 40) (fits : m.fault ≢ Some TooLarge) (over : m.told ≡ true → m.ended ≡ false → m.stopped ≡ false → m.fault ≢ None)
      → over_cut cut some_piece same_head near few fits over ≡ m

  same_here : Same m.cut
  unfolding Same
  same_here a b p d e f =
      let pa : IsProp (0 < length m.piece.items) = hlevel props in
      let pb : IsProp (G.is.stream_head (G.is.head_of m.cut) ≡ m.head) = hlevel props in
      let pp : IsProp (m.ended ≡ false → G.is.place m.cut ≤ 2 ^ 50) = hlevel props in
      let pd : IsProp (m.given ≤ 2 ^ 40) = hlevel props in
      let pe : IsProp (m.fault ≢ Some TooLarge) = hlevel props in
      let pf : IsProp (m.told ≡ true → m.ended ≡ false → m.stopped ≡ false → m.fault ≢ None) = hlevel props in
      ap (λ x. over_cut m.cut x b p d e f) (pa a m.some_piece)
      ∙ ap (λ x. over_cut m.cut m.some_piece x p d e f) (pb b m.same_head)
      ∙ ap (λ x. over_cut m.cut m.some_piece m.same_head x d e f) (pp p m.near)
      ∙ ap (λ x. over_cut m.cut m.some_piece m.same_head m.near x e f) (pd d m.few)
      ∙ ap (λ x. over_cut m.cut m.some_piece m.same_head m.near m.few x f) (pe e m.fits)
      ∙ ap (λ x. over_cut m.cut m.some_piece m.same_head m.near m.few m.fits x) (pf f m.over)

  pub same_demux : (cut : C) → cut ≡ m.cut → (some_piece : 0 < length m.piece.items) (same_head : G.is.stream_head (G.is.head_of cut) ≡ m.head)
      (near : m.ended ≡ false → G.is.place cut ≤ 2 ^ 50) (few : m.given ≤ 2 ^ 40) (fits : m.fault ≢ Some TooLarge)
      (over : m.told ≡ true → m.ended ≡ false → m.stopped ≡ false → m.fault ≢ None) → over_cut cut some_piece same_head near few fits over ≡ m
  unfolding Same
  same_demux cut e = subst Same (sym e) same_here
