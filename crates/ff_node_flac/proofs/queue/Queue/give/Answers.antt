use Rattle.std.proofs.Common.{sym, subst, ◌∙◌, ap, List, [], ◌∷◌, ◌++◌, ◌^◌, length, ℕ, pos, arith, ◌≤◌, ◌<◌, ◌≡◌, false}
use Rattle.std.specs.Prelude.{slice_index, slice_index_or}
use Rattle.ff_frame.specs.declared.audio.AFrame.{AFrame}
use Rattle.ff_frame.specs.declared.packet.Pkt.{Pkt}
use Rattle.ff_frame.specs.Packet.{packet_at}
use Rattle.ff_stream.specs.declared.item.Item.TheVariants.{Packet}
use Rattle.ff_flac_enc.specs.Totals.{Added, added, Counts, sample_frames}
use Rattle.ff_flac_enc.specs.Frame.{IsBlock}
use Rattle.ff_node_flac.specs.Coding.{passes_in_flac}
use Rattle.ff_node_flac.specs.Packets.{block_bytes, packet_of}
use Rattle.ff_node_flac.proofs.Codes.{coded_is}
use Rattle.ff_node_flac.proofs.Gathers.{too_long, first_code, same_first, given_one, cut_block, none_passes}
use Rattle.ff_node_flac.proofs.queue.Queue.give.Goals as goal

pub returns-then-len-clause-long : goal.returns-then-len-clause-long
returns-then-len-clause-long c is fed done g =
    let q = c.args.self.now in
    let size : 2 ^ 24 ≤ length c.index.result.now = let e = c.size_of_code-len.ensures.size in let l = c.if-len.true in omega (arith, e, l) in
    let t = too_long q.codes.items q.cut.items q.given done _ c.index.result.now c.requires g.coded
    c.index.ensures c.size_of_code-len.ensures.bytes size g.number g.due in
    record { block = t.0; due = t.1; long = t.2 }

pub add-requires-clause-sound : goal.add-requires-clause-sound
add-requires-clause-sound c =
    let q = c.args.self.now in
    let a = c.index-2.result.now in
    let some : 0 < length q.cut.items = let s = c.requires in let l = q.coded in omega (arith, s, l) in
    (subst IsBlock (sym c.index-2.ensures) (cut_block (slice_index_or q.cut.items 0 a) (q.each 0 a some))).sound

pub returns-clause-gives : goal.returns-clause-gives
returns-clause-gives c p is fed done g =
    let q = c.args.self.now in
    let b = c.remove-block.result in
    let r = c.remove-bytes.result in
    let some : 1 ≤ length q.cut.items = let s = c.requires in let l = q.coded in omega (arith, s, l) in
    let same_b : c.index-2.result.now ≡ b = same_first q.cut.items c.index-2.result.now b some c.index-2.ensures c.remove-block.ensures.value in
    let same_r : c.index.result.now ≡ r = same_first q.codes.items c.index.result.now r c.requires c.index.ensures c.remove-bytes.ensures.value in
    let small = subst (λ (xs : List ℕ). (i : ℕ) → slice_index xs i < 256) same_r c.size_of_code-len.ensures.bytes in
    let code = first_code q.codes.items q.cut.items q.given b r c.requires g.coded c.remove-block.ensures.value c.remove-bytes.ensures.value in
    let own : r ≡ block_bytes b q.given = coded_is b q.given r code small in
    let size : c.size_of_code-len.result ≡ length (block_bytes b q.given) =
    c.size_of_code-len.ensures.size ∙ ap (λ (xs : List ℕ). length xs) (same_r ∙ own) in
    let number : q.given ≡ length done = sym g.number in
    let packet : c.packet.result ≡ packet_of b (length done) =
    c.packet.ensures ∙ ap (λ (xs : List ℕ). packet_at b.pts (pos (sample_frames b)) 0 xs) (own ∙ ap (λ (n : ℕ). block_bytes b n) number) in
    let given : p ≡ packet_of b (length done) = let same : c.packet.result ≡ p = cc (is) in sym same ∙ packet in
    let low : length done < 2 ^ 31 = let n = q.numbers in let s = c.requires in omega (arith, n, s, number) in
    let little : length (block_bytes b (length done)) < 2 ^ 24 =
    subst (λ (n : ℕ). length (block_bytes b n) < 2 ^ 24) number (let l = c.if-len.false in omega (arith, l, size)) in
    record {
      block = b;
      stands =
          given_one q.blocks q.cut.items c.remove-block.new.self.items q.codes.items c.remove-bytes.new.self.items q.counter c.add.new.self q.given fed done b g
          c.requires c.remove-block.ensures.value c.remove-block.ensures.items c.remove-bytes.ensures.items
          (λ all h.
          subst (λ (x : Added). Counts c.add.new.self (all ++ x ∷ []))
          (ap (λ (x : AFrame). added x c.size_of_code-len.result) same_b ∙ ap (λ (n : ℕ). added b n) size)
          (c.in_ok-add.ensures.ok all h));
      is = given;
      told =
          subst (λ (x : Pkt). passes_in_flac (length done) (Packet x) ≡ false) (sym given)
          (none_passes (length done) (length (block_bytes b (length done))) low little);
    }
