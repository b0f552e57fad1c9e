-- The state of a cut, tied to what it was fed and gave.
use Rattle.std.proofs.Common.{◌≡◌, ℕ, ◌+◌, ◌-◌, ◌*◌, ◌/◌, ◌<◌, ◌≤◌, inl, inr, true, false, List, ◌++◌, length, take, drop, Option, Some, sym, ap, ◌∙◌, subst, arith, length-append}
use Rattle.std.specs.Prelude.{slice_get, Bool, None, Result, Ok, Err, OnOk}
use Rattle.std.proofs.lemmas.List.{length-drop, drop-drop, drop-append-le}
use Rattle.ff_frame.specs.declared.packet.Pkt.{Pkt}
use Rattle.ff_reader.specs.Cutters.{IsRest}
use Rattle.ff_pcm.specs.declared.body.head.PcmHead.{PcmHead}
use Rattle.ff_pcm.specs.declared.body.cut.PcmCut.{PcmCut}
use Rattle.ff_pcm.specs.body.Packets.{body, block_of, whole_len, packet_count, packets_of, packet_at, demuxed}
use Rattle.ff_pcm.specs.body.Cuts.{ReachesLen, IsBodyEnded, Goes, Cuts}
use Rattle.ff_pcm.proofs.BodyLemmas.CutLaws.{body-append, body_length, body_ended, made, full_packet, full_count, last_packet, last_piece, last_count, no_count, packets_get, packets_length}

pub goes_of : (cut : PcmCut) (head : PcmHead) (fed : List ℕ) (n : ℕ) → Cuts cut head fed n → cut.done ≡ false → Goes cut.block cut.len cut.first cut.held.bytes fed n
goes_of cut head fed n c d = subst (λ (l : Option ℕ). Goes cut.block l cut.first cut.held.bytes fed n) (sym c.of_len) (c.goes d)

pub waiting_of : (cut : PcmCut) (head : PcmHead) (fed : List ℕ) (n : ℕ) → Cuts cut head fed n → cut.done ≡ false → length cut.held.bytes ≡ length fed - cut.first * cut.block
waiting_of cut head fed n c d = ap length (goes_of cut head fed n c d).kept ∙ length-drop (cut.first * cut.block) fed

pub used_of : (cut : PcmCut) (head : PcmHead) (fed : List ℕ) (n : ℕ) → Cuts cut head fed n → cut.done ≡ false → cut.first * cut.block ≤ length fed
used_of cut head fed n c d = let b = body_length cut.len fed in let i = (goes_of cut head fed n c d).inside in omega (arith, b, i)

-- a whole packet is given
pub whole_gives : (cut new : PcmCut) (head : PcmHead) (fed : List ℕ) (n usable : ℕ) (p : Pkt) → Cuts cut head fed n → cut.done ≡ false → 1 ≤ cut.block
    → cut.first * cut.block + usable ≡ length (body (whole_len head) fed) → 1024 * cut.block ≤ usable
    → new.head ≡ cut.head → new.block ≡ cut.block → new.len ≡ cut.len → new.first ≡ cut.first + 1024 → new.done ≡ cut.done → new.held.bytes ≡ drop (1024 * cut.block) cut.held.bytes
    → p ≡ made cut.head.start cut.block cut.first 1024 (take (1024 * cut.block) cut.held.bytes)
    → Cuts new head fed (n + 1) × ((more : List ℕ) → IsRest cut.ended more → slice_get (demuxed head (fed ++ more)) n ≡ Some p)
whole_gives cut new head fed n usable p cuts d some u le eh eb el ef ed ek ep =
    let g = cuts.goes d in
    let long : cut.first * cut.block + 1024 * cut.block ≤ length (body (whole_len head) fed) = omega (arith, u, le) in
    let product : new.first * new.block ≡ cut.first * cut.block + 1024 * cut.block = ap (λ b. new.first * b) eb ∙ (ap (λ f. f * cut.block) ef ∙ omega arith) in (
      record {
        of_head = eh ∙ cuts.of_head;
        of_block = eb ∙ cuts.of_block;
        of_len = el ∙ cuts.of_len;
        goes = λ e. record {
          at = let a = g.at in omega (arith, a, ef);
          kept = ek ∙ (ap (drop (1024 * cut.block)) g.kept ∙ (drop-drop (1024 * cut.block) (cut.first * cut.block) fed ∙ ap (λ k. drop k fed) (sym product)));
          inside = omega (arith, product, long);
        };
        over = λ e. let clash = sym d ∙ (sym ed ∙ e) in cc;
      },
      λ more r.
          subst (λ b. slice_get (packets_of head.start b (body (whole_len head) (fed ++ more))) n ≡ Some p) cuts.of_block
          (packets_get head.start cut.block (body (whole_len head) (fed ++ more)) n cut.first (full_count cut.block cut.first (whole_len head) fed more n some g.at long) g.at
          ∙ ap Some (full_packet head.start cut.block cut.first (whole_len head) fed more some long
          ∙ (ap (λ xs. made head.start cut.block cut.first 1024 (take (1024 * cut.block) xs)) (sym g.kept)
          ∙ (ap (λ (h : PcmHead). made h.start cut.block cut.first 1024 (take (1024 * cut.block) cut.held.bytes)) (sym cuts.of_head) ∙ sym ep)))),
    )

-- the last packet is given, a short one
pub short_gives : (cut new : PcmCut) (head : PcmHead) (fed : List ℕ) (n usable : ℕ) (p : Pkt) → Cuts cut head fed n → cut.done ≡ false → 1 ≤ cut.block
    → cut.first * cut.block + usable ≡ length (body (whole_len head) fed) → usable < 1024 * cut.block → IsBodyEnded (whole_len head) cut.ended fed → 0 < usable / cut.block
    → new.head ≡ cut.head → new.block ≡ cut.block → new.len ≡ cut.len → new.ended ≡ cut.ended → new.done ≡ true
    → p ≡ made cut.head.start cut.block cut.first (usable / cut.block) (take (usable / cut.block * cut.block) cut.held.bytes)
    → Cuts new head fed (n + 1) × ((more : List ℕ) → IsRest cut.ended more → slice_get (demuxed head (fed ++ more)) n ≡ Some p)
short_gives cut new head fed n usable p cuts d some u lt all few eh eb el ee ed ep =
    let g = cuts.goes d in
    let count = last_count cut.block cut.first usable n (body (whole_len head) fed) some u lt g.at few in
    let size = usable / cut.block * cut.block in (
      record {
        of_head = eh ∙ cuts.of_head;
        of_block = eb ∙ cuts.of_block;
        of_len = el ∙ cuts.of_len;
        goes = λ e. let clash = sym ed ∙ e in cc;
        over = λ e. record {
          all = subst (λ b. IsBodyEnded (whole_len head) b fed) (sym ee) all;
          number = ap (λ b. packet_count b (body (whole_len head) fed)) eb ∙ count;
        };
      },
      λ more r.
          let same = body_ended (whole_len head) cut.ended fed more all r in
          let within : n < packet_count cut.block (body (whole_len head) (fed ++ more)) = subst (λ xs. n < packet_count cut.block xs) (sym same) (omega (arith, count)) in
          subst (λ b. slice_get (packets_of head.start b (body (whole_len head) (fed ++ more))) n ≡ Some p) cuts.of_block
          (packets_get head.start cut.block (body (whole_len head) (fed ++ more)) n cut.first within g.at
          ∙ ap Some (ap (λ xs. packet_at head.start cut.block xs cut.first) same
          ∙ (last_packet head.start cut.block cut.first usable (body (whole_len head) fed) some u lt
          ∙ (ap (λ xs. made head.start cut.block cut.first (usable / cut.block) xs) (last_piece cut.block cut.first usable (whole_len head) fed u)
          ∙ (ap (λ xs. made head.start cut.block cut.first (usable / cut.block) (take size xs)) (sym g.kept)
          ∙ (ap (λ (h : PcmHead). made h.start cut.block cut.first (usable / cut.block) (take size cut.held.bytes)) (sym cuts.of_head) ∙ sym ep)))))),
    )

-- all were given, and none was short
pub none_left : (cut : PcmCut) (head : PcmHead) (fed : List ℕ) (n usable : ℕ) → Cuts cut head fed n → cut.done ≡ false → 1 ≤ cut.block
    → cut.first * cut.block + usable ≡ length (body (whole_len head) fed) → IsBodyEnded (whole_len head) cut.ended fed → usable / cut.block ≡ 0
    → (more : List ℕ) → IsRest cut.ended more → length (demuxed head (fed ++ more)) ≡ n
none_left cut head fed n usable cuts d some u all none more r =
    let g = cuts.goes d in
    packets_length head.start (block_of head.head) (body (whole_len head) (fed ++ more))
    ∙ (ap (λ xs. packet_count (block_of head.head) xs) (body_ended (whole_len head) cut.ended fed more all r)
    ∙ (ap (λ b. packet_count b (body (whole_len head) fed)) (sym cuts.of_block) ∙ no_count cut.block cut.first usable n (body (whole_len head) fed) some u g.at none))

-- all were given, the last one short
pub over_left : (cut : PcmCut) (head : PcmHead) (fed : List ℕ) (n : ℕ) → Cuts cut head fed n → cut.done ≡ true
    → (more : List ℕ) → IsRest cut.ended more → length (demuxed head (fed ++ more)) ≡ n
over_left cut head fed n cuts d more r =
    let o = cuts.over d in
    packets_length head.start (block_of head.head) (body (whole_len head) (fed ++ more))
    ∙ (ap (λ xs. packet_count (block_of head.head) xs) (body_ended (whole_len head) cut.ended fed more o.all r)
    ∙ (ap (λ b. packet_count b (body (whole_len head) fed)) (sym cuts.of_block) ∙ o.number))

unit_is : (cut : PcmCut) (head : PcmHead) (fed : List ℕ) (n : ℕ) → Cuts cut head fed n → cut.done ≡ false → 1024 * (n + 1) * block_of head.head ≡ cut.first * cut.block + 1024 * cut.block
unit_is cut head fed n cuts d =
    let g = cuts.goes d in
    ap (λ b. 1024 * (n + 1) * b) (sym cuts.of_block) ∙ (omega arith ∙ ap (λ f. f * cut.block + 1024 * cut.block) (sym g.at))

-- no packet is whole
pub less_than_one : (cut : PcmCut) (head : PcmHead) (fed : List ℕ) (n usable : ℕ) → Cuts cut head fed n → cut.done ≡ false → usable ≡ length cut.held.bytes → usable < 1024 * cut.block
    → length fed < 1024 * (n + 1) * block_of head.head
less_than_one cut head fed n usable cuts d all lt =
    let w = waiting_of cut head fed n cuts d in
    let u = unit_is cut head fed n cuts d in
    let k = used_of cut head fed n cuts d in
    omega (arith, w, u, all, lt, k)

pub one_or_more : (cut : PcmCut) (head : PcmHead) (fed : List ℕ) (n usable : ℕ) → Cuts cut head fed n → cut.done ≡ false → cut.first * cut.block + usable ≡ length (body (whole_len head) fed) → 1024 * cut.block ≤ usable
    → length fed < 1024 * (n + 1) * block_of head.head → ⊥
one_or_more cut head fed n usable cuts d e le lt =
    let u = unit_is cut head fed n cuts d in
    let b = body_length (whole_len head) fed in
    omega (arith, u, e, le, lt, b)

pub not_ended : (cut : PcmCut) (head : PcmHead) (fed : List ℕ) → IsBodyEnded (whole_len head) cut.ended fed → cut.ended ≡ false → (ReachesLen (whole_len head) fed → ⊥) → ⊥
not_ended cut head fed (inl e) f r = cc
not_ended cut head fed (inr h) f r = r h

-- ---- bytes come

reaches_more : (len : Option ℕ) (ended : Bool) (fed bytes : List ℕ) → ended ≡ false → IsBodyEnded len ended fed → IsBodyEnded len ended (fed ++ bytes)
reaches_more len ended fed bytes going (inl e) = cc
reaches_more None ended fed bytes going (inr h) = absurd h
reaches_more (Some l) ended fed bytes going (inr h) = inr (omega (arith, h, length-append fed bytes))

pub fed_cuts : (cut new : PcmCut) (head : PcmHead) (fed bytes : List ℕ) (n : ℕ) → cut.ended ≡ false → Cuts cut head fed n
    → new.head ≡ cut.head → new.block ≡ cut.block → new.len ≡ cut.len → new.first ≡ cut.first → new.ended ≡ cut.ended → new.done ≡ cut.done → new.held.bytes ≡ cut.held.bytes ++ bytes
    → Cuts new head (fed ++ bytes) n
fed_cuts cut new head fed bytes n going c eh eb el ef ee ed ek =
    let len = whole_len head in
    let used : new.first * new.block ≡ cut.first * cut.block = ap (λ f. f * new.block) ef ∙ ap (λ b. cut.first * b) eb in record {
      of_head = eh ∙ c.of_head;
      of_block = eb ∙ c.of_block;
      of_len = el ∙ c.of_len;
      goes = λ d.
          let g = c.goes (sym ed ∙ d) in
          let b = body-append len fed bytes in
          let i = g.inside in
          let l = body_length len fed in record {
            at = ef ∙ g.at;
            kept = ek ∙ (ap (λ xs. xs ++ bytes) g.kept ∙ (sym (drop-append-le (cut.first * cut.block) fed bytes (omega (arith, i, l))) ∙ ap (λ k. drop k (fed ++ bytes)) (sym used)));
            inside = omega (arith, used, i, ap length b.1, length-append (body len fed) b.0);
          };
      over = λ d.
          let o = c.over (sym ed ∙ d) in record {
            all = subst (λ e. IsBodyEnded len e (fed ++ bytes)) (sym ee) (reaches_more len cut.ended fed bytes going o.all);
            number = ap (λ k. packet_count k (body len (fed ++ bytes))) eb
                ∙ (ap (packet_count cut.block) (body_ended len cut.ended fed bytes o.all (λ e. cc)) ∙ o.number);
          };
    }

pub on_ok : {A E : Type 0} (r : Result A E) (P Q : Type 0) → OnOk r P → (P → Q) → OnOk r Q
on_ok (Ok x) P Q h f = f h
on_ok (Err x) P Q h f = tt
