-- The state of a cut, tied to what it was fed and gave.
use Rattle.std.specs.Coded.{le_prop}
use Rattle.std.proofs.Common.{◌*◌, ◌^◌, ◌≤◌, ◌≡◌, ◌≢◌, ℕ, zero, suc, ◌+◌, ◌-◌, ◌⊎◌, inl, inr, true, false, List, [], ◌∷◌, ◌++◌, take, drop, length, Some, None}
use Rattle.std.proofs.Common.{refl, sym, ap, ◌∙◌, subst, arith, length-append, append_assoc, append-nil}
use Rattle.std.specs.Prelude.{slice_get, pos, Result, Ok, Err, OnOk}
use Rattle.std.proofs.lemmas.List.{length-drop, drop-drop, take-append-le, drop-append-le}
use Rattle.ff_frame.specs.Packet.{packet_at}
use Rattle.ff_frame.specs.declared.packet.Pkt.{Pkt}
use Rattle.ff_flac_frame.specs.Frame.{IsStream}
use Rattle.ff_flac_dec.specs.declared.head.FlacHead.{FlacHead}
use Rattle.ff_flac_dec.specs.declared.cut.FlacCut.{FlacCut}
use Rattle.ff_flac_dec.specs.declared.front.Front.TheVariants.{Wait, Other, Whole}
use Rattle.ff_flac_dec.specs.Streams.{stream_of}
use Rattle.ff_flac_dec.specs.Packets.{unit, packets_from, broken_from, demuxed, broken_at}
use Rattle.ff_reader.specs.Cutters.{IsRest}
use Rattle.ff_flac_dec.specs.Trailers.{are_tags}
use Rattle.ff_flac_dec.specs.laws.Trails.{may_be_tags}
use Rattle.ff_flac_dec.proofs.TrailLaws.{no_tags}
use Rattle.ff_flac_dec.specs.Cuts.{Goes, Cuts}
use Rattle.ff_flac_dec.proofs.UnitLaws.{whole_at, whole-append, other-append, other_some, packets_whole, broken_whole, packets_none, broken_here, broken_tags}

-- item number length xs of xs followed by one more
get_behind : {A : Type 0} (xs : List A) (y : A) (ys : List A) (n : ℕ) → length xs ≡ n → slice_get (xs ++ y ∷ ys) n ≡ Some y
get_behind [] y ys n e = subst (λ k. slice_get (y ∷ ys) k ≡ Some y) e refl
get_behind (x ∷ xs) y ys zero e = cc
get_behind (x ∷ xs) y ys (suc n) e = get_behind xs y ys n (cc (e))

-- ---- a new cut, and bytes that are fed

pub fresh_goes : (head : FlacHead) (more : List ℕ) → Goes head 0 0 0 [] [] more
fresh_goes head more =
    let z : head.start ≡ head.start + 0 = omega arith in record {
      given = [];
      number = refl;
      packets = ap (λ at. packets_from (stream_of head.head) 0 at 0 more) z;
      place = ap (λ at. broken_from (stream_of head.head) 0 at more) z;
    }

pub fed_goes : (head : FlacHead) (used count n : ℕ) (held fed bytes more : List ℕ) → Goes head used count n held fed (bytes ++ more)
    → Goes head used count n (held ++ bytes) (fed ++ bytes) more
fed_goes head used count n held fed bytes more g = record {
  given = g.given;
  number = g.number;
  packets = ap (demuxed head) (append_assoc fed bytes more)
      ∙ (g.packets ∙ ap (λ xs. g.given ++ packets_from (stream_of head.head) 0 (head.start + used) count xs) (sym (append_assoc held bytes more)));
  place =
      ap (broken_at head) (append_assoc fed bytes more) ∙ (g.place ∙ ap (broken_from (stream_of head.head) 0 (head.start + used)) (sym (append_assoc held bytes more)));
}

pub fed_cuts : (old new : FlacCut) (head : FlacHead) (fed bytes : List ℕ) (n : ℕ) → Cuts old head fed n → new.head ≡ old.head → new.count ≡ old.count
    → new.used ≡ old.used
    → new.held.bytes ≡ old.held.bytes ++ bytes → Cuts new head (fed ++ bytes) n
fed_cuts old new head fed bytes n c eh ec eu ek = record {
  of_head = eh ∙ c.of_head;
  inside = let i = c.inside in omega (arith, i, eu, length-append fed bytes);
  kept = ek ∙ (ap (λ xs. xs ++ bytes) c.kept ∙ (sym (drop-append-le old.used fed bytes c.inside) ∙ ap (λ k. drop k (fed ++ bytes)) (sym eu)));
  goes = λ more. subst (λ (xs : List ℕ). Goes head new.used new.count n xs (fed ++ bytes) more) (sym ek) (subst (λ (k : ℕ). Goes head k new.count n (old.held.bytes ++ bytes) (fed ++ bytes) more) (sym eu)
      (subst (λ (k : ℕ). Goes head old.used k n (old.held.bytes ++ bytes) (fed ++ bytes) more) (sym ec) (fed_goes head old.used old.count n old.held.bytes fed bytes more (c.goes (bytes ++ more)))));
}

-- ---- a frame is given

whole_goes : (head : FlacHead) → IsStream (stream_of head.head) → (used count n len block : ℕ) (held fed more : List ℕ) → Goes head used count n held fed more
    → unit (stream_of head.head) held ≡ Whole len block
    → Goes head (used + len) (count + block) (n + 1) (drop len held) fed more
whole_goes head i used count n len block held fed more g e =
    let s = stream_of head.head in
    let w = whole_at s i held len block e in
    let all : unit s (held ++ more) ≡ Whole len block = whole-append s i held more len block e in
    let first = packet_at (pos count) (pos block) (head.start + used) (take len (held ++ more)) in
    let place : head.start + used + len ≡ head.start + (used + len) = omega arith in
    let rest : drop len (held ++ more) ≡ drop len held ++ more = drop-append-le len held more w.1 in record {
      given = g.given ++ first ∷ [];
      number = let m = g.number in omega (arith, m, length-append g.given (first ∷ []));
      packets = g.packets ∙ (ap (λ ps. g.given ++ ps) (packets_whole s i (head.start + used) count len block (held ++ more) all)
          ∙ (sym (append_assoc g.given (first ∷ []) (packets_from s 0 (head.start + used + len) (count + block) (drop len (held ++ more))))
          ∙ (ap (λ at. (g.given ++ first ∷ []) ++ packets_from s 0 at (count + block) (drop len (held ++ more))) place
          ∙ ap (λ xs. (g.given ++ first ∷ []) ++ packets_from s 0 (head.start + (used + len)) (count + block) xs) rest)));
      place = g.place ∙ (broken_whole s i (head.start + used) len block (held ++ more) all
          ∙ (ap (λ at. broken_from s 0 at (drop len (held ++ more))) place ∙ ap (broken_from s 0 (head.start + (used + len))) rest));
    }

pub whole_gives : (old new : FlacCut) (head : FlacHead) (fed : List ℕ) (n len block : ℕ) (p : Pkt) → IsStream (stream_of old.head.head) → Cuts old head fed n
    → unit (stream_of old.head.head) old.held.bytes ≡ Whole len block
    → new.head ≡ old.head → new.count ≡ old.count + block → new.used ≡ old.used + len → new.held.bytes ≡ drop len old.held.bytes
    → p ≡ packet_at (pos old.count) (pos block) (old.head.start + old.used) (take len old.held.bytes)
    → Cuts new head fed (n + 1) × ((more : List ℕ) → slice_get (demuxed head (fed ++ more)) n ≡ Some p)
whole_gives old new head fed n len block p i c e eh ec eu ek ep =
    let same : old.head ≡ head = c.of_head in
    let s = stream_of old.head.head in
    let w = whole_at s i old.held.bytes len block e in
    let there : length old.held.bytes ≡ length fed - old.used = ap length c.kept ∙ length-drop old.used fed in
    let at_head : (more : List ℕ) → Goes old.head old.used old.count n old.held.bytes fed more =
    λ more. subst (λ (h : FlacHead). Goes h old.used old.count n old.held.bytes fed more) (sym same) (c.goes more) in (
      record {
        of_head = eh ∙ same;
        inside = let j = c.inside in omega (arith, j, eu, there, w.1);
        kept = ek ∙ (ap (drop len) c.kept ∙ (drop-drop len old.used fed ∙ ap (λ j. drop j fed) (sym eu)));
        goes = λ more. subst (λ (h : FlacHead). Goes h new.used new.count (n + 1) new.held.bytes fed more) same
            (subst (λ (xs : List ℕ). Goes old.head new.used new.count (n + 1) xs fed more) (sym ek)
            (subst (λ (j : ℕ). Goes old.head j new.count (n + 1) (drop len old.held.bytes) fed more) (sym eu)
            (subst (λ (j : ℕ). Goes old.head (old.used + len) j (n + 1) (drop len old.held.bytes) fed more) (sym ec) (whole_goes old.head i old.used old.count n len block old.held.bytes fed more (at_head more) e))));
      },
      λ more.
          let g = at_head more in
          let all : unit s (old.held.bytes ++ more) ≡ Whole len block = whole-append s i old.held.bytes more len block e in
          let first : packet_at (pos old.count) (pos block) (old.head.start + old.used) (take len (old.held.bytes ++ more)) ≡ p =
          ap (λ xs. packet_at (pos old.count) (pos block) (old.head.start + old.used) xs) (take-append-le len old.held.bytes more w.1) ∙ sym ep in
          subst (λ (h : FlacHead). slice_get (demuxed h (fed ++ more)) n ≡ Some p) same
          (ap (λ ps. slice_get ps n) (g.packets ∙ ap (λ ps. g.given ++ ps) (packets_whole s i (old.head.start + old.used) old.count len block (old.held.bytes ++ more) all))
          ∙ (get_behind g.given _ _ n g.number ∙ ap Some first)),
    )

-- ---- no frame is there

none_length : (head : FlacHead) (used count n : ℕ) (held fed more : List ℕ) → Goes head used count n held fed more
    → packets_from (stream_of head.head) 0 (head.start + used) count (held ++ more) ≡ [] → length (demuxed head (fed ++ more)) ≡ n
none_length head used count n held fed more g e =
    ap length (g.packets ∙ ap (λ ps. g.given ++ ps) e) ∙ (length-append g.given [] ∙ (let m = g.number in omega (arith, m)))

-- the input ended behind the last frame
pub over_left : (cut : FlacCut) (head : FlacHead) (fed : List ℕ) (n : ℕ) → Cuts cut head fed n → cut.ended ≡ true → cut.held.bytes ≡ []
    → (more : List ℕ) → IsRest cut.ended more → (length (demuxed head (fed ++ more)) ≡ n) × (broken_at head (fed ++ more) ≡ None)
over_left cut head fed n c e h more r =
    let g = c.goes more in
    let nothing : cut.held.bytes ++ more ≡ [] = ap (λ xs. xs ++ more) h ∙ r e in (
      none_length head cut.used cut.count n cut.held.bytes fed more g (ap (packets_from (stream_of head.head) 0 (head.start + cut.used) cut.count) nothing),
      g.place ∙ ap (broken_from (stream_of head.head) 0 (head.start + cut.used)) nothing,
    )

-- or tags alone are behind it
pub tags_left : (cut : FlacCut) (head : FlacHead) (fed : List ℕ) (n : ℕ) → IsStream (stream_of cut.head.head) → Cuts cut head fed n
    → cut.ended ≡ true → unit (stream_of cut.head.head) cut.held.bytes ≡ Other → are_tags cut.held.bytes ≡ true
    → (more : List ℕ) → IsRest cut.ended more → (length (demuxed head (fed ++ more)) ≡ n) × (broken_at head (fed ++ more) ≡ None)
tags_left cut head fed n i c e o t more r =
    let same : cut.head ≡ head = c.of_head in
    let s = stream_of cut.head.head in
    let at = cut.head.start + cut.used in
    let g : Goes cut.head cut.used cut.count n cut.held.bytes fed more =
    subst (λ (h : FlacHead). Goes h cut.used cut.count n cut.held.bytes fed more) (sym same) (c.goes more) in
    let all : cut.held.bytes ++ more ≡ cut.held.bytes = ap (λ xs. cut.held.bytes ++ xs) (r e) ∙ append-nil cut.held.bytes in
    subst (λ (h : FlacHead). (length (demuxed h (fed ++ more)) ≡ n) × (broken_at h (fed ++ more) ≡ None)) same (
      none_length cut.head cut.used cut.count n cut.held.bytes fed more g (ap (packets_from s 0 at cut.count) all ∙ packets_none s at cut.count cut.held.bytes (inr o)),
      g.place ∙ (ap (broken_from s 0 at) all ∙ broken_tags s at cut.held.bytes o t),
    )

-- no frame begins here and no tags, whatever follows, or a frame that isn't whole
abbrev pub IsBroken : FlacCut → Type 0
IsBroken cut =
    ((unit (stream_of cut.head.head) cut.held.bytes ≡ Other) × ((more : List ℕ) → IsRest cut.ended more → are_tags (cut.held.bytes ++ more) ≡ false))
    ⊎ ((cut.ended ≡ true) × (cut.held.bytes ≢ []) × (unit (stream_of cut.head.head) cut.held.bytes ≡ Wait))

-- what waits isn't tags where the input ended, or may not become them
pub never_tags : (cut : FlacCut) (bytes : List ℕ) → bytes ≡ cut.held.bytes → ((cut.ended ≡ true) × (are_tags bytes ≡ false)) ⊎ (may_be_tags bytes ≡ false)
    → (more : List ℕ) → IsRest cut.ended more → are_tags (cut.held.bytes ++ more) ≡ false
never_tags cut bytes is (inl h) more r =
    ap are_tags (ap (λ xs. cut.held.bytes ++ xs) (r h.0) ∙ (append-nil cut.held.bytes ∙ sym is)) ∙ h.1
never_tags cut bytes is (inr h) more r = ap (λ xs. are_tags (xs ++ more)) (sym is) ∙ no_tags bytes more h

pub broken_left : (cut : FlacCut) (head : FlacHead) (fed : List ℕ) (n : ℕ) → IsStream (stream_of cut.head.head) → Cuts cut head fed n → IsBroken cut
    → (more : List ℕ) → IsRest cut.ended more → (length (demuxed head (fed ++ more)) ≡ n) × (broken_at head (fed ++ more) ≡ Some (cut.head.start + cut.used))
broken_left cut head fed n i c how more r =
    let same : cut.head ≡ head = c.of_head in
    let s = stream_of cut.head.head in
    let at = cut.head.start + cut.used in
    let g : Goes cut.head cut.used cut.count n cut.held.bytes fed more =
    subst (λ (h : FlacHead). Goes h cut.used cut.count n cut.held.bytes fed more) (sym same) (c.goes more) in
    let here = no_frame how in
    subst (λ (h : FlacHead). (length (demuxed h (fed ++ more)) ≡ n) × (broken_at h (fed ++ more) ≡ Some at)) same (
      none_length cut.head cut.used cut.count n cut.held.bytes fed more g (packets_none s at cut.count (cut.held.bytes ++ more) here.1),
      g.place ∙ here.2,
    )
  where
    no_frame : IsBroken cut
        → (cut.held.bytes ++ more ≢ [])
        × ((unit (stream_of cut.head.head) (cut.held.bytes ++ more) ≡ Wait) ⊎ (unit (stream_of cut.head.head) (cut.held.bytes ++ more) ≡ Other))
        × (broken_from (stream_of cut.head.head) 0 (cut.head.start + cut.used) (cut.held.bytes ++ more) ≡ Some (cut.head.start + cut.used))
    no_frame (inl o) =
        let s = stream_of cut.head.head in
        let all = other-append s i cut.held.bytes more o.0 in
        let some = other_some s i (cut.held.bytes ++ more) all in
        (some, inr all, broken_here s (cut.head.start + cut.used) (cut.held.bytes ++ more) some (inr (all, o.1 more r)))
    no_frame (inr h) =
        let s = stream_of cut.head.head in
        let same : cut.held.bytes ++ more ≡ cut.held.bytes = ap (λ xs. cut.held.bytes ++ xs) (r h.0) ∙ append-nil cut.held.bytes in
        let some : cut.held.bytes ++ more ≢ [] = λ n. h.1 (sym same ∙ n) in
        let wait : unit s (cut.held.bytes ++ more) ≡ Wait = ap (unit s) same ∙ h.2 in
        (some, inl wait, broken_here s (cut.head.start + cut.used) (cut.held.bytes ++ more) some (inl wait))

-- ---- answers

pub on_ok : {A E : Type 0} (r : Result A E) (P Q : Type 0) → OnOk r P → (P → Q) → OnOk r Q
on_ok (Ok x) P Q h f = f h
on_ok (Err x) P Q h f = tt

-- ---- what a cut keeps of its numbers is no part of it

abbrev with_facts : (cut : FlacCut) → cut.head.start ≤ 2 ^ 28 → IsStream (stream_of cut.head.head) → 8 * cut.count ≤ 65535 * cut.used → FlacCut
with_facts cut start frames few = record {
  alloc = cut.alloc;
  head = cut.head;
  used = cut.used;
  count = cut.count;
  held = cut.held;
  ended = cut.ended;
  sender = cut.sender;
  start = start;
  frames = frames;
  few = few;
}

pub same_cut : (cut : FlacCut) (start : cut.head.start ≤ 2 ^ 28) (frames : IsStream (stream_of cut.head.head)) (few : 8 * cut.count ≤ 65535 * cut.used)
    → with_facts cut start frames few ≡ cut
same_cut cut start frames few =
    let one : IsProp (cut.head.start ≤ 2 ^ 28) = hlevel le_prop in
    let two : IsProp (IsStream (stream_of cut.head.head)) = hlevel le_prop in
    let three : IsProp (8 * cut.count ≤ 65535 * cut.used) = hlevel le_prop in
    ap (λ h. with_facts cut h frames few) (one start cut.start)
    ∙ ap (λ h. with_facts cut cut.start h few) (two frames cut.frames)
    ∙ ap (λ h. with_facts cut cut.start cut.frames h) (three few cut.few)
