-- The state of a cut, tied to what it was fed and gave.
use Rattle.std.proofs.Common.{◌≡◌, ◌≢◌, ℕ, zero, suc, ◌+◌, ◌-◌, ◌≤◌, ◌⊎◌, inl, inr, Bool, true, List, [], ◌∷◌, ◌++◌, take, drop, length, Some, None, refl, sym, ap, ◌∙◌, subst, arith, length-append, append_assoc, append-nil}
use Rattle.std.specs.Prelude.{slice_get, pos, Result, Ok, Err, OnOk}
use Rattle.std.proofs.lemmas.List.{length-drop, drop-drop, take-append-le}
use Rattle.ff_frame.specs.Packet.{packet_at}
use Rattle.ff_frame.specs.declared.packet.Pkt.{Pkt}
use Rattle.ff_y4m.specs.declared.head.Y4mHead.{Y4mHead}
use Rattle.ff_y4m.specs.declared.cut.Y4mCut.{Y4mCut}
use Rattle.ff_y4m.specs.declared.frame.Front.TheVariants.{Wait, Other, Frame}
use Rattle.ff_y4m.specs.Packets.{unit, packet_in, packets_from, broken_from, demuxed, broken_at}
use Rattle.ff_reader.specs.Cutters.{IsRest}
use Rattle.ff_y4m.specs.Cuts.{Goes, Cuts}
use Rattle.ff_y4m.proofs.UnitLaws.{frame_at, frame-append, other-append, other_some, packets_frame, broken_frame, packets_none, broken_here}

pub drop-append : {A : Type 0} (k : ℕ) (xs ys : List A) → k ≤ length xs → drop k (xs ++ ys) ≡ drop k xs ++ ys
drop-append zero xs ys le = refl
drop-append (suc k) [] ys le = absurd (omega arith)
drop-append (suc k) (x ∷ xs) ys le = drop-append k xs ys (omega arith)

-- item number length xs of xs followed by one more
get_behind : {A : Type 0} (xs : List A) (y : A) (ys : List A) (n : ℕ) → length xs ≡ n → slice_get (xs ++ y ∷ ys) n ≡ Some y
get_behind [] y ys n e = subst (λ k. slice_get (y ∷ ys) k ≡ Some y) e refl
get_behind (x ∷ xs) y ys zero e = cc
get_behind (x ∷ xs) y ys (suc n) e = get_behind xs y ys n (cc (e))

-- ---- a new cut, and bytes that are fed

pub fresh_goes : (head : Y4mHead) (more : List ℕ) → Goes head 0 0 [] [] more
fresh_goes head more =
    let z : head.start ≡ head.start + 0 = omega arith in record {
      given = [];
      number = refl;
      packets = ap (λ at. packets_from head.frame_bytes 0 at 0 more) z;
      place = ap (λ at. broken_from head.frame_bytes 0 at more) z;
    }

pub fed_goes : (head : Y4mHead) (used n : ℕ) (held fed bytes more : List ℕ) → Goes head used n held fed (bytes ++ more) → Goes head used n (held ++ bytes) (fed ++ bytes) more
fed_goes head used n held fed bytes more g = record {
  given = g.given;
  number = g.number;
  packets = ap (demuxed head) (append_assoc fed bytes more) ∙ (g.packets ∙ ap (λ xs. g.given ++ packets_from head.frame_bytes 0 (head.start + used) n xs) (sym (append_assoc held bytes more)));
  place = ap (broken_at head) (append_assoc fed bytes more) ∙ (g.place ∙ ap (broken_from head.frame_bytes 0 (head.start + used)) (sym (append_assoc held bytes more)));
}

pub fed_cuts : (old new : Y4mCut) (head : Y4mHead) (fed bytes : List ℕ) (n : ℕ) → Cuts old head fed n → new.head ≡ old.head → new.count ≡ old.count → new.used ≡ old.used
    → new.held.bytes ≡ old.held.bytes ++ bytes → Cuts new head (fed ++ bytes) n
fed_cuts old new head fed bytes n c eh ec eu ek = record {
  of_head = eh ∙ c.of_head;
  of_count = ec ∙ c.of_count;
  inside = let i = c.inside in omega (arith, i, eu, length-append fed bytes);
  kept = ek ∙ (ap (λ xs. xs ++ bytes) c.kept ∙ (sym (drop-append old.used fed bytes c.inside) ∙ ap (λ k. drop k (fed ++ bytes)) (sym eu)));
  goes = λ more. subst (λ (xs : List ℕ). Goes head new.used n xs (fed ++ bytes) more) (sym ek) (subst (λ (k : ℕ). Goes head k n (old.held.bytes ++ bytes) (fed ++ bytes) more) (sym eu) (fed_goes head old.used n old.held.bytes fed bytes more (c.goes (bytes ++ more))));
}

-- ---- a frame is given

frame_goes : (head : Y4mHead) (used n k : ℕ) (held fed more : List ℕ) (p : Pkt) → Goes head used n held fed more → unit head.frame_bytes held ≡ Frame k
    → Goes head (used + (k + 1 + head.frame_bytes)) (n + 1) (drop (k + 1 + head.frame_bytes) held) fed more
frame_goes head used n k held fed more p g e =
    let size = head.frame_bytes in
    let f = frame_at size k held e in
    let all : unit size (held ++ more) ≡ Frame k = frame-append size k held more e in
    let whole = k + 1 + size in
    let first = packet_in size (head.start + used) n k (held ++ more) in
    let place : head.start + used + whole ≡ head.start + (used + whole) = omega arith in
    let rest : drop whole (held ++ more) ≡ drop whole held ++ more = drop-append whole held more f.3 in record {
      given = g.given ++ first ∷ [];
      number = let m = g.number in omega (arith, m, length-append g.given (first ∷ []));
      packets = g.packets ∙ (ap (λ ps. g.given ++ ps) (packets_frame size (head.start + used) n k (held ++ more) all)
          ∙ (sym (append_assoc g.given (first ∷ []) (packets_from size 0 (head.start + used + whole) (n + 1) (drop whole (held ++ more))))
          ∙ (ap (λ at. (g.given ++ first ∷ []) ++ packets_from size 0 at (n + 1) (drop whole (held ++ more))) place
          ∙ ap (λ xs. (g.given ++ first ∷ []) ++ packets_from size 0 (head.start + (used + whole)) (n + 1) xs) rest)));
      place = g.place ∙ (broken_frame size (head.start + used) k (held ++ more) all
          ∙ (ap (λ at. broken_from size 0 at (drop whole (held ++ more))) place ∙ ap (broken_from size 0 (head.start + (used + whole))) rest));
    }

-- the planes are the same whatever follows
planes_same : (size at n k : ℕ) (held more : List ℕ) → k + 1 + size ≤ length held → packet_in size at n k (held ++ more) ≡ packet_in size at n k held
planes_same size at n k held more le =
    let a : drop (k + 1) (held ++ more) ≡ drop (k + 1) held ++ more = drop-append (k + 1) held more (omega arith) in
    let b : take size (drop (k + 1) held ++ more) ≡ take size (drop (k + 1) held) = take-append-le size (drop (k + 1) held) more (omega (arith, length-drop (k + 1) held)) in
    ap (λ xs. packet_at (pos n) (pos 1) at xs) (ap (take size) a ∙ b)

pub frame_gives : (old new : Y4mCut) (head : Y4mHead) (fed : List ℕ) (n k : ℕ) (p : Pkt) → Cuts old head fed n → unit old.head.frame_bytes old.held.bytes ≡ Frame k
    → new.head ≡ old.head → new.count ≡ old.count + 1 → new.used ≡ old.used + (k + 1 + old.head.frame_bytes) → new.held.bytes ≡ drop (k + 1 + old.head.frame_bytes) old.held.bytes
    → p ≡ packet_in old.head.frame_bytes (old.head.start + old.used) old.count k old.held.bytes
    → Cuts new head fed (n + 1) × ((more : List ℕ) → slice_get (demuxed head (fed ++ more)) n ≡ Some p)
frame_gives old new head fed n k p c e eh ec eu ek ep =
    let same : old.head ≡ head = c.of_head in
    let whole = k + 1 + old.head.frame_bytes in
    let f = frame_at old.head.frame_bytes k old.held.bytes e in
    let there : length old.held.bytes ≡ length fed - old.used = ap length c.kept ∙ length-drop old.used fed in
    let at_head : (more : List ℕ) → Goes old.head old.used n old.held.bytes fed more = λ more. subst (λ (h : Y4mHead). Goes h old.used n old.held.bytes fed more) (sym same) (c.goes more) in (
      record {
        of_head = eh ∙ same;
        of_count = let m = c.of_count in omega (arith, m, ec);
        inside = let i = c.inside in omega (arith, i, eu, there, f.3);
        kept = ek ∙ (ap (drop whole) c.kept ∙ (drop-drop whole old.used fed ∙ ap (λ j. drop j fed) (sym eu)));
        goes = λ more. subst (λ (h : Y4mHead). Goes h new.used (n + 1) new.held.bytes fed more) same
            (subst (λ (xs : List ℕ). Goes old.head new.used (n + 1) xs fed more) (sym ek)
            (subst (λ (j : ℕ). Goes old.head j (n + 1) (drop whole old.held.bytes) fed more) (sym eu) (frame_goes old.head old.used n k old.held.bytes fed more p (at_head more) e)));
      },
      λ more.
          let g = at_head more in
          let size = old.head.frame_bytes in
          let all : unit size (old.held.bytes ++ more) ≡ Frame k = frame-append size k old.held.bytes more e in
          let first : packet_in size (old.head.start + old.used) n k (old.held.bytes ++ more) ≡ p =
          planes_same size (old.head.start + old.used) n k old.held.bytes more f.3 ∙ (ap (λ m. packet_in size (old.head.start + old.used) m k old.held.bytes) (sym c.of_count) ∙ sym ep) in
          subst (λ (h : Y4mHead). slice_get (demuxed h (fed ++ more)) n ≡ Some p) same
          (ap (λ ps. slice_get ps n) (g.packets ∙ ap (λ ps. g.given ++ ps) (packets_frame size (old.head.start + old.used) n k (old.held.bytes ++ more) all))
          ∙ (get_behind g.given _ _ n g.number ∙ ap Some first)),
    )

-- ---- no frame is there

-- nothing follows what ended
rest_nil : (ended : Bool) (more : List ℕ) → IsRest ended more → ended ≡ true → more ≡ []
rest_nil ended more r e = r e

none_length : (head : Y4mHead) (used n : ℕ) (held fed more : List ℕ) → Goes head used n held fed more → packets_from head.frame_bytes 0 (head.start + used) n (held ++ more) ≡ [] → length (demuxed head (fed ++ more)) ≡ n
none_length head used n held fed more g e = ap length (g.packets ∙ ap (λ ps. g.given ++ ps) e) ∙ (length-append g.given [] ∙ (let m = g.number in omega (arith, m)))

-- the input ended behind the last frame
pub over_left : (cut : Y4mCut) (head : Y4mHead) (fed : List ℕ) (n : ℕ) → Cuts cut head fed n → cut.ended ≡ true → cut.held.bytes ≡ []
    → (more : List ℕ) → IsRest cut.ended more → (length (demuxed head (fed ++ more)) ≡ n) × (broken_at head (fed ++ more) ≡ None)
over_left cut head fed n c e h more r =
    let g = c.goes more in
    let nothing : cut.held.bytes ++ more ≡ [] = ap (λ xs. xs ++ more) h ∙ r e in (
      none_length head cut.used n cut.held.bytes fed more g (ap (packets_from head.frame_bytes 0 (head.start + cut.used) n) nothing),
      g.place ∙ ap (broken_from head.frame_bytes 0 (head.start + cut.used)) nothing,
    )

-- no frame begins here, or one that isn't whole
pub broken_left : (cut : Y4mCut) (head : Y4mHead) (fed : List ℕ) (n : ℕ) → Cuts cut head fed n
    → (unit cut.head.frame_bytes cut.held.bytes ≡ Other) ⊎ ((cut.ended ≡ true) × (cut.held.bytes ≢ []) × (unit cut.head.frame_bytes cut.held.bytes ≡ Wait))
    → (more : List ℕ) → IsRest cut.ended more → (length (demuxed head (fed ++ more)) ≡ n) × (broken_at head (fed ++ more) ≡ Some (cut.head.start + cut.used))
broken_left cut head fed n c how more r =
    let same : cut.head ≡ head = c.of_head in
    let g : Goes cut.head cut.used n cut.held.bytes fed more = subst (λ (h : Y4mHead). Goes h cut.used n cut.held.bytes fed more) (sym same) (c.goes more) in
    let here = no_frame how in
    subst (λ (h : Y4mHead). (length (demuxed h (fed ++ more)) ≡ n) × (broken_at h (fed ++ more) ≡ Some (cut.head.start + cut.used))) same (
      none_length cut.head cut.used n cut.held.bytes fed more g (packets_none cut.head.frame_bytes (cut.head.start + cut.used) n (cut.held.bytes ++ more) here.1),
      g.place ∙ broken_here cut.head.frame_bytes (cut.head.start + cut.used) (cut.held.bytes ++ more) here.0 here.1,
    )
  where
    no_frame : (unit cut.head.frame_bytes cut.held.bytes ≡ Other) ⊎ ((cut.ended ≡ true) × (cut.held.bytes ≢ []) × (unit cut.head.frame_bytes cut.held.bytes ≡ Wait))
        → (cut.held.bytes ++ more ≢ []) × ((unit cut.head.frame_bytes (cut.held.bytes ++ more) ≡ Wait) ⊎ (unit cut.head.frame_bytes (cut.held.bytes ++ more) ≡ Other))
    no_frame (inl o) = let all = other-append cut.head.frame_bytes cut.held.bytes more o in (other_some cut.head.frame_bytes (cut.held.bytes ++ more) all, inr all)
    no_frame (inr h) =
        let same : cut.held.bytes ++ more ≡ cut.held.bytes = ap (λ xs. cut.held.bytes ++ xs) (r h.0) ∙ append-nil cut.held.bytes in
        (λ n. h.1 (sym same ∙ n), inl (ap (unit cut.head.frame_bytes) same ∙ h.2))

-- ---- answers

pub on_ok : {A E : Type 0} (r : Result A E) (P Q : Type 0) → OnOk r P → (P → Q) → OnOk r Q
on_ok (Ok x) P Q h f = f h
on_ok (Err x) P Q h f = tt
