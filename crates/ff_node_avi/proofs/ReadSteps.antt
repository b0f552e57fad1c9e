-- How the reading of an AVI goes on: by a piece, by a packet, by the end.
use Rattle.std.proofs.Common.{◌≡◌, ℕ, ◌+◌, ◌-◌, ◌^◌, ◌<◌, ◌≤◌, ◌⊎◌, inl, inr, true, false, cond, List, [], ◌++◌, drop, length, Option, None, Some, refl, sym, ap, subst, ◌∙◌, arith, append_assoc, length-append, append-nil}
use Rattle.std.specs.Prelude.{slice_get, Bool, Result, Ok, Err, OnErr, IfOk}
use Rattle.std.specs.Io.KnownBytes.{Consumes, Keeps, IsAtEnd}
use mathlib.Core.Logic.{∥∥₁_elim, ∥∥₁_map}
use native.Mathlib.Nat.{ℕ_set}
use Rattle.ff_frame.specs.declared.packet.Pkt.{Pkt}
use Rattle.ff_frame.specs.declared.cut.Cut.{Cut}
use Rattle.ff_frame.specs.declared.cut.Cut.TheVariants.{NotYet, End, Broken, Pkt as Packet}
use Rattle.ff_avi.specs.declared.head.AviHead.{AviHead}
use Rattle.ff_avi.specs.declared.cut.AviCut.{AviCut}
use Rattle.ff_avi.specs.Chains.{packets_in, broken_at, units}
use Rattle.ff_avi.specs.laws.Cuts.{Cuts, has_ended, waiting_in, place_of, Feeds, KeepsCut, GivesUnit, GaveAll, Tells}
use Rattle.ff_node_demux.proofs.DemuxSteps.{drop-append, drop_nil}
use Rattle.ff_node_avi.specs.Reading.{Lies, IsFed, Stays, Reaches, Closes, reach_of, IsNearer, body}

pub on_err : {A E : Type 0} (r : Result A E) (P : Type 0) → P → OnErr r P
on_err (Ok x) P p = tt
on_err (Err x) P p = p

-- ---- what a source has left

consumed : (left now : Option (List ℕ)) (rest piece : List ℕ) → left ≡ Some rest → Consumes left now piece → (r : List ℕ) × (now ≡ Some r)
    × (rest ≡ piece ++ r)
consumed None now rest piece e c = cc
consumed (Some xs) None rest piece e c = absurd c
consumed (Some xs) (Some ys) rest piece e c = let same : xs ≡ rest = cc in (ys, refl, sym same ∙ c)

at_end_is : (now : Option (List ℕ)) (r : List ℕ) → now ≡ Some r → IsAtEnd now → r ≡ []
at_end_is None r e h = cc
at_end_is (Some xs) r e h = let same : xs ≡ r = cc in sym same ∙ h

kept : (left now : Option (List ℕ)) (rest : List ℕ) → left ≡ Some rest → Keeps left now → now ≡ Some rest
kept None now rest e k = cc
kept (Some xs) None rest e k = absurd k
kept (Some xs) (Some ys) rest e k = ap (λ (z : List ℕ). Some z) k ∙ e

-- ---- a cut that was fed something

pub fed_kept : (cut new : AviCut) → KeepsCut cut new → ∥ IsFed cut ∥₁ → ∥ IsFed new ∥₁
fed_kept cut new keeps f =
    ∥∥₁_map f (λ d. record { head = d.head; used = d.used; fed = d.fed; number = d.number; cuts = keeps d.head d.used d.fed d.number d.cuts })

pub fed_more : (cut new : AviCut) (bytes : List ℕ) → Feeds cut new bytes → ∥ IsFed cut ∥₁ → ∥ IsFed new ∥₁
fed_more cut new bytes feeds f =
    ∥∥₁_map f (λ d. record { head = d.head; used = d.used; fed = d.fed ++ bytes; number = d.number; cuts = feeds d.head d.used d.fed d.number d.cuts })

pub fed_given : (cut new : AviCut) (stream : ℕ) (p : Pkt) → GivesUnit cut new stream p → ∥ IsFed cut ∥₁ → ∥ IsFed new ∥₁
fed_given cut new stream p gives f =
    ∥∥₁_map f (λ d. record { head = d.head; used = d.used; fed = d.fed; number = d.number + 1; cuts = (gives d.head d.used d.fed d.number d.cuts).0 })

-- whatever the cut answered
pub fed_told : {E : Type 0} (cut new : AviCut) (answer : Result (ℕ × Cut) E) → IfOk answer (λ told. Tells cut new told.0 told.1) → OnErr answer (KeepsCut cut new)
    → ∥ IsFed cut ∥₁ → ∥ IsFed new ∥₁
fed_told cut new (Ok (stream, Packet p)) ok err f = fed_given cut new stream p ok.0 f
fed_told cut new (Ok (stream, NotYet)) ok err f = fed_kept cut new ok.0 f
fed_told cut new (Ok (stream, End)) ok err f = fed_kept cut new ok.0 f
fed_told cut new (Ok (stream, Broken offset)) ok err f = fed_kept cut new ok.0 f
fed_told cut new (Err e) ok err f = fed_kept cut new err f

-- it is further by as many bytes
pub fed_reach : (cut new : AviCut) (bytes : List ℕ) → Feeds cut new bytes → ∥ IsFed cut ∥₁ → reach_of new ≡ reach_of cut + length bytes
fed_reach cut new bytes feeds f = ∥∥₁_elim f (ℕ_set _ _) (λ d.
    let was = d.cuts.of_place in
    let now = (feeds d.head d.used d.fed d.number d.cuts).of_place in
    omega (arith, was, now, length-append d.fed bytes))

pub kept_reach : (cut new : AviCut) → KeepsCut cut new → ∥ IsFed cut ∥₁ → reach_of new ≡ reach_of cut
kept_reach cut new keeps f = ∥∥₁_elim f (ℕ_set _ _) (λ d.
    let was = d.cuts.of_place in
    let now = (keeps d.head d.used d.fed d.number d.cuts).of_place in
    omega (arith, was, now))

pub feeds_nothing : (cut new : AviCut) (skip : ℕ) → KeepsCut cut new → Feeds cut new (drop skip [])
feeds_nothing cut new skip keeps head used fed n c =
    subst (λ (xs : List ℕ). Cuts new head used xs n) (sym (ap (λ (xs : List ℕ). fed ++ xs) (drop_nil skip) ∙ append-nil fed)) (keeps head used fed n c)

-- ---- steps

-- nothing comes
pub lies_kept : (left now : Option (List ℕ)) (cut new : AviCut) (skip skip' : ℕ) → Keeps left now → skip' ≡ skip → has_ended new ≡ has_ended cut
    → KeepsCut cut new → Stays left cut skip now new skip'
lies_kept left now cut new skip skip' k s e keeps head used file n l = record {
  read = l.read;
  rest = l.rest;
  parts = l.parts;
  told = kept left now l.rest l.told k;
  cuts = keeps head used (drop head.start l.read) n l.cuts;
  skipped = s ∙ l.skipped;
  all_read = λ ended. l.all_read (sym e ∙ ended);
}

-- a piece comes, or the end
pub lies_fed : (left now : Option (List ℕ)) (cut new : AviCut) (skip skip' : ℕ) (piece : List ℕ) → Consumes left now piece → skip' ≡ skip - length piece
    → (has_ended new ≡ false) ⊎ IsAtEnd now → Feeds cut new (drop skip piece) → Stays left cut skip now new skip'
lies_fed left now cut new skip skip' piece c k e feeds head used file n l =
    let r = consumed left now l.rest piece l.told c in
    let s = l.skipped in
    let same : drop head.start l.read ++ drop skip piece ≡ drop head.start (l.read ++ piece) =
    ap (λ (i : ℕ). drop head.start l.read ++ drop i piece) l.skipped ∙ sym (drop-append head.start l.read piece) in
    record {
      read = l.read ++ piece;
      rest = r.0;
      parts = append_assoc l.read piece r.0 ∙ (ap (λ (xs : List ℕ). l.read ++ xs) (sym r.2) ∙ l.parts);
      told = r.1;
      cuts = subst (λ (xs : List ℕ). Cuts new head used xs n) same (feeds head used (drop head.start l.read) n l.cuts);
      skipped = omega (arith, k, s, length-append l.read piece);
      all_read = λ ended. at_end e r.0 r.1 ended;
    }
  where
    at_end : (has_ended new ≡ false) ⊎ IsAtEnd now → (r : List ℕ) → now ≡ Some r → has_ended new ≡ true → r ≡ []
    at_end (inl f) r t ended = cc
    at_end (inr z) r t ended = at_end_is now r t z

-- nothing was read
pub lies_start : (left : Option (List ℕ)) (cut : AviCut) (head : AviHead) (used file : List ℕ) → left ≡ Some file → has_ended cut ≡ false
    → Cuts cut head used [] 0 → Lies left cut head.start head used file 0
lies_start left cut head used file told going c = record {
  read = [];
  rest = file;
  parts = refl;
  told = told;
  cuts = subst (λ (xs : List ℕ). Cuts cut head used xs 0) (sym (drop_nil head.start)) c;
  skipped = (let same : head.start ≡ head.start - length {A = ℕ} [] = omega arith in same);
  all_read = λ ended. cc;
}

module _ (left : Option (List ℕ)) (cut : AviCut) (skip : ℕ) where
  -- what follows what a cut was fed
  rest_is : (head : AviHead) (used file : List ℕ) (n : ℕ) (l : Lies left cut skip head used file n)
      → (drop head.start l.read ++ drop (head.start - length l.read) l.rest ≡ body head file) × (has_ended cut ≡ true → drop (head.start - length l.read) l.rest ≡ [])
  rest_is head used file n l = (
    sym (drop-append head.start l.read l.rest) ∙ ap (λ (xs : List ℕ). drop head.start xs) l.parts,
    λ e. ap (λ (xs : List ℕ). drop (head.start - length l.read) xs) (l.all_read e) ∙ drop_nil (head.start - length l.read),
  )

  -- the cut only passed something over
  pub lies_same : (new : AviCut) → has_ended new ≡ has_ended cut → KeepsCut cut new → Stays left cut skip left new skip
  lies_same new e keeps head used file n l = record {
    read = l.read;
    rest = l.rest;
    parts = l.parts;
    told = l.told;
    cuts = keeps head used (drop head.start l.read) n l.cuts;
    skipped = l.skipped;
    all_read = λ ended. l.all_read (sym e ∙ ended);
  }

  -- the cut gave a packet
  pub lies_packet : (new : AviCut) (stream : ℕ) (p : Pkt) → has_ended new ≡ has_ended cut → GivesUnit cut new stream p
      → Reaches left cut skip left new skip stream p
  lies_packet new stream p e gives head used file n l =
      let g = gives head used (drop head.start l.read) n l.cuts in
      let r = rest_is head used file n l in (
        record { read = l.read; rest = l.rest; parts = l.parts; told = l.told; cuts = g.0; skipped = l.skipped; all_read = λ ended. l.all_read (sym e ∙ ended) },
        ap (λ (xs : List ℕ). slice_get (packets_in (units head used xs)) n) (sym r.0) ∙ g.1 (drop (head.start - length l.read) l.rest) r.1,
      )

  -- the cut gave all
  pub lies_over : (new : AviCut) (broken : Option ℕ) → has_ended new ≡ has_ended cut → KeepsCut cut new → GaveAll new broken
      → Closes left cut skip broken
  lies_over new broken e keeps all head used file n l =
      let r = rest_is head used file n l in
      subst (λ (xs : List ℕ). (length (packets_in (units head used xs)) ≡ n) × (broken_at (units head used xs) ≡ broken)) r.0
      (all head used (drop head.start l.read) n (keeps head used (drop head.start l.read) n l.cuts) (drop (head.start - length l.read) l.rest)
      (λ ended. r.1 (sym e ∙ ended)))

-- what is still to come of an input grows less with each piece
pub nearer : (old cut new : AviCut) (skip skip' : ℕ) → reach_of cut ≡ reach_of old → has_ended cut ≡ has_ended old → has_ended cut ≡ false
    → place_of cut ≤ 2 ^ 41 → length (waiting_in cut) < 2 ^ 30 → IsNearer cut skip new skip'
    → skip' + (2 ^ 42 - reach_of new) + cond (has_ended new) 0 1 < skip + (2 ^ 42 - reach_of old) + cond (has_ended old) 0 1
nearer old cut new skip skip' same e going near few n =
    smaller skip skip' (reach_of old) (reach_of cut) (reach_of new) (has_ended old) (has_ended new) same (sym e ∙ going) (omega (arith, near, few)) n
  where
    smaller : (skip skip' reach reach' reach'' : ℕ) (was now : Bool) → reach' ≡ reach → was ≡ false → reach' < 2 ^ 42
        → ((now ≡ true) × (skip' ≡ skip) × (reach'' ≡ reach')) ⊎ ((now ≡ false) × (reach' + skip' < reach'' + skip) × (skip' ≤ skip))
        → skip' + (2 ^ 42 - reach'') + cond now 0 1 < skip + (2 ^ 42 - reach) + cond was 0 1
    smaller skip skip' reach reach' reach'' true now e f lt h = cc
    smaller skip skip' reach reach' reach'' false true e f lt (inl h) = omega (arith, e, h.1, h.2, lt)
    smaller skip skip' reach reach' reach'' false false e f lt (inl h) = let x = h.0 in cc
    smaller skip skip' reach reach' reach'' false true e f lt (inr h) = let x = h.0 in cc
    smaller skip skip' reach reach' reach'' false false e f lt (inr h) = omega (arith, e, h.1, h.2, lt)
