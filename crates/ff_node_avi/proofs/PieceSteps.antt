-- What a demuxer of an AVI has read, step by step.
use Rattle.std.proofs.Common.{◌≡◌, ℕ, zero, suc, ◌+◌, ◌-◌, inl, inr, Bool, true, false, cond, List, [], ◌∷◌, ◌++◌, drop, length, Option, None, Some, refl, sym, ap, subst, ◌∙◌, arith, append_assoc, length-append, append-nil}
use Rattle.std.specs.Prelude.{◌==◌, Result, Ok, Err, IsErr}
use Rattle.std.specs.Io.KnownBytes.{Consumes, Keeps}
use Rattle.ff_frame.specs.declared.packet.Pkt.{Pkt}
use Rattle.ff_avi.specs.declared.head.AviHead.{AviHead}
use Rattle.ff_avi.specs.declared.cut.AviCut.{AviCut}
use Rattle.ff_avi.specs.declared.lane.Lanes.{Lanes}
use Rattle.ff_avi.specs.declared.data.DataState.{DataState}
use Rattle.ff_avi.specs.declared.data.Turn.TheVariants.{Wait}
use Rattle.ff_avi.specs.Data.{turn}
use Rattle.ff_avi.specs.Chains.{packets_in, ended, chain_from, units}
use Rattle.ff_avi.specs.Chains.Chain.{whole, broken}
use Rattle.ff_avi.specs.laws.Cuts.{Cuts, Feeds, KeepsCut, GivesUnit, IsPart, rest_of}
use Rattle.ff_avi.proofs.ChainLaws.{at_wait, packets_behind}
use Rattle.ff_input.specs.laws.Reading.{piece_size}
use Rattle.ff_node_demux.proofs.DemuxSteps.{drop-append, drop_nil}
use Rattle.ff_node_avi.specs.declared.demux.AviDemux.{AviDemux}
use Rattle.ff_node_avi.specs.declared.reader.AviReader.{AviReader}
use Rattle.ff_node_avi.specs.laws.AviDemuxers.{avi_reads_on, avi_reads_nothing}
use Rattle.ff_node_avi.specs.declared.reader.ReadEnd.{ReadEnd}
use Rattle.ff_node_avi.specs.declared.reader.Told.{Told}
use Rattle.ff_node_avi.specs.laws.AviReading.{WasFed, IsWanted, IsNear, HasRead, Reads, FeedsOn, given_after}

-- ---- what a source has left

consumes_none : (left : Option (List ℕ)) → Consumes left left []
consumes_none None = tt
consumes_none (Some xs) = refl

consumes_kept : (a b c : Option (List ℕ)) (bs : List ℕ) → Consumes a b bs → Keeps b c → Consumes a c bs
consumes_kept None b c bs h k = tt
consumes_kept (Some xs) None c bs h k = absurd h
consumes_kept (Some xs) (Some ys) None bs h k = absurd k
consumes_kept (Some xs) (Some ys) (Some zs) bs h k = h ∙ ap (λ (ws : List ℕ). bs ++ ws) (sym k)

consumes_both : (a b c : Option (List ℕ)) (bs ds : List ℕ) → Consumes a b bs → Consumes b c ds → Consumes a c (bs ++ ds)
consumes_both None b c bs ds h k = tt
consumes_both (Some xs) None c bs ds h k = absurd h
consumes_both (Some xs) (Some ys) None bs ds h k = absurd k
consumes_both (Some xs) (Some ys) (Some zs) bs ds h k = h ∙ (ap (λ (ws : List ℕ). bs ++ ws) k ∙ sym (append_assoc bs ds zs))

keeps_self : (left : Option (List ℕ)) → Keeps left left
keeps_self None = tt
keeps_self (Some xs) = refl

-- ---- part of a unit

none_ended : (from left : ℕ) (known : DataState) (at : ℕ) → packets_in (ended from left known at) ≡ []
none_ended from (suc left) known at = refl
none_ended from zero known at = pick (known.left == 0)
  where
    pick : (b : Bool) → packets_in (cond b whole (broken at)) ≡ []
    pick true = refl
    pick false = refl

none_waits : (lanes : Lanes) (from : ℕ) (known : DataState) (at : ℕ) (bs : List ℕ) → turn lanes known at bs ≡ Wait
    → packets_in (chain_from lanes from 0 0 known at bs) ≡ []
none_waits lanes from known at [] w = none_ended from 0 known at
none_waits lanes from known at (b ∷ bs) w = ap packets_in (at_wait lanes from known at (b ∷ bs) (λ e. cc) (inl w))

none_part : (cut : AviCut) → IsPart cut → packets_in (rest_of cut []) ≡ []
none_part cut (inl h) =
    ap (λ (xs : List ℕ). packets_in (chain_from cut.lanes cut.from cut.left cut.pad cut.known cut.place xs)) (append-nil cut.held.bytes ∙ h)
    ∙ none_ended cut.from cut.left cut.known cut.place
none_part cut (inr w) =
    ap (λ (xs : List ℕ). packets_in (chain_from cut.lanes cut.from cut.left cut.pad cut.known cut.place xs)) (append-nil cut.held.bytes)
    ∙ (ap (λ (k : ℕ). packets_in (chain_from cut.lanes cut.from k cut.pad cut.known cut.place cut.held.bytes)) w.0
    ∙ (ap (λ (k : ℕ). packets_in (chain_from cut.lanes cut.from 0 k cut.known cut.place cut.held.bytes)) w.1
    ∙ none_waits cut.lanes cut.from cut.known cut.place cut.held.bytes w.2))

-- then what was fed holds no packet but those that were given
all_given : (cut : AviCut) → IsPart cut → (head : AviHead) (used fed : List ℕ) (n : ℕ) → Cuts cut head used fed n → length (packets_in (units head used fed)) ≡ n
all_given cut part head used fed n c =
    let g = c.goes [] in
    ap (λ (xs : List ℕ). length (packets_in (units head used xs))) (sym (append-nil fed))
    ∙ (ap (λ x. length (packets_in x)) g.all
    ∙ (ap length (packets_behind g.given (rest_of cut []) ∙ (ap (λ xs. g.given ++ xs) (none_part cut part) ∙ append-nil g.given)) ∙ g.number))

-- ---- pieces

-- a piece comes into a cut
pub fed_piece : (cut new : AviCut) (skip skip' : ℕ) (piece : List ℕ) → Feeds cut new (drop skip piece) → skip' ≡ skip - length piece
    → (head : AviHead) (used read : List ℕ) (n : ℕ) → WasFed cut skip head used read n → WasFed new skip' head used (read ++ piece) n
fed_piece cut new skip skip' piece feeds e head used read n f =
    let at = head.start in
    let s = f.skipped in
    let parts : drop at read ++ drop skip piece ≡ drop at (read ++ piece) =
    ap (λ (k : ℕ). drop at read ++ drop k piece) f.skipped ∙ sym (drop-append at read piece) in
    record {
      cuts = subst (λ (xs : List ℕ). Cuts new head used xs n) parts (feeds head used (drop at read) n f.cuts);
      skipped = omega (arith, e, s, length-append read piece);
    }

-- nothing comes
pub fed_none : (cut new : AviCut) (skip : ℕ) → KeepsCut cut new → (head : AviHead) (used read : List ℕ) (n : ℕ) → WasFed cut skip head used read n
    → WasFed new skip head used (read ++ []) n
fed_none cut new skip keeps head used read n f =
    subst (λ (xs : List ℕ). WasFed new skip head used xs n) (sym (append-nil read))
    (record { cuts = keeps head used (drop head.start read) n f.cuts; skipped = f.skipped })

near_later : (head : AviHead) (used read : List ℕ) (n : ℕ) → IsNear head used read n → IsNear head used read (n + 1)
near_later head used read n (inl e) = inl e
near_later head used read n (inr e) =
    let b = e.before in
    inr (record { front = e.front; piece = e.piece; parts = e.parts; number = e.number; before = omega (arith, b); wanted = e.wanted })

-- ---- a call

-- nothing was read
pub reads_nothing : (left : Option (List ℕ)) (cut : AviCut) (skip given : ℕ) (over : Bool) → Reads left cut skip given over left cut skip given over
reads_nothing left cut skip given over head used read h =
    let same : read ≡ read ++ [] = sym (append-nil read) in (
      [],
      record {
        taken = consumes_none left;
        wanted = inl refl;
        near = subst (λ (xs : List ℕ). IsNear head used xs given) same h.near;
        now = subst (λ (xs : List ℕ). HasRead cut skip given over head used xs) same h;
      },
    )

module _ (old : Option (List ℕ)) (was : AviCut) (skipped n : ℕ) (over : Bool) where
  -- a read failed, or only room was made in the cut, or something passed over
  pub reads_kept : (left left' : Option (List ℕ)) (cut cut' : AviCut) (skip skip' given : ℕ) (over' : Bool)
      → Keeps left left' → KeepsCut cut cut' → skip' ≡ skip
      → Reads old was skipped n over left cut skip given over'
      → Reads old was skipped n over left' cut' skip' given over'
  reads_kept left left' cut cut' skip skip' given over' k keeps e r head used read h =
      let more = (r head used read h).0 in
      let s = (r head used read h).1 in (
        more,
        record {
          taken = consumes_kept old left left' more s.taken k;
          wanted = s.wanted;
          near = s.near;
          now = record {
            fed = λ b. let f = s.now.fed b in record { cuts = keeps head used (drop head.start (read ++ more)) given f.cuts; skipped = e ∙ f.skipped };
            near = s.now.near;
          };
        },
      )

  -- the cut only passed something over
  pub reads_same : (left : Option (List ℕ)) (cut cut' : AviCut) (skip given : ℕ) (over' : Bool) → KeepsCut cut cut'
      → Reads old was skipped n over left cut skip given over'
      → Reads old was skipped n over left cut' skip given over'
  reads_same left cut cut' skip given over' keeps r = reads_kept left left cut cut' skip skip given over' (keeps_self left) keeps refl r

  -- a piece was read
  pub reads_piece : (left left' : Option (List ℕ)) (cut cut' : AviCut) (skip skip' : ℕ) → IsPart cut
      → FeedsOn piece_size left cut skip left' cut' skip'
      → Reads old was skipped n over left cut skip n false
      → Reads old was skipped n over left' cut' skip' n false
  reads_piece left left' cut cut' skip skip' part feeds r head used read h =
      let more = (r head used read h).0 in
      let s = (r head used read h).1 in
      let front = read ++ more in
      let behind = drop head.start front in
      let f = s.now.fed refl in
      let b = feeds head used front n f in
      let bytes = b.0 in
      let parts : front ++ bytes ≡ read ++ (more ++ bytes) = append_assoc read more bytes in
      let wanted : IsWanted head used front n (length bytes) =
      record { all_given = all_given cut part head used behind n f.cuts; cut = cut; cuts = f.cuts; part = part; few = b.2 } in
      let near : IsNear head used (read ++ (more ++ bytes)) n =
      inr (record { front = front; piece = bytes; parts = sym parts; number = n; before = omega arith; wanted = wanted }) in (
        more ++ bytes,
        record {
          taken = consumes_both old left left' more bytes s.taken b.1;
          wanted = inr (more, bytes, refl, wanted);
          near = near;
          now = record { fed = λ e. subst (λ (xs : List ℕ). WasFed cut' skip' head used xs n) parts b.3; near = near };
        },
      )

  -- a packet was given of what was read
  pub reads_packet : (left : Option (List ℕ)) (cut cut' : AviCut) (skip given stream : ℕ) (over' : Bool) (p : Pkt) → GivesUnit cut cut' stream p
      → Reads old was skipped n over left cut skip given over'
      → Reads old was skipped n over left cut' skip (given + 1) over'
  reads_packet left cut cut' skip given stream over' p gives r head used read h =
      let more = (r head used read h).0 in
      let s = (r head used read h).1 in (
        more,
        record {
          taken = s.taken;
          wanted = s.wanted;
          near = s.near;
          now = record {
            fed = λ b. let f = s.now.fed b in record { cuts = (gives head used (drop head.start (read ++ more)) given f.cuts).0; skipped = f.skipped };
            near = near_later head used (read ++ more) given s.now.near;
          };
        },
      )

  -- nothing more is given, be it that a packet was given or not
  pub reads_over : (left : Option (List ℕ)) (cut cut' : AviCut) (skip given : ℕ) (over' : Bool)
      → Reads old was skipped n over left cut skip given over'
      → Reads old was skipped n over left cut' skip n true
  reads_over left cut cut' skip given over' r head used read h =
      let more = (r head used read h).0 in
      let s = (r head used read h).1 in
      (more, record { taken = s.taken; wanted = s.wanted; near = s.near; now = record { fed = λ e. cc; near = s.near } })

  -- an answer that is an error has no packet
  pub reads_err : (left : Option (List ℕ)) (cut : AviCut) (skip given : ℕ) (over' : Bool) (answer : Result Told ReadEnd) → IsErr answer
      → Reads old was skipped n over left cut skip given over'
      → Reads old was skipped n over left cut skip (given_after given answer) over'
  reads_err left cut skip given over' (Ok told) e r = cc
  reads_err left cut skip given over' (Err end) e r = r

-- ---- the machine

module _ {S : Type 0} (left : S → Option (List ℕ)) where
  -- a call that reads, and then one that doesn't
  pub avi_reads_then : (old mid new : AviDemux S) → avi_reads_on left old mid → avi_reads_nothing mid new → avi_reads_on left old new
  avi_reads_then old mid new r (e, g, d) =
      let was = old.reader in
      subst (λ (m : AviReader S). Reads (left was.src) was.cut was.skip old.given old.ended (left m.src) m.cut m.skip new.given new.ended) (sym e)
      (subst (λ (n : ℕ). Reads (left was.src) was.cut was.skip old.given old.ended (left mid.reader.src) mid.reader.cut mid.reader.skip n new.ended) (sym g)
      (subst (λ (b : Bool). Reads (left was.src) was.cut was.skip old.given old.ended (left mid.reader.src) mid.reader.cut mid.reader.skip mid.given b) (sym d) r))

  -- a reader's answer, and what was used then of what it said
  pub avi_used : (old : AviDemux S) (new : AviReader S) (answer told : Result Told ReadEnd) → old.ended ≡ false
      → ((given : ℕ) → Reads (left old.reader.src) old.reader.cut old.reader.skip given false (left new.src) new.cut new.skip (given_after given answer) false)
      → answer ≡ told
      → Reads (left old.reader.src) old.reader.cut old.reader.skip old.given old.ended (left new.src) new.cut new.skip (given_after old.given told) old.ended
  avi_used old new answer told going reads same =
      let was = old.reader in
      let R = Reads (left was.src) was.cut was.skip old.given in
      subst (λ (b : Bool). R b (left new.src) new.cut new.skip (given_after old.given told) b) (sym going)
      (subst (λ (r : Result Told ReadEnd). R false (left new.src) new.cut new.skip (given_after old.given r) false) same (reads old.given))

  -- and nothing more is given behind it
  pub avi_over : (old : AviDemux S) (new : AviReader S) (given : ℕ) (over : Bool)
      → Reads (left old.reader.src) old.reader.cut old.reader.skip old.given old.ended (left new.src) new.cut new.skip given over
      → Reads (left old.reader.src) old.reader.cut old.reader.skip old.given old.ended (left new.src) new.cut new.skip old.given true
  avi_over old new given over r =
      reads_over (left old.reader.src) old.reader.cut old.reader.skip old.given old.ended (left new.src) new.cut new.cut new.skip given over r

-- a machine that was made has read nothing
pub was_unread : (cut : AviCut) (head : AviHead) (used : List ℕ) → Cuts cut head used [] 0 → WasFed cut head.start head used [] 0
was_unread cut head used c = record {
  cuts = subst (λ (xs : List ℕ). Cuts cut head used xs 0) (sym (drop_nil head.start)) c;
  skipped = (let same : head.start ≡ head.start - length {A = ℕ} [] = omega arith in same);
}

pub has_unread : (cut : AviCut) (skip : ℕ) (head : AviHead) (used : List ℕ) → WasFed cut skip head used [] 0 → HasRead cut skip 0 false head used []
has_unread cut skip head used f = record { fed = λ e. f; near = inl refl }
