-- What a demuxer has read, step by step.
use Rattle.std.proofs.Common.{◌≡◌, ℕ, ◌+◌, ◌-◌, ◌≤◌, inl, inr, Bool, true, false, List, [], ◌++◌, drop, length, Option, None, Some, refl, sym, ap, subst, ◌∙◌, arith, append_assoc, length-append, append-nil}
use Rattle.std.specs.Io.KnownBytes.{Consumes, Keeps}
use Rattle.ff_frame.specs.declared.packet.Pkt.{Pkt}
use Rattle.ff_reader.specs.Cutters.{Cutter, Feeds, KeepsCut, GivesPacket}
use Rattle.ff_input.specs.laws.Reading.{IsUndecided, LeavesOpen}
use Rattle.ff_node_demux.specs.laws.Reading.{IsFed, IsNear, HasRead, FeedsOn, Reads}
use Rattle.ff_node_demux.proofs.DemuxSteps.{drop-append}

consumes_none : (left : Option (List ℕ)) → Consumes left left []
consumes_none None = tt
consumes_none (Some xs) = refl

consumes_kept : (a b c : Option (List ℕ)) (bs : List ℕ) → Consumes a b bs → Keeps b c → Consumes a c bs
consumes_kept None b c bs h k = tt
consumes_kept (Some xs) None c bs h k = absurd h
consumes_kept (Some xs) (Some ys) None bs h k = absurd k
consumes_kept (Some xs) (Some ys) (Some zs) bs h k = h ∙ ap (λ (ws : List ℕ). bs ++ ws) (sym k)

consumes_both : (a b c : Option (List ℕ)) (bs ds : List ℕ) → Consumes a b bs → Consumes b c ds → Consumes a c (bs ++ ds)
consumes_both None b c bs ds h k = tt
consumes_both (Some xs) None c bs ds h k = absurd h
consumes_both (Some xs) (Some ys) None bs ds h k = absurd k
consumes_both (Some xs) (Some ys) (Some zs) bs ds h k = h ∙ (ap (λ (ws : List ℕ). bs ++ ws) k ∙ sym (append_assoc bs ds zs))

module _ {H C : Type 0} (cutter : Cutter H C) where
  -- a piece comes into a cut
  pub fed_piece : (cut new : C) (skip skip' : ℕ) (piece : List ℕ) → Feeds cutter cut new (drop skip piece) → skip' ≡ skip - length piece
      → (head : H) (read : List ℕ) (n : ℕ) → IsFed cutter cut skip head read n → IsFed cutter new skip' head (read ++ piece) n
  fed_piece cut new skip skip' piece feeds e head read n f =
      let at = cutter.start head in
      let parts : drop at read ++ drop skip piece ≡ drop at (read ++ piece) =
      ap (λ (k : ℕ). drop at read ++ drop k piece) f.skipped ∙ sym (drop-append at read piece) in
      record {
        cuts = subst (λ (xs : List ℕ). cutter.cuts new head xs n) parts (feeds head (drop at read) n f.cuts);
        skipped = omega (arith, e, f.skipped, length-append read piece);
      }

  -- nothing comes
  pub fed_none : (cut new : C) (skip : ℕ) → KeepsCut cutter cut new → (head : H) (read : List ℕ) (n : ℕ) → IsFed cutter cut skip head read n
      → IsFed cutter new skip head (read ++ []) n
  fed_none cut new skip keeps head read n f =
      subst (λ (xs : List ℕ). IsFed cutter new skip head xs n) (sym (append-nil read))
      (record { cuts = keeps head (drop (cutter.start head) read) n f.cuts; skipped = f.skipped })

  near_later : (asks : C → ℕ) (head : H) (read : List ℕ) (n : ℕ) → IsNear cutter asks head read n → IsNear cutter asks head read (n + 1)
  near_later asks head read n (inl e) = inl e
  near_later asks head read n (inr e) =
      let b = e.before in
      inr (record { front = e.front; piece = e.piece; parts = e.parts; number = e.number; before = omega (arith, b); wanted = e.wanted })

  module _ (asks : C → ℕ) where
    -- nothing was read
    pub reads_nothing : (left : Option (List ℕ)) (cut : C) (skip given : ℕ) (ended : Bool)
        → Reads cutter asks left cut skip given ended left cut skip given ended
    reads_nothing left cut skip given ended head read h =
        let same : read ≡ read ++ [] = sym (append-nil read) in (
          [],
          record {
            taken = consumes_none left;
            wanted = inl refl;
            near = subst (λ (xs : List ℕ). IsNear cutter asks head xs given) same h.near;
            now = subst (λ (xs : List ℕ). HasRead cutter asks cut skip given ended head xs) same h;
          },
        )

    module _ (old : Option (List ℕ)) (was : C) (skipped n : ℕ) (over : Bool) where
      -- a read failed, or only room was made in the cut
      pub reads_kept : (left left' : Option (List ℕ)) (cut cut' : C) (skip skip' given : ℕ) (ended : Bool)
          → Keeps left left' → KeepsCut cutter cut cut' → skip' ≡ skip
          → Reads cutter asks old was skipped n over left cut skip given ended
          → Reads cutter asks old was skipped n over left' cut' skip' given ended
      reads_kept left left' cut cut' skip skip' given ended k keeps e r head read h =
          let more = (r head read h).0 in
          let s = (r head read h).1 in (
            more,
            record {
              taken = consumes_kept old left left' more s.taken k;
              wanted = s.wanted;
              near = s.near;
              now = record {
                is_head = s.now.is_head;
                fed = λ b. let f = s.now.fed b in record { cuts = keeps head (drop (cutter.start head) (read ++ more)) given f.cuts; skipped = e ∙ f.skipped };
                near = s.now.near;
              };
            },
          )

      -- a piece was read
      pub reads_piece : (left left' : Option (List ℕ)) (cut cut' : C) (skip skip' given size : ℕ) (ended : Bool)
          → ended ≡ false → given ≡ n → LeavesOpen cutter cut → size ≤ asks cut
          → FeedsOn cutter size left cut skip left' cut' skip'
          → Reads cutter asks old was skipped n over left cut skip given ended
          → Reads cutter asks old was skipped n over left' cut' skip' given ended
      reads_piece left left' cut cut' skip skip' given size ended going same undecided few feeds r head read h =
          let more = (r head read h).0 in
          let s = (r head read h).1 in
          let front = read ++ more in
          let behind = drop (cutter.start head) front in
          let f = s.now.fed going in
          let u = undecided head behind given s.now.is_head f.cuts in
          let b = feeds head front given f in
          let bytes = b.0 in
          let parts : front ++ bytes ≡ read ++ (more ++ bytes) = append_assoc read more bytes in
          let near : (i : ℕ) → given ≡ i → IsNear cutter asks head (read ++ (more ++ bytes)) i =
          λ i e. inr (record {
            front = front;
            piece = bytes;
            parts = sym parts;
            number = given;
            before = omega (arith, e);
            wanted = record { undecided = u; cut = cut; cuts = f.cuts; few = omega (arith, b.2, few) };
          }) in (
            more ++ bytes,
            record {
              taken = consumes_both old left left' more bytes s.taken b.1;
              wanted = inr (
                more,
                bytes,
                refl,
                record {
                  undecided = subst (λ (i : ℕ). IsUndecided cutter head behind i) same u;
                  cut = cut;
                  cuts = subst (λ (i : ℕ). cutter.cuts cut head behind i) same f.cuts;
                  few = omega (arith, b.2, few);
                },
              );
              near = near n same;
              now = record {
                is_head = s.now.is_head;
                fed = λ e. subst (λ (xs : List ℕ). IsFed cutter cut' skip' head xs given) parts b.3;
                near = near given refl;
              };
            },
          )

      -- a packet was given of what was read
      pub reads_packet : (left : Option (List ℕ)) (cut cut' : C) (skip given : ℕ) (ended : Bool) (p : Pkt) → GivesPacket cutter cut cut' p
          → Reads cutter asks old was skipped n over left cut skip given ended
          → Reads cutter asks old was skipped n over left cut' skip (given + 1) ended
      reads_packet left cut cut' skip given ended p gives r head read h =
          let more = (r head read h).0 in
          let s = (r head read h).1 in (
            more,
            record {
              taken = s.taken;
              wanted = s.wanted;
              near = s.near;
              now = record {
                is_head = s.now.is_head;
                fed = λ b. let f = s.now.fed b in record { cuts = (gives head (drop (cutter.start head) (read ++ more)) given f.cuts).0; skipped = f.skipped };
                near = near_later asks head (read ++ more) given s.now.near;
              };
            },
          )

      -- nothing more is given
      pub reads_over : (left : Option (List ℕ)) (cut cut' : C) (skip given : ℕ) (ended : Bool)
          → Reads cutter asks old was skipped n over left cut skip given ended
          → Reads cutter asks old was skipped n over left cut' skip given true
      reads_over left cut cut' skip given ended r head read h =
          let more = (r head read h).0 in
          let s = (r head read h).1 in
          (more, record { taken = s.taken; wanted = s.wanted; near = s.near; now = record { is_head = s.now.is_head; fed = λ e. cc; near = s.now.near } })
