-- A format among others: what its own cut does, the cut of any format does.
use Rattle.std.proofs.Common.{◌≡◌, ℕ, ◌+◌, List, ◌++◌, length, Option, sym, ap, ◌∙◌, subst}
use Rattle.std.specs.Prelude.{slice_get, Result, Ok, Err, OnOk}
use Rattle.ff_frame.specs.declared.packet.Pkt.{Pkt}
use Rattle.ff_reader.specs.Cutters.{Cutter, Feeds, KeepsCut, GivesPacket, GaveAll}

-- a head and a cut of the format are a head and a cut of any, and only its own heads are those of its cuts
pub record IsAmong {H C K D : Type 0} (own : Cutter H C) (all : Cutter K D) (head_in : H → K) (cut_in : C → D) : Type 0 where
  pub cuts : (c : C) (h : H) (fed : List ℕ) (n : ℕ) → own.cuts c h fed n → all.cuts (cut_in c) (head_in h) fed n
  pub only : (c : C) (k : K) (fed : List ℕ) (n : ℕ) → all.cuts (cut_in c) k fed n → (h : H) × (k ≡ head_in h) × own.cuts c h fed n
  pub demuxed : (h : H) (rest : List ℕ) → all.demuxed (head_in h) rest ≡ own.demuxed h rest
  pub broken_at : (h : H) (rest : List ℕ) → all.broken_at (head_in h) rest ≡ own.broken_at h rest
  pub ended : (c : C) → all.has_ended (cut_in c) ≡ own.has_ended c

module _ {H C K D : Type 0} {own : Cutter H C} {all : Cutter K D} {head_in : H → K} {cut_in : C → D} (a : IsAmong own all head_in cut_in) where
  feeds_among : (old new : C) (bytes : List ℕ) → Feeds own old new bytes → Feeds all (cut_in old) (cut_in new) bytes
  feeds_among old new bytes f k fed n c =
      let r = a.only old k fed n c in
      subst (λ (x : K). all.cuts (cut_in new) x (fed ++ bytes) n) (sym r.1) (a.cuts new r.0 (fed ++ bytes) n (f r.0 fed n r.2))

  pub fed_among : {A E : Type 0} (r : Result A E) (old new : C) (bytes : List ℕ) → OnOk r (Feeds own old new bytes)
      → OnOk r (Feeds all (cut_in old) (cut_in new) bytes)
  fed_among (Ok x) old new bytes f = feeds_among old new bytes f
  fed_among (Err x) old new bytes f = tt

  pub keeps_among : (old new : C) → KeepsCut own old new → KeepsCut all (cut_in old) (cut_in new)
  keeps_among old new f k fed n c =
      let r = a.only old k fed n c in
      subst (λ (x : K). all.cuts (cut_in new) x fed n) (sym r.1) (a.cuts new r.0 fed n (f r.0 fed n r.2))

  pub gives_among : (old new : C) (p : Pkt) → GivesPacket own old new p → GivesPacket all (cut_in old) (cut_in new) p
  gives_among old new p f k fed n c =
      let r = a.only old k fed n c in
      let g = f r.0 fed n r.2 in (
        subst (λ (x : K). all.cuts (cut_in new) x fed (n + 1)) (sym r.1) (a.cuts new r.0 fed (n + 1) g.0),
        λ more rest. ap (λ (x : K). slice_get (all.demuxed x (fed ++ more)) n) r.1
            ∙ (ap (λ (ps : List Pkt). slice_get ps n) (a.demuxed r.0 (fed ++ more)) ∙ g.1 more (λ e. rest (a.ended old ∙ e))),
      )

  pub gave_among : (cut : C) (broken : Option ℕ) → GaveAll own cut broken → GaveAll all (cut_in cut) broken
  gave_among cut broken f k fed n c more rest =
      let r = a.only cut k fed n c in
      let g = f r.0 fed n r.2 more (λ e. rest (a.ended cut ∙ e)) in (
        ap (λ (x : K). length (all.demuxed x (fed ++ more))) r.1 ∙ (ap (λ (ps : List Pkt). length ps) (a.demuxed r.0 (fed ++ more)) ∙ g.0),
        ap (λ (x : K). all.broken_at x (fed ++ more)) r.1 ∙ (a.broken_at r.0 (fed ++ more) ∙ g.1),
      )
