-- A format among others: what its own cut leaves open, the cut of any format does.
use Rattle.std.proofs.Common.{inl, inr, ℕ, ◌++◌, List, sym, ap, ◌∙◌, subst}
use Rattle.std.specs.Prelude.{slice_get}
use Rattle.ff_frame.specs.declared.packet.Pkt.{Pkt}
use Rattle.ff_reader.specs.Cutters.{Cutter}
use Rattle.ff_input.proofs.Among.{IsAmong}
use Rattle.ff_input.specs.laws.Reading.{IsUndecided, LeavesOpen}

module _ {H C K D : Type 0} {own : Cutter H C} {all : Cutter K D} {head_in : H → K} {cut_in : C → D} (a : IsAmong own all head_in cut_in) where
  undecided_among : (h : H) (fed : List ℕ) (n : ℕ) → IsUndecided own h fed n → IsUndecided all (head_in h) fed n
  undecided_among h fed n u = (
    u.0,
    elim u.1 [
      | inl other ↦ inl (λ same. other (ap (λ (ps : List Pkt). slice_get ps n) (sym (a.demuxed h (fed ++ u.0)))
          ∙ (same ∙ ap (λ (ps : List Pkt). slice_get ps n) (a.demuxed h fed))))
      | inr ends ↦ inr (
        ap (λ (ps : List Pkt). slice_get ps n) (a.demuxed h fed) ∙ ends.0,
        λ same. ends.1 (sym (a.broken_at h (fed ++ u.0)) ∙ (same ∙ a.broken_at h fed)),
      )
    ],
  )

  pub open_among : ((h : H) → all.IsHead (head_in h) → own.IsHead h) → (cut : C) → LeavesOpen own cut → LeavesOpen all (cut_in cut)
  open_among is cut undecided k fed n good c =
      let r = a.only cut k fed n c in
      subst (λ (x : K). IsUndecided all x fed n) (sym r.1) (undecided_among r.0 fed n (undecided r.0 fed n (is r.0 (subst (λ (x : K). all.IsHead x) r.1 good)) r.2))
