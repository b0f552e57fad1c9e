-- What is written of what is decided, packet by packet.
use Rattle.std.proofs.Common.{◌≡◌, ◌⊎◌, inl, inr, ℕ, Bool, true, false, List, [], ◌∷◌, ◌++◌, length, Option, Some, None, refl, ap, sym, ◌∙◌, subst, append_assoc, append-nil}
use Rattle.std.specs.Prelude.{IfSome, IsSome}
use Rattle.std.specs.Io.KnownBytes.{Appends}
use Rattle.ff_filter.specs.Joins.{Ports, silence}
use Rattle.ff_node_mux.specs.merge.Merges.{Placed}
use Rattle.ff_node_mux.specs.merge.Queues.{Merging}
use Rattle.ff_lists.specs.Appends.{AppendsPrefix}
use Rattle.ff_lists.proofs.Written.{grows, front_of, front_after}
use Rattle.ff_net.specs.declared.fault.Fault.{Fault}
use Rattle.ff_net.specs.declared.fault.Fault.TheVariants.{TooLarge, NoMemory}
use Rattle.ff_net.specs.laws.Laws.{IsOfInputs}
use Rattle.ff_frame.specs.declared.totals.Totals.{Totals}
use Rattle.ff_format.specs.Layouts.{Layout, body, fits, IsBeyond}
use Rattle.ff_node_mux.specs.laws.Growing.{body_more, size_less}
use Rattle.ff_node_mux.specs.laws.Writing.{text_before, EndsAs, StaysWithin, Wrote, WroteAll, Stuck, WroteOn, StuckOn}
use Rattle.ff_node_mux.proofs.Texts.{adds_none, front_none, within_fits, beyond_fits, still_beyond}

module _ (layout : Layout) where
  -- nothing was written
  within_none : (counts : List Placed → Type 0) → StaysWithin layout counts []
  within_none counts ps c f = ap (λ (xs : List Placed). fits layout.longest (length (body layout xs))) (append-nil ps) ∙ f

  pub wrote_none : (old new : Merging) (held : Option (List ℕ)) (counts : List Placed → Type 0) → ((ext : Ports) → new.rest ext ≡ old.rest ext)
      → Wrote layout old new held held counts counts []
  wrote_none old new held counts same = record {
    rest = λ ext. sym (same ext);
    text = adds_none held;
    counted = λ ps c. subst counts (sym (append-nil ps)) c;
    within = within_none counts;
  }

  -- a packet was
  module _ (y : Placed) where
    abbrev text : List ℕ
    text = layout.text y.0 y.1

    of_one : text ≡ body layout (y ∷ [])
    of_one = sym (append-nil (layout.text y.0 y.1))

    pub wrote_one : (old new : Merging) (before now : Option (List ℕ)) (counts counts' : List Placed → Type 0) → ((ext : Ports) → old.rest ext ≡ y ∷ new.rest ext)
        → Appends before now text → ((ps : List Placed) → counts ps → counts' (ps ++ y ∷ []))
        → ((ps : List Placed) → counts ps → IsBeyond layout.longest (length (body layout (ps ++ y ∷ []))) → ⊥) → Wrote layout old new before now counts counts' (y ∷ [])
    wrote_one old new before now counts counts' rest adds counted within = record {
      rest = rest;
      text = subst (λ (t : List ℕ). Appends before now t) of_one adds;
      counted = counted;
      within = λ ps c f. within_fits layout.longest (length (body layout (ps ++ y ∷ []))) (within ps c);
    }

    large_one : (ps ys zs : List Placed) → ys ≡ y ∷ zs → IsBeyond layout.longest (length (body layout (ps ++ y ∷ []))) → fits layout.longest (length (body layout (ps ++ ys))) ≡ false
    large_one ps ys zs e b = still_beyond layout.longest (length (body layout (ps ++ y ∷ []))) (length (body layout (ps ++ ys)))
        (beyond_fits layout.longest (length (body layout (ps ++ y ∷ []))) b)
        (size_less layout (ps ++ y ∷ []) (ps ++ ys) zs (append_assoc ps (y ∷ []) zs ∙ ap (λ (xs : List Placed). ps ++ xs) (sym e)))

    -- or not all of it
    pub stuck_one : (old new : Merging) (before now : Option (List ℕ)) (counts : List Placed → Type 0) (f : Fault) → ((ext : Ports) → old.rest ext ≡ y ∷ new.rest ext)
        → AppendsPrefix before now [] ⊎ (((ps : List Placed) → counts ps → IsBeyond layout.longest (length (body layout (ps ++ y ∷ []))) → ⊥) × AppendsPrefix before now text)
        → (f ≡ TooLarge → (ps : List Placed) → counts ps → IsBeyond layout.longest (length (body layout (ps ++ y ∷ [])))) → Stuck layout old before now counts f
    stuck_one old new before now counts f rest (inl p) large = record {
      packets = [];
      others = old.rest silence;
      rest = refl;
      front = p;
      within = within_none counts;
      large = λ e ps c. large_one ps (old.rest silence) (new.rest silence) (rest silence) (large e ps c);
    }
    stuck_one old new before now counts f rest (inr p) large = record {
      packets = y ∷ [];
      others = new.rest silence;
      rest = rest silence;
      front = subst (λ (t : List ℕ). AppendsPrefix before now t) of_one p.1;
      within = λ ps c g. within_fits layout.longest (length (body layout (ps ++ y ∷ []))) (p.0 ps c);
      large = λ e ps c. large_one ps (old.rest silence) (new.rest silence) (rest silence) (large e ps c);
    }

  module _ (old mid : Merging) (before between now : Option (List ℕ)) (counts counts' : List Placed → Type 0) (ys : List Placed) (w : Wrote layout old mid before between counts counts' ys) where
    within_more : (zs : List Placed) → StaysWithin layout counts' zs → StaysWithin layout counts (ys ++ zs)
    within_more zs h ps c f =
        ap (λ (xs : List Placed). fits layout.longest (length (body layout xs))) (sym (append_assoc ps ys zs))
        ∙ h (ps ++ ys) (w.counted ps c) (w.within ps c f)

    -- further packets were written
    pub wrote_more : (new : Merging) (counts'' : List Placed → Type 0) (zs : List Placed) → Wrote layout mid new between now counts' counts'' zs
        → Wrote layout old new before now counts counts'' (ys ++ zs)
    wrote_more new counts'' zs v = record {
      rest = λ ext. w.rest ext ∙ (ap (λ (xs : List Placed). ys ++ xs) (v.rest ext) ∙ sym (append_assoc ys zs (new.rest ext)));
      text = subst (λ (t : List ℕ). Appends before now t) (sym (body_more layout ys zs)) (grows before between now (body layout ys) (body layout zs) w.text v.text);
      counted = λ ps c. subst counts'' (append_assoc ps ys zs) (v.counted (ps ++ ys) (w.counted ps c));
      within = within_more zs v.within;
    }

    -- or not all of them
    pub stuck_more : (f : Fault) → Stuck layout mid between now counts' f → Stuck layout old before now counts f
    stuck_more f v =
        let all : old.rest silence ≡ ys ++ mid.rest silence = w.rest silence in record {
          packets = ys ++ v.packets;
          others = v.others;
          rest = all ∙ (ap (λ (xs : List Placed). ys ++ xs) v.rest ∙ sym (append_assoc ys v.packets v.others));
          front = front_after before between now (body layout ys) (body layout v.packets) [] (body layout (ys ++ v.packets)) w.text v.front
              (body_more layout ys v.packets ∙ sym (append-nil (body layout ys ++ body layout v.packets)));
          within = within_more v.packets v.within;
          large = λ e ps c. ap (λ (xs : List Placed). fits layout.longest (length (body layout (ps ++ xs)))) all
              ∙ (ap (λ (xs : List Placed). fits layout.longest (length (body layout xs))) (sym (append_assoc ps ys (mid.rest silence)))
              ∙ v.large e (ps ++ ys) (w.counted ps c));
        }

  -- ---- with what stands before the packets, and what follows them

  module _ (old : Merging) (before : Option (List ℕ)) (counts : List Placed → Type 0) (begun whole : Bool) where
    -- nothing of the packets was written
    pub stuck_early : (now : Option (List ℕ)) (some : List ℕ) (others : List ℕ) (f : Fault) → AppendsPrefix before now some → text_before begun layout ≡ some ++ others
        → (f ≡ TooLarge → ⊥) → StuckOn layout old before now counts begun whole f
    stuck_early now some others f front e clash = record {
      packets = [];
      others = old.rest silence;
      rest = refl;
      tail = [];
      front = front_of before now some others ((text_before begun layout ++ []) ++ []) front
          (append-nil (text_before begun layout ++ []) ∙ (append-nil (text_before begun layout) ∙ e));
      tails = inl refl;
      within = within_none counts;
      large = λ t. absurd (clash t);
    }

    pub stuck_first : (now : Option (List ℕ)) (text : List ℕ) (r : Option Fault) → text ≡ text_before begun layout → AppendsPrefix before now text
        → IfSome r (λ c. IsOfInputs c → ⊥) → IfSome r (λ f. StuckOn layout old before now counts begun whole f)
    stuck_first now text None is front kinds = tt
    stuck_first now text (Some f) is front kinds =
        stuck_early now text [] f front (sym is ∙ sym (append-nil text)) (λ e. kinds (subst IsOfInputs (sym e) tt))

    -- a front of the packets
    pub stuck_midway : (between now : Option (List ℕ)) (text : List ℕ) (f : Fault) → Appends before between text → text ≡ text_before begun layout
        → Stuck layout old between now counts f → StuckOn layout old before now counts begun whole f
    stuck_midway between now text f adds is v = record {
      packets = v.packets;
      others = v.others;
      rest = v.rest;
      tail = [];
      front = front_after before between now (text_before begun layout) (body layout v.packets) [] ((text_before begun layout ++ body layout v.packets) ++ [])
          (subst (λ (t : List ℕ). Appends before between t) is adds) v.front refl;
      tails = inl refl;
      within = v.within;
      large = v.large;
    }

    module _ (new : Merging) (between written : Option (List ℕ)) (counts' : List Placed → Type 0) (text : List ℕ) (adds : Appends before between text) (is : text ≡ text_before begun layout)
        (w : WroteAll layout old new between written counts counts') where
      all_added : Appends before written (text_before begun layout ++ body layout w.packets)
      all_added = grows before between written (text_before begun layout) (body layout w.packets) (subst (λ (t : List ℕ). Appends before between t) is adds) w.wrote.text

      all_came : old.rest silence ≡ w.packets ++ []
      all_came = w.wrote.rest silence ∙ ap (λ (xs : List Placed). w.packets ++ xs) w.nothing_left

      -- all of them, and more may come
      pub wrote_so_far : (totals : Option Totals) → whole ≡ false → WroteOn layout old new before written counts counts' begun whole totals
      wrote_so_far totals o = record {
        packets = w.packets;
        rest = w.wrote.rest;
        nothing_left = w.nothing_left;
        counted = w.wrote.counted;
        within = w.wrote.within;
        tail = [];
        replaced = None;
        ends = (written, subst (λ (t : List ℕ). Appends before written t) (sym (append-nil (text_before begun layout ++ body layout w.packets))) all_added, refl);
        more = λ f. (refl, refl);
        all = λ t. let clash : false ≡ true = sym o ∙ t in cc;
      }

      -- no memory for what takes the place of bytes
      pub stuck_at_end : StuckOn layout old before written counts begun whole NoMemory
      stuck_at_end = record {
        packets = w.packets;
        others = [];
        rest = all_came;
        tail = [];
        front = front_after before written written (text_before begun layout ++ body layout w.packets) [] [] ((text_before begun layout ++ body layout w.packets) ++ [])
            all_added (front_none written) (ap (λ (t : List ℕ). t ++ []) (sym (append-nil (text_before begun layout ++ body layout w.packets))));
        tails = inl refl;
        within = w.wrote.within;
        large = λ e. cc;
      }

      module _ (now : Option (List ℕ)) (tail : List ℕ) (tails : (ps : List Placed) → counts' ps → tail ≡ layout.tail ps) (ended : whole ≡ true) where
        -- the end too
        pub wrote_to_end : (replaced : Option (ℕ × List ℕ)) (totals : Option Totals)
            → ((ps : List Placed) → counts' ps → replaced ≡ layout.last (length (body layout ps)) totals)
            → EndsAs written now tail replaced → WroteOn layout old new before now counts counts' begun whole totals
        wrote_to_end replaced totals lasts e = record {
          packets = w.packets;
          rest = w.wrote.rest;
          nothing_left = w.nothing_left;
          counted = w.wrote.counted;
          within = w.wrote.within;
          tail = tail;
          replaced = replaced;
          ends = (e.0, grows before written e.0 (text_before begun layout ++ body layout w.packets) tail all_added e.1, e.2);
          more = λ f. let clash : true ≡ false = sym ended ∙ f in cc;
          all = λ t ps c. (tails (ps ++ w.packets) (w.wrote.counted ps c), lasts (ps ++ w.packets) (w.wrote.counted ps c));
        }

        -- or not all of it
        pub stuck_in_end : (f : Fault) → (f ≡ TooLarge → ⊥) → AppendsPrefix written now tail → StuckOn layout old before now counts begun whole f
        stuck_in_end f clash p = record {
          packets = w.packets;
          others = [];
          rest = all_came;
          tail = tail;
          front = front_after before written now (text_before begun layout ++ body layout w.packets) tail [] ((text_before begun layout ++ body layout w.packets) ++ tail)
              all_added p (sym (append-nil ((text_before begun layout ++ body layout w.packets) ++ tail)));
          tails = inr (ended, refl, λ ps c. tails (ps ++ w.packets) (w.wrote.counted ps c));
          within = w.wrote.within;
          large = λ e. absurd (clash e);
        }

        pub stuck_last : (r : Option Fault) → (IsSome r → AppendsPrefix written now tail) → IfSome r (λ c. IsOfInputs c → ⊥)
            → IfSome r (λ f. StuckOn layout old before now counts begun whole f)
        stuck_last None front kinds = tt
        stuck_last (Some f) front kinds = stuck_in_end f (λ e. kinds (subst IsOfInputs (sym e) tt)) (front refl)
