-- What each move at an even rate does.
use Rattle.std.proofs.Common.{◌≡◌, ◌≢◌, ℕ, suc, ◌+◌, ◌-◌, ◌<◌, ◌≤◌, ◌⊎◌, inl, inr, ◌||◌, ◌^◌, nat_lt, not, is_some, max, Bool, true, false, cond, Option, Some, None, List, [], ◌∷◌, refl, ap, sym, ◌∙◌, subst, arith}
use Rattle.std.proofs.lemmas.Bool.Decides.{nat_tests}
use Rattle.ff_frame.specs.declared.head.StreamHead.{StreamHead}
use Rattle.ff_frame.specs.declared.video.VFrame.{VFrame}
use Rattle.ff_stream.specs.declared.item.Item.{Item}
use Rattle.ff_stream.specs.declared.item.Item.TheVariants.{Audio, Video, Packet, Trailer, End, Broken}
use Rattle.ff_stream.specs.declared.item.Lane.TheVariants.{Frames}
use Rattle.ff_stream.specs.Stream.{still_open, whole}
use Rattle.ff_stream.specs.Ports.{nothing}
use Rattle.ff_stream.specs.Within.{passes_limits}
use Rattle.ff_filter.specs.declared.after.After.{After}
use Rattle.ff_filter.specs.declared.after.After.TheVariants.{More}
use Rattle.ff_filter.specs.Joins.{Flow, one, before, joined}
use Rattle.ff_filter.specs.Views.{View, closes, Fed, Gave, Waits, Stopped}
use Rattle.ff_filter.specs.Made.{made_of, waiting}
use Rattle.ff_filter.specs.laws.Limits.{limited, limited_some, limited_cut}
use Rattle.ff_vfilter.specs.declared.scale.Scale.{Scale}
use Rattle.ff_vfilter.specs.declared.showing.Ahead.{Ahead}
use Rattle.ff_vfilter.specs.declared.showing.Ahead.TheVariants as ahead
use Rattle.ff_vfilter.specs.declared.showing.Showing.{Showing}
use Rattle.ff_vfilter.specs.Rates.{number_of, end_number, shown}
use Rattle.ff_vfilter.specs.laws.RateSteps.{shows, number_from, rated}
use Rattle.ff_vfilter.specs.laws.RateViews.{ahead_then, still_shown, limit_of, rate_view, Shown}

module _ (s : Scale) where
  shows_next : (n q : ℕ) (f : VFrame) → n < q → shows (q - n) n f ≡ shown n f ∷ shows (q - (n + 1)) (n + 1) f
  shows_next n q f lt = let e : q - n ≡ suc (q - (n + 1)) = omega arith in rw e refl

  no_more_of : (n q : ℕ) (f : VFrame) → q ≤ n → shows (q - n) n f ≡ []
  no_more_of n q f le = let e : q - n ≡ 0 = omega arith in rw e refl

  -- the picture is shown once more
  pub shows_once : (f : VFrame) (n : ℕ) (a : Ahead) (t : Flow) → n < limit_of s (Some f) a
      → rated s (record { picture = Some f; number = n }) (ahead_then a t) ≡ before (shown n f) (rated s (record { picture = Some f; number = n + 1 }) (ahead_then a t))
  shows_once f n ahead.Unknown t lt = absurd (omega arith)
  shows_once f n (ahead.Picture g) t lt =
      let q : ℕ = number_of s g in
      let top : max n q ≡ max (n + 1) q = omega arith in
      ap (λ (xs : List Item). joined (record { items = xs; mark = still_open }) (rated s (record { picture = Some g; number = max n q }) t)) (shows_next n q f lt)
      ∙ ap (λ (k : ℕ). joined (record { items = shown n f ∷ shows (q - (n + 1)) (n + 1) f; mark = still_open }) (rated s (record { picture = Some g; number = k }) t)) top
  shows_once f n ahead.Whole t lt = ap (λ (xs : List Item). let r : Flow = record { items = xs; mark = whole } in r) (shows_next n (end_number s f) f lt)
  shows_once f n ahead.Lost t lt = absurd (omega arith)

  last_of : (n q : ℕ) (f : VFrame) → n + 1 ≡ q → shows (q - n) n f ≡ shown n f ∷ []
  last_of n q f e = shows_next n q f (omega (arith, e)) ∙ ap (λ (xs : List Item). shown n f ∷ xs) (no_more_of (n + 1) q f (omega (arith, e)))

  -- the picture is shown for the last time
  pub shows_last : (f : VFrame) (n : ℕ) (a : Ahead) (t : Flow) → n + 1 ≡ limit_of s (Some f) a
      → rated s (record { picture = Some f; number = n }) (ahead_then a t) ≡ before (shown n f) (rated s (record { picture = None; number = n + 1 }) (ahead_then a t))
  shows_last f n ahead.Unknown t e = absurd (omega (arith, e))
  shows_last f n (ahead.Picture g) t e =
      let q : ℕ = number_of s g in
      let top : max n q ≡ q = omega (arith, e) in
      ap (λ (xs : List Item). joined (record { items = xs; mark = still_open }) (rated s (record { picture = Some g; number = max n q }) t)) (last_of n q f e)
      ∙ ap (λ (k : ℕ). joined (record { items = shown n f ∷ []; mark = still_open }) (rated s (record { picture = Some g; number = k }) t)) top
  shows_last f n ahead.Whole t e = ap (λ (xs : List Item). let r : Flow = record { items = xs; mark = whole } in r) (last_of n (end_number s f) f e)
  shows_last f n ahead.Lost t e = absurd (omega (arith, e))

  -- the next picture takes its place
  pub takes_up : (p : Option VFrame) (n : ℕ) (g : VFrame) (t : Flow) → (p ≡ None) ⊎ (number_of s g ≤ n) → rated s (record { picture = p; number = n }) (before (Video g) t) ≡ rated s (record { picture = Some g; number = number_from p n (number_of s g) }) t
  takes_up None n g t h = refl
  takes_up (Some f) n g t (inl e) = cc
  takes_up (Some f) n g t (inr le) = ap (λ (xs : List Item). joined (record { items = xs; mark = still_open }) (rated s (record { picture = Some g; number = max n (number_of s g) }) t)) (no_more_of n (number_of s g) f le)

  -- nothing more is shown
  pub shows_end : (p : Option VFrame) (n : ℕ) → (p ≡ None) ⊎ (limit_of s p ahead.Whole ≤ n) → rated s (record { picture = p; number = n }) (one End) ≡ one End
  shows_end None n h = refl
  shows_end (Some f) n (inl e) = cc
  shows_end (Some f) n (inr le) = ap (λ (xs : List Item). let r : Flow = record { items = xs; mark = whole } in r) (no_more_of n (end_number s f) f le)

no_other : (q : ℕ) → q < 1 → q ≢ 0 → ⊥
no_other q lt n = let z : q ≡ 0 = omega arith in n z

not_ended : (b : Bool) (r : Flow) → b ≡ false → cond b nothing r ≡ r
not_ended b r e = rw e refl

made_is : (x : Item) → closes x ≡ false → made_of (Some x) More ≡ one x
made_is (Audio f) c = refl
made_is (Video f) c = refl
made_is (Packet p) c = refl
made_is (Trailer t) c = refl
made_is End c = cc
made_is Broken c = cc

bare : (passes : ℕ → Item → Bool) (n : ℕ) (x : Item) → closes x ≡ true → limited passes n (one x) ≡ before x nothing
bare passes n (Audio f) e = cc
bare passes n (Video f) e = cc
bare passes n (Packet p) e = cc
bare passes n (Trailer t) e = cc
bare passes n End e = refl
bare passes n Broken e = refl

module _ (head given : StreamHead) (queue : List Item) (after : After) (ended stopped : Bool) (on : ended ≡ false) where
  -- a picture is given
  pub rate_gave : (m m' : Showing) (f : VFrame) (x : Item) → Shown m m' f x → passes_limits (Frames given) m.before (shown m.number f) ≡ false
      → Gave (rate_view head given m queue after ended stopped) (rate_view head given m' queue after ended stopped) 0 x
  rate_gave m m' f x h p = record {
    ports = record { ins = refl; outs = refl };
    open_before = on;
    rest_here = λ ext. not_ended ended (limited (passes_limits (Frames given)) m.before (still_shown m (waiting queue after (ext 0)))) on
        ∙ (here (waiting queue after (ext 0)) ∙ ap (λ (r : Flow). before x r) (sym (not_ended ended (limited (passes_limits (Frames given)) m'.before (still_shown m' (waiting queue after (ext 0)))) on)));
    rest_others = λ ext o l n w. absurd (no_other o l n);
    shut = λ q. refl;
    ended_here = on ∙ sym open_item;
    ended_others = λ o l n. refl;
    stopped = λ o. refl;
  }
    where
      open_item : closes x ≡ false
      open_item = ap (λ (z : Item). closes z) h.is

      short : passes_limits (Frames given) m.before x ≡ false
      short = ap (λ (z : Item). passes_limits (Frames given) m.before z) h.is ∙ p

      here : (t : Flow) → limited (passes_limits (Frames given)) m.before (still_shown m t) ≡ before x (limited (passes_limits (Frames given)) m'.before (still_shown m' t))
      here t =
          limited_some (passes_limits (Frames given)) m.before x More (still_shown m t) (still_shown m' t) open_item short (h.rest t ∙ ap (λ (o : Flow). joined o (still_shown m' t)) (sym (made_is x open_item)))
          ∙ (ap (λ (o : Flow). joined o (limited (passes_limits (Frames given)) (m.before + 1) (still_shown m' t))) (made_is x open_item)
          ∙ ap (λ (k : ℕ). before x (limited (passes_limits (Frames given)) k (still_shown m' t))) (sym h.count))

  -- the output closes
  closed_by : (m : Showing) (x : Item) → closes x ≡ true → ((t : Flow) → limited (passes_limits (Frames given)) m.before (still_shown m t) ≡ before x nothing)
      → Gave (rate_view head given m queue after ended stopped) (rate_view head given m queue after true stopped) 0 x
  closed_by m x c h = record {
    ports = record { ins = refl; outs = refl };
    open_before = on;
    rest_here = λ ext. not_ended ended (limited (passes_limits (Frames given)) m.before (still_shown m (waiting queue after (ext 0)))) on ∙ h (waiting queue after (ext 0));
    rest_others = λ ext o l n w. absurd (no_other o l n);
    shut = λ q. refl;
    ended_here = sym c;
    ended_others = λ o l n. absurd (no_other o l n);
    stopped = λ o. refl;
  }

  pub rate_closed : (m : Showing) (x : Item) → closes x ≡ true → ((t : Flow) → still_shown m t ≡ one x) → Gave (rate_view head given m queue after ended stopped) (rate_view head given m queue after true stopped) 0 x
  rate_closed m x c h = closed_by m x c (λ t. ap (λ (r : Flow). limited (passes_limits (Frames given)) m.before r) (h t) ∙ bare (passes_limits (Frames given)) m.before x c)

  -- the next picture would pass a limit
  pub rate_cut : (m : Showing) (f : VFrame) → m.picture ≡ Some f → m.number < limit_of m.scale m.picture m.ahead → passes_limits (Frames given) m.before (shown m.number f) ≡ true
      → Gave (rate_view head given m queue after ended stopped) (rate_view head given m queue after true stopped) 0 Broken
  rate_cut m f is lt p = closed_by m Broken refl (λ t.
      limited_cut (passes_limits (Frames given)) m.before (shown m.number f) More (still_shown m t) (rated m.scale (record { picture = Some f; number = m.number + 1 }) (ahead_then m.ahead t)) nothing refl p
      (ap (λ (o : Option VFrame). rated m.scale (record { picture = o; number = m.number }) (ahead_then m.ahead t)) is
      ∙ shows_once m.scale f m.number m.ahead t (subst (λ (o : Option VFrame). m.number < limit_of m.scale o m.ahead) is lt)))

pub gave_there : (v w : View) (p : ℕ) (x : Item) → p < 1 → Gave v w 0 x → Gave v w p x
gave_there v w p x lt g = let z : 0 ≡ p = omega arith in subst (λ (q : ℕ). Gave v w q x) z g

pub waits_there : (v w : View) (p : ℕ) → p < 1 → Waits v w 0 → Waits v w p
waits_there v w p lt g = let z : 0 ≡ p = omega arith in subst (λ (q : ℕ). Waits v w q) z g

pub fed_there : (v w : View) (p : ℕ) (x : Item) → p < 1 → Fed v w 0 x → Fed v w p x
fed_there v w p x lt g = let z : 0 ≡ p = omega arith in subst (λ (q : ℕ). Fed v w q x) z g

pub stopped_there : (v w : View) (p : ℕ) → p < 1 → Stopped v w 0 → Stopped v w p
stopped_there v w p lt g = let z : 0 ≡ p = omega arith in subst (λ (q : ℕ). Stopped v w q) z g

pub some_there : (b : Bool) (o : Option VFrame) → is_some o ≡ not b → b ≡ false → (f : VFrame) × (o ≡ Some f)
some_there b None e f = let clash : false ≡ true = e ∙ ap not f in cc
some_there b (Some g) e f = (g, refl)

few_before : (a : ℕ) (b : Bool) → (nat_lt (2 ^ 40) (a + 1) || b) ≡ false → a < 2 ^ 40
few_before a b e = grind (arith, nat_tests)

-- where no limit is passed, fewer than 2^40 were given before
pub few_given : (given : StreamHead) (before number : ℕ) (f : VFrame) → passes_limits (Frames given) before (shown number f) ≡ false → before < 2 ^ 40
few_given given before number f e = few_before before _ e
