-- What a relay does at each call.
use Rattle.std.proofs.Common.{◌≡◌, ◌≢◌, ◌↔◌, ℕ, zero, suc, ◌+◌, ◌-◌, ◌<◌, ◌≤◌, ◌⊎◌, inl, inr, Bool, true, false, ◌||◌, cond, nat_le, List, [], ◌∷◌, ◌++◌, length, drop, slice_index_or, slice_set, refl, ap, sym, ◌∙◌, subst, arith, add-one, drop-cons, get_or-set_same, get_or-set_other}
use Rattle.std.proofs.lemmas.Bool.Decides.{nat_tests}
use Rattle.std.proofs.lemmas.List.{append-nil, length-set, length-append}
use Rattle.ff_stream.specs.declared.item.Item.{Item}
use Rattle.ff_stream.specs.declared.item.Item.TheVariants.{Audio, Video, Packet, Trailer, End, Broken}
use Rattle.ff_stream.specs.declared.item.Lane.{Lane}
use Rattle.ff_stream.specs.Stream.{still_open, LiesBelow}
use Rattle.ff_stream.specs.Items.{Closes, with_item, Leads}
use Rattle.ff_stream.specs.laws.Order.{same_stream, leads_below, leads_push}
use Rattle.ff_stream.specs.Ports.{nothing, stream_at}
use Rattle.ff_stream.specs.Lanes.{IsValid}
use Rattle.ff_net.specs.Ways.{Flow}
use Rattle.ff_net.specs.Pasts.{Past, IsIn, due, fed, gave_item, was_asked}
use Rattle.ff_net.proofs.Flows.{take_whole, same_or_not, stream_at-with_item_same, stream_at-with_item_other}
use Rattle.ff_test_machines.specs.declared.relay.Out.{Out}
use Rattle.ff_test_machines.specs.Relays.{stopped_at, relay, closed_mark, out_of, with_end, Relays}
use Rattle.ff_test_machines.specs.RelayLaws.{at_replicate, stopped_before, stopped_mark, stopped_same, due_is}

drop_at : (k : ℕ) (xs : List Item) (d : Item) → k < length xs → drop k xs ≡ slice_index_or xs k d ∷ drop (k + 1) xs
drop_at k xs d lt = rw (add-one k) (drop-cons xs k d lt)

pub only_port : (p : ℕ) → p < 1 → p ≡ 0
only_port p lt = omega arith

drop_past : (k : ℕ) (xs : List Item) → length xs ≤ k → drop k xs ≡ []
drop_past zero [] le = refl
drop_past (suc k) [] le = refl
drop_past zero (x ∷ xs) le = absurd (omega arith)
drop_past (suc k) (x ∷ xs) le = drop_past k xs (omega arith)

drop_append : (k : ℕ) (xs ys : List Item) → k ≤ length xs → drop k (xs ++ ys) ≡ drop k xs ++ ys
drop_append zero xs ys le = refl
drop_append (suc k) [] ys le = absurd (omega arith)
drop_append (suc k) (x ∷ xs) ys le = drop_append k xs ys (omega arith)

front_at : (k : ℕ) (xs ys : List Item) (d : Item) → k < length xs → slice_index_or (xs ++ ys) k d ≡ slice_index_or xs k d
front_at k [] ys d lt = absurd (omega arith)
front_at zero (x ∷ xs) ys d lt = refl
front_at (suc k) (x ∷ xs) ys d lt = front_at k xs ys d (omega arith)

pub end_at : (xs : List Item) (x d : Item) → slice_index_or (xs ++ x ∷ []) (length xs) d ≡ x
end_at [] x d = refl
end_at (y ∷ xs) x d = end_at xs x d

pub no_end : (given : List Item) (left : ℕ) → 0 < left → with_end given left ≡ given
no_end given left lt =
    let test : nat_le left 0 ≡ false = grind (arith, nat_tests) in
    ap (λ (b : Bool). given ++ cond b (End ∷ []) []) test ∙ append-nil given

pub its_end : (given : List Item) (left : ℕ) → left ≡ 0 → with_end given left ≡ given ++ End ∷ []
its_end given left z =
    let test : nat_le left 0 ≡ true = grind (arith, nat_tests) in
    ap (λ (b : Bool). given ++ cond b (End ∷ []) []) test

pub with_end_front : (given : List Item) (left k : ℕ) (d : Item) → k < length given → slice_index_or (with_end given left) k d ≡ slice_index_or given k d
with_end_front given left k d lt = front_at k given (cond (nat_le left 0) (End ∷ []) []) d lt

pub with_end_length : (given : List Item) (left : ℕ) → length given ≤ length (with_end given left)
with_end_length given left = omega (arith, length-append given (cond (nat_le left 0) (End ∷ []) []))

module _ (lane : Lane) (limit left : ℕ) (closed : Bool) (given : List Item) (outs : List Out) (past : Past) (s : Relays lane limit left closed given outs past) where
  -- an item more was given on an output
  pub gives_at : (p : ℕ) (x : Item) → p < length outs → (out_of outs p).next < length (with_end given left) → slice_index_or (with_end given left) (out_of outs p).next x ≡ x
      → Relays lane limit left closed given (slice_set outs p (record (out_of outs p) { next = (out_of outs p).next + 1 })) (gave_item past p x) × ((stream_at past.gave p).mark ≡ still_open) × LiesBelow (with_item (stream_at past.gave p) x) (stream_at (due past) p)
  gives_at p x lt less is =
      let old : Out = out_of outs p in
      let all : List Item = with_end given left in
      let out : Flow = stopped_at limit (stream_at past.got 0) in
      let split : drop old.next all ≡ x ∷ drop (old.next + 1) all = drop_at old.next all x less ∙ ap (λ (y : Item). y ∷ drop (old.next + 1) all) is in
      let leads : Leads (stream_at past.gave p) (x ∷ drop (old.next + 1) all) out = subst (λ (xs : List Item). Leads (stream_at past.gave p) xs out) split (s.gave p lt) in
      let port : Out = record old { next = old.next + 1 } in
      let len : length (slice_set outs p port) ≡ length outs = simp length-set in
      let at_p : out_of (slice_set outs p port) p ≡ port = get_or-set_same outs p port _ lt in
      let at_q : (q : ℕ) → q ≢ p → out_of (slice_set outs p port) q ≡ out_of outs q = λ q n. get_or-set_other outs p q port _ n in (
        record {
          means = s.means ∙ ap (λ (n : ℕ). relay limit n) (sym len);
          silent = s.silent;
          cause = s.cause;
          plain = s.plain;
          others = s.others;
          valid = s.valid;
          left_is = s.left_is;
          closed_is = s.closed_is;
          gave = λ q qlt. elim (same_or_not q p) [
            | inl e ↦ subst (λ (k : ℕ). Leads (stream_at (gave_item past p x).gave k) (drop (out_of (slice_set outs p port) k).next all) out) (sym e)
                (subst (λ (o : Out). Leads (stream_at (gave_item past p x).gave p) (drop o.next all) out) (sym at_p)
                (subst (λ (r : Flow). Leads r (drop (old.next + 1) all) out) (sym (stream_at-with_item_same past.gave p x)) leads.1))
            | inr n ↦ subst (λ (o : Out). Leads (stream_at (gave_item past p x).gave q) (drop o.next all) out) (sym (at_q q n))
                (subst (λ (r : Flow). Leads r (drop (out_of outs q).next all) out) (sym (stream_at-with_item_other past.gave p q x n)) (s.gave q (subst (λ (k : ℕ). q < k) len qlt)))
          ];
          in_range = λ q qlt. elim (same_or_not q p) [
            | inl e ↦ subst (λ (k : ℕ). (out_of (slice_set outs p port) k).next ≤ length all) (sym e) (subst (λ (o : Out). o.next ≤ length all) (sym at_p) (let l : old.next < length all = less in omega (arith, l)))
            | inr n ↦ subst (λ (o : Out). o.next ≤ length all) (sym (at_q q n)) (s.in_range q (subst (λ (k : ℕ). q < k) len qlt))
          ];
          beyond = λ q le. let le' : length outs ≤ q = subst (λ (k : ℕ). k ≤ q) len le in let other : q ≢ p = omega (arith, le', lt) in stream_at-with_item_other past.gave p q x other ∙ s.beyond q le';
          stops = λ q qlt. elim (same_or_not q p) [
            | inl e ↦ subst (λ (k : ℕ). (out_of (slice_set outs p port) k).stopped ≡ true ↔ IsIn k past.stopped) (sym e) (subst (λ (o : Out). o.stopped ≡ true ↔ IsIn p past.stopped) (sym at_p) (s.stops p lt))
            | inr n ↦ subst (λ (o : Out). o.stopped ≡ true ↔ IsIn q past.stopped) (sym (at_q q n)) (s.stops q (subst (λ (k : ℕ). q < k) len qlt))
          ];
        },
        leads.0,
        rw (due_is lane limit left closed given outs past s, at_replicate (length outs) p out lt) (leads_below (drop (old.next + 1) all) (with_item (stream_at past.gave p) x) out leads.1),
      )

  -- an output that has given all has all that is due
  pub none_at : (p : ℕ) → p < length outs → length (with_end given left) ≤ (out_of outs p).next → stream_at past.gave p ≡ stream_at (due past) p
  none_at p lt le =
      let out : Flow = stopped_at limit (stream_at past.got 0) in
      let leads : Leads (stream_at past.gave p) [] out = subst (λ (xs : List Item). Leads (stream_at past.gave p) xs out) (drop_past (out_of outs p).next (with_end given left) le) (s.gave p lt) in
      rw (due_is lane limit left closed given outs past s, at_replicate (length outs) p out lt) leads

  pub asked_at : (p : ℕ) → Relays lane limit left closed given outs (was_asked past p)
  asked_at p = record { means = s.means; silent = s.silent; cause = s.cause; plain = s.plain; others = s.others; valid = s.valid; left_is = s.left_is; closed_is = s.closed_is; gave = s.gave; in_range = s.in_range; beyond = s.beyond; stops = s.stops }

  got_of : (x : Item) → stream_at (fed past 0 x).got 0 ≡ with_item (stream_at past.got 0) x
  got_of x = stream_at-with_item_same past.got 0 x

  others_fed : (x : Item) (p : ℕ) → 1 ≤ p → stream_at (fed past 0 x).got p ≡ nothing
  others_fed x p le = let other : p ≢ 0 = omega (arith, le) in stream_at-with_item_other past.got 0 p x other ∙ s.others p le

  item_count : (t : Flow) (x : Item) → length t.items ≤ length (with_item t x).items
  item_count t (Audio f) = omega (arith, length-append t.items (Audio f ∷ []))
  item_count t (Video f) = omega (arith, length-append t.items (Video f ∷ []))
  item_count t (Packet f) = omega (arith, length-append t.items (Packet f ∷ []))
  item_count t (Trailer f) = omega (arith, length-append t.items (Trailer f ∷ []))
  item_count t End = omega arith
  item_count t Broken = omega arith

  more_items : (t : Flow) (x : Item) → (zs : List Item) × (t.items ++ zs ≡ (with_item t x).items)
  more_items t (Audio f) = (Audio f ∷ [], refl)
  more_items t (Video f) = (Video f ∷ [], refl)
  more_items t (Packet f) = (Packet f ∷ [], refl)
  more_items t (Trailer f) = (Trailer f ∷ [], refl)
  more_items t End = ([], append-nil t.items)
  more_items t Broken = ([], append-nil t.items)

  pub closed_with : (x : Item) (closes : Bool) → (closes ≡ true ↔ Closes x) → (stream_at past.got 0).mark ≡ still_open → (closed || closes) ≡ closed_mark (with_item (stream_at past.got 0) x).mark
  closed_with x closes c o = ap (λ (b : Bool). b || closes) (s.closed_is ∙ ap closed_mark o) ∙ pick x closes c
    where
      no : (b : Bool) → (b ≡ true → ⊥) → b ≡ false
      no true h = absurd (h refl)
      no false h = refl

      pick : (y : Item) (b : Bool) → (b ≡ true ↔ Closes y) → b ≡ closed_mark (with_item (stream_at past.got 0) y).mark
      pick (Audio f) b h = no b h.0 ∙ sym (ap closed_mark o)
      pick (Video f) b h = no b h.0 ∙ sym (ap closed_mark o)
      pick (Packet f) b h = no b h.0 ∙ sym (ap closed_mark o)
      pick (Trailer f) b h = no b h.0 ∙ sym (ap closed_mark o)
      pick End b h = h.1 tt
      pick Broken b h = h.1 tt

  -- nothing more is let through
  pub fed_over : (x : Item) (closes : Bool) → left ≡ 0 → (closes ≡ true ↔ Closes x) → (stream_at past.got 0).mark ≡ still_open → IsValid lane (stream_at (fed past 0 x).got 0) → Relays lane limit left (closed || closes) given outs (fed past 0 x)
  fed_over x closes z c o v =
      let got = stream_at past.got 0 in
      let le : limit ≤ length got.items = omega (arith, s.left_is, z) in
      let m = more_items got x in
      let same : stopped_at limit got ≡ stopped_at limit (stream_at (fed past 0 x).got 0) = stopped_same limit got (with_item got x) m.0 m.1 le ∙ ap (λ (t : Flow). stopped_at limit t) (sym (got_of x)) in record {
        means = s.means;
        silent = s.silent;
        cause = s.cause;
        plain = s.plain;
        others = others_fed x;
        valid = v;
        left_is = rw (got_of x) (let k = item_count got x in omega (arith, z, le, k));
        closed_is = rw (got_of x) (closed_with x closes c o);
        gave = λ q lt. subst (λ (t : Flow). Leads (stream_at past.gave q) (drop (out_of outs q).next (with_end given left)) t) same (s.gave q lt);
        in_range = s.in_range;
        beyond = s.beyond;
        stops = s.stops;
      }

  leads_to : (q : ℕ) (x : Item) → q < length outs → 0 < left → (stream_at past.got 0).mark ≡ still_open → Leads (stream_at past.gave q) (drop (out_of outs q).next (given ++ x ∷ [])) (with_item (stream_at past.got 0) x)
  leads_to q x lt more o =
      let got = stream_at past.got 0 in
      let less : length got.items < limit = omega (arith, s.left_is, more) in
      let was : Leads (stream_at past.gave q) (drop (out_of outs q).next given) got = subst (λ (t : Flow). Leads (stream_at past.gave q) (drop (out_of outs q).next given) t) (stopped_before limit got less) (subst (λ (xs : List Item). Leads (stream_at past.gave q) (drop (out_of outs q).next xs) (stopped_at limit got)) (no_end given left more) (s.gave q lt)) in
      let le : (out_of outs q).next ≤ length given = subst (λ (xs : List Item). (out_of outs q).next ≤ length xs) (no_end given left more) (s.in_range q lt) in
      subst (λ (xs : List Item). Leads (stream_at past.gave q) xs (with_item got x)) (sym (drop_append (out_of outs q).next given (x ∷ []) le)) (leads_push (drop (out_of outs q).next given) (stream_at past.gave q) got x was o)

  range_to : (q : ℕ) (x : Item) (n : ℕ) → q < length outs → 0 < left → (out_of outs q).next ≤ length (with_end (given ++ x ∷ []) n)
  range_to q x n lt more =
      let le : (out_of outs q).next ≤ length given = subst (λ (xs : List Item). (out_of outs q).next ≤ length xs) (no_end given left more) (s.in_range q lt) in
      omega (arith, le, length-append given (x ∷ []), with_end_length (given ++ x ∷ []) n)

  closing_same : (t : Flow) (x : Item) → Closes x → (with_item t x).items ≡ t.items
  closing_same t (Audio f) c = absurd c
  closing_same t (Video f) c = absurd c
  closing_same t (Packet f) c = absurd c
  closing_same t (Trailer f) c = absurd c
  closing_same t End c = refl
  closing_same t Broken c = refl

  -- a closing item goes through
  pub fed_closing : (x : Item) → 0 < left → Closes x → (stream_at past.got 0).mark ≡ still_open → (closed || true) ≡ closed_mark (with_item (stream_at past.got 0) x).mark → IsValid lane (stream_at (fed past 0 x).got 0) → Relays lane limit left (closed || true) (given ++ x ∷ []) outs (fed past 0 x)
  fed_closing x more c o flag v =
      let got = stream_at past.got 0 in
      let same : (with_item got x).items ≡ got.items = closing_same got x c in
      let less : length (with_item got x).items < limit = omega (arith, s.left_is, more, ap length same) in record {
        means = s.means;
        silent = s.silent;
        cause = s.cause;
        plain = s.plain;
        others = others_fed x;
        valid = v;
        left_is = rw (got_of x) (s.left_is ∙ ap (λ (xs : List Item). limit - length xs) (sym same));
        closed_is = rw (got_of x) flag;
        gave = λ q lt. rw (got_of x, no_end (given ++ x ∷ []) left more, stopped_before limit (with_item got x) less) (leads_to q x lt more o);
        in_range = λ q lt. range_to q x left lt more;
        beyond = s.beyond;
        stops = s.stops;
      }

  data_items : (t : Flow) (x : Item) → (Closes x → ⊥) → ((with_item t x).items ≡ t.items ++ x ∷ []) × ((with_item t x).mark ≡ t.mark)
  data_items t (Audio f) c = (refl, refl)
  data_items t (Video f) c = (refl, refl)
  data_items t (Packet f) c = (refl, refl)
  data_items t (Trailer f) c = (refl, refl)
  data_items t End c = absurd (c tt)
  data_items t Broken c = absurd (c tt)

  -- another item goes through, and may be the last one
  pub fed_data : (x : Item) → 0 < left → (Closes x → ⊥) → (stream_at past.got 0).mark ≡ still_open → (closed || false) ≡ closed_mark (with_item (stream_at past.got 0) x).mark → IsValid lane (stream_at (fed past 0 x).got 0) → Relays lane limit (left - 1) (closed || false) (given ++ x ∷ []) outs (fed past 0 x)
  fed_data x more c o flag v =
      let got = stream_at past.got 0 in
      let kept = data_items got x c in
      let count : length (with_item got x).items ≡ length got.items + 1 = ap length kept.0 ∙ length-append got.items (x ∷ []) in record {
        means = s.means;
        silent = s.silent;
        cause = s.cause;
        plain = s.plain;
        others = others_fed x;
        valid = v;
        left_is = rw (got_of x) (omega (arith, s.left_is, more, count));
        closed_is = rw (got_of x) flag;
        gave = λ q lt. rw (got_of x) (gave_now got kept.1 count q lt (last_or (left - 1)));
        in_range = λ q lt. range_to q x (left - 1) lt more;
        beyond = s.beyond;
        stops = s.stops;
      }
    where
      last_or : (n : ℕ) → (0 < n) ⊎ (n ≡ 0)
      last_or zero = inr refl
      last_or (suc n) = inl (omega arith)

      gave_now : (got : Flow) → (with_item (stream_at past.got 0) x).mark ≡ (stream_at past.got 0).mark → length (with_item (stream_at past.got 0) x).items ≡ length (stream_at past.got 0).items + 1 → (q : ℕ) → q < length outs → (0 < left - 1) ⊎ (left - 1 ≡ 0)
          → Leads (stream_at past.gave q) (drop (out_of outs q).next (with_end (given ++ x ∷ []) (left - 1))) (stopped_at limit (with_item (stream_at past.got 0) x))
      gave_now got mark count q lt (inl on) =
          let less : length (with_item (stream_at past.got 0) x).items < limit = omega (arith, s.left_is, more, count, on) in
          rw (no_end (given ++ x ∷ []) (left - 1) on, stopped_before limit (with_item (stream_at past.got 0) x) less) (leads_to q x lt more o)
      gave_now got mark count q lt (inr last) =
          let t : Flow = with_item (stream_at past.got 0) x in
          let full : length t.items ≡ limit = omega (arith, s.left_is, more, count, last) in
          let whole_now : stopped_at limit t ≡ with_item t End = same_stream (stopped_at limit t) (with_item t End) (take_whole limit t.items (omega (arith, full))) (stopped_mark limit t (omega (arith, full))) in
          let le : (out_of outs q).next ≤ length (given ++ x ∷ []) = let r = range_to q x 1 lt more in subst (λ (xs : List Item). (out_of outs q).next ≤ length xs) (no_end (given ++ x ∷ []) 1 (omega arith)) r in
          let pushed : Leads (stream_at past.gave q) (drop (out_of outs q).next (given ++ x ∷ []) ++ End ∷ []) (with_item t End) = leads_push (drop (out_of outs q).next (given ++ x ∷ [])) (stream_at past.gave q) t End (leads_to q x lt more o) (mark ∙ o) in
          rw (its_end (given ++ x ∷ []) (left - 1) last, whole_now, drop_append (out_of outs q).next (given ++ x ∷ []) (End ∷ []) le) pushed
