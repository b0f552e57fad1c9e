-- The laws of readers of a value with its text, and of several values.
use Rattle.std.proofs.Common.{◌≡◌, ℕ, zero, suc, ◌-◌, Bool, List, [], ◌∷◌, ◌++◌, length, take, refl, sym, ap, ◌∙◌, append_assoc}
use Rattle.std.proofs.lemmas.List.{append-nil}
use Rattle.std.specs.List.{AllByRecursion}
use Rattle.ff_bits.specs.Reading.{Answer, Done, More, Bad, Reader, ◌>>=◌, give, and_text, with_text, times}
use Rattle.ff_bits.proofs.Sound.{IsSound, IsSound-give, IsSound-chain, done_same, take_text, same_text as same_texts}

-- ---- a value and its text

module _ {A : Type 0} (P : A → Type 0) (r : Reader A) (h : IsSound P r) where
  text_of : (bits : List Bool) (v : Answer A) → r bits ≡ v → (x : A × List Bool) (rest : List Bool) → and_text bits v ≡ Done x rest → (r bits ≡ Done x.0 rest) × (bits ≡ x.1 ++ rest)
  text_of bits (Done a mid) k x rest e =
      let t = h.takes bits a mid k in
      let c = done_same (a, take (length bits - length mid) bits) x mid rest e in
      let same_text : take (length bits - length mid) bits ≡ t.0 = take_text bits t.0 mid t.1 in
      let text-is : x.1 ≡ t.0 = sym (ap (λ (y : A × List Bool). y.1) c.0) ∙ same_text in
      (k ∙ ap (λ (y : A × List Bool). Done y.0 mid) c.0 ∙ ap (λ (m : List Bool). Done x.0 m) c.1, t.1 ∙ ap (λ (m : List Bool). m ++ mid) (sym text-is) ∙ ap (λ (m : List Bool). x.1 ++ m) c.1)
  text_of bits More k x rest e = absurd cc
  text_of bits Bad k x rest e = absurd cc

  pub with_text_takes : (bits : List Bool) (x : A × List Bool) (rest : List Bool) → with_text r bits ≡ Done x rest → (r bits ≡ Done x.0 rest) × (bits ≡ x.1 ++ rest)
  with_text_takes bits x rest e = text_of bits (r bits) refl x rest e

  -- a reader that is done with this text
  pub with_text_done : (bits : List Bool) (a : A) (text rest : List Bool) → r bits ≡ Done a rest → bits ≡ text ++ rest → with_text r bits ≡ Done (a, text) rest
  with_text_done bits a text rest e k = rw (e, take_text bits text rest k) refl

  text_stays : (bits more : List Bool) (x : A × List Bool) (rest : List Bool) → with_text r bits ≡ Done x rest → with_text r (bits ++ more) ≡ Done x (rest ++ more)
  text_stays bits more x rest e =
      let t = with_text_takes bits x rest e in
      with_text_done (bits ++ more) x.0 x.1 (rest ++ more) (h.stays bits more x.0 rest t.0) (ap (λ (m : List Bool). m ++ more) t.1 ∙ append_assoc x.1 rest more)

  text_bad : (bits : List Bool) (v : Answer A) → and_text bits v ≡ Bad → v ≡ Bad
  text_bad bits (Done a mid) e = absurd cc
  text_bad bits More e = absurd cc
  text_bad bits Bad e = refl

  text_more : (bits : List Bool) (v : Answer A) → and_text bits v ≡ More → v ≡ More
  text_more bits (Done a mid) e = absurd cc
  text_more bits More e = refl
  text_more bits Bad e = absurd cc

  pub IsSound-with_text : IsSound (λ x. P x.0) (with_text r)
  IsSound-with_text = record {
    gives = λ bits x rest e. h.gives bits x.0 rest (with_text_takes bits x rest e).0;
    takes = λ bits x rest e. (x.1, (with_text_takes bits x rest e).1);
    stays = text_stays;
    stays_bad = λ bits more e. rw (h.stays_bad bits more (text_bad bits (r bits) e)) refl;
    enough = λ text rest x e.
        let t = with_text_takes (text ++ rest) x rest e in
        with_text_done text x.0 x.1 [] (h.enough text rest x.0 t.0) (same_texts text x.1 rest t.1 ∙ sym (append-nil x.1));
    completes = λ bits e.
        let t = h.completes bits (text_more bits (r bits) e) in
        (t.0, (t.1, bits ++ t.0), with_text_done (bits ++ t.0) t.1 (bits ++ t.0) [] t.2 (sym (append-nil (bits ++ t.0))));
    opens = λ e. h.opens (text_bad [] (r []) e);
  }

-- ---- one after the other

pub IsSound-times : {A : Type 0} (P : A → Type 0) (n : ℕ) (r : Reader A) → IsSound P r → IsSound (λ xs. (length xs ≡ n) × AllByRecursion P xs) (times n r)
IsSound-times {A} P zero r h = IsSound-give (λ (xs : List A). (length xs ≡ 0) × AllByRecursion P xs) [] (refl, tt)
IsSound-times {A} P (suc n) r h =
    let Q : List A → Type 0 = λ xs. (length xs ≡ suc n) × AllByRecursion P xs in
    IsSound-chain P Q r (λ a. times n r >>= λ others. give (a ∷ others)) h
    (λ a p. IsSound-chain (λ (xs : List A). (length xs ≡ n) × AllByRecursion P xs) Q (times n r) (λ others. give (a ∷ others)) (IsSound-times P n r h)
    (λ others q. IsSound-give Q (a ∷ others) (ap suc q.0, (p, q.1))))
