-- The token at a place of the words.
use Rattle.std.proofs.Common.{zero, suc, ◌≡◌, ℕ, ◌+◌, ◌<◌, ◌≤◌, inl, inr, Bool, true, false, Option, Some, None, Result, Ok, Err, List, [], ◌∷◌, ◌++◌, length, refl, sym, ap, subst, ◌∙◌, append_assoc, arith}
use Rattle.std.specs.Prelude.{if◌then◌else◌, drop, slice_get, not, is_some}
use Rattle.std.proofs.lemmas.List.{drop-drop}
use Rattle.ff_words.specs.declared.error.WordError.{WordError}
use Rattle.ff_words.specs.declared.error.WordError.TheVariants.{At, NoMemory}
use Rattle.ff_words.specs.declared.error.WordKind.TheVariants.{UnknownOption, MissingValue}
use Rattle.ff_words.specs.declared.table.Concern.TheVariants.{Itself}
use Rattle.ff_words.specs.declared.table.Rule.{Rule}
use Rattle.ff_words.specs.declared.value.Value.{Value}
use Rattle.ff_words.specs.declared.value.Value.TheVariants as value
use Rattle.ff_words.specs.declared.reader.Reader.{Reader}
use Rattle.ff_words.specs.Table.{option_named, format_ending}
use Rattle.ff_words.specs.Values.{switched}
use Rattle.ff_words.specs.declared.job.Command.{Command}
use Rattle.ff_words.specs.declared.job.Solo.{Solo}
use Rattle.std.proofs.lemmas.List.{append-nil}
use Rattle.ff_words.specs.Words.{AreRead, IsEntry, command_by, end_fault, end_by, stands_alone, misplaced, first_place, not_at_end, groups, last, as_solo, Entry, Token, tokens, takes, takes_value, fault, is_too_much, is_dashed, IsFaultAt}
use Rattle.ff_words.specs.laws.Reading.{reader, Stands, Answers, Ended, end_wrong, command_of, word_at, token_at, width, Taken, Steps, Given}
use Rattle.ff_words.proofs.Steps.{early-output, early-unknown, early-switch, early-missing, reads-output, reads-switch, taken-steps}

pub token-output : (es : List Entry) (ws : List (List ℕ)) (at : ℕ) (result : Result (Unit {0}) WordError) (new : Reader) → is_too_much at (word_at ws at) ≡ false → is_dashed (word_at ws at) ≡ false
    → Taken es at Itself (value.Output (word_at ws at) (format_ending (word_at ws at))) result new → Steps es (token_at ws at) result new
token-output es ws at result new short dashed taken =
    taken-steps es (token_at ws at) Itself (value.Output (word_at ws at) (format_ending (word_at ws at))) result new (early-output es (token_at ws at) short dashed) (reads-output (token_at ws at) dashed) taken

pub token-unknown : (es : List Entry) (ws : List (List ℕ)) (at : ℕ) → is_too_much at (word_at ws at) ≡ false → is_dashed (word_at ws at) ≡ true → option_named (word_at ws at) ≡ None
    → IsFaultAt es (token_at ws at) (fault at UnknownOption)
token-unknown es ws at short dashed named = inl (early-unknown es (token_at ws at) short dashed named)

pub token-switch : (es : List Entry) (ws : List (List ℕ)) (at : ℕ) (rule : Rule) (v : Value) (result : Result (Unit {0}) WordError) (new : Reader) → is_too_much at (word_at ws at) ≡ false
    → is_dashed (word_at ws at) ≡ true → option_named (word_at ws at) ≡ Some rule → switched rule.kind ≡ Some v → Taken es at rule.concern v result new → Steps es (token_at ws at) result new
token-switch es ws at rule v result new short dashed named s taken =
    taken-steps es (token_at ws at) rule.concern v result new (early-switch es (token_at ws at) rule v short dashed named s) (reads-switch (token_at ws at) rule v dashed named s) taken

takes-it : (ws : List (List ℕ)) (at : ℕ) (rule : Rule) → option_named (word_at ws at) ≡ Some rule → switched rule.kind ≡ None → takes_value (word_at ws at) ≡ true
takes-it ws at rule named s = ap takes named ∙ ap (λ o. not (is_some o)) s

pub value-is : (ws : List (List ℕ)) (at : ℕ) (rule : Rule) → option_named (word_at ws at) ≡ Some rule → switched rule.kind ≡ None → (token_at ws at).value ≡ slice_get ws (at + 1)
value-is ws at rule named s = ap (λ b. if b then slice_get ws (at + 1) else None) (takes-it ws at rule named s)

pub token-missing : (es : List Entry) (ws : List (List ℕ)) (at : ℕ) (rule : Rule) → is_too_much at (word_at ws at) ≡ false → is_dashed (word_at ws at) ≡ true
    → option_named (word_at ws at) ≡ Some rule → switched rule.kind ≡ None → slice_get ws (at + 1) ≡ None → IsFaultAt es (token_at ws at) (fault at MissingValue)
token-missing es ws at rule short dashed named s missing =
    inl (early-missing es (token_at ws at) rule short dashed named s (value-is ws at rule named s ∙ missing))

pub token-given : (es : List Entry) (ws : List (List ℕ)) (at : ℕ) (rule : Rule) (result : Result (Unit {0}) WordError) (new : Reader) → is_too_much at (word_at ws at) ≡ false
    → is_dashed (word_at ws at) ≡ true → option_named (word_at ws at) ≡ Some rule → switched rule.kind ≡ None → slice_get ws (at + 1) ≡ Some (word_at ws (at + 1))
    → Given es at rule (word_at ws (at + 1)) result new → Steps es (token_at ws at) result new
token-given es ws at rule result new short dashed named s there given =
    given (token_at ws at) refl (value-is ws at rule named s ∙ there) short dashed named s

-- ---- the tokens from a place on

abbrev no_text : Option (List ℕ)
no_text = None

none_if : (b : Bool) → (if b then no_text else no_text) ≡ no_text
none_if true = refl
none_if false = refl

abbrev made_at : ℕ → List ℕ → Option (List ℕ) → Token
made_at n w v = record { at = n; word = w; value = v }

abbrev onward : ℕ → List ℕ → List (List ℕ) → Option (List ℕ) → List Token
onward n w rest v = made_at n w v ∷ tokens (n + width v) (drop (width v) (w ∷ rest))

two : (b : Bool) (n : ℕ) (w y : List ℕ) (ys : List (List ℕ))
    → (if b then made_at n w (Some y) ∷ tokens (n + 2) ys else made_at n w None ∷ tokens (n + 1) (y ∷ ys)) ≡ onward n w (y ∷ ys) (if b then Some y else None)
two true n w y ys = refl
two false n w y ys = refl

cut : (n : ℕ) (w : List ℕ) (rest : List (List ℕ)) → tokens n (w ∷ rest) ≡ onward n w rest (if takes_value w then slice_get rest 0 else None)
cut n w [] = ap (onward n w []) (sym (none_if (takes_value w)))
cut n w (y ∷ ys) = two (takes_value w) n w y ys

pub drop_at : (ws : List (List ℕ)) (at : ℕ) → at < length ws → drop at ws ≡ word_at ws at ∷ drop (suc at) ws
drop_at [] at h = absurd (omega (arith, h))
drop_at (w ∷ ws) zero h = refl
drop_at (w ∷ ws) (suc i) h = drop_at ws i (omega (arith, h))

get_drop : (ws : List (List ℕ)) (at : ℕ) → slice_get (drop at ws) 0 ≡ slice_get ws at
get_drop [] zero = refl
get_drop [] (suc i) = refl
get_drop (w ∷ ws) zero = refl
get_drop (w ∷ ws) (suc i) = get_drop ws i

drop_more : (ws : List (List ℕ)) (at k : ℕ) → drop k (drop at ws) ≡ drop (at + k) ws
drop_more ws at k = drop-drop k at ws

pub split-at : (ws : List (List ℕ)) (at : ℕ) → at < length ws → tokens at (drop at ws) ≡ token_at ws at ∷ tokens (at + width (token_at ws at).value) (drop (at + width (token_at ws at).value) ws)
split-at ws at h =
    let here : drop at ws ≡ word_at ws at ∷ drop (suc at) ws = drop_at ws at h in
    let next : slice_get (drop (suc at) ws) 0 ≡ slice_get ws (at + 1) = get_drop ws (suc at) ∙ ap (slice_get ws) (omega arith) in
    ap (tokens at) here ∙ (cut at (word_at ws at) (drop (suc at) ws)
    ∙ (ap (λ o. onward at (word_at ws at) (drop (suc at) ws) (if takes_value (word_at ws at) then o else None)) next
    ∙ (ap (λ t. token_at ws at ∷ tokens (at + width (token_at ws at).value) (drop (width (token_at ws at).value) t)) (sym here)
    ∙ ap (λ t. token_at ws at ∷ tokens (at + width (token_at ws at).value) t) (drop_more ws at (width (token_at ws at).value)))))

pub get_there : (ws : List (List ℕ)) (at : ℕ) → at < length ws → slice_get ws at ≡ Some (word_at ws at)
get_there [] at h = absurd (omega (arith, h))
get_there (w ∷ ws) zero h = refl
get_there (w ∷ ws) (suc i) h = get_there ws i (omega (arith, h))

pub get_past : (ws : List (List ℕ)) (at : ℕ) → length ws ≤ at → slice_get ws at ≡ None
get_past [] at h = refl
get_past (w ∷ ws) zero h = absurd (omega (arith, h))
get_past (w ∷ ws) (suc i) h = get_past ws i (omega (arith, h))

-- ---- the invariant

width_small : (v : Option (List ℕ)) → width v ≤ 2
width_small None = omega arith
width_small (Some v) = omega arith

command-is : (o : Option Solo) (es : List Entry) → command_of o (reader es) ≡ command_by o es
command-is (Some s) es = refl
command-is None es = refl

end-is : (ws : List (List ℕ)) (es : List Entry) → end_fault (length ws) es ≡ end_wrong (length ws) (reader es)
end-is ws es =
    ap (λ c. if stands_alone (length ws) (last as_solo es) then None else misplaced (first_place not_at_end (groups es).behind) (end_by (length ws) c)) (sym (command-is (last as_solo es) es))

are-read-snoc : (es all : List Entry) (ts : List Token) (t : Token) (e : Entry) → AreRead es ts all → IsEntry all t e → AreRead es (ts ++ t ∷ []) (all ++ e ∷ [])
are-read-snoc es all [] t e h one = (e, subst (λ x. IsEntry x t e) (sym h) one, ap (λ x. x ++ e ∷ []) h)
are-read-snoc es all (x ∷ ts) t e h one = (h.0, h.1, are-read-snoc (es ++ h.0 ∷ []) all ts t e h.2 one)

pub stands-on : (ws : List (List ℕ)) (at next : ℕ) (old new : Reader) (s : Stands ws at old) → at < length ws → at < 1024 → next ≡ at + width (token_at ws at).value
    → Steps s.es (token_at ws at) (Ok tt) new → Stands ws next new
stands-on ws at next old new s there bound is step =
    record {
      es = s.es ++ step.0 ∷ [];
      front = s.front ++ token_at ws at ∷ [];
      split = s.split ∙ (ap (λ t. s.front ++ t) (split-at ws at there) ∙ (sym (append_assoc s.front (token_at ws at ∷ []) (tokens (at + width (token_at ws at).value) (drop (at + width (token_at ws at).value) ws)))
          ∙ ap (λ n. (s.front ++ token_at ws at ∷ []) ++ tokens n (drop n ws)) (sym is)));
      are_read = are-read-snoc [] s.es s.front (token_at ws at) step.0 s.are_read step.1;
      kept = step.2;
      bound = omega (arith, bound, is, width_small (token_at ws at).value);
    }

pub stands-start : (ws : List (List ℕ)) (r : Reader) → r ≡ reader [] → Stands ws 0 r
stands-start ws r h = record { es = []; front = []; split = refl; are_read = refl; kept = h; bound = omega arith }

pub step-fault : (ws : List (List ℕ)) (at : ℕ) (old new : Reader) (s : Stands ws at old) (e : WordError) → at < length ws → Steps s.es (token_at ws at) (Err e) new → Answers ws (Err e)
step-fault ws at old new s (At w k) there h =
    inl (
      s.front,
      token_at ws at,
      tokens (at + width (token_at ws at).value) (drop (at + width (token_at ws at).value) ws),
      s.es,
      s.split ∙ ap (λ t. s.front ++ t) (split-at ws at there),
      s.are_read,
      h,
    )
step-fault ws at old new s NoMemory there h = tt

drop_all : (at : ℕ) (ws : List (List ℕ)) → length ws ≤ at → drop at ws ≡ []
drop_all zero [] h = refl
drop_all (suc i) [] h = refl
drop_all zero (w ∷ ws) h = absurd (omega (arith, h))
drop_all (suc i) (w ∷ ws) h = drop_all i ws (omega (arith, h))

all-read : (ws : List (List ℕ)) (at : ℕ) (r : Reader) (s : Stands ws at r) → length ws ≤ at → tokens 0 ws ≡ s.front
all-read ws at r s past = s.split ∙ (ap (λ t. s.front ++ tokens at t) (drop_all at ws past) ∙ append-nil s.front)

pub ended : (ws : List (List ℕ)) (at : ℕ) (r : Reader) (s : Stands ws at r) (result : Result Command WordError) → length ws ≤ at → Ended (length ws) r result → Answers ws result
ended ws at r s (Ok c) past h =
    let e : Ended (length ws) (reader s.es) (Ok c) = subst (λ x. Ended (length ws) x (Ok c)) s.kept h in
    (s.es, subst (λ ts. AreRead [] ts s.es) (sym (all-read ws at r s past)) s.are_read, end-is ws s.es ∙ e.0, e.1 ∙ command-is (last as_solo s.es) s.es)
ended ws at r s (Err (At w k)) past h =
    let e : Ended (length ws) (reader s.es) (Err (At w k)) = subst (λ x. Ended (length ws) x (Err (At w k))) s.kept h in
    inr (s.es, subst (λ ts. AreRead [] ts s.es) (sym (all-read ws at r s past)) s.are_read, end-is ws s.es ∙ e)
ended ws at r s (Err NoMemory) past h = tt

pub width_some : (v : Option (List ℕ)) → 1 ≤ width v
width_some None = omega arith
width_some (Some v) = omega arith
