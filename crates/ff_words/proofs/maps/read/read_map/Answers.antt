use Rattle.std.proofs.Common.{◌≡◌, ◌<◌, ◌≤◌, length, get_or, Some, None, refl, sym, ap, ◌∙◌, arith}
use Rattle.ff_words.specs.maps.Reading.{byte_next}
use Rattle.ff_words.proofs.MapsLemmas.Places.{next_run, bad_inside, bad_end, Read-bad, Read-ok, whole_run}
use Rattle.ff_words.proofs.maps.read.read_map.Goals as goal

pub loop-at-preserved : goal.loop-at-preserved
loop-at-preserved c =
    let lt : c.loop-at.at < length c.args.text.now = omega arith in
    let on : byte_next c.loop-at.reading (get_or c.args.text.now c.loop-at.at 0) ≡ Some c.in-Some.next =
    ap (λ t. byte_next c.loop-at.reading (get_or t c.loop-at.at 0)) (sym c.as_bytes-byte-items.ensures.value) ∙ (sym c.in_ok-next.ensures.next ∙ c.in-Some.is) in
    record {
      so_far = next_run c.args.text.now c.loop-at.at (get_or c.args.text.now c.loop-at.at 0) c.loop-at.reading (Some c.in-Some.next) lt refl c.loop-at.invariant.so_far on;
      sound = c.in_ok-next.ensures.sound c.in-Some.next c.in-Some.is;
    }

pub returns-in-None-clause-read : goal.returns-in-None-clause-read
returns-in-None-clause-read c =
    let lt : c.loop-at.at < length c.args.text.now = omega arith in
    let off : byte_next c.loop-at.reading (get_or c.args.text.now c.loop-at.at 0) ≡ None =
    ap (λ t. byte_next c.loop-at.reading (get_or t c.loop-at.at 0)) (sym c.as_bytes-byte-items.ensures.value) ∙ (sym c.in_ok-next.ensures.next ∙ c.in-None.is) in
    (Read-bad c.args.text.now c.loop-at.at
    (bad_inside c.args.text.now c.loop-at.at (get_or c.args.text.now c.loop-at.at 0) c.loop-at.reading lt refl c.loop-at.invariant.so_far off)).read

pub returns-in-None-clause-bad : goal.returns-in-None-clause-bad
returns-in-None-clause-bad c =
    let lt : c.loop-at.at < length c.args.text.now = omega arith in
    let off : byte_next c.loop-at.reading (get_or c.args.text.now c.loop-at.at 0) ≡ None =
    ap (λ t. byte_next c.loop-at.reading (get_or t c.loop-at.at 0)) (sym c.as_bytes-byte-items.ensures.value) ∙ (sym c.in_ok-next.ensures.next ∙ c.in-None.is) in
    (Read-bad c.args.text.now c.loop-at.at
    (bad_inside c.args.text.now c.loop-at.at (get_or c.args.text.now c.loop-at.at 0) c.loop-at.reading lt refl c.loop-at.invariant.so_far off)).bad

pub returns-in-None-clause-refused : goal.returns-in-None-clause-refused
returns-in-None-clause-refused c =
    let lt : c.loop-at.at < length c.args.text.now = omega arith in
    let off : byte_next c.loop-at.reading (get_or c.args.text.now c.loop-at.at 0) ≡ None =
    ap (λ t. byte_next c.loop-at.reading (get_or t c.loop-at.at 0)) (sym c.as_bytes-byte-items.ensures.value) ∙ (sym c.in_ok-next.ensures.next ∙ c.in-None.is) in
    (Read-bad c.args.text.now c.loop-at.at
    (bad_inside c.args.text.now c.loop-at.at (get_or c.args.text.now c.loop-at.at 0) c.loop-at.reading lt refl c.loop-at.invariant.so_far off)).refused

pub returns-in-Some-end-clause-ok : goal.returns-in-Some-end-clause-ok
returns-in-Some-end-clause-ok c =
    let past : length c.args.text.now ≤ c.loop-at.at = omega arith in
    (Read-ok c.args.text.now c.loop-at.reading c.in-Some-end.map (whole_run c.args.text.now c.loop-at.at c.loop-at.reading past c.loop-at.invariant.so_far) (sym c.end.ensures ∙ c.in-Some-end.is)).ok

pub returns-in-Some-end-clause-read : goal.returns-in-Some-end-clause-read
returns-in-Some-end-clause-read c =
    let past : length c.args.text.now ≤ c.loop-at.at = omega arith in
    (Read-ok c.args.text.now c.loop-at.reading c.in-Some-end.map (whole_run c.args.text.now c.loop-at.at c.loop-at.reading past c.loop-at.invariant.so_far) (sym c.end.ensures ∙ c.in-Some-end.is)).read

pub returns-in-Some-end-clause-refused : goal.returns-in-Some-end-clause-refused
returns-in-Some-end-clause-refused c =
    let past : length c.args.text.now ≤ c.loop-at.at = omega arith in
    (Read-ok c.args.text.now c.loop-at.reading c.in-Some-end.map (whole_run c.args.text.now c.loop-at.at c.loop-at.reading past c.loop-at.invariant.so_far) (sym c.end.ensures ∙ c.in-Some-end.is)).refused

pub returns-in-None-end-clause-read : goal.returns-in-None-end-clause-read
returns-in-None-end-clause-read c =
    let past : length c.args.text.now ≤ c.loop-at.at = omega arith in
    (Read-bad c.args.text.now (length c.args.text.now)
    (bad_end c.args.text.now c.loop-at.reading (whole_run c.args.text.now c.loop-at.at c.loop-at.reading past c.loop-at.invariant.so_far) (sym c.end.ensures ∙ c.in-None-end.is))).read

pub returns-in-None-end-clause-bad : goal.returns-in-None-end-clause-bad
returns-in-None-end-clause-bad c =
    let past : length c.args.text.now ≤ c.loop-at.at = omega arith in
    (Read-bad c.args.text.now (length c.args.text.now)
    (bad_end c.args.text.now c.loop-at.reading (whole_run c.args.text.now c.loop-at.at c.loop-at.reading past c.loop-at.invariant.so_far) (sym c.end.ensures ∙ c.in-None-end.is))).bad

pub returns-in-None-end-clause-refused : goal.returns-in-None-end-clause-refused
returns-in-None-end-clause-refused c =
    let past : length c.args.text.now ≤ c.loop-at.at = omega arith in
    (Read-bad c.args.text.now (length c.args.text.now)
    (bad_end c.args.text.now c.loop-at.reading (whole_run c.args.text.now c.loop-at.at c.loop-at.reading past c.loop-at.invariant.so_far) (sym c.end.ensures ∙ c.in-None-end.is))).refused
