use Rattle.std.proofs.Common.{◌≡◌, refl, ◌++◌, ◌∷◌, [], length, sym, ap, ◌∙◌, append_assoc, length-append, arith, Some}
use Rattle.std.proofs.Math.Utf8.{encode, encodes}
use Rattle.std.specs.Str.Iter.{chars_rest}
use Rattle.ff_lang.specs.laws.Reading.{start, char_next}
use Rattle.ff_lang.proofs.Runs.{run}
use Rattle.ff_lang.proofs.Places.{Read-bad, Read-ok, bad_char, bad_end, char_on, encodes_push, whole, goes_true, goes_false}
use Rattle.ff_lang.proofs.SoundGraphs.{graph_sound}
use Rattle.ff_lang.proofs.read.parsed.Goals as goal

pub loop-c-init : goal.loop-c-init
loop-c-init c = record { split = cc; place = refl; so_far = cc }

pub loop-c-preserved : goal.loop-c-preserved
loop-c-preserved c =
    let on : char_next c.loop-c.parser c.in-Some.c (encode c.in-Some.c) ≡ Some c.next-in-loop-c.new.self = goes_true _ _ _ c.in_ok-next.ensures c.if-not-branch.false in
    let more : encodes (c.loop-c.yielded ++ c.in-Some.c ∷ []) ≡ encodes c.loop-c.yielded ++ encode c.in-Some.c = encodes_push c.loop-c.yielded c.in-Some.c in
    record {
      split = c.loop-c.invariant.split ∙ (ap (λ t. encodes c.loop-c.yielded ++ t) c.in-Some.ensures.steps.0 ∙ (sym (append_assoc (encodes c.loop-c.yielded) (encode c.in-Some.c) (chars_rest c.next.new.self)) ∙ ap (λ t. t ++ chars_rest c.next.new.self) (sym more)));
      place = omega (arith, c.loop-c.invariant.place, c.len_utf8.ensures.len, ap (λ t. length t) more, length-append (encodes c.loop-c.yielded) (encode c.in-Some.c));
      so_far = ap (λ t. run t start) more ∙ char_on (encodes c.loop-c.yielded) c.in-Some.c c.loop-c.parser c.next-in-loop-c.new.self c.loop-c.invariant.so_far on;
    }

pub returns-then-not-branch-clause-read : goal.returns-then-not-branch-clause-read
returns-then-not-branch-clause-read c =
    (Read-bad c.args.text.now c.loop-c.at (bad_char c.args.text.now (encodes c.loop-c.yielded) (chars_rest c.next.new.self) c.in-Some.c c.loop-c.at c.loop-c.parser
    (c.loop-c.invariant.split ∙ ap (λ t. encodes c.loop-c.yielded ++ t) c.in-Some.ensures.steps.0) c.loop-c.invariant.place c.loop-c.invariant.so_far (goes_false _ _ _ c.in_ok-next.ensures c.if-not-branch.true))).read

pub returns-then-not-branch-clause-bad : goal.returns-then-not-branch-clause-bad
returns-then-not-branch-clause-bad c =
    (Read-bad c.args.text.now c.loop-c.at (bad_char c.args.text.now (encodes c.loop-c.yielded) (chars_rest c.next.new.self) c.in-Some.c c.loop-c.at c.loop-c.parser
    (c.loop-c.invariant.split ∙ ap (λ t. encodes c.loop-c.yielded ++ t) c.in-Some.ensures.steps.0) c.loop-c.invariant.place c.loop-c.invariant.so_far (goes_false _ _ _ c.in_ok-next.ensures c.if-not-branch.true))).bad

pub returns-then-not-branch-clause-refused : goal.returns-then-not-branch-clause-refused
returns-then-not-branch-clause-refused c =
    (Read-bad c.args.text.now c.loop-c.at (bad_char c.args.text.now (encodes c.loop-c.yielded) (chars_rest c.next.new.self) c.in-Some.c c.loop-c.at c.loop-c.parser
    (c.loop-c.invariant.split ∙ ap (λ t. encodes c.loop-c.yielded ++ t) c.in-Some.ensures.steps.0) c.loop-c.invariant.place c.loop-c.invariant.so_far (goes_false _ _ _ c.in_ok-next.ensures c.if-not-branch.true))).refused

pub returns-in-Some-2-clause-ok : goal.returns-in-Some-2-clause-ok
returns-in-Some-2-clause-ok c =
    (Read-ok c.args.text.now c.loop-c.parser c.in-Some-2.graph (whole c.args.text.now c.loop-c.yielded (chars_rest c.loop-c.c-iterator) c.loop-c.parser c.loop-c.invariant.split c.in-None.ensures.steps.0.0 c.loop-c.invariant.so_far) (sym c.in_ok-graph.ensures ∙ c.in-Some-2.is)).ok

pub returns-in-Some-2-clause-read : goal.returns-in-Some-2-clause-read
returns-in-Some-2-clause-read c =
    (Read-ok c.args.text.now c.loop-c.parser c.in-Some-2.graph (whole c.args.text.now c.loop-c.yielded (chars_rest c.loop-c.c-iterator) c.loop-c.parser c.loop-c.invariant.split c.in-None.ensures.steps.0.0 c.loop-c.invariant.so_far) (sym c.in_ok-graph.ensures ∙ c.in-Some-2.is)).read

pub returns-in-Some-2-clause-refused : goal.returns-in-Some-2-clause-refused
returns-in-Some-2-clause-refused c =
    (Read-ok c.args.text.now c.loop-c.parser c.in-Some-2.graph (whole c.args.text.now c.loop-c.yielded (chars_rest c.loop-c.c-iterator) c.loop-c.parser c.loop-c.invariant.split c.in-None.ensures.steps.0.0 c.loop-c.invariant.so_far) (sym c.in_ok-graph.ensures ∙ c.in-Some-2.is)).refused

pub returns-in-Some-2-clause-sound : goal.returns-in-Some-2-clause-sound
returns-in-Some-2-clause-sound c =
    graph_sound c.args.text.now c.in-Some-2.graph ((Read-ok c.args.text.now c.loop-c.parser c.in-Some-2.graph (whole c.args.text.now c.loop-c.yielded (chars_rest c.loop-c.c-iterator) c.loop-c.parser c.loop-c.invariant.split c.in-None.ensures.steps.0.0 c.loop-c.invariant.so_far) (sym c.in_ok-graph.ensures ∙ c.in-Some-2.is)).ok c.in-Some-2.graph refl)

pub returns-in-None-2-clause-read : goal.returns-in-None-2-clause-read
returns-in-None-2-clause-read c =
    (Read-bad c.args.text.now (length c.args.text.now) (bad_end c.args.text.now c.loop-c.parser (whole c.args.text.now c.loop-c.yielded (chars_rest c.loop-c.c-iterator) c.loop-c.parser c.loop-c.invariant.split c.in-None.ensures.steps.0.0 c.loop-c.invariant.so_far) (sym c.in_ok-graph.ensures ∙ c.in-None-2.is))).read

pub returns-in-None-2-clause-bad : goal.returns-in-None-2-clause-bad
returns-in-None-2-clause-bad c =
    (Read-bad c.args.text.now (length c.args.text.now) (bad_end c.args.text.now c.loop-c.parser (whole c.args.text.now c.loop-c.yielded (chars_rest c.loop-c.c-iterator) c.loop-c.parser c.loop-c.invariant.split c.in-None.ensures.steps.0.0 c.loop-c.invariant.so_far) (sym c.in_ok-graph.ensures ∙ c.in-None-2.is))).bad

pub returns-in-None-2-clause-refused : goal.returns-in-None-2-clause-refused
returns-in-None-2-clause-refused c =
    (Read-bad c.args.text.now (length c.args.text.now) (bad_end c.args.text.now c.loop-c.parser (whole c.args.text.now c.loop-c.yielded (chars_rest c.loop-c.c-iterator) c.loop-c.parser c.loop-c.invariant.split c.in-None.ensures.steps.0.0 c.loop-c.invariant.so_far) (sym c.in_ok-graph.ensures ∙ c.in-None-2.is))).refused
