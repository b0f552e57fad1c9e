use Rattle.std.proofs.Common.{◌≡◌, ◌++◌, ◌∙◌, ◌∷◌, [], string_bytes, encode_utf8, sym, ap, append_assoc, arith}
use Rattle.ff_lang.specs.laws.Printing.{escaped_value}
use Rattle.ff_lang.proofs.Prints.{escaped_char, plain_char}
use Rattle.ff_lang.proofs.print.push_char.Goals.{then-is_escaped+in_ok-push, else-is_escaped}
use Rattle.ff_lang.proofs.print.push_char.Goals as goal

pub returns : goal.returns
returns c =
    let spelled : string_bytes c.if-is_escaped.out ++ encode_utf8 c.args.c ≡ string_bytes c.args.out.now ++ escaped_value (encode_utf8 c.args.c) =
    elim c.if-is_escaped.branch [
      | then-is_escaped+in_ok-push w ↦
          ap (λ o. string_bytes o ++ encode_utf8 c.args.c) w.out-is
          ∙ (ap (λ t. t ++ encode_utf8 c.args.c) (w.in_ok-push.ensures.bytes ∙ ap (λ t. string_bytes c.args.out.now ++ t) (w.push.ensures.ascii (omega arith)))
          ∙ (append_assoc (string_bytes c.args.out.now) (92 ∷ []) (encode_utf8 c.args.c)
          ∙ ap (λ t. string_bytes c.args.out.now ++ t) (sym (escaped_char c.args.c (sym w.if-is_escaped.ensures)))))
      | else-is_escaped w ↦
          ap (λ o. string_bytes o ++ encode_utf8 c.args.c) w.out-is
          ∙ ap (λ t. string_bytes c.args.out.now ++ t) (sym (plain_char c.args.c (sym w.if-is_escaped.ensures)))
    ] in
    grind (arith, c.push-2.ensures.bytes)
