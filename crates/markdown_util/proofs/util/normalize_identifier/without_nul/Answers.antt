use Rattle.std.proofs.Common.{◌≡◌, ◌∙◌, sym, ap, if◌then◌else◌, ◌+◌, ◌∷◌, ◌++◌, drop, length, map, arith, string_bytes, append-nil, append_assoc}
use Rattle.std.specs.Str.{chars, encode_utf8_all}
use Rattle.std.specs.Char.{encode_utf8}
use Rattle.std.proofs.lemmas.Iterator.{YieldsList-from_chars}
use Rattle.std.proofs.lemmas.Iterator.Consumers.{YieldsList-turn, YieldsList-end}
use Rattle.std.proofs.lemmas.List.{length_push, at_drop_more, at_drop_all}
use Rattle.markdown_util.specs.Identifier.{replaced_nul}
use Rattle.markdown_util.proofs.ValueBytes.{eqb_off}
use Rattle.markdown_util.proofs.util.normalize_identifier.without_nul.Goals as goal
use Rattle.markdown_util.proofs.util.normalize_identifier.without_nul.Goals.{then-c-eq0, else-c-eq0}

pub loop-c-preserved : goal.loop-c-preserved
loop-c-preserved c =
    let at = YieldsList-turn (YieldsList-from_chars c.args.value.now c.utf8.value cc) c.loop-c.yielded _ c.loop-c.yielded_by _ _ c.in-Some.c c.in-Some.is c.next.ensures.steps in
    let cs = chars c.args.value.now in
    let n = length c.loop-c.yielded in
    let come : encode_utf8_all (map replaced_nul (drop n cs)) ≡ encode_utf8 (replaced_nul c.in-Some.c) ++ encode_utf8_all (map replaced_nul (drop (n + 1) cs)) =
    at_drop_more (λ xs. encode_utf8_all (map replaced_nul xs)) cs n c.in-Some.c at.0
    ∙ ap (λ x. encode_utf8_all (map replaced_nul (x ∷ drop (n + 1) cs))) (sym at.1) in
    let read : c.if-c-eq0.push ≡ replaced_nul c.in-Some.c =
    elim c.if-c-eq0.branch [
      | then-c-eq0 w ↦ w.push-is ∙ sym (ap replaced_nul w.if-c-eq0.true)
      | else-c-eq0 w ↦ w.push-is ∙ sym (ap (λ b. if b then 0xFFFD else c.in-Some.c) (eqb_off c.in-Some.c 0 w.if-c-eq0.false))
    ] in
    rw (length_push c.loop-c.yielded c.in-Some.c)
    (ap (λ bs. bs ++ encode_utf8_all (map replaced_nul (drop (n + 1) cs))) (c.in_ok-push.ensures.bytes ∙ ap (λ x. string_bytes c.loop-c.text ++ encode_utf8 x) read)
    ∙ append_assoc (string_bytes c.loop-c.text) (encode_utf8 (replaced_nul c.in-Some.c)) (encode_utf8_all (map replaced_nul (drop (n + 1) cs)))
    ∙ ap (λ bs. string_bytes c.loop-c.text ++ bs) (sym come)
    ∙ c.loop-c.invariant)

pub returns : goal.returns
returns c =
    let past = YieldsList-end (YieldsList-from_chars c.args.value.now c.utf8.value cc) c.loop-c.yielded _ c.loop-c.yielded_by _ _ c.in-None.is c.next.ensures.steps in
    sym (append-nil (string_bytes c.loop-c.text))
    ∙ ap (λ xs. string_bytes c.loop-c.text ++ xs) (sym (at_drop_all (λ xs. encode_utf8_all (map replaced_nul xs)) (chars c.args.value.now) (length c.loop-c.yielded) (omega (arith, past.1))))
    ∙ c.loop-c.invariant
