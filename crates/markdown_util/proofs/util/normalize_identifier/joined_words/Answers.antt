use Rattle.std.proofs.Common.{◌≡◌, ◌∙◌, sym, ap, refl, ◌==◌, ◌+◌, ◌∷◌, ◌++◌, drop, length, arith, false, string_bytes, string_len}
use Rattle.std.specs.Str.{chars, encode_utf8_all}
use Rattle.std.specs.Char.{encode_utf8}
use Rattle.std.proofs.lemmas.Iterator.{YieldsList-from_chars}
use Rattle.std.proofs.lemmas.Iterator.Consumers.{YieldsList-turn, YieldsList-end}
use Rattle.std.proofs.lemmas.List.{length_push}
use Rattle.markdown_util.specs.Identifier.{separates_words, joined_words}
use Rattle.markdown_util.proofs.JoinedWords.{to_come, IsTurn, turn-start, turn-end, turn-space, turn-next, turn-first, turn-within, turn-push, same_whole, not_empty}
use Rattle.markdown_util.proofs.util.normalize_identifier.joined_words.Goals as goal
use Rattle.markdown_util.proofs.util.normalize_identifier.joined_words.Goals.{then-pending+then-not-is_empty+in_ok-push, else-pending, else-pending-via-then-pending+else-not-is_empty, else-pending-via-else-pending}

pub loop-c-init : goal.loop-c-init
loop-c-init c =
    turn-start _ (chars c.args.value.now) _ _ false (ap (λ n. n == 0) c.in_ok-joined.ensures.len) c.in_ok-joined.ensures.bytes refl

pub loop-c-preserved-then-separates_words : goal.loop-c-preserved-then-separates_words
loop-c-preserved-then-separates_words c =
    let at = YieldsList-turn (YieldsList-from_chars c.args.value.now c.utf8.value cc) c.loop-c.yielded _ c.loop-c.yielded_by _ _ c.in-Some.c c.in-Some.is c.next.ensures.steps in
    rw (length_push c.loop-c.yielded c.in-Some.c)
    (turn-space _ c.loop-c.pending _ _ (chars c.args.value.now) (length c.loop-c.yielded) c.in-Some.c
    (record { inside = at.0; read = at.1; whole = c.loop-c.invariant })
    (sym c.separates_words.ensures ∙ c.if-separates_words.true))

pub loop-c-preserved : goal.loop-c-preserved
loop-c-preserved c =
    let at = YieldsList-turn (YieldsList-from_chars c.args.value.now c.utf8.value cc) c.loop-c.yielded _ c.loop-c.yielded_by _ _ c.in-Some.c c.in-Some.is c.next.ensures.steps in
    let cs = chars c.args.value.now in
    let i = length c.loop-c.yielded in
    let fresh = string_len c.loop-c.joined == 0 in
    let word : separates_words c.in-Some.c ≡ false = sym c.separates_words.ensures ∙ c.if-separates_words.false in
    let turn : IsTurn fresh c.loop-c.pending (string_bytes c.loop-c.joined) (encode_utf8_all (joined_words cs)) cs i c.in-Some.c =
    record { inside = at.0; read = at.1; whole = c.loop-c.invariant } in
    let opened : string_bytes c.if-pending.joined ++ encode_utf8_all (c.in-Some.c ∷ to_come false false (drop (i + 1) cs)) ≡ encode_utf8_all (joined_words cs) =
    elim c.if-pending.branch [
      | then-pending+then-not-is_empty+in_ok-push w ↦
          same_whole _ (string_bytes c.loop-c.joined ++ encode_utf8 32) _ _ (ap string_bytes w.joined-is ∙ w.in_ok-push.ensures.bytes)
          (turn-next fresh c.loop-c.pending _ _ cs i c.in-Some.c turn word (sym w.is_empty.ensures ∙ w.if-not-is_empty.true) w.if-pending.true)
      | else-pending w ↦ elim w.else-pending.branch [
        | else-pending-via-then-pending+else-not-is_empty w' ↦
            same_whole _ (string_bytes c.loop-c.joined) _ _ (ap string_bytes w.joined-is)
            (turn-first fresh c.loop-c.pending _ _ cs i c.in-Some.c turn word (sym w'.is_empty.ensures ∙ w'.if-not-is_empty.false))
        | else-pending-via-else-pending w' ↦
            same_whole _ (string_bytes c.loop-c.joined) _ _ (ap string_bytes w.joined-is)
            (turn-within fresh c.loop-c.pending _ _ cs i c.in-Some.c turn word w'.if-pending.false)
      ]
    ] in
    rw (length_push c.loop-c.yielded c.in-Some.c)
    (turn-push (string_len c.push-else-separates_words.new.self == 0) (string_bytes c.if-pending.joined) _ _ cs i c.in-Some.c opened c.in_ok-push-2.ensures.bytes
    (not_empty (string_len c.push-else-separates_words.new.self) (string_len c.if-pending.joined) c.in-Some.c c.in_ok-push-2.ensures.len))

pub returns : goal.returns
returns c =
    let past = YieldsList-end (YieldsList-from_chars c.args.value.now c.utf8.value cc) c.loop-c.yielded _ c.loop-c.yielded_by _ _ c.in-None.is c.next.ensures.steps in
    turn-end _ c.loop-c.pending (string_bytes c.loop-c.joined) _ (chars c.args.value.now) (length c.loop-c.yielded) (omega (arith, past.1)) c.loop-c.invariant
