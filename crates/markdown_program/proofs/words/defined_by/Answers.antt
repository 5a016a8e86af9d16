use Rattle.std.proofs.Common.{◌≡◌, ℕ, List, Option, Some, None, ap, ◌∙◌, sym, map, string_bytes, [], ◌∷◌}
use Rattle.std.specs.Option.{option_map}
use Rattle.std.specs.declared.alloc.Global.{Global}
use Rattle.std.specs.declared.string.String.{String}
use Rattle.markdown_program.specs.ProgramWords.{defined_word, listed}
use Rattle.markdown_program.proofs.DefiningWords.{defined-more, defined-same}
use Rattle.markdown_program.proofs.words.defined_by.Goals as goal
use Rattle.markdown_program.proofs.words.defined_by.Goals.{in-Some+in_ok-push, in_default}

pub loop-word-preserved : goal.loop-word-preserved
loop-word-preserved c =
    let p : List ℕ = c.args.prefix.now in
    let word : String Global = c.word-item.result in
    let is : option_map string_bytes c.in_ok-identifier.field-0 ≡ defined_word p (string_bytes word) = c.in_ok-identifier.ensures ∙ ap (defined_word p) c.as_str.ensures.value in
    elim c.match-branch-2.branch [
      | in-Some+in_ok-push w ↦
          let some : Some (string_bytes w.in-Some.identifier) ≡ defined_word p (string_bytes word) = ap (λ (o : Option (String Global)). option_map string_bytes o) (sym w.in-Some.is) ∙ is in
          ap (λ v. map string_bytes v.items) w.found-is
          ∙ ap (map string_bytes) w.in_ok-push.ensures.items
          ∙ defined-more p c.args.words.now c.loop-word.word-index word c.loop-word.found.items (w.in-Some.identifier ∷ []) c.loop-word-test.true c.word-item.is c.loop-word.invariant (ap listed some)
      | in_default w ↦
          let none : None ≡ defined_word p (string_bytes word) = ap (λ (o : Option (String Global)). option_map string_bytes o) (sym w.in_default.is) ∙ is in
          ap (λ v. map string_bytes v.items) w.found-is
          ∙ defined-same p c.args.words.now c.loop-word.word-index word c.loop-word.found.items c.loop-word-test.true c.word-item.is c.loop-word.invariant none
    ]
