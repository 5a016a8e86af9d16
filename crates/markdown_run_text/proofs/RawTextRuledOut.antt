-- Where no mark of a span stands, no run may close one.
use Rattle.std.proofs.Common.{◌≡◌, ◌&&◌, ◌||◌, Bool, true, false, List, [], ◌∷◌, Option, Some, None, refl, arith}
use Rattle.std.specs.List.{list_any}
use Rattle.std.proofs.lemmas.Bool.{or_from}
use Rattle.markdown_content.specs.Codes.{Code}
use Rattle.markdown_notes.specs.RunIndex.{is_asked, last_runs, without_runs}
use Rattle.markdown_notes.specs.SequenceIndex.{last_begins, last_where, marks_span, rules_out}
use Rattle.markdown_notes.specs.declared.sequence_index.LastBegins.{LastBegins}
use Rattle.markdown_notes.specs.declared.sequence_index.Sequence.TheVariants.{SpanMark}
use Rattle.markdown_notes.proofs.RunIndexFacts.{later-none, without-known}
use Rattle.markdown_notes.proofs.SequenceIndexLemmas.{right-made, ruled-out}
use Rattle.markdown_run_text.specs.TextContent.{span_markers}

neither : (a b : Bool) → ((a && true) || (b && true)) ≡ false → (a || (b || false)) ≡ false
neither a b h = grind arith

spans-absent : (cs : List Code) → last_where marks_span cs ≡ None →
    list_any (λ (c : Code). is_asked span_markers c.value) cs ≡ false
spans-absent [] h = refl
spans-absent (c ∷ cs) h = grind (arith, later-none, or_from, neither, spans-absent cs)

-- where an index that is made of the codes rules marks of spans out
pub no-spans : (index : Option LastBegins) (cs : List Code) → index ≡ Some (last_begins cs) →
    rules_out index SpanMark 0 ≡ true → without_runs span_markers ≡ last_runs span_markers cs
no-spans index cs e h = grind (arith, without-known span_markers cs, spans-absent cs, ruled-out index cs SpanMark 0, right-made cs index)
