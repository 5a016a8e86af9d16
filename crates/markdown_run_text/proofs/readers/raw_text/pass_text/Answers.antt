use Rattle.std.proofs.Common.{◌≡◌, ◌≢◌, ◌==◌, ◌||◌, ℕ, List, [], ◌∷◌, true, false, ap, ◌∙◌, arith}
use Rattle.std.proofs.lemmas.Bool.{eqb-true, ne_eqb}
use Rattle.markdown_content.specs.Place.{Place}
use Rattle.markdown_content.specs.Stretch.{past_stretch}
use Rattle.markdown_run_text.specs.PlainSpan.{past_span_text}
use Rattle.markdown_run_text.proofs.PlainSpanReads.{text-passed}
use Rattle.markdown_run_text.proofs.readers.raw_text.pass_text.Goals as goal

-- past the bytes that are given, which are the marker
passed-by : (m : ℕ) (ms : List ℕ) (p q : Place) → q ≡ past_stretch ms p → ms ≡ m ∷ [] → q ≡ past_span_text m p
passed-by m ms p q e h = e ∙ ap (λ ns. past_stretch ns p) h ∙ text-passed m p

one-left : (m : ℕ) → m ≢ 96 → ((m == 96) || ((m == 36) || false)) ≡ true → m ≡ 36
one-left m h k = grind (arith, eqb-true, ne_eqb)

pub returns-then-marker-eq96 : goal.returns-then-marker-eq96
returns-then-marker-eq96 c = grind (arith, passed-by c.args.marker c.new.result c.args.cursor.now c.consume_stretch.new.self, c.consume_stretch.ensures, c.new.ensures, c.if-marker-eq96.true)

pub returns-else-marker-eq96 : goal.returns-else-marker-eq96
returns-else-marker-eq96 c = grind (arith, passed-by c.args.marker c.new-else-marker-eq96.result c.args.cursor.now c.consume_stretch-else-marker-eq96.new.self, one-left c.args.marker, c.consume_stretch-else-marker-eq96.ensures, c.new-else-marker-eq96.ensures, c.if-marker-eq96.false, c.requires)
