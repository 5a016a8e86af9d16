-- The start of a link that stands at hand, by its code, and how it is read.
use Rattle.std.proofs.Common.{◌≡◌, ◌≤◌, ◌&&◌, true, false, length, refl, sym, ap, subst, ◌∙◌, arith}
use Rattle.std.specs.Option.{is_some}
use Rattle.markdown_content.specs.declared.label_kind.LabelKind.{LabelKind}
use Rattle.markdown_content.specs.Place.{code_at}
use Rattle.markdown_event.proofs.AndParts.{and-right}
use Rattle.markdown_engine.specs.Operations.{ahead, current_of, done}
use Rattle.markdown_engine.specs.declared.tokenizer.Tokenizer.{Tokenizer}
use Rattle.markdown_label.specs.LabelStarts.{kept_start, link_ops, link_test, links_on}
use Rattle.markdown_label.proofs.LabelStartOps.{long-link}
use Rattle.markdown_model.specs.SingleConstructs.{label_start_link_here}
use Rattle.markdown_run_text.proofs.ImageStarts.{first-at, some-value}
use Rattle.markdown_run_text.proofs.LabelStartConstructs.{link-begins, link-not}
use Rattle.markdown_run_text.specs.PlacesPassed.{link_here}
use Rattle.markdown_run_text.specs.ReaderEnds.{BeginsOrStays, options_here}

pub link-here : (T : Tokenizer) → link_here T ≡ link_test T (ahead T)
link-here T = ap (λ b. links_on T && b) (first-at 91 T.cursor)

pub link-code : (T : Tokenizer) → link_here T ≡ true → is_some (current_of T) ≡ true
link-code T e = some-value 91 (code_at T.cursor) (and-right (links_on T) _ e)

pub link-long : (T V : Tokenizer) → V ≡ done link_ops T → 4 ≤ length V.events
link-long T V e = subst (λ (x : Tokenizer). 4 ≤ length x.events) (sym e) (long-link T)

pub link-reads : (T V U : Tokenizer) → link_here T ≡ true → V ≡ done link_ops T → kept_start LabelKind.Link 4 V ≡ U →
    BeginsOrStays (label_start_link_here (options_here T)) T true U
link-reads T V U e k l = grind (arith, link-begins, link-here)

pub no-link : (T : Tokenizer) → link_here T ≡ false → BeginsOrStays (label_start_link_here (options_here T)) T false T
no-link T e = (link-not T (sym (link-here T) ∙ e), refl)
