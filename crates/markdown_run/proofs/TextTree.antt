-- The inline tree of a text: the labels of its elements grouped, paired, merged and trimmed, and its emails set apart.
use Rattle.std.proofs.Common.{◌≡◌, ℕ, Bool, true, false, List, [], ◌∷◌, Option, None, Some, refl, ap, arith}
use Rattle.std.proofs.lemmas.Bool.{both_ways}
use Rattle.markdown_content.specs.Codes.{Code, stop_of, document_start}
use Rattle.markdown_content.specs.Tree.{Forest, leaf}
use Rattle.markdown_event.specs.declared.event.Name.{Name}
use Rattle.markdown_event.specs.declared.event.Name.TheVariants as N
use Rattle.markdown_content.specs.declared.configuration.Constructs.{Constructs}
use Rattle.markdown_content.specs.declared.label_kind.LabelKind.{LabelKind}
use Rattle.markdown_model.specs.Elements.{attention_run, as_plain, line_ending, data_code, text_element, text_choice, AreElements, elements_of}
use Rattle.markdown_model.specs.Grammar.{Reading}
use Rattle.markdown_model.specs.InlineTree.{label_tree, raw_tree, finished_text, text_tree, paired_whole}
use Rattle.markdown_model.specs.LabelEnd.{Element, plain, starts, ends, label_end}
use Rattle.markdown_model.specs.Pairs.{Pair, pair_list}
use Rattle.markdown_model.specs.Passes.{HardBreaks, breaks, labels_of, merged, trimmed, with_emails_apart}
use Rattle.markdown_model.specs.Runs.{Run}
use Rattle.markdown_model.specs.Setting.{Setting, within}
use Rattle.markdown_model.proofs.ElementCases.{AllAre, EachConstruct, all_are, text_has}
use Rattle.markdown_model.proofs.OneElementList.{text_elements, same_text_elements}
use Rattle.markdown_model.proofs.PlainConstructs.{ReadsPlain}
use Rattle.markdown_model.proofs.NoLinkInConstructs.{PassesValue, Yields, yields_bind, yields_gives, yields_either, then_any}
use Rattle.markdown_run_text.specs.ContentPasses.{mailed_where}
use Rattle.markdown_attention.specs.RunsRead.{is_run}
use Rattle.markdown_run_text.specs.RowTreeNames.{IsNode}
use Rattle.markdown_run_text.specs.Row.{row_has_run, row_of_elements}
use Rattle.markdown_run.proofs.RowsWithoutRuns.{IsRunlessElement, still-first}
use Rattle.markdown_run_text.proofs.PastTrees.{quiet-runless, leaf-runless}
use Rattle.markdown_run_text.proofs.ConstructNodes.{plain-node}

-- What is said of the elements of a text.

-- it holds of the trees of constructs, of codes by themselves, of runs where they are looked for, and of starts and ends of labels
pub record HoldsOfParts (P : Element → Type 0) (on : Constructs) : Type 0 where
  pub nodes : (t : Forest) → IsNode t → P (plain t)
  pub leaves : (name : Name) (cs : List Code) → is_run name ≡ false → P (plain (leaf name cs))
  pub stars : on.attention ≡ true → Yields P (attention_run 42)
  pub underscores : on.attention ≡ true → Yields P (attention_run 95)
  pub tildes : on.gfm_strikethrough ≡ true → Yields P (attention_run 126)
  pub opens : (kind : LabelKind) (marker : List Code) → P (starts kind marker)
  pub closes : (marker : List Code) (outcome : Option (LabelKind × Forest)) → P (ends marker outcome)

module _ (P : Element → Type 0) (s : Setting) (h : HoldsOfParts P s.options.constructs) where
  plain_yields : (a : Reading Forest) → ReadsPlain s.bytes a → Yields P (as_plain a)
  unfolding as_plain
  plain_yields a k = grind (arith, yields_bind, yields_gives, plain-node)

  ending_yields : Yields P line_ending
  unfolding line_ending
  ending_yields = then_any _ _ _ λ c. yields_gives _ (plain (leaf N.LineEnding c)) (h.leaves N.LineEnding c refl)

  data_yields : Yields P data_code
  unfolding data_code
  data_yields = then_any _ _ _ λ c. yields_gives _ (plain (leaf N.Data c)) (h.leaves N.Data c refl)

  end_yields : (earlier : List Element) → Yields P (label_end s earlier)
  unfolding label_end
  end_yields earlier =
      then_any _ _ _ λ back. yields_either _ _ _ (then_any _ _ _ λ outcome. yields_gives _ _ (h.closes back (Some outcome))) (yields_gives _ _ (h.closes back None))

  text_passes : (end : ℕ) (earlier : List Element) (previous : Option Code) (cs : List Code) →
      PassesValue P (text_element s end earlier previous cs)
  text_passes end earlier previous cs = text_has s end earlier previous (PassesValue P) cs each (data_yields.at cs)
    where
      each : EachConstruct s end earlier previous (PassesValue P) cs
      each = record {
        none = tt;
        ending = ending_yields.at cs;
        plain_has = λ a k. (plain_yields a k).at cs;
        stars = λ e. (h.stars e).at cs;
        underscores = λ e. (h.underscores e).at cs;
        tildes = λ e. (h.tildes e).at cs;
        starts_has = λ kind marker rest some whole. h.opens kind marker;
        ended = (end_yields earlier).at cs;
      }

-- Where no runs are looked for, none stands in them.

parts-still : (on : Constructs) → on.attention ≡ false → on.gfm_strikethrough ≡ false → HoldsOfParts IsRunlessElement on
parts-still on off none = grind (arith, quiet-runless, leaf-runless, both_ways)

still-row : (es : List Element) → AllAre IsRunlessElement es → row_has_run (row_of_elements es) ≡ false
still-row [] h = refl
still-row (e ∷ es) h = still-first e (row_of_elements es) h.0 (still-row es h.1)

-- where runs are not looked for none stands in the row of the elements
pub text-still : (s : Setting) (cs : List Code) (es : List Element) → AreElements s cs es →
    s.options.constructs.attention ≡ false → s.options.constructs.gfm_strikethrough ≡ false →
    row_has_run (row_of_elements es) ≡ false
text-still s cs es are off none =
    still-row es (all_are IsRunlessElement (text_choice s cs) (text_passes IsRunlessElement (within cs s) (parts-still s.options.constructs off none) (stop_of document_start cs).index) es [] None cs are)

-- The tree of labels.

pub text-labels : (s : Setting) (cs : List Code) (es : List Element) → AreElements s cs es →
    label_tree s cs ≡ labels_of es
unfolding label_tree
text-labels s cs es are = ap labels_of (same_text_elements s cs (elements_of s cs) es (text_elements s cs) are)

-- The inline tree.

-- a raw tree merged, trimmed and searched for emails, by the two switches
finish : HardBreaks → Bool → Forest → Forest
finish hard literals t =
    let u = trimmed hard true true (merged t) in elim literals [ true ↦ with_emails_apart u | false ↦ u ]

finished-is : (s : Setting) (pairs_of : List Run → List Pair) (es : List Element)
    → finished_text s pairs_of es ≡ finish (breaks s) s.options.constructs.gfm_autolink_literal (paired_whole s pairs_of (labels_of es))
unfolding finished_text raw_tree finish
finished-is s pairs_of es = refl

finish-where : (hard : HardBreaks) (literals : Bool) (t : Forest) →
    finish hard literals t ≡ mailed_where literals (trimmed hard true true (merged t))
unfolding finish
finish-where hard literals t = grind arith

pub text-finished : (s : Setting) (cs : List Code) (es : List Element) → AreElements s cs es
    → text_tree s cs ≡ mailed_where s.options.constructs.gfm_autolink_literal (trimmed (breaks s) true true (merged (paired_whole s (pair_list s) (labels_of es))))
unfolding text_tree
text-finished s cs es are = grind (arith, same_text_elements s cs (elements_of s cs) es, text_elements s cs, finished-is s (pair_list s) es, finish-where (breaks s) s.options.constructs.gfm_autolink_literal (paired_whole s (pair_list s) (labels_of es)))
