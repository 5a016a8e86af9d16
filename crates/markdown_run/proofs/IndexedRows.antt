-- Past a row it is no matter what is known of the content.
use Rattle.std.proofs.Common.{◌≡◌, ℕ, ◌-◌, Bool, if◌then◌else◌, List, ◌∷◌, length, Option, None, refl, sym, ap, ◌∙◌, arith}
use Rattle.markdown_content.specs.Codes.{Code}
use Rattle.markdown_engine.specs.Operations.{is_registered, registered_before, scratched}
use Rattle.markdown_engine.specs.PastTree.{past}
use Rattle.markdown_content.specs.Tree.{Forest}
use Rattle.markdown_event.specs.declared.resolve.ResolveName.{ResolveName}
use Rattle.markdown_event.specs.declared.resolve.ResolveName.TheVariants as R
use Rattle.markdown_engine.specs.declared.tokenizer.LabelStart as Kept
use Rattle.markdown_engine.specs.declared.tokenizer.TokenizeState.{TokenizeState}
use Rattle.markdown_engine.specs.declared.tokenizer.Tokenizer.{Tokenizer}
use Rattle.markdown_content.specs.declared.label_kind.LabelKind.{LabelKind}
use Rattle.markdown_label.specs.LabelFields.{with_kind, labelled}
use Rattle.markdown_label.specs.LabelEnd.{end_made, end_tree, ended, kind_set, made, ended_at, lost_by, starts_set}
use Rattle.markdown_label.proofs.LabelEndLemmas.{attempts-before}
use Rattle.markdown_model.specs.Elements.{Choice}
use Rattle.markdown_model.specs.LabelEnd.{Element}
use Rattle.markdown_run_text.specs.Row.{Mark, begins, makes, loses, Row, row_end, row_then, past_tree, past_mark, past_row}
use Rattle.markdown_run_text.specs.RunOverElements.{Advances, StandsAfter}
use Rattle.markdown_run.specs.ElementsOfText.{with_indexes, indexed}

-- and no attempt is begun nor ended

mark-alone : (mark : Mark) (T : Tokenizer) → (past_mark mark T).attempts ≡ T.attempts
unfolding past past_mark scratched made end_made
mark-alone (begins kind marker) T = attempts-before R.Label _
mark-alone (makes back kind tail) T = attempts-before R.Label _
mark-alone loses T = refl

tree-alone : (t : Forest) (T : Tokenizer) → (past_tree t T).attempts ≡ T.attempts
unfolding past past_tree
tree-alone t T = refl

pub row-alone : (row : Row) (T : Tokenizer) → (past_row row T).attempts ≡ T.attempts
row-alone (row_end t) T = tree-alone t T
row-alone (row_then t mark rest) T = grind (arith, mark-alone, tree-alone, row-alone rest (past_mark mark (past_tree t T)))

tree-indexed : (s : TokenizeState) (t : Forest) (T : Tokenizer) → past_tree t (indexed s T) ≡ indexed s (past_tree t T)
unfolding past past_tree scratched
tree-indexed s t T = refl

if-indexed : (s : TokenizeState) (b : Bool) (T U : Tokenizer) → (if b then indexed s T else indexed s U) ≡ indexed s (if b then T else U)
if-indexed s b T U = grind arith

before-indexed : (s : TokenizeState) (n : ResolveName) (T : Tokenizer) → registered_before n (indexed s T) ≡ indexed s (registered_before n T)
unfolding registered_before scratched
before-indexed s n T = if-indexed s (is_registered n T.resolvers) T (record T { resolvers = n ∷ T.resolvers })

lost-indexed : (s : TokenizeState) (ls : List Kept.LabelStart) (r : TokenizeState) → lost_by ls (with_indexes s r) ≡ with_indexes s (lost_by ls r)
lost-indexed s ls r = grind arith

made-indexed : (s : TokenizeState) (kind : LabelKind) (ls : List Kept.LabelStart) (last n : ℕ) (r : TokenizeState) →
    labelled (with_kind kind ls) last (starts_set (with_kind kind ls) (ended_at n (with_indexes s r))) ≡ with_indexes s (labelled (with_kind kind ls) last (starts_set (with_kind kind ls) (ended_at n r)))
made-indexed s kind ls last n r = grind arith

pub mark-indexed : (s : TokenizeState) (mark : Mark) (T : Tokenizer) → past_mark mark (indexed s T) ≡ indexed s (past_mark mark T)
unfolding past past_mark scratched made end_made
mark-indexed s (begins kind marker) T = before-indexed s R.Label _
mark-indexed s (makes back kind tail) T =
    let ls : List Kept.LabelStart = T.tokenize_state.label_starts in
    let Y : Tokenizer = past None tail (kind_set kind (past None (end_tree back) (ended T))) in
    ap (λ (q : TokenizeState). registered_before R.Label (record Y { tokenize_state = q })) (made-indexed s kind ls (length Y.events - 1) (length T.events) T.tokenize_state)
    ∙ before-indexed s R.Label (record Y { tokenize_state = labelled (with_kind kind ls) (length Y.events - 1) (starts_set (with_kind kind ls) (ended_at (length T.events) T.tokenize_state)) })
mark-indexed s loses T = ap (λ q. record T { tokenize_state = q }) (lost-indexed s T.tokenize_state.label_starts T.tokenize_state)

pub row-indexed : (s : TokenizeState) (row : Row) (T : Tokenizer) → past_row row (indexed s T) ≡ indexed s (past_row row T)
row-indexed s (row_end t) T = tree-indexed s t T
row-indexed s (row_then t mark rest) T =
    ap (λ (x : Tokenizer). past_row rest (past_mark mark x)) (tree-indexed s t T)
    ∙ ap (past_row rest) (mark-indexed s mark (past_tree t T))
    ∙ row-indexed s rest (past_mark mark (past_tree t T))

stands-indexed : (s : TokenizeState) (earlier : List Element) (previous : Option Code) (T : Tokenizer) → StandsAfter earlier previous (indexed s T) → StandsAfter earlier previous T
unfolding scratched
stands-indexed s earlier previous T k = record { escaped = k.escaped; before = k.before; keeps = k.keeps }

indexed-stands : (s : TokenizeState) (earlier : List Element) (previous : Option Code) (T : Tokenizer) → StandsAfter earlier previous T → StandsAfter earlier previous (indexed s T)
unfolding scratched
indexed-stands s earlier previous T k = record { escaped = k.escaped; before = k.before; keeps = k.keeps }

pub advances-indexed : (s : TokenizeState) (choice : Choice) (T U : Tokenizer) → Advances choice T U → Advances choice (indexed s T) (indexed s U)
unfolding scratched
advances-indexed s choice T U a =
    record {
      row = a.row;
      is_row = a.is_row;
      left = ap (indexed s) a.left ∙ sym (row-indexed s a.row T);
      whole = a.whole;
      less = a.less;
      elements = λ earlier previous stands.
          let e = a.elements earlier previous (stands-indexed s earlier previous T stands) in
          record { elements = e.elements; later = e.later; last = e.last; stands = indexed-stands s e.later e.last U e.stands; follow = e.follow; read = e.read; read_as = e.read_as; have_codes = e.have_codes; alike = e.alike };
    }
