-- Past the start of a label, past an end that makes one, and past one that makes none, with the data behind it.
use Rattle.std.proofs.Common.{◌≡◌, ◌≢◌, ℕ, ◌+◌, ◌-◌, ◌<◌, ◌≤◌, Bool, false, if◌then◌else◌, List, [], ◌∷◌, ◌++◌, length, slice_get, Option, None, Some, refl, sym, ap, subst, ◌∙◌, arith, length-append, append_assoc, append-nil, inl}
use Rattle.markdown_run_text.proofs.OpenStartKinds.{rest-lost}
use Rattle.markdown_content.specs.Codes.{Code, is_line_ending, document_start, stop_of}
use Rattle.markdown_content.specs.ListFunctions.{rest_of}
use Rattle.markdown_engine.specs.Operations.{ahead, scratched}
use Rattle.markdown_engine.specs.PastTree.{Reads, past, moved_by, appended_from}
use Rattle.markdown_content.specs.Tree.{Forest, empty, leaf_then, group_then, leaf, leaf_codes, event, event_count}
use Rattle.markdown_event.specs.declared.event.Event.{Event}
use Rattle.markdown_event.specs.declared.event.Kind.TheVariants as Kind
use Rattle.markdown_event.specs.declared.event.Name.{Name}
use Rattle.markdown_event.specs.declared.event.Name.TheVariants as N
use Rattle.markdown_event.specs.declared.resolve.ResolveName.TheVariants as R
use Rattle.markdown_content.specs.declared.label_kind.LabelKind.{LabelKind}
use Rattle.markdown_engine.specs.declared.tokenizer.LabelStart as Kept
use Rattle.markdown_engine.specs.declared.tokenizer.TokenizeState.{TokenizeState}
use Rattle.markdown_engine.specs.declared.tokenizer.Tokenizer.{Tokenizer}
use Rattle.markdown_engine.proofs.PlaceAfterCodes.{moved_by-append}
use Rattle.markdown_model.proofs.LeafCodes.{codes-leaf}
use Rattle.markdown_run_text.specs.CutData.{HasCodes}
use Rattle.markdown_label.specs.LabelFields.{barred_by, begun, with_kind, labelled}
use Rattle.markdown_label.specs.LabelEnd.{end_made, end_tree, made, lost_by, Ends}
use Rattle.markdown_label_names.specs.LabelNames.{point_or, place_at}
use Rattle.markdown_label.specs.KeptStarts.{StandFor, KeepsStarts}
use Rattle.markdown_label.proofs.LabelEndLemmas.{cursor-before, events-before, scratch-before}
use Rattle.markdown_label.proofs.KeptStartStack.{starts-start, starts-made, starts-lost}
use Rattle.markdown_leaf.specs.RawText.{code_just_before}
use Rattle.markdown_model.specs.SingleConstructs.{is_escape, follows_escape}
use Rattle.markdown_model.specs.CodeTests.{last_code}
use Rattle.markdown_model.specs.Elements.{Choice, AreElementsFrom, ends_escaped}
use Rattle.markdown_model.specs.LabelEnd.{Element, starts, ends}
use Rattle.markdown_model.specs.Grammar.{until}
use Rattle.markdown_model.specs.Laws.{unused_starts}
use Rattle.markdown_model.specs.TextLines.{data_up_to, line_leaves, lines_of}
use Rattle.markdown_model.specs.Passes.{start_tree}
use Rattle.markdown_passes.specs.DataOnLines.{HasLines}
use Rattle.markdown_label.specs.AfterLabel.{IsTail}
use Rattle.markdown_run_text.specs.RunOverElements.{AreReadAsData, StandsAfter, Advances}
use Rattle.markdown_run_text.specs.Row.{Mark, begins, makes, loses, row_end, row_then, past_tree, past_mark, past_row, mark_codes, kinds_of, IsFront, IsStartMarker, IsMade, IsMarkAt, split_row, row_of_elements, HasElementCodes}
use Rattle.markdown_run_text.specs.RowTreeNames.{IsRowPart}
use Rattle.markdown_run_text.proofs.ElementSteps.{DataRead, data-read, group-escaped, last-some, fewer-left, one-element, kept-tree, leaf_elements, have-leaves, data-next, past_elements, past_code, ElementsOfData, stands-behind, follow-behind, data-alike, leaves-first}
use Rattle.markdown_run_text.proofs.PastTrees.{past_tree-empty}
use Rattle.markdown_run_text.specs.ElementsAsRead.{source_of}

pub empty-part : IsRowPart empty
empty-part = record { lines = tt; outer = tt; apart = λ n. refl }

-- a mark by itself
pub mark-alone : (mark : Mark) (T : Tokenizer) → past_mark mark T ≡ past_row (row_then empty mark (row_end empty)) T
mark-alone mark T = grind (arith, past_tree-empty)

-- past a mark that is an element
mark-advances : (choice : Choice) (mark : Mark) (e : Element) (T U : Tokenizer) → U ≡ past_mark mark T → IsMarkAt (kinds_of T) mark → row_of_elements (e ∷ []) ≡ row_then empty mark (row_end empty) → 1 ≤ length (mark_codes mark) → ahead T ≡ mark_codes mark ++ ahead U → code_just_before U ≡ last_code (mark_codes mark) → HasElementCodes e
    → ((earlier : List Element) → follows_escape U.events ≡ ends_escaped (e ∷ earlier))
    → ((earlier : List Element) → KeepsStarts earlier T → KeepsStarts (e ∷ earlier) U)
    → ((earlier : List Element) (previous : Option Code) → StandsAfter earlier previous T → choice earlier previous (ahead T) ≡ Some (e, ahead U))
    → Advances choice T U
mark-advances choice mark e T U left is row some whole before has escaped keeps finds =
    record {
      row = row_then empty mark (row_end empty);
      is_row = (empty-part, (is, empty-part));
      left = left ∙ mark-alone mark T;
      whole = whole ∙ ap (λ xs. xs ++ ahead U) (sym (append-nil (mark_codes mark)));
      less = fewer-left T U (mark_codes mark) some whole;
      elements = λ earlier previous stands.
          one-element choice earlier previous (row_then empty mark (row_end empty)) T U e (mark_codes mark) some whole before (escaped earlier) (keeps earlier stands.keeps) (finds earlier previous stands) has (ap split_row (sym row));
    }

-- Starts.

get-there : {A : Type 0} → (xs : List A) (y : A) → slice_get (xs ++ y ∷ []) (length xs) ≡ Some y
get-there [] y = refl
get-there (x ∷ xs) y = get-there xs y

-- its events are those of a group, which ends where its codes end
record StartShape (kind : LabelKind) (marker : List Code) : Type 0 where
  name : Name
  from : _
  inside : Forest
  is : start_tree kind marker ≡ group_then name from (stop_of document_start marker) inside empty
  plainly : is_escape name ≡ false
  some : 1 ≤ length marker
  codes : leaf_codes (start_tree kind marker) ≡ marker

start-shape : (kind : LabelKind) (marker : List Code) → IsFront kind marker → StartShape kind marker
start-shape LabelKind.Link marker h =
    subst (λ cs. StartShape LabelKind.Link cs) (sym h.1) (record { name = N.LabelLink; from = _; inside = _; is = refl; plainly = refl; some = omega arith; codes = refl })
start-shape LabelKind.Image marker h =
    subst (λ cs. StartShape LabelKind.Image cs) (sym h.1.1) (record { name = N.LabelImage; from = _; inside = _; is = refl; plainly = refl; some = omega arith; codes = refl })
start-shape LabelKind.GfmFootnote marker h =
    subst (λ cs. StartShape LabelKind.GfmFootnote cs) (sym h.1.1) (record { name = N.GfmFootnoteCallLabel; from = _; inside = _; is = refl; plainly = refl; some = omega arith; codes = refl })
start-shape LabelKind.GfmUndefinedFootnote marker h = absurd h

-- where the last event of a group stands
record LastPlace (all : List Event) (b : _) : Type 0 where
  within : length all - 1 < length all
  place : place_at all (length all - 1) ≡ b

last-place : (es : List Event) (n : ℕ) (name : Name) (a b : _) (inside : Forest) →
    LastPlace (es ++ appended_from n None (group_then name a b inside empty)) b
last-place es n name a b inside =
    let A : List Event = appended_from (n + 1) None inside in
    let front : List Event = es ++ event Kind.Enter name a ∷ A in
    let close : Event = event Kind.Exit name b in
    let whole : es ++ (event Kind.Enter name a ∷ (A ++ close ∷ [])) ≡ front ++ close ∷ [] = sym (append_assoc es (event Kind.Enter name a ∷ A) (close ∷ [])) in
    let long : length (front ++ close ∷ []) ≡ length front + 1 = length-append front (close ∷ []) in
    let number : length (front ++ close ∷ []) - 1 ≡ length front = omega (arith, long) in
    subst (λ all. LastPlace all b) (sym whole)
    (record { within = omega (arith, long); place = ap (place_at (front ++ close ∷ [])) number ∙ ap point_or (get-there front close) })

start-events : (kind : LabelKind) (marker : List Code) (T : Tokenizer) →
    (past_mark (begins kind marker) T).events ≡ T.events ++ appended_from (length T.events) None (start_tree kind marker)
unfolding past_mark past scratched
start-events kind marker T = events-before R.Label _

start-fields : (kind : LabelKind) (marker : List Code) (T : Tokenizer)
    → (past_mark (begins kind marker) T).tokenize_state
    ≡ (let es : List Event = T.events ++ appended_from (length T.events) None (start_tree kind marker) in begun kind (length es - event_count (start_tree kind marker)) (length es - 1) T.tokenize_state)
unfolding past_mark past scratched
start-fields kind marker T = scratch-before R.Label _

start-cursor : (kind : LabelKind) (marker : List Code) (T : Tokenizer) →
    (past_mark (begins kind marker) T).cursor ≡ moved_by (leaf_codes (start_tree kind marker)) T.cursor
unfolding past_mark past scratched
start-cursor kind marker T = cursor-before R.Label _

start-keeps : (kind : LabelKind) (marker : List Code) (T : Tokenizer) (earlier : List Element) →
    StartShape kind marker → KeepsStarts earlier T →
    KeepsStarts (starts kind marker ∷ earlier) (past_mark (begins kind marker) T)
start-keeps kind marker T earlier k keeps =
    let t : Forest = start_tree kind marker in
    let more : List Event = appended_from (length T.events) None t in
    let all : List Event = T.events ++ more in
    let end : LastPlace all (stop_of document_start marker) =
    subst (λ x. LastPlace (T.events ++ appended_from (length T.events) None x) (stop_of document_start marker)) (sym k.is) (last-place T.events (length T.events) k.name k.from (stop_of document_start marker) k.inside) in
    subst (λ es. StandFor es (unused_starts (starts kind marker ∷ earlier)) (past_mark (begins kind marker) T).tokenize_state.label_starts) (sym (start-events kind marker T))
    (subst (λ (q : TokenizeState). StandFor all (unused_starts (starts kind marker ∷ earlier)) q.label_starts) (sym (start-fields kind marker T))
    (starts-start earlier kind marker T.events more T.tokenize_state.label_starts (length all - event_count t) (length all - 1) keeps end.within end.place))

-- the place behind it
pub start-moves : (kind : LabelKind) (marker : List Code) (T : Tokenizer) → IsFront kind marker →
    (past_mark (begins kind marker) T).cursor ≡ moved_by marker T.cursor
start-moves kind marker T h = grind (arith, start-cursor, start-shape)

some-marker : (marker : List Code) → 1 ≤ length marker → marker ≢ []
some-marker marker h = grind arith

-- past the start of a label
pub start-advances : (choice : Choice) (kind : LabelKind) (marker : List Code) (T U : Tokenizer) → IsStartMarker kind marker → U ≡ past_mark (begins kind marker) T → ahead T ≡ marker ++ ahead U
    → ((earlier : List Element) (previous : Option Code) → StandsAfter earlier previous T → choice earlier previous (ahead T) ≡ Some (starts kind marker, ahead U)) → Advances choice T U
start-advances choice kind marker T U is left whole finds = grind (arith, start-shape kind marker, mark-advances choice (begins kind marker) (starts kind marker) T U, start-moves kind marker T, last-some marker (ahead U) T.cursor, some-marker marker, start-events kind marker T, group-escaped T.events (length T.events), start-keeps kind marker T)

-- Ends that make a label.

none-barred : (b : Bool) → ◌≡◌ {A = List Kept.LabelStart} [] (if b then [] else [])
none-barred b = grind arith

made-starts : (kind : LabelKind) (ls : List Kept.LabelStart) (n : ℕ) (s : TokenizeState) →
    s.label_starts ≡ with_kind kind ls → (labelled (with_kind kind ls) n s).label_starts ≡ barred_by kind (rest_of ls)
made-starts kind ls n s e = grind (arith, none-barred)

pub end-events : (back : List Code) (kind : LabelKind) (tail : Forest) (T : Tokenizer)
    → (end_made back kind tail T).events ≡ T.events ++ (appended_from (length T.events) None (end_tree back) ++ appended_from (length (T.events ++ appended_from (length T.events) None (end_tree back))) None tail)
unfolding end_made made past scratched
end-events back kind tail T = events-before R.Label _ ∙ append_assoc T.events _ _

pub end-starts : (back : List Code) (kind : LabelKind) (tail : Forest) (T : Tokenizer) →
    (end_made back kind tail T).tokenize_state.label_starts ≡ barred_by kind (rest_of T.tokenize_state.label_starts)
unfolding end_made made past scratched
end-starts back kind tail T = grind (arith, scratch-before, made-starts)

end-cursor : (back : List Code) (kind : LabelKind) (tail : Forest) (T : Tokenizer) →
    (end_made back kind tail T).cursor ≡ moved_by (leaf_codes tail) (moved_by (leaf_codes (end_tree back)) T.cursor)
unfolding end_made made past scratched
end-cursor back kind tail T = cursor-before R.Label _

end-keeps : (back : List Code) (kind : LabelKind) (tail : Forest) (T : Tokenizer) (earlier : List Element) →
    KeepsStarts earlier T → KeepsStarts (ends back (Some (kind, tail)) ∷ earlier) (end_made back kind tail T)
end-keeps back kind tail T earlier keeps = grind (arith, end-events back kind tail T, end-starts back kind tail T, starts-made earlier back kind tail T.events)

tail-escaped : (es : List Event) (n m : ℕ) (back : List Code) (tail : Forest) → IsTail tail →
    follows_escape (es ++ (appended_from n None (end_tree back) ++ appended_from m None tail)) ≡ false
tail-escaped es n m back empty h = grind (arith, group-escaped)
tail-escaped es n m back (leaf_then name link cs rest) h = absurd h
tail-escaped es n m back (group_then name a b inside rest) h =
    ap follows_escape (sym (append_assoc es (appended_from n None (end_tree back)) (appended_from m None (group_then name a b inside rest))))
    ∙ ap (λ x. follows_escape ((es ++ appended_from n None (end_tree back)) ++ appended_from m None (group_then name a b inside x))) h.1
    ∙ group-escaped (es ++ appended_from n None (end_tree back)) m name a b inside
    ∙ h.0

end-codes : (back : List Code) → leaf_codes (end_tree back) ≡ back
end-codes back = append-nil (leaf_codes (leaf N.LabelMarker back)) ∙ codes-leaf N.LabelMarker back

-- the place behind it
pub end-moves : (back : List Code) (kind : LabelKind) (tail : Forest) (T : Tokenizer) →
    (end_made back kind tail T).cursor ≡ moved_by (back ++ leaf_codes tail) T.cursor
end-moves back kind tail T = grind (arith, end-cursor, moved_by-append, end-codes)

has-tail : (t : Forest) → HasLines t → HasCodes t
has-tail empty h = tt
has-tail (leaf_then name link cs rest) h = (λ e l. (h.0 e l).0, has-tail rest h.1)
has-tail (group_then name a b inside rest) h = (has-tail inside h.1.0, has-tail rest h.1.1)

some-back : (back : List Code) (c : Code) (more : List Code) → back ≡ c ∷ [] → 1 ≤ length (back ++ more)
some-back back c more e = omega (arith, length-append back more, ap length e)

-- past the end of a label
pub end-advances : (choice : Choice) (T U : Tokenizer) (k : Ends T U) → IsMade (kinds_of T) k.back k.kind k.tail
    → ((earlier : List Element) (previous : Option Code) → StandsAfter earlier previous T → choice earlier previous (ahead T) ≡ Some (ends k.back (Some (k.kind, k.tail)), k.rest)) → Advances choice T U
unfolding past_mark
end-advances choice T U k is finds = grind (arith, some-back k.back is.code (leaf_codes k.tail), mark-advances choice (makes k.back k.kind k.tail) (ends k.back (Some (k.kind, k.tail))) T U, end-moves k.back k.kind k.tail T, last-some (k.back ++ leaf_codes k.tail) (ahead U) T.cursor, has-tail k.tail, end-events k.back k.kind k.tail T, tail-escaped T.events, end-keeps k.back k.kind k.tail T)

-- Ends that make none, with the data behind them.

lost-fields : (ls : List Kept.LabelStart) (s : TokenizeState) → s.label_starts ≡ ls →
    (lost_by ls s).label_starts ≡ rest_of ls
lost-fields ls s e = grind (arith, rest-lost)

pub lost-starts : (T : Tokenizer) →
    (past_mark loses T).tokenize_state.label_starts ≡ rest_of T.tokenize_state.label_starts
unfolding past_mark scratched
lost-starts T = lost-fields T.tokenize_state.label_starts T.tokenize_state refl

lost-ahead : (T : Tokenizer) → ahead (past_mark loses T) ≡ ahead T
unfolding past_mark scratched
lost-ahead T = refl

lost-keeps : (back : List Code) (T : Tokenizer) (earlier : List Element) → KeepsStarts earlier T →
    KeepsStarts (ends back None ∷ earlier) (past_mark loses T)
unfolding past_mark scratched
lost-keeps back T earlier keeps =
    subst (λ ls. StandFor T.events (unused_starts (ends back None ∷ earlier)) ls) (sym (lost-starts T))
    (subst (λ es. StandFor es (unused_starts (ends back None ∷ earlier)) (rest_of T.tokenize_state.label_starts)) (append-nil T.events) (starts-lost earlier back T.events [] T.tokenize_state.label_starts keeps))

lost-alike : (c : Code) (cs : List Code) (t : Forest) → is_line_ending c ≡ false → t ≡ line_leaves N.Data (lines_of (c ∷ cs))
    → split_row (row_then empty loses (row_end t)) ≡ split_row (row_of_elements (ends (c ∷ []) None ∷ leaf_elements cs))
lost-alike c cs t plainly e = grind (arith, data-alike (c ∷ cs), leaves-first c cs, leaf_elements)

-- past the `]` of an end that makes none, and the data that it begins
pub lost-advances : (choice : Choice) (stops : List Code → Bool) (T U : Tokenizer) (c : Code) (cs : List Code) → ahead T ≡ c ∷ cs → is_line_ending c ≡ false → (let L : Tokenizer = past_mark loses T in Reads (data_up_to stops) None L.tokenize_state L U)
    → ((earlier : List Element) (previous : Option Code) → StandsAfter earlier previous T → choice earlier previous (c ∷ cs) ≡ Some (ends (c ∷ []) None, cs))
    → AreReadAsData (source_of T) choice stops (c ∷ cs) → Advances choice T U
lost-advances choice stops T U c cs whole plainly k first others =
    let L : Tokenizer = past_mark loses T in
    let d : DataRead stops L U c cs = data-read stops L U c cs (lost-ahead T ∙ whole) k in
    let s : List Code × List Code = until stops cs in
    let covers : ahead T ≡ leaf_codes d.tree ++ ahead U = sym (lost-ahead T) ∙ d.whole in
    record {
      row = row_then empty loses (row_end d.tree);
      is_row = (empty-part, (tt, d.part));
      left = d.left ∙ ap (λ (x : Tokenizer). past_tree d.tree (past_mark loses x)) (past_tree-empty T);
      whole = covers;
      less = fewer-left T U (leaf_codes d.tree) d.some covers;
      elements = λ earlier previous stands.
          let lost : Element = ends (c ∷ []) None in
          let next : List Element = lost ∷ earlier in
          let more : ElementsOfData (source_of T) choice next (Some c) cs s.0 (ahead U) = follow-behind (source_of T) choice stops L U c cs d next others in
          record {
            elements = lost ∷ more.elements;
            later = past_elements next more.elements;
            last = past_code (Some c) s.0;
            stands = stands-behind stops L U c cs d (source_of T) next more.elements more.read_as refl (kept-tree d.tree L U d.left next (lost-keeps (c ∷ []) T earlier stands.keeps));
            follow = λ es h.
                subst (λ xs. AreElementsFrom choice earlier previous xs ((lost ∷ more.elements) ++ es)) (sym whole)
                (data-next choice earlier previous lost c cs (more.elements ++ es) (first earlier previous stands) (more.follow es h));
            read = lost ∷ leaf_elements s.0;
            read_as = (inl refl, more.read_as);
            have_codes = ((λ e. cc), have-leaves s.0);
            alike = lost-alike c s.0 d.tree plainly d.alike;
          };
    }
