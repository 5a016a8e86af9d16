-- From one element of a content to the next.
use Rattle.std.proofs.Common.{◌≡◌, ◌≢◌, ℕ, ◌+◌, ◌<◌, ◌≤◌, Bool, true, false, not, ◌&&◌, ◌||◌, List, [], ◌∷◌, ◌++◌, length, Option, None, Some, refl, sym, ap, subst, ◌∙◌, arith, length-append, append_assoc, append-nil, inl}
use Rattle.std.specs.Prelude.{map}
use Rattle.markdown_run_text.proofs.RowScratch.{kinds-row, row-input, row-content}
use Rattle.std.specs.List.{list_any}
use Rattle.markdown_content.specs.Codes.{Code, is_line_ending, document_start, stop_of}
use Rattle.markdown_content.specs.ListFunctions.{rest_of}
use Rattle.markdown_engine.specs.Operations.{ahead, current_of, registered}
use Rattle.markdown_content.specs.Place.{Place, last_of, moved, ahead_at}
use Rattle.markdown_engine.specs.PastTree.{TreeReading, Reads, past, last_link, moved_by, appended_from}
use Rattle.markdown_content.specs.Tree.{Forest, empty, leaf, leaf_then, group_then, ◌⊕◌, leaf_codes, event, start_of}
use Rattle.markdown_engine.specs.Weights.{codes_left}
use Rattle.markdown_event.specs.declared.event.Event.{Event}
use Rattle.markdown_event.specs.declared.event.Kind.TheVariants as Kind
use Rattle.markdown_event.specs.declared.event.Name.{Name}
use Rattle.markdown_event.specs.declared.event.Name.TheVariants as N
use Rattle.markdown_engine.specs.declared.tokenizer.Tokenizer.{Tokenizer}
use Rattle.markdown_engine.proofs.ReadingSequences.{row-empty, scratched-same}
use Rattle.markdown_content.proofs.PlaceRules.{ahead-moved}
use Rattle.markdown_engine.proofs.OperationFields.{ahead-none, current-ahead, first-drop, left-ahead}
use Rattle.markdown_event.specs.declared.resolve.ResolveName.TheVariants as R
use Rattle.markdown_leaf.specs.RawText.{code_just_before}
use Rattle.markdown_model.specs.SingleConstructs.{ends_escape, follows_escape, is_escape}
use Rattle.markdown_plan.proofs.FirstStretch.{BeginsWith, stretches-begin}
use Rattle.markdown_model.proofs.GrammarSteps.{both-parts}
use Rattle.markdown_model.specs.CodeTests.{next_is, last_code}
use Rattle.markdown_model.specs.Elements.{Choice, AreElementsFrom, code_before, ends_escaped}
use Rattle.markdown_model.specs.Grammar.{until}
use Rattle.markdown_model.specs.LabelEnd.{Element, plain, starts, ends}
use Rattle.markdown_model.specs.TextLines.{linked_leaf, data_up_to, line_leaf, line_leaves, lines_of, onto_stretch, code_leaf}
use Rattle.markdown_model.proofs.StringTreeIsElements.{code_leaves}
use Rattle.markdown_model.proofs.DefinitionSteps.{code_before-append}
use Rattle.markdown_model.proofs.LeafCodes.{until-append}
use Rattle.markdown_run_text.specs.ElementsAsRead.{IsReadAs, AreReadAs, Source, source_of}
use Rattle.markdown_run_text.specs.RunOverElements.{AreSingle, AreReadAsData, StandsAfter, ReadsRow, Advances, AllElements, Finishes}
use Rattle.markdown_run_text.specs.Row.{Row, row_end, tree_onto, joined_rows, past_tree, past_row, row_codes, kinds_of, split_row, row_of_elements, element_onto, HasElementCodes, HaveCodes, IsRowAt}
use Rattle.markdown_run_text.specs.RowTreeNames.{HasRowLines, HasOuterRuns, IsRowPart, IsRunless, IsRunLeaf, IsSingle, IsNode}
use Rattle.markdown_run_text.proofs.ConstructNodes.{quiet-lines-of, quiet-node-unlinked}
use Rattle.markdown_run_text.proofs.RowJoins.{HasLines-row, past-joined, codes-joined, split-joined, onto-joined, row-joined}
use Rattle.markdown_run_text.proofs.PastTrees.{past_tree-without, past_tree-empty, past_tree-with, ahead-registered, quiet-no-run, quiet-outer, runless-no-run, runless-outer}
use Rattle.markdown_run_text.specs.CutData.{split, HasCodes}
use Rattle.markdown_label.specs.KeptStarts.{KeepsStarts}
use Rattle.markdown_label.proofs.KeptStartStack.{starts-plain}
use Rattle.markdown_model.specs.Laws.{unused_starts}
use Rattle.markdown_run_text.proofs.LinesCutAlike.{lines-cut}

-- Rows.

pub elements-append : (es fs : List Element) →
    row_of_elements (es ++ fs) ≡ joined_rows (row_of_elements es) (row_of_elements fs)
elements-append [] fs = grind arith
elements-append (plain t ∷ es) fs = grind (arith, onto-joined, elements-append es fs)
elements-append (starts kind marker ∷ es) fs = ap (element_onto (starts kind marker)) (elements-append es fs)
elements-append (ends marker None ∷ es) fs = grind (arith, onto-joined, elements-append es fs)
elements-append (ends marker (Some outcome) ∷ es) fs = grind (arith, elements-append es fs)

have-append : (es fs : List Element) → HaveCodes es → HaveCodes fs → HaveCodes (es ++ fs)
have-append [] fs h k = k
have-append (e ∷ es) fs h k = (h.0, have-append es fs h.1 k)

read-append : (source : Source) (es fs gs hs : List Element) → AreReadAs source es fs → AreReadAs source gs hs →
    AreReadAs source (es ++ gs) (fs ++ hs)
read-append source [] [] gs hs h k = k
read-append source (e ∷ es) (f ∷ fs) gs hs h k = (h.0, read-append source es fs gs hs h.1 k)
read-append source [] (f ∷ fs) gs hs h k = absurd h
read-append source (e ∷ es) [] gs hs h k = absurd h

-- After an advance.

elements-all : (choice : Choice) (earlier : List Element) (previous : Option Code) (r q : Row) (T U : Tokenizer) →
    (k : ReadsRow choice earlier previous r T U) → AllElements (source_of T) choice k.later k.last q (ahead U) →
    AllElements (source_of T) choice earlier previous (joined_rows r q) (ahead T)
elements-all choice earlier previous r q T U k a = grind (arith, read-append (source_of T) k.elements k.read a.elements a.read, have-append k.read a.read, split-joined r q, split-joined (row_of_elements k.read) (row_of_elements a.read), elements-append k.read a.read)

-- a row leaves what is read as it is
source-past : (row : Row) (T : Tokenizer) → source_of (past_row row T) ≡ source_of T
source-past row T = λ i. record { bytes = (row-input row T i).now.bytes.now; content = row-content row T i }

-- what follows an advance, follows from before it
pub advances-finishes : (choice : Choice) (passed : Tokenizer → Tokenizer) (T U V : Tokenizer) → Advances choice T U →
    Finishes choice passed U V → Finishes choice passed T V
advances-finishes choice passed T U V p k =
    record {
      row = joined_rows p.row k.row;
      is_row = row-joined (kinds_of T) p.row k.row p.is_row (subst (λ ks. IsRowAt ks k.row) (ap kinds_of p.left ∙ kinds-row p.row T) k.is_row);
      whole = codes-joined p.row k.row ∙ ap (λ x. row_codes p.row ++ x) k.whole ∙ sym p.whole;
      left = k.left ∙ ap (λ (x : Tokenizer). passed (past_row k.row x)) p.left ∙ ap passed (past-joined (kinds_of T) p.row k.row T p.is_row);
      elements = λ earlier previous s.
          let e = p.elements earlier previous s in
          let same : source_of U ≡ source_of T = ap (λ (x : Tokenizer). source_of x) p.left ∙ source-past p.row T in
          elements-all choice earlier previous p.row k.row T U e (subst (λ (x : Source). AllElements x choice e.later e.last k.row (ahead U)) same (k.elements e.later e.last e.stands));
    }

-- at the content's end
pub finishes-end : (choice : Choice) (passed : Tokenizer → Tokenizer) (T U : Tokenizer) → current_of T ≡ None →
    U ≡ passed T → Finishes choice passed T U
finishes-end choice passed T U e left =
    record {
      row = row_end empty;
      is_row = record { lines = tt; outer = tt; apart = λ n. refl };
      whole = sym (ahead-none T e);
      left = left ∙ ap passed (past_tree-empty T);
      elements = λ earlier previous s. record { elements = []; are = ahead-none T e; read = []; read_as = tt; have_codes = tt; alike = refl };
    }

-- Places past a tree.

code-there : (p : Place) (c : Code) (rest : List Code) → ahead_at p ≡ c ∷ rest →
    last_of (moved p).codes (moved p).at ≡ Some c
unfolding ahead_at moved
code-there p c rest e = grind (arith, first-drop)

-- past some codes, the last of them stands before
last-moved : (c : Code) (cs rest : List Code) (p : Place) → ahead_at p ≡ (c ∷ cs) ++ rest →
    last_of (moved_by (c ∷ cs) p).codes (moved_by (c ∷ cs) p).at ≡ last_code (c ∷ cs)
last-moved c [] rest p e = code-there p c rest e
last-moved c (d ∷ cs) rest p e = last-moved d cs rest (moved p) (ahead-moved p ∙ ap rest_of e)

pub last-some : (ws rest : List Code) (p : Place) → 1 ≤ length ws → ahead_at p ≡ ws ++ rest →
    last_of (moved_by ws p).codes (moved_by ws p).at ≡ last_code ws
last-some [] rest p h e = absurd (omega arith)
last-some (c ∷ cs) rest p h e = last-moved c cs rest p e

pub before-past : (t : Forest) (rest : List Code) (T U : Tokenizer) → 1 ≤ length (leaf_codes t) →
    ahead T ≡ leaf_codes t ++ rest → U ≡ past_tree t T → code_just_before U ≡ last_code (leaf_codes t)
unfolding past past_tree
before-past t rest T U h e left = ap code_just_before left ∙ last-some (leaf_codes t) rest T.cursor h e

follows-last : (es : List Event) (x : Event) → follows_escape (es ++ x ∷ []) ≡ ends_escape x
follows-last [] x = refl
follows-last (e ∷ []) x = refl
follows-last (e ∷ f ∷ es) x = follows-last (f ∷ es) x

pub follows-these : (es xs : List Event) (x : Event) → follows_escape (es ++ (xs ++ x ∷ [])) ≡ ends_escape x
follows-these es xs x = ap follows_escape (sym (append_assoc es xs (x ∷ []))) ∙ follows-last (es ++ xs) x

pub events-past : (t : Forest) (T U : Tokenizer) → U ≡ past_tree t T →
    U.events ≡ T.events ++ appended_from (length T.events) None t
unfolding past past_tree
events-past t T U e = ap (λ (x : Tokenizer). x.events) e

-- Data.

pub leaf_elements : List Code → List Element
leaf_elements cs = map (λ (c : Code). plain (code_leaf c)) cs

-- the elements before, past these elements, and the code before, past these codes
pub past_elements : List Element → List Element → List Element
past_elements earlier [] = earlier
past_elements earlier (e ∷ es) = past_elements (e ∷ earlier) es

pub past_code : Option Code → List Code → Option Code
past_code previous [] = previous
past_code previous (c ∷ cs) = past_code (Some c) cs

-- one more code
pub data-next : (choice : Choice) (earlier : List Element) (previous : Option Code) (e : Element) (c : Code) (cs : List Code) (es : List Element) →
    choice earlier previous (c ∷ cs) ≡ Some (e, cs) → AreElementsFrom choice (e ∷ earlier) (Some c) cs es →
    AreElementsFrom choice earlier previous (c ∷ cs) (e ∷ es)
data-next choice earlier previous e c cs es h k = grind (arith, code_before-append)

-- an element by itself is read as itself
pub single-read : (source : Source) (choice : Choice) (stops : List Code → Bool) (whole : List Code) → AreSingle choice stops whole → AreReadAsData source choice stops whole
single-read source choice stops whole single front earlier previous c cs e free =
    (plain (code_leaf c), (single front earlier previous c cs e free, inl refl))

-- what is said of each code, is said of those behind the first
read-behind : (source : Source) (choice : Choice) (stops : List Code → Bool) (c : Code) (cs : List Code) →
    AreReadAsData source choice stops (c ∷ cs) → AreReadAsData source choice stops cs
read-behind source choice stops c cs others front earlier previous d ds e free =
    others (c ∷ front) earlier previous d ds (ap (λ xs. c ∷ xs) e) free

-- the elements of these codes, each read as data, and those that follow behind them, where these codes are left
pub record ElementsOfData (source : Source) (choice : Choice) (earlier : List Element) (previous : Option Code) (cs these left : List Code) : Type 0 where
  pub elements : List Element
  pub read_as : AreReadAs source elements (leaf_elements these)
  pub follow : (es : List Element) → AreElementsFrom choice (past_elements earlier elements) (past_code previous these) left es → AreElementsFrom choice earlier previous cs (elements ++ es)

no-data : (source : Source) (choice : Choice) (earlier : List Element) (previous : Option Code) (cs : List Code) →
    ElementsOfData source choice earlier previous cs [] cs
unfolding leaf_elements past_elements past_code
no-data source choice earlier previous cs = record { elements = []; read_as = tt; follow = λ es h. h }

more-data : (source : Source) (choice : Choice) (earlier : List Element) (previous : Option Code) (e : Element) (c : Code) (cs these left : List Code) → choice earlier previous (c ∷ cs) ≡ Some (e, cs) → IsReadAs source e (plain (code_leaf c))
    → ElementsOfData source choice (e ∷ earlier) (Some c) cs these left → ElementsOfData source choice earlier previous (c ∷ cs) (c ∷ these) left
unfolding leaf_elements past_elements past_code
more-data source choice earlier previous e c cs these left h a k =
    record { elements = e ∷ k.elements; read_as = (a, k.read_as); follow = λ es f. data-next choice earlier previous e c cs (k.elements ++ es) h (k.follow es f) }

data-others : (source : Source) (choice : Choice) (stops : List Code → Bool) (earlier : List Element) (previous : Option Code) (cs : List Code) →
    AreReadAsData source choice stops cs →
    ElementsOfData source choice earlier previous cs (until stops cs).0 (until stops cs).1
data-others source choice stops earlier previous [] others = no-data source choice earlier previous []
data-others source choice stops earlier previous (c ∷ cs) others =
    let s : List Code × List Code = until stops cs in
    let cut : Bool → List Code × List Code = λ b. elim b [ true ↦ ([], c ∷ cs) | false ↦ (c ∷ s.0, s.1) ] in
    elim (stops (c ∷ cs)) as (λ b. stops (c ∷ cs) ≡ b → ElementsOfData source choice earlier previous (c ∷ cs) (cut b).0 (cut b).1) [
      | true ↦ λ e. no-data source choice earlier previous (c ∷ cs)
      | false ↦ λ e.
          let here = others [] earlier previous c cs refl e in
          more-data source choice earlier previous here.0 c cs s.0 s.1 here.1.0 here.1.1 (data-others source choice stops (here.0 ∷ earlier) (Some c) cs (read-behind source choice stops c cs others))
    ] refl

-- no escape stands before, past a code
unescaped-leaf : (b : Bool) (c : Code) (earlier : List Element) →
    ends_escaped (plain (elim b as (λ _. Forest) [ true ↦ leaf N.LineEnding (c ∷ []) | false ↦ leaf N.Data (c ∷ []) ]) ∷ earlier) ≡ false
unescaped-leaf b c earlier = grind arith

unescaped-read : (source : Source) (e : Element) (c : Code) (earlier : List Element) → IsReadAs source e (plain (code_leaf c)) →
    ends_escaped (e ∷ earlier) ≡ false
unescaped-read source e c earlier h = grind (arith, unescaped-leaf)

-- nor past elements that are read as data
unescaped-past : (source : Source) (earlier es : List Element) (cs : List Code) → AreReadAs source es (leaf_elements cs) →
    ends_escaped earlier ≡ false → ends_escaped (past_elements earlier es) ≡ false
unfolding leaf_elements past_elements
unescaped-past source earlier [] [] h e = e
unescaped-past source earlier (x ∷ es) (c ∷ cs) h e = grind (arith, unescaped-read, unescaped-past source (x ∷ earlier) es cs)
unescaped-past source earlier [] (c ∷ cs) h e = absurd h
unescaped-past source earlier (x ∷ es) [] h e = absurd h

-- The leaf of a stretch, by what its first code is.

leaf_by : Bool → List Code → Forest
leaf_by b cs = elim b [ true ↦ linked_leaf N.LineEnding None cs | false ↦ linked_leaf N.Data None cs ]

line-leaf : (b : Bool) (c : Code) (cs : List Code) → is_line_ending c ≡ b →
    line_leaf N.Data None (c ∷ cs) ≡ leaf_by b (c ∷ cs)
unfolding leaf_by
line-leaf b c cs e = ap (λ x. leaf_by x (c ∷ cs)) e

-- The last event of data is not the end of an escape.

unescaped-event : (b : Bool) (es : List Event) (n : ℕ) (c : Code) (cs : List Code) →
    follows_escape (es ++ appended_from n None (leaf_by b (c ∷ cs))) ≡ false
unfolding leaf_by
unescaped-event b es n c cs = grind (arith, follows-these es (event Kind.Enter N.LineEnding (start_of (c ∷ cs)) ∷ []) (event Kind.Exit N.LineEnding (stop_of document_start (c ∷ cs))), follows-these es (event Kind.Enter N.Data (start_of (c ∷ cs)) ∷ []) (event Kind.Exit N.Data (stop_of document_start (c ∷ cs))))

leaf-row : (b : Bool) (n : ℕ) (c : Code) (cs : List Code) (rest : Forest) →
    appended_from n None (leaf_by b (c ∷ cs) ⊕ rest) ≡ appended_from n None (leaf_by b (c ∷ cs)) ++ appended_from (n + 2) None rest
unfolding leaf_by
leaf-row b n c cs rest = grind arith

first-unescaped : (es : List Event) (n : ℕ) (c : Code) (cs : List Code) (ss : List (List Code)) →
    ((fs : List Event) → follows_escape fs ≡ false → follows_escape (fs ++ appended_from (n + 2) None (line_leaves N.Data ss)) ≡ false) →
    follows_escape (es ++ appended_from n None (line_leaves N.Data ((c ∷ cs) ∷ ss))) ≡ false
first-unescaped es n c cs ss more =
    let b : Bool = is_line_ending c in
    let first : List Event = appended_from n None (leaf_by b (c ∷ cs)) in
    let rest : Forest = line_leaves N.Data ss in
    ap (λ x. follows_escape (es ++ appended_from n None (x ⊕ rest))) (line-leaf b c cs refl)
    ∙ ap (λ xs. follows_escape (es ++ xs)) (leaf-row b n c cs rest)
    ∙ ap follows_escape (sym (append_assoc es first (appended_from (n + 2) None rest)))
    ∙ more (es ++ first) (unescaped-event b es n c cs)

lines-unescaped : (es : List Event) (n : ℕ) (ss : List (List Code)) → follows_escape es ≡ false →
    follows_escape (es ++ appended_from n None (line_leaves N.Data ss)) ≡ false
lines-unescaped es n [] e = ap follows_escape (append-nil es) ∙ e
lines-unescaped es n ([] ∷ ss) e = lines-unescaped es n ss e
lines-unescaped es n ((c ∷ cs) ∷ ss) e = first-unescaped es n c cs ss (λ fs h. lines-unescaped fs (n + 2) ss h)

data-unescaped : (es : List Event) (n : ℕ) (c : Code) (cs : List Code) →
    follows_escape (es ++ appended_from n None (line_leaves N.Data (lines_of (c ∷ cs)))) ≡ false
data-unescaped es n c cs =
    let b : BeginsWith c (lines_of (c ∷ cs)) = stretches-begin (λ x. true) c cs in
    ap (λ ss. follows_escape (es ++ appended_from n None (line_leaves N.Data ss))) b.whole
    ∙ first-unescaped es n c b.more b.others (λ fs h. lines-unescaped fs (n + 2) b.others h)

-- Each stretch of data is a line ending, or holds none.

abbrev AreOnLines : List (List Code) → Type 0
AreOnLines [] = Unit {0}
AreOnLines (s ∷ ss) = (next_is is_line_ending s ≡ false → list_any is_line_ending s ≡ false) × AreOnLines ss

any-one : (c : Code) → is_line_ending c ≡ false → list_any is_line_ending (c ∷ []) ≡ false
any-one c e = ap (λ b. b || false) e

lines-joined : (a b : Bool) (c d : Code) (ds : List Code) (more : List (List Code)) → is_line_ending c ≡ a →
    is_line_ending d ≡ b → AreOnLines ((d ∷ ds) ∷ more) →
    AreOnLines (elim (not (a || b) && ((true && true) || not (true || true))) [ true ↦ (c ∷ d ∷ ds) ∷ more | false ↦ (c ∷ []) ∷ (d ∷ ds) ∷ more ])
lines-joined a b c d ds more e f h = grind (arith, any-one)

lines-onto : (c : Code) (ss : List (List Code)) → AreOnLines ss → AreOnLines (onto_stretch (λ x. true) c ss)
lines-onto c ss h = grind (arith, any-one, lines-joined)

are-lines : (cs : List Code) → AreOnLines (lines_of cs)
are-lines [] = tt
are-lines (c ∷ cs) = lines-onto c (lines_of cs) (are-lines cs)

HasLines-leaf : (b : Bool) (c : Code) (cs : List Code) → (b ≡ false → list_any is_line_ending (c ∷ cs) ≡ false) →
    HasRowLines (leaf_by b (c ∷ cs))
unfolding leaf_by
HasLines-leaf b c cs h = grind arith

HasLines-stretches : (ss : List (List Code)) → AreOnLines ss → HasRowLines (line_leaves N.Data ss)
HasLines-stretches [] h = tt
HasLines-stretches ([] ∷ ss) h = HasLines-stretches ss h.1
HasLines-stretches ((c ∷ cs) ∷ ss) h = grind (arith, HasLines-row, line-leaf, HasLines-leaf, HasLines-stretches ss)

HasLines-lines : (cs : List Code) → HasRowLines (line_leaves N.Data (lines_of cs))
HasLines-lines cs = HasLines-stretches (lines_of cs) (are-lines cs)

unlinked-leaf : (b : Bool) (n : ℕ) (c : Code) (cs : List Code) (rest : Forest) → is_line_ending c ≡ b →
    last_link (n + 2) None rest ≡ None → last_link n None (line_leaf N.Data None (c ∷ cs) ⊕ rest) ≡ None
unfolding leaf_by
unlinked-leaf b n c cs rest e h = grind (arith, line-leaf)

unlinked-lines : (n : ℕ) (ss : List (List Code)) → last_link n None (line_leaves N.Data ss) ≡ None
unlinked-lines n [] = refl
unlinked-lines n ([] ∷ ss) = unlinked-lines n ss
unlinked-lines n ((c ∷ cs) ∷ ss) = grind (arith, unlinked-leaf, unlinked-lines (n + 2) ss)

-- no run stands in data
runless-leaf : (b : Bool) (c : Code) (cs : List Code) (rest : Forest) → is_line_ending c ≡ b → IsRunless rest →
    IsRunless (line_leaf N.Data None (c ∷ cs) ⊕ rest)
unfolding leaf_by
runless-leaf b c cs rest e h = grind (arith, line-leaf)

runless-lines : (ss : List (List Code)) → IsRunless (line_leaves N.Data ss)
runless-lines [] = tt
runless-lines ([] ∷ ss) = runless-lines ss
runless-lines ((c ∷ cs) ∷ ss) = runless-leaf (is_line_ending c) c cs (line_leaves N.Data ss) refl (runless-lines ss)

pub leaves-row : (cs : List Code) → row_of_elements (leaf_elements cs) ≡ row_end (code_leaves cs)
unfolding leaf_elements
leaves-row [] = refl
leaves-row (c ∷ cs) = ap (tree_onto (code_leaf c)) (leaves-row cs)

pub leaves-first : (c : Code) (cs : List Code) →
    row_of_elements (leaf_elements (c ∷ cs)) ≡ tree_onto (code_leaf c) (row_of_elements (leaf_elements cs))
unfolding leaf_elements
leaves-first c cs = refl

-- data in lines is the row of its codes but for how it is cut
pub data-alike : (cs : List Code) →
    split_row (row_end (line_leaves N.Data (lines_of cs))) ≡ split_row (row_of_elements (leaf_elements cs))
data-alike cs = ap row_end (lines-cut cs) ∙ ap split_row (sym (leaves-row cs))

code-has : (b : Bool) (c : Code) →
    HasCodes (elim b as (λ _. Forest) [ true ↦ leaf N.LineEnding (c ∷ []) | false ↦ leaf N.Data (c ∷ []) ])
code-has b c = grind arith

pub have-leaves : (cs : List Code) → HaveCodes (leaf_elements cs)
unfolding leaf_elements
have-leaves [] = tt
have-leaves (c ∷ cs) = (code-has (is_line_ending c) c, have-leaves cs)

-- what data reads, and the codes after it
data-reads : (stops : List Code → Bool) (cs : List Code) (c : Code) (xs : List Code) (t : Forest) (rest : List Code) →
    cs ≡ c ∷ xs → data_up_to stops cs ≡ Some (t, rest) →
    (line_leaves N.Data (lines_of (c ∷ (until stops xs).0)) ≡ t) × ((until stops xs).1 ≡ rest)
unfolding data_up_to
data-reads stops cs c xs t rest e h = grind (arith, both-parts)

pub some-ahead : (T : Tokenizer) (cs : List Code) → ahead T ≡ cs → current_of T ≢ None →
    (c : Code) × ((xs : List Code) × (cs ≡ c ∷ xs))
some-ahead T cs e h = grind (arith, current-ahead)

pub fewer-left : (T U : Tokenizer) (ws : List Code) → 1 ≤ length ws → ahead T ≡ ws ++ ahead U →
    codes_left U < codes_left T
fewer-left T U ws h e = omega (arith, left-ahead T, left-ahead U, ap length e, length-append ws (ahead U))

some-codes : (xs ws rest : List Code) → xs ≡ ws ++ rest → 1 + length rest ≤ length xs → 1 ≤ length ws
some-codes xs ws rest e h = omega (arith, ap length e, length-append ws rest)

past-last : (c : Code) (cs : List Code) (previous : Option Code) → past_code previous (c ∷ cs) ≡ last_code (c ∷ cs)
unfolding past_code
past-last c [] previous = refl
past-last c (d ∷ ds) previous = past-last d ds (Some c)

same-last : (xs ws vs rest : List Code) → xs ≡ ws ++ rest → xs ≡ vs ++ rest → last_code ws ≡ last_code vs
same-last xs ws vs rest e f = grind (arith, code_before-append ws rest, code_before-append vs rest)

-- the starts are kept past a tree
pub kept-tree : (t : Forest) (T U : Tokenizer) → U ≡ past_tree t T → (earlier : List Element) → KeepsStarts earlier T →
    KeepsStarts earlier U
unfolding past past_tree
kept-tree t T U left earlier k = grind (arith, starts-plain earlier t T.events)

-- the starts that no end has used are those before data
read-starts : (source : Source) (e : Element) (c : Code) (earlier : List Element) → IsReadAs source e (plain (code_leaf c)) →
    unused_starts (e ∷ earlier) ≡ unused_starts earlier
read-starts source e c earlier h = grind arith

past-starts : (source : Source) (earlier es : List Element) (cs : List Code) → AreReadAs source es (leaf_elements cs) →
    unused_starts (past_elements earlier es) ≡ unused_starts earlier
unfolding leaf_elements past_elements
past-starts source earlier [] [] h = refl
past-starts source earlier (x ∷ es) (c ∷ cs) h = grind (arith, read-starts, past-starts source (x ∷ earlier) es cs)
past-starts source earlier [] (c ∷ cs) h = absurd h
past-starts source earlier (x ∷ es) [] h = absurd h

kept-past : (source : Source) (earlier es : List Element) (cs : List Code) (U : Tokenizer) → AreReadAs source es (leaf_elements cs) →
    KeepsStarts earlier U → KeepsStarts (past_elements earlier es) U
kept-past source earlier es cs U h k = grind (arith, past-starts)

-- Data that is read where a run stands: the code at hand, and those up to where data stops.
pub record DataRead (stops : List Code → Bool) (T U : Tokenizer) (c : Code) (cs : List Code) : Type 0 where
  pub tree : Forest
  pub part : IsRowPart tree
  pub left : U ≡ past_tree tree T
  pub whole : ahead T ≡ leaf_codes tree ++ ahead U
  pub cut : ahead T ≡ (c ∷ (until stops cs).0) ++ ahead U
  pub some : 1 ≤ length (leaf_codes tree)
  pub less : codes_left U < codes_left T
  pub alike : tree ≡ line_leaves N.Data (lines_of (c ∷ (until stops cs).0))
  pub rest : (until stops cs).1 ≡ ahead U

pub data-read : (stops : List Code → Bool) (T U : Tokenizer) (c : Code) (cs : List Code) → ahead T ≡ c ∷ cs →
    Reads (data_up_to stops) None T.tokenize_state T U → DataRead stops T U c cs
data-read stops T U c cs whole k =
    let d = data-reads stops (ahead T) c cs k.tree k.rest whole k.holds in
    let s : List Code × List Code = until stops cs in
    let lines : List (List Code) = lines_of (c ∷ s.0) in
    let runless : IsRunless k.tree = subst IsRunless d.0 (runless-lines lines) in
    let cut : ahead T ≡ (c ∷ s.0) ++ ahead U = whole ∙ ap (λ xs. c ∷ xs) (sym (until-append stops cs)) ∙ ap (λ xs. (c ∷ s.0) ++ xs) (d.1 ∙ sym k.after) in
    let covers : ahead T ≡ leaf_codes k.tree ++ ahead U = k.whole ∙ ap (λ xs. leaf_codes k.tree ++ xs) (sym k.after) in
    record {
      tree = k.tree;
      part = record { lines = subst HasRowLines d.0 (HasLines-lines (c ∷ s.0)); outer = runless-outer k.tree runless; apart = λ n. ap (λ x. last_link n None x) (sym d.0) ∙ unlinked-lines n lines };
      left = k.left ∙ ap (past None k.tree) (scratched-same T) ∙ past_tree-without k.tree T (runless-no-run k.tree runless);
      whole = covers;
      cut = cut;
      some = omega (arith, ap length cut, ap length covers, length-append (c ∷ s.0) (ahead U), length-append (leaf_codes k.tree) (ahead U));
      less = fewer-left T U (c ∷ s.0) (omega arith) cut;
      alike = sym d.0;
      rest = d.1 ∙ sym k.after;
    }

-- what stands before the place behind data that begins with this element
pub stands-behind : (stops : List Code → Bool) (T U : Tokenizer) (c : Code) (cs : List Code) (d : DataRead stops T U c cs) (source : Source) (next es : List Element) → AreReadAs source es (leaf_elements (until stops cs).0) →
    ends_escaped next ≡ false → KeepsStarts next U →
    StandsAfter (past_elements next es) (past_code (Some c) (until stops cs).0) U
unfolding past_code
stands-behind stops T U c cs d source next es read plainly keeps =
    let s : List Code × List Code = until stops cs in
    record {
      escaped =
          ap follows_escape (events-past d.tree T U d.left)
          ∙ ap (λ x. follows_escape (T.events ++ appended_from (length T.events) None x)) d.alike
          ∙ data-unescaped T.events (length T.events) c s.0
          ∙ sym (unescaped-past source next es s.0 read plainly);
      before = before-past d.tree (ahead U) T U d.some d.whole d.left ∙ same-last (ahead T) (leaf_codes d.tree) (c ∷ s.0) (ahead U) d.whole d.cut ∙ sym (past-last c s.0 None);
      keeps = kept-past source next es s.0 U read keeps;
    }

-- the elements behind the first of data, and those that follow
pub follow-behind : (source : Source) (choice : Choice) (stops : List Code → Bool) (T U : Tokenizer) (c : Code) (cs : List Code) (d : DataRead stops T U c cs) (next : List Element) → AreReadAsData source choice stops (c ∷ cs)
    → ElementsOfData source choice next (Some c) cs (until stops cs).0 (ahead U)
follow-behind source choice stops T U c cs d next others =
    subst (λ xs. ElementsOfData source choice next (Some c) cs (until stops cs).0 xs) d.rest (data-others source choice stops next (Some c) cs (read-behind source choice stops c cs others))

-- past data: the code at hand and those up to where data stops, each read as data by itself
pub data-advances : (choice : Choice) (stops : List Code → Bool) (T U : Tokenizer) (c : Code) (cs : List Code) → ahead T ≡ c ∷ cs → Reads (data_up_to stops) None T.tokenize_state T U
    → ((earlier : List Element) (previous : Option Code) → StandsAfter earlier previous T → choice earlier previous (c ∷ cs) ≡ Some (plain (code_leaf c), cs))
    → AreReadAsData (source_of T) choice stops (c ∷ cs) → Advances choice T U
unfolding leaf_elements
data-advances choice stops T U c cs whole k first others =
    let d : DataRead stops T U c cs = data-read stops T U c cs whole k in
    let s : List Code × List Code = until stops cs in
    record {
      row = row_end d.tree;
      is_row = d.part;
      left = d.left;
      whole = d.whole;
      less = d.less;
      elements = λ earlier previous stands.
          let one : Element = plain (code_leaf c) in
          let next : List Element = one ∷ earlier in
          let more : ElementsOfData (source_of T) choice next (Some c) cs s.0 (ahead U) = follow-behind (source_of T) choice stops T U c cs d next others in
          record {
            elements = one ∷ more.elements;
            later = past_elements next more.elements;
            last = past_code (Some c) s.0;
            stands = stands-behind stops T U c cs d (source_of T) next more.elements more.read_as (unescaped-leaf (is_line_ending c) c earlier) (kept-tree d.tree T U d.left earlier stands.keeps);
            follow = λ es h.
                subst (λ xs. AreElementsFrom choice earlier previous xs ((one ∷ more.elements) ++ es)) (sym whole)
                (data-next choice earlier previous one c cs (more.elements ++ es) (first earlier previous stands) (more.follow es h));
            read = leaf_elements (c ∷ s.0);
            read_as = (inl refl, more.read_as);
            have_codes = have-leaves (c ∷ s.0);
            alike = ap (λ x. split_row (row_end x)) d.alike ∙ data-alike (c ∷ s.0);
          };
    }

-- A construct that stands by itself.

-- an escape is a group of that name
named-escape : (name : Name) (a b : _) (inside rest : Forest) (earlier : List Element) →
    is_escape name ≡ ends_escaped (plain (group_then name a b inside rest) ∷ earlier)
named-escape name a b inside rest earlier = grind arith

leaf-escaped : (es : List Event) (n : ℕ) (name : Name) (cs : List Code) →
    follows_escape (es ++ appended_from n None (leaf_then name None cs empty)) ≡ is_escape name
leaf-escaped es n name cs = grind (arith, follows-these es (event Kind.Enter name (start_of cs) ∷ []) (event Kind.Exit name (stop_of document_start cs)))

pub group-escaped : (es : List Event) (n : ℕ) (name : Name) (a b : _) (inside : Forest) →
    follows_escape (es ++ appended_from n None (group_then name a b inside empty)) ≡ is_escape name
group-escaped es n name a b inside = grind (arith, follows-these es (event Kind.Enter name a ∷ appended_from (n + 1) None inside) (event Kind.Exit name b))

-- whether an escape stands before, past one tree
single-escaped : (es : List Event) (n : ℕ) (t : Forest) (earlier : List Element) → IsSingle t →
    follows_escape (es ++ appended_from n None t) ≡ ends_escaped (plain t ∷ earlier)
single-escaped es n empty earlier h = absurd h
single-escaped es n (leaf_then name link cs rest) earlier h = grind (arith, leaf-escaped es n name cs)
single-escaped es n (group_then name a b inside rest) earlier h = grind (arith, group-escaped, named-escape)

-- an element of a tree, a start or an end, behind which these codes are left
pub one-element : (choice : Choice) (earlier : List Element) (previous : Option Code) (row : Row) (T U : Tokenizer) (e : Element) (ws : List Code) → 1 ≤ length ws → ahead T ≡ ws ++ ahead U → code_just_before U ≡ last_code ws → follows_escape U.events ≡ ends_escaped (e ∷ earlier) → KeepsStarts (e ∷ earlier) U → choice earlier previous (ahead T) ≡ Some (e, ahead U)
    → HasElementCodes e → split_row row ≡ split_row (row_of_elements (e ∷ [])) → ReadsRow choice earlier previous row T U
one-element choice earlier previous row T U e ws some covers before escaped keeps here has alike =
    record {
      elements = e ∷ [];
      later = e ∷ earlier;
      last = code_before (ahead T) (ahead U);
      stands = record { escaped = escaped; before = before ∙ sym (ap (λ xs. code_before xs (ahead U)) covers ∙ code_before-append ws (ahead U)); keeps = keeps };
      follow = λ es h. (ahead U, here, h);
      read = e ∷ [];
      read_as = (inl refl, tt);
      have_codes = (has, tt);
      alike = alike;
    }

has-single : (t : Forest) → HasRowLines t → HasCodes t
has-single empty h = tt
has-single (leaf_then name link cs rest) h = grind (arith, has-single rest)
has-single (group_then name enter exit inside rest) h = (has-single inside h.1.0, has-single rest h.1.1)

-- past a tree that stands by itself
single-advances : (choice : Choice) (T U : Tokenizer) (t : Forest) (rest : List Code) → IsSingle t → HasRowLines t → HasOuterRuns t → 1 ≤ length (leaf_codes t) → U ≡ past_tree t T → ahead T ≡ leaf_codes t ++ rest → ahead U ≡ rest
    → ((earlier : List Element) (previous : Option Code) → StandsAfter earlier previous T → choice earlier previous (ahead T) ≡ Some (plain t, rest)) → Advances choice T U
single-advances choice T U t rest single lines outer some left covers after finds =
    let whole : ahead T ≡ leaf_codes t ++ ahead U = covers ∙ ap (λ xs. leaf_codes t ++ xs) (sym after) in
    record {
      row = row_end t;
      is_row = record { lines = lines; outer = outer; apart = quiet-node-unlinked t single };
      left = left;
      whole = whole;
      less = fewer-left T U (leaf_codes t) some whole;
      elements = λ earlier previous stands.
          one-element choice earlier previous (row_end t) T U (plain t) (leaf_codes t) some whole (before-past t (ahead U) T U some whole left)
          (ap follows_escape (events-past t T U left) ∙ single-escaped T.events (length T.events) t earlier single)
          (kept-tree t T U left earlier stands.keeps)
          (finds earlier previous stands ∙ ap (λ xs. Some (plain t, xs)) (sym after))
          (has-single t lines)
          (ap (λ x. row_end (split x)) (sym (row-empty t)));
    }

-- past a construct that stands by itself
pub node-advances : (choice : Choice) (reading : TreeReading) (T U : Tokenizer) →
    (k : Reads reading None T.tokenize_state T U) → IsNode k.tree → 1 + length k.rest ≤ length (ahead T) →
    ((earlier : List Element) (previous : Option Code) → StandsAfter earlier previous T → choice earlier previous (ahead T) ≡ Some (plain k.tree, k.rest)) →
    Advances choice T U
node-advances choice reading T U k node more finds = grind (arith, single-advances, quiet-lines-of, quiet-outer, some-codes, scratched-same, past_tree-without, quiet-no-run)

-- past a run of markers, whose pass is registered
pub run-advances : (choice : Choice) (reading : TreeReading) (T U V : Tokenizer) →
    (k : Reads reading None T.tokenize_state T V) → U ≡ registered R.Attention V → IsRunLeaf k.tree →
    ((earlier : List Element) (previous : Option Code) → StandsAfter earlier previous T → choice earlier previous (ahead T) ≡ Some (plain k.tree, k.rest)) →
    Advances choice T U
run-advances choice reading T U V k e run finds = grind (arith, single-advances, scratched-same, past_tree-with, ahead-registered)
