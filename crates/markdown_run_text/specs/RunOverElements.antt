-- How runs over the elements of a content go on, and how they end.
use Rattle.std.specs.Prelude.{◌≡◌, ◌<◌, Bool, false, List, ◌∷◌, ◌++◌, Option, None, Some}
use Rattle.markdown_content.specs.Codes.{Code}
use Rattle.markdown_engine.specs.Operations.{ahead}
use Rattle.markdown_engine.specs.PastTree.{TreeReading, Reads}
use Rattle.markdown_engine.specs.Weights.{codes_left}
use Rattle.markdown_engine.specs.declared.tokenizer.Tokenizer.{Tokenizer}
use Rattle.markdown_label.specs.KeptStarts.{KeepsStarts}
use Rattle.markdown_leaf.specs.RawText.{code_just_before}
use Rattle.markdown_model.specs.SingleConstructs.{follows_escape}
use Rattle.markdown_model.specs.TextLines.{code_leaf}
use Rattle.markdown_model.specs.Elements.{Choice, AreElementsFrom, ends_escaped}
use Rattle.markdown_model.specs.LabelEnd.{Element, plain}
use Rattle.markdown_run_text.specs.ElementsAsRead.{Source, source_of, IsReadAs, AreReadAs}
use Rattle.markdown_run_text.specs.Row.{Row, past_row, row_codes, split_row, row_of_elements, kinds_of, IsRowAt, HaveCodes}

-- each of these codes where data does not stop is an element by itself where it stands, whatever stands before it
abbrev pub AreSingle : Choice → (List Code → Bool) → List Code → Type 0
AreSingle choice stops whole =
    (front : List Code) (earlier : List Element) (previous : Option Code) (c : Code) (cs : List Code) → whole ≡ front ++ c ∷ cs → stops (c ∷ cs) ≡ false → choice earlier previous (c ∷ cs) ≡ Some (plain (code_leaf c), cs)

-- each of these codes where data does not stop is an element by itself that may be read as data, whatever stands before it
abbrev pub AreReadAsData : Source → Choice → (List Code → Bool) → List Code → Type 0
AreReadAsData source choice stops whole =
    (front : List Code) (earlier : List Element) (previous : Option Code) (c : Code) (cs : List Code) → whole ≡ front ++ c ∷ cs → stops (c ∷ cs) ≡ false → (e : Element) × ((choice earlier previous (c ∷ cs) ≡ Some (e, cs)) × IsReadAs source e (plain (code_leaf c)))

-- Places between elements.

-- what stands before a place shows there: whether the last of the elements before it is an escape, the code before, and which starts of labels
-- no end has used
pub record StandsAfter (earlier : List Element) (previous : Option Code) (T : Tokenizer) : Type 0 where
  pub escaped : follows_escape T.events ≡ ends_escaped earlier
  pub before : code_just_before T ≡ previous
  pub keeps : KeepsStarts earlier T

-- the elements of the codes from T up to U, after these elements and this code, and how they are read; the row is that of what is read, but for
-- how data is cut
pub record ReadsRow (choice : Choice) (earlier : List Element) (previous : Option Code) (row : Row) (T U : Tokenizer) : Type 0 where
  pub elements : List Element
  pub later : List Element
  pub last : Option Code
  pub stands : StandsAfter later last U
  pub follow : (es : List Element) → AreElementsFrom choice later last (ahead U) es → AreElementsFrom choice earlier previous (ahead T) (elements ++ es)
  pub read : List Element
  pub read_as : AreReadAs (source_of T) elements read
  pub have_codes : HaveCodes read
  pub alike : split_row row ≡ split_row (row_of_elements read)

-- U is T past a row that covers the codes between, and the row is that of elements as they are read
pub record Advances (choice : Choice) (T U : Tokenizer) : Type 0 where
  pub row : Row
  pub is_row : IsRowAt (kinds_of T) row
  pub left : U ≡ past_row row T
  pub whole : ahead T ≡ row_codes row ++ ahead U
  pub less : codes_left U < codes_left T
  pub elements : (earlier : List Element) (previous : Option Code) → StandsAfter earlier previous T → ReadsRow choice earlier previous row T U

-- all elements of these codes, after these elements and this code, and how they are read; the row is that of what is read, but for how data is cut
pub record AllElements (source : Source) (choice : Choice) (earlier : List Element) (previous : Option Code) (row : Row) (cs : List Code) : Type 0 where
  pub elements : List Element
  pub are : AreElementsFrom choice earlier previous cs elements
  pub read : List Element
  pub read_as : AreReadAs source elements read
  pub have_codes : HaveCodes read
  pub alike : split_row row ≡ split_row (row_of_elements read)

-- the codes from T on are those of a row, U is T past it, with its passes registered, and the row is that of the elements of these codes as they
-- are read
pub record Finishes (choice : Choice) (passed : Tokenizer → Tokenizer) (T U : Tokenizer) : Type 0 where
  pub row : Row
  pub is_row : IsRowAt (kinds_of T) row
  pub whole : row_codes row ≡ ahead T
  pub left : U ≡ passed (past_row row T)
  pub elements : (earlier : List Element) (previous : Option Code) → StandsAfter earlier previous T → AllElements (source_of T) choice earlier previous row (ahead T)

-- data is read, whatever element it begins with, and from behind it the run goes on to the end
pub record DataFinishes (choice : Choice) (reading : TreeReading) (passed : Tokenizer → Tokenizer) (T U : Tokenizer) : Type 0 where
  pub behind : Tokenizer
  pub data_read : Reads reading None T.tokenize_state T behind
  pub finishes : Finishes choice passed behind U
