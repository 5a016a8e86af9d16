-- Elements as runs read them: an underscore with neither whitespace nor punctuation beside it may be read as data, since it may neither open nor
-- close (CommonMark 6.2).
use Rattle.std.specs.Prelude.{◌≡◌, ◌⊎◌, ℕ, ◌+◌, true, List, [], ◌∷◌}
use Rattle.std.specs.Str.{byte}
use Rattle.markdown_content.specs.Codes.{Code}
use Rattle.markdown_content.specs.declared.configuration.Rules.{Rules}
use Rattle.markdown_content.specs.Tree.{leaf}
use Rattle.markdown_event.specs.declared.event.Name.TheVariants as N
use Rattle.markdown_model.specs.GfmAutolinkLiteral.{is_other}
use Rattle.markdown_model.specs.LabelEnd.{Element, plain}
use Rattle.markdown_model.specs.Runs.{class_beside}
use Rattle.markdown_util.specs.Neighbours.{before_index, after_index}
use Rattle.markdown_content.specs.Beside.{has_code_before, has_code_behind}
use Rattle.markdown_engine.specs.declared.tokenizer.Tokenizer.{Tokenizer}
use Rattle.markdown_plan.specs.Characters.{bytes_of}

-- a document, and the codes of a content of it
pub record Source : Type 0 where
  pub bytes : List ℕ
  pub content : List Code

-- what a run reads
abbrev pub source_of : Tokenizer → Source
source_of T = record { bytes = bytes_of T; content = T.cursor.codes }

-- the code is an underscore inside a word: by all rules neither whitespace nor punctuation nor an end of the document is beside it, and what is beside
-- it stands in the content
pub record IsIntraword (source : Source) (c : Code) : Type 0 where
  pub marker : c.value ≡ byte "_"
  pub before : (r : Rules) → is_other (class_beside r (before_index source.bytes c.start.index)) ≡ true
  pub after : (r : Rules) → is_other (class_beside r (after_index source.bytes (c.start.index + 1))) ≡ true
  pub joined_before : has_code_before source.content c.start.index ≡ true
  pub joined_behind : has_code_behind source.content (c.start.index + 1) ≡ true

-- this element is read as the second: as itself, or, where it is the run of such an underscore, as data
abbrev pub IsReadAs : Source → Element → Element → Type 0
IsReadAs source e f =
    (e ≡ f) ⊎ ((c : Code) × (IsIntraword source c × ((e ≡ plain (leaf N.AttentionSequence (c ∷ []))) × (f ≡ plain (leaf N.Data (c ∷ []))))))

-- these elements are read as those, one by one
abbrev pub AreReadAs : Source → List Element → List Element → Type 0
AreReadAs source [] [] = Unit {0}
AreReadAs source (e ∷ es) (f ∷ fs) = IsReadAs source e f × AreReadAs source es fs
AreReadAs source _ _ = ⊥
