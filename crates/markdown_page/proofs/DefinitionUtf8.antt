-- The definitions of a document of UTF-8 are as `identifiers` and `targets` want them.
use Rattle.std.proofs.Common.{List}
use Rattle.std.specs.Prelude.{All}
use Rattle.markdown_util.specs.declared.decoding.Decoding.{Decoding}
use Rattle.markdown_block_model.specs.LinkDefinitions as link_definitions
use Rattle.markdown_block_definitions.specs.DefinitionTexts.{AreUtf8Texts, HasUtf8Texts, texts_of, texts_in}
use Rattle.markdown_block_definitions.specs.declared.front.Definition.{Definition}
use Rattle.markdown_block_definitions.proofs.DefinitionCharacters.{all-alike}
use Rattle.markdown_page.specs.DefinitionStrings.{AreTextsOf, HasTextLabel, HasTexts}
use Rattle.markdown_page.proofs.ResolvedUtf8.{utf8-textual}

module _ (xs : List Definition) (ds : List link_definitions.Definition) (are : AreTextsOf xs ds) (utf8 : All HasUtf8Texts xs) where
  definitions-utf8 : All (λ d. AreUtf8Texts (texts_in d)) ds
  definitions-utf8 = all-alike AreUtf8Texts texts_of texts_in xs ds are utf8

  pub labels-utf8 : All HasTextLabel ds
  labels-utf8 = λ k d l. (definitions-utf8 k d l).label

  pub texts-utf8 : (how : Decoding) → All (HasTexts how) ds
  texts-utf8 how = λ k d l. let u = definitions-utf8 k d l in utf8-textual how _ u.label u.destination u.title
