-- What the parts ask for that may follow a label: resources and references.
use Rattle.std.specs.Prelude.{◌≡◌, ◌≤◌, false}
use Rattle.markdown_notes.specs.SequenceIndex.{KnowsLastBegins}
use Rattle.markdown_notes.specs.TitleIndex as Titles
use Rattle.markdown_engine.specs.Weights.{codes_left}
use Rattle.markdown_event.specs.declared.event.Name.TheVariants as N
use Rattle.markdown_engine.specs.declared.tokenizer.TokenizeState.{TokenizeState}
use Rattle.markdown_engine.specs.declared.tokenizer.Tokenizer.{Tokenizer}
use Rattle.markdown_partial.specs.PartialSpaceOrTabEol.{WhitespaceAtRest}
use Rattle.markdown_partial.specs.PartialSpaceOrTab.{most}

-- without the names of a title or a label
abbrev pub names_rested : TokenizeState → TokenizeState
names_rested s = record s { token_1 = N.Data; token_2 = N.Data; token_3 = N.Data }

-- all fields at rest that the parts of what follows a label use
abbrev pub rested : TokenizeState → TokenizeState
rested s = record s {
  marker = 0;
  size = 0;
  size_b = 0;
  seen = false;
  connect = false;
  token_1 = N.Data;
  token_2 = N.Data;
  token_3 = N.Data;
  token_4 = N.Data;
  token_5 = N.Data;
}

-- what is known of the sequences that end constructs, and of the ends of titles, is right; it may be nothing
pub record PartReady (T : Tokenizer) : Type 0 where
  pub short : codes_left T ≤ most
  pub indexed : KnowsLastBegins T.cursor.codes T.tokenize_state.sequences
  pub titled : Titles.KnowsClosers T.cursor.codes T.tokenize_state.titles
  pub spaces : WhitespaceAtRest T.tokenize_state
  pub rest : rested T.tokenize_state ≡ T.tokenize_state
