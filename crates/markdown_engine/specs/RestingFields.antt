-- The scratch fields at rest.
use Rattle.std.specs.Prelude.{false, [], None}
use Rattle.markdown_notes.specs.RunIndex.{no_runs}
use Rattle.markdown_event.specs.declared.event.Name.TheVariants as N
use Rattle.markdown_engine.specs.declared.tokenizer.TokenizeState.{TokenizeState}

-- all at rest, with no labels, no markers, no probes, no known runs, sequences, titles and domains, and no names
abbrev pub at_rest : TokenizeState
at_rest = record {
  marker = 0;
  marker_b = 0;
  size = 0;
  size_b = 0;
  start = 0;
  end = 0;
  seen = false;
  connect = false;
  markers = [];
  token_1 = N.Data;
  token_2 = N.Data;
  token_3 = N.Data;
  token_4 = N.Data;
  token_5 = N.Data;
  space_or_tab_connect = false;
  space_or_tab_content = None;
  space_or_tab_min = 0;
  space_or_tab_max = 0;
  space_or_tab_size = 0;
  space_or_tab_token = N.SpaceOrTab;
  space_or_tab_eol_content = None;
  space_or_tab_eol_connect = false;
  space_or_tab_eol_ok = false;
  label_starts = [];
  label_starts_loose = [];
  labels = [];
  probes = 0;
  runs = no_runs;
  sequences = None;
  titles = None;
  no_domains = None;
  names = None;
  document_at_first_paragraph_of_list_item = false;
}
