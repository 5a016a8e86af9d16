-- The bounds on probes, by the codes of a content.
use Rattle.std.specs.Prelude.{◌*◌, ◌≤◌, List, length}
use Rattle.markdown_content.specs.Codes.{Code}
use Rattle.markdown_model.specs.Setting.{Setting}
use Rattle.markdown_model.specs.InlineTree.{label_tree, pair_count, probe_bound, list_probe_bound}

-- there is a probe for each pair within the first bound, and the second is at most eleven a code of the content
pub record HasFewProbes (s : Setting) (cs : List Code) : Type 0 where
  pub for_each_pair : pair_count s (label_tree s cs) ≤ probe_bound s (label_tree s cs)
  pub linear : list_probe_bound s (label_tree s cs) ≤ 11 * length cs

abbrev pub ProbesAreFew : Type 0
ProbesAreFew = (s : Setting) (cs : List Code) → HasFewProbes s cs
