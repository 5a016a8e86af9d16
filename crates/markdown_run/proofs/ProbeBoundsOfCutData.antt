-- The bounds of looks, and the pairs themselves, depend on the runs of a tree's containers alone.
use Rattle.std.proofs.Common.{◌≡◌, ℕ, arith}
use Rattle.markdown_content.specs.Tree.{Forest}
use Rattle.markdown_run_text.specs.CutData.{split}
use Rattle.markdown_run_text.proofs.RunsOfCutData.{containers-same}
use Rattle.markdown_attention.specs.AttentionPass.{IsProbed}
use Rattle.markdown_model.specs.Setting.{Setting}

-- of trees that differ only in how data is cut
pub probes-alike : (s : Setting) (t u : Forest) (probes : ℕ) → split t ≡ split u → IsProbed s t probes →
    IsProbed s u probes
probes-alike s t u probes e k = grind (arith, containers-same)
