-- Names of a run's own, or lent to it.
use Rattle.std.specs.Prelude.{ℕ, List}
use Rattle.markdown_notes.specs.declared.name_index.Kept.{Kept}
use Rattle.markdown_notes.specs.declared.name_index.Kept.TheVariants.{Own, Lent}

abbrev pub kept_names : Kept → List (List ℕ)
kept_names (Own names) = names
kept_names (Lent names) = names.now
