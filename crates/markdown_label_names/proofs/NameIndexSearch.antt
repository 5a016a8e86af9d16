-- A test of names in order is that of what is defined.
use Rattle.std.proofs.Common.{◌≡◌, ℕ, Bool, List, Some, None, sym, ap, ◌∙◌}
use Rattle.std.specs.List.{list_any}
use Rattle.markdown_notes.specs.declared.name_index.Names.{Names}
use Rattle.markdown_engine.specs.declared.tokenizer.Tokenizer.{Tokenizer}
use Rattle.markdown_notes.proofs.NameSort.{any-order}
use Rattle.markdown_label_names.specs.LabelSetting.{setting_in, IsListed}

module _ (T : Tokenizer) (names : Names) (listed : IsListed T) (known : T.tokenize_state.names ≡ Some names) (p : List ℕ → Bool) where
  pub any-definition : list_any p names.definitions ≡ list_any p (setting_in T).definitions
  any-definition =
      ap (λ (n : Names). list_any p n.definitions) (listed names known) ∙ any-order p (setting_in T).definitions

  pub any-footnote : list_any p names.footnotes ≡ list_any p (setting_in T).footnotes
  any-footnote = ap (λ (n : Names). list_any p n.footnotes) (listed names known) ∙ any-order p (setting_in T).footnotes

-- nothing is known
pub listed-unknown : (T : Tokenizer) → T.tokenize_state.names ≡ None → IsListed T
listed-unknown T e names h = absurd (absent (sym e ∙ h))
  where
    absent : None ≡ Some names → ⊥
    absent x = cc
