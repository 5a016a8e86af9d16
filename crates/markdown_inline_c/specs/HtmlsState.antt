-- What functions promise each other where many contents are written as HTML.
use Rattle.std.specs.Prelude.{◌≡◌, ◌⊎◌, ℕ, ◌-◌, ◌<◌, ◌≤◌, List, [], Option, None, Some}
use Rattle.markdown_content.specs.declared.parser.Piece.{Piece}
use Rattle.markdown_html.specs.View.{page_from}
use Rattle.markdown_html_model.specs.Html.{Page}
use Rattle.markdown_model.specs.Setting.{Setting}
use Rattle.markdown_run_text.specs.RunSetting.{setting_of}
use Rattle.markdown_inline_c.specs.FlatHtmls.{Read, brought_to_one}
use Rattle.markdown_inline_c.specs.FlatTexts.{IsTextAt}
use Rattle.markdown_inline_c.specs.Statuses.{IsContentAtFault}
use Rattle.markdown_inline_c.specs.declared.fault.Fault.{Fault}
use Rattle.markdown_inline_c.specs.declared.flat.FlatContent.{FlatContent}
use Rattle.markdown_inline_c.specs.declared.flat.FlatPiece.{FlatPiece}
use Rattle.markdown_inline_c.specs.declared.htmls.Given.{Given}

-- what stands beside the trees of all contents
abbrev pub page_of : Given → Page
page_of g = page_from g.contents.document.now [] g.definitions.now g.options

-- and beside the tree of the content with these pieces
abbrev pub page_within : Given → List Piece → Page
page_within g pieces = page_from g.contents.document.now pieces g.definitions.now g.options

abbrev pub setting : Given → Setting
setting g = setting_of g.contents.document.now

-- what is left where so many bytes more are brought, if that is within the limit; where there is no limit it is none
abbrev pub IsSpent : Option ℕ → ℕ → Option ℕ → Type 0
IsSpent None n rest = rest ≡ None
IsSpent (Some left) n rest = (n ≤ left) × (rest ≡ Some (left - n))

-- they are more than what is left
abbrev pub IsOverspent : Option ℕ → ℕ → Type 0
IsOverspent None n = ⊥
IsOverspent (Some left) n = left < n

-- what is wrong with a tree to which so many bytes are brought
abbrev pub IsSpendFault : Option ℕ → ℕ → Fault → Type 0
IsSpendFault left n fault = (fault ≡ Fault.Memory) ⊎ ((fault ≡ Fault.References) × IsOverspent left n)

-- what is wrong with a content, behind what is left of the limit
abbrev pub IsWriteFault : Page → List FlatPiece → (FlatContent → Read) → Option ℕ → FlatContent → Fault → Type 0
IsWriteFault p pieces tree left c fault =
    (fault ≡ Fault.Memory)
    ⊎ (IsContentAtFault p.bytes pieces c fault
    ⊎ ((fault ≡ Fault.References) × (IsTextAt p.bytes pieces c × IsOverspent left (brought_to_one p (tree c)))))
