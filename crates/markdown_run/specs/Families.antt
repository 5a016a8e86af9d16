-- The families of states, by which they are called, each told by the tables of its constructs, and with those that come after it.
use Rattle.std.specs.Prelude.{Bool, true, false}
use Rattle.markdown_event.specs.declared.state.StateName.{StateName}
use Rattle.markdown_engine.specs.StateWords.{StateWords}
use Rattle.markdown_leaf.specs.Autolink as Autolink
use Rattle.markdown_leaf.specs.CharacterEscape as CharacterEscape
use Rattle.markdown_leaf.specs.CharacterReference as CharacterReference
use Rattle.markdown_leaf.specs.HardBreakEscape as HardBreakEscape
use Rattle.markdown_leaf.specs.RawText as RawText
use Rattle.markdown_leaf_gfm.specs.GfmAutolinkLiteral as GfmAutolinkLiteral
use Rattle.markdown_leaf_html.specs.HtmlText as HtmlText
use Rattle.markdown_label.specs.LabelEnd as LabelEnd
use Rattle.markdown_label.specs.LabelStarts as LabelStarts
use Rattle.markdown_label.specs.Resource as Resource
use Rattle.markdown_partial.specs.PartialDestination as PartialDestination
use Rattle.markdown_partial.specs.PartialLabel as PartialLabel
use Rattle.markdown_partial.specs.PartialSpaceOrTab as PartialSpaceOrTab
use Rattle.markdown_partial.specs.PartialSpaceOrTabEol as PartialSpaceOrTabEol
use Rattle.markdown_partial.specs.PartialTitle as PartialTitle

-- it stands in a table
abbrev pub yes : StateWords → Bool
yes w = true

-- HTML
abbrev pub is_html : StateName → Bool
is_html = HtmlText.said yes (λ s. false)

-- autolink literals, and HTML
abbrev pub is_from_literals : StateName → Bool
is_from_literals = GfmAutolinkLiteral.said yes is_html

-- escapes, character references, hard breaks, autolinks and spans, and those above
abbrev pub is_from_leaves : StateName → Bool
is_from_leaves = CharacterEscape.said yes (CharacterReference.said yes (HardBreakEscape.said yes (Autolink.said yes (RawText.said yes is_from_literals))))

-- whitespace, destinations, titles, and labels of references, and those above
abbrev pub is_from_parts : StateName → Bool
is_from_parts =
    PartialSpaceOrTab.said yes (PartialSpaceOrTabEol.said yes (PartialDestination.said yes (PartialTitle.said yes (PartialLabel.said yes is_from_leaves))))

-- starts and ends of labels, and resources, and those above
abbrev pub is_from_labels : StateName → Bool
is_from_labels = LabelStarts.said yes (LabelEnd.said yes (Resource.said yes is_from_parts))
