-- What each name of the events stands for in the HTML.
use Rattle.markdown_event.specs.declared.event.Name.{Name}
use Rattle.markdown_html_model.specs.declared.role.Role.{Role}

abbrev pub role_of : Name → Role
role_of Name.Data = Role.Plain
role_of Name.CharacterEscapeValue = Role.Plain
role_of Name.CodeTextData = Role.Plain
role_of Name.MathTextData = Role.Plain
role_of Name.LineEnding = Role.LineEnd
role_of Name.HardBreakEscape = Role.Break
role_of Name.HardBreakTrailing = Role.Break
role_of Name.HtmlTextData = Role.Raw
role_of Name.AutolinkProtocol = Role.Uri
role_of Name.AutolinkEmail = Role.Email
role_of Name.GfmAutolinkLiteralProtocol = Role.UriLiteral
role_of Name.GfmAutolinkLiteralMailto = Role.UriLiteral
role_of Name.GfmAutolinkLiteralXmpp = Role.UriLiteral
role_of Name.GfmAutolinkLiteralWww = Role.WwwLiteral
role_of Name.GfmAutolinkLiteralEmail = Role.EmailLiteral
role_of Name.GfmTaskListItemValueChecked = Role.Plain
role_of Name.GfmTaskListItemCheck = Role.Check
role_of Name.Emphasis = Role.Emphasis
role_of Name.Strong = Role.Strong
role_of Name.GfmStrikethrough = Role.Strikethrough
role_of Name.CodeText = Role.Code
role_of Name.MathText = Role.Math
role_of Name.CharacterReference = Role.Reference
role_of Name.Link = Role.Link
role_of Name.Image = Role.Image
role_of Name.GfmFootnoteCall = Role.Footnote
role_of Name.LabelText = Role.Label
role_of Name.ReferenceString = Role.FullReference
role_of Name.ResourceDestinationString = Role.Destination
role_of Name.ResourceTitleString = Role.TitleText
role_of Name.ResourceTitle = Role.Title
role_of Name.Resource = Role.Resource
role_of Name.Reference = Role.Tail
role_of name = Role.Silent
