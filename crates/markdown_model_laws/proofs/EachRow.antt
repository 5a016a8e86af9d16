-- What holds of each row of `tries`, where it holds of each construct.
use Rattle.std.proofs.Common.{ℕ, Bool, List, [], ◌∷◌, arith}
use Rattle.std.specs.Str.{byte}
use Rattle.markdown_content.specs.Tree.{Forest}
use Rattle.markdown_model.specs.Grammar.{Reading, either}
use Rattle.markdown_model.specs.Setting.{Setting}
use Rattle.markdown_model.specs.LabelEnd.{Element, label_end}
use Rattle.markdown_model.specs.Elements.{as_plain, switched, line_ending, data_code, attention_run, label_start_image, gfm_label_start_footnote, label_start_link, Tries, tried}

abbrev pub EachRow : (Reading Element → Type 0) → Tries → Type 0
EachRow H [] = Unit {0}
EachRow H (row ∷ rows) = H row.1 × EachRow H rows

-- what holds of each row and of data holds of what is tried
pub tried-has : (H : Reading Element → Type 0) (rows : Tries) (v : ℕ) → EachRow H rows → H data_code → H (tried rows v)
unfolding tried
tried-has H [] v h k = k
tried-has H (row ∷ rows) v h k = grind (arith, tried-has H rows v h.1 k)

-- H of what is read of each construct, where Q holds of those that stand by themselves
pub record OfConstructs (Q : Reading Forest → Type 0) (H : Reading Element → Type 0) (s : Setting) (earlier : List Element) : Type 0 where
  pub ending : H line_ending
  pub on : (b : Bool) (a : Reading Element) → H a → H (switched b a)
  pub own : (b : Bool) (a : Reading Forest) → Q a → H (switched b (as_plain a))
  pub both : (a e : Reading Element) → H a → H e → H (either a e)
  pub image : (footnotes : Bool) → H (label_start_image footnotes)
  pub footnote : H gfm_label_start_footnote
  pub link : H label_start_link
  pub stars : H (attention_run (byte "*"))
  pub underscores : H (attention_run (byte "_"))
  pub tildes : H (attention_run (byte "~"))
  pub last : H (label_end s earlier)
