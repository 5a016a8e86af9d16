-- How many bytes definitions bring to trees: cmark counts them at each reference that it looks up, and stops at a limit.
use Rattle.std.specs.Prelude.{ℕ, ◌+◌, ◌-◌, nat_le, if◌then◌else◌, [], length, Option, None, Some}
use Rattle.std.specs.Option.{is_some}
use Rattle.markdown_content.specs.Tree.{Forest, empty, leaf_then, group_then}
use Rattle.markdown_html_model.specs.Html.{Page, PartsSoFar, Target, Written, or_empty, target_of, written}
use Rattle.markdown_html_model.specs.Roles.{role_of}
use Rattle.markdown_html_model.specs.declared.role.Role.{Role}
use Rattle.markdown_html_model.specs.declared.role.Within.{Within}

-- the bytes of a destination and of a title
abbrev pub target_bytes : Target → ℕ
target_bytes to = length to.destination + length (or_empty to.title)

-- what a definition brings to a link or an image with these parts: its destination and its title, and nothing where they stand in a resource
abbrev pub brought_by : Page → PartsSoFar → ℕ
brought_by p parts = if is_some parts.destination then 0 else target_bytes (target_of p parts)

-- what it brings to something around these parts
abbrev pub own_brought : Page → Role → PartsSoFar → ℕ
own_brought p Role.Link parts = brought_by p parts
own_brought p Role.Image parts = brought_by p parts
own_brought p role parts = 0

-- the parts that trees give, wherever they stand
abbrev pub parts_inside : Page → Forest → PartsSoFar
parts_inside p inside = let w = written p [] Within.Outside inside in w.parts

-- what definitions bring to all links and images of trees
unfoldable pub brought : Page → Forest → ℕ
brought p empty = 0
brought p (leaf_then name link cs rest) = brought p rest
brought p (group_then name a b inside rest) = own_brought p (role_of name) (parts_inside p inside) + (brought p inside + brought p rest)

-- what is left of a number of bytes once so many of them are taken, if there are as many
abbrev pub left_of : Option ℕ → ℕ → Option ℕ
left_of None taken = None
left_of (Some n) taken = if nat_le taken n then Some (n - taken) else None
