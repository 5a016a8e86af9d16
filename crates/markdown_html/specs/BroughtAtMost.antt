-- What definitions bring at most, by how many links and images there are.
use Rattle.std.specs.Prelude.{ℕ, ◌+◌, ◌*◌, ◌≤◌, ◌^◌, ◌<◌, Bool, true, false, if◌then◌else◌, List, [], ◌∷◌}
use Rattle.markdown_event.specs.declared.event.Event.{Event}
use Rattle.markdown_html_model.specs.Html.{Defined, defined}
use Rattle.markdown_html_model.specs.Roles.{role_of}
use Rattle.markdown_html_model.specs.declared.role.Role.{Role}
use Rattle.markdown_html.specs.Brought.{target_bytes}

-- a definition may bring something to it
abbrev pub is_brought_to : Role → Bool
is_brought_to Role.Link = true
is_brought_to Role.Image = true
is_brought_to role = false

-- how many of these events begin or end a link or an image
abbrev pub link_ends : List Event → ℕ
link_ends [] = 0
link_ends (e ∷ rest) = (if is_brought_to (role_of e.name) then 1 else 0) + link_ends rest

-- no definition brings more at once
abbrev pub BringAtMost : List Defined → ℕ → Type 0
BringAtMost ds most = (identifier : List ℕ) → target_bytes (defined identifier ds) ≤ most

-- no definition brings more at once, unless the number is the largest that there is
abbrev pub BringCounted : List Defined → ℕ → Type 0
BringCounted ds most = (identifier : List ℕ) → most + 1 < 2 ^ 64 → target_bytes (defined identifier ds) ≤ most

-- even the longest definition at each link and image brings no more than a limit
abbrev pub AreFew : List Event → List Defined → ℕ → Type 0
AreFew events ds limit = (most : ℕ) × BringAtMost ds most × (link_ends events * most ≤ limit)
