-- The edits of the email pass over a list of events.
use Rattle.std.specs.Prelude.{ℕ, suc, ◌+◌, ◌-◌, ◌==◌, ◌&&◌, Bool, false, List, [], ◌∷◌, ◌++◌, if◌then◌else◌}
use Rattle.markdown_event.specs.declared.event.Event.{Event}
use Rattle.markdown_event.specs.declared.event.Kind.{Kind}
use Rattle.markdown_event.specs.declared.event.Kind.TheVariants.{Enter, Exit}
use Rattle.markdown_event.specs.declared.event.Name.{Name}
use Rattle.markdown_event.specs.declared.event.Name.TheVariants as N
use Rattle.markdown_engine_events.specs.declared.util.edit_map.Edit.{Edit}
use Rattle.markdown_passes.specs.MergedEvents.{opens_data}
use Rattle.markdown_passes.specs.EmailScan.{has_sign, mail_events}

-- how many links are open behind an event of this kind and name
abbrev pub links_behind : ℕ → Kind → Name → ℕ
links_behind links Enter N.Link = links + 1
links_behind links Exit N.Link = links - 1
links_behind links _ _ = links

abbrev pub links_after : ℕ → Event → ℕ
links_after links e = links_behind links e.kind e.name

-- how many are open behind some events
abbrev pub links_past : ℕ → List Event → ℕ
links_past links [] = links
links_past links (e ∷ es) = links_past (links_after links e) es

-- the Enter of data outside links, and its Exit, with an `@` between them
abbrev pub may_mail : List ℕ → ℕ → Event → Event → Bool
may_mail bytes links e x = (links == 0 && opens_data e) && has_sign bytes e.point x.point

-- the Enter and the Exit of data go, and its events with their literals come
abbrev pub mail : List ℕ → ℕ → Event → Event → Edit
mail bytes n e x = record { at = n; remove = 2; events = mail_events bytes e.point x.point; before = false }

-- the edit of the first two events, where they are such data; the first has this number, and so many links are open before it
abbrev pub mail_first : List ℕ → ℕ → ℕ → List Event → List Edit
mail_first bytes n links [] = []
mail_first bytes n links (e ∷ []) = []
mail_first bytes n links (e ∷ x ∷ es) = if may_mail bytes links e x then mail bytes n e x ∷ [] else []

-- one edit for each such data
abbrev pub mails : List ℕ → ℕ → ℕ → List Event → List Edit
mails bytes n links [] = []
mails bytes n links (e ∷ es) = mail_first bytes n links (e ∷ es) ++ mails bytes (suc n) (links_after links e) es

-- the first two events are the Enter of data and its Exit, with an `@` between them
abbrev pub begins_signed : List ℕ → List Event → Bool
begins_signed bytes [] = false
begins_signed bytes (e ∷ []) = false
begins_signed bytes (e ∷ x ∷ es) = opens_data e && has_sign bytes e.point x.point
