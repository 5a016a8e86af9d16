-- The events of a run by its marker, its place and its sizes.
use Rattle.std.specs.Prelude.{◌≡◌, ℕ, zero, suc, ◌+◌, ◌<◌, List, [], ◌∷◌, ◌++◌, reverse}
use Rattle.markdown_content.specs.Codes.{Code}
use Rattle.markdown_content.specs.Tree.{event}
use Rattle.markdown_event.specs.declared.event.Event.{Event}
use Rattle.markdown_event.specs.declared.event.Kind.TheVariants as Kind
use Rattle.markdown_event.specs.declared.event.Name.{Name}
use Rattle.markdown_event.specs.declared.event.Point.{Point}
use Rattle.markdown_model.specs.BracketGroups.{pair_names}

-- so many codes further on, on one line
abbrev pub shifted : Point → ℕ → Point
shifted p k = record p { column = p.column + k; index = p.index + k }

abbrev pub total : List ℕ → ℕ
total [] = 0
total (k ∷ ks) = k + total ks

abbrev pub AreSome : List ℕ → Type 0
AreSome [] = Unit {0}
AreSome (k ∷ ks) = (0 < k) × AreSome ks

-- a closing bracket of so many markers
abbrev pub closing_at : ℕ → Point → ℕ → List Event
closing_at m p k =
    let names = pair_names m k in
    event Kind.Exit names.2 p ∷ event Kind.Enter names.1 p ∷ event Kind.Exit names.1 (shifted p k) ∷ event Kind.Exit names.0 (shifted p k) ∷ []

abbrev pub opening_at : ℕ → Point → ℕ → List Event
opening_at m p k =
    let names = pair_names m k in
    event Kind.Enter names.0 p ∷ event Kind.Enter names.1 p ∷ event Kind.Exit names.1 (shifted p k) ∷ event Kind.Enter names.2 (shifted p k) ∷ []

-- brackets one after another
abbrev pub closings_from : ℕ → Point → List ℕ → List Event
closings_from m p [] = []
closings_from m p (k ∷ ks) = closing_at m p k ++ closings_from m (shifted p k) ks

abbrev pub openings_from : ℕ → Point → List ℕ → List Event
openings_from m p [] = []
openings_from m p (k ∷ ks) = opening_at m p k ++ openings_from m (shifted p k) ks

abbrev pub data_at : Point → ℕ → List Event
data_at p zero = []
data_at p (suc k) = event Kind.Enter Name.Data p ∷ event Kind.Exit Name.Data (shifted p (suc k)) ∷ []

-- those that pairs take as a closer, those that no pair takes, and those that pairs take as an opener, the last pair's first
unfoldable pub marker_events : ℕ → Point → List ℕ → ℕ → List ℕ → List Event
marker_events m p fronts kept backs =
    closings_from m p fronts ++ (data_at (shifted p (total fronts)) kept ++ openings_from m (shifted p (total fronts + kept)) (reverse backs))

-- the codes are this marker, one after another from this place on
abbrev pub IsStripe : ℕ → Point → List Code → Type 0
IsStripe m p [] = Unit {0}
IsStripe m p (c ∷ cs) = (c.value ≡ m) × ((c.start ≡ p) × ((c.stop ≡ shifted p 1) × IsStripe m (shifted p 1) cs))
