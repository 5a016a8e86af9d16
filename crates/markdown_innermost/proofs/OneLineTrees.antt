-- Trees on lines: rows of them, and what merging, trimming and finding emails leave of them.
use Rattle.std.proofs.Common.{◌≡◌, ◌≢◌, ℕ, Bool, true, false, List, [], ◌∷◌, ◌++◌, take, drop, Option, refl, sym, ap, ◌∙◌}
use Rattle.std.specs.List.{list_any}
use Rattle.std.proofs.lemmas.Bool.{both_ways}
use Rattle.std.proofs.lemmas.List.{take-append-drop}
use Rattle.markdown_content.specs.Codes.{Code, is_line_ending}
use Rattle.markdown_content.specs.Tree.{Forest, empty, leaf_then, group_then, leaf, leaf_codes, ◌⊕◌}
use Rattle.markdown_event.specs.declared.event.Content.{Content}
use Rattle.markdown_event.specs.declared.event.Name.{Name}
use Rattle.markdown_event.specs.declared.event.Name.TheVariants as N
use Rattle.markdown_event.specs.declared.event.Point.{Point}
use Rattle.markdown_model.specs.GfmEmailLiteral.{with_emails}
use Rattle.markdown_model.specs.TextLines.{linked_leaf, lines}
use Rattle.markdown_model.specs.Passes.{HardBreaks, merged, trimmed_data, trimmed, with_emails_apart}
use Rattle.markdown_model.proofs.PassesKeepCodes.{codes-merged, codes-trimmed_data, codes-trimmed, codes-mailed}
use Rattle.markdown_model.proofs.LeafRows.{Leaves, leaves-row, leaves-leaf, leaves-linked, leaves-lines}
use Rattle.markdown_model.proofs.LiteralCodes.{codes-with_emails}
use Rattle.markdown_model.proofs.OneLineReadings.{line-both, line-join, on-line, filled}
use Rattle.markdown_model.proofs.PassedTrees.{HoldsByParts, walks-row, walks-merged, walks-trimmed, walks-mailed, trimmed_data-has, with_emails-has}
use Rattle.markdown_model.specs.CodeLines.{IsLine, IsOnLine}
use Rattle.markdown_innermost.specs.OneLineLeaves.{makes_data, IsLined}

-- Codes.

pub on-some : (cs : List Code) → IsOnLine cs → cs ≢ []
on-some [] h e = h
on-some (c ∷ cs) h e = cc

pub none-left : (xs ys : List Code) → xs ++ ys ≡ [] → (xs ≡ []) × (ys ≡ [])
none-left [] ys e = (refl, e)
none-left (x ∷ xs) ys e = absurd (filled x (xs ++ ys) e)

pub line-parts : (n : ℕ) (cs : List Code) → IsLine cs → IsLine (take n cs) × IsLine (drop n cs)
line-parts n cs h = line-both (take n cs) (drop n cs) (ap (list_any is_line_ending) (take-append-drop n cs) ∙ h)

-- Rows of leaves.

-- over some codes
abbrev IsFilledLeaf : Name → Option Content → List Code → Type 0
IsFilledLeaf name link cs = cs ≢ []

abbrev pub AreLeaves : Forest → Type 0
AreLeaves t = Leaves IsFilledLeaf t

full-leaf : (name : Name) (cs : List Code) → AreLeaves (leaf name cs)
full-leaf name cs = leaves-leaf IsFilledLeaf name cs (λ some. some)

pub full-linked : (name : Name) (link : Option Content) (cs : List Code) → AreLeaves (linked_leaf name link cs)
full-linked name link cs = leaves-linked IsFilledLeaf name link cs (λ some. some)

pub full-lines : (name : Name) (link : Option Content) (cs : List Code) → AreLeaves (lines name link cs)
full-lines name link cs = leaves-lines IsFilledLeaf name link (λ s h. h.0) (λ s some h. some) (λ s h. h.0) cs

pub leaves-trimmed_data : (front back : Bool) (hard : HardBreaks) (cs : List Code) → AreLeaves (trimmed_data front back hard cs)
leaves-trimmed_data front back hard cs =
    trimmed_data-has AreLeaves (leaves-row IsFilledLeaf) (full-leaf N.Data) (full-leaf N.HardBreakTrailing) (full-leaf N.SpaceOrTab) front back hard cs

pub leaves-with_emails : (cs : List Code) → AreLeaves (with_emails cs)
leaves-with_emails cs =
    with_emails-has AreLeaves (leaves-row IsFilledLeaf) (full-leaf N.Data) (λ before ds. full-leaf _ ds) cs

-- Rows.

-- what is said of groups without a code may be weakened
pub lined-weaker : (E F : Point → Point → Type 0) → ((a b : Point) → E a b → F a b) → (t : Forest) → IsLined E t →
    IsLined F t
lined-weaker E F w empty h = tt
lined-weaker E F w (leaf_then name link cs rest) h = (h.0, lined-weaker E F w rest h.1)
lined-weaker E F w (group_then name a b inside rest) h =
    (λ e. w a b (h.0 e), (lined-weaker E F w inside h.1.0, lined-weaker E F w rest h.1.1))

module _ (E : Point → Point → Type 0) where
  lined : HoldsByParts (IsLined E) (λ name link cs. IsOnLine cs × (makes_data name ≡ true → IsLine cs)) (λ name a b inside. leaf_codes inside ≡ [] → E a b)
  lined = record {
    none = tt;
    leaf_of = λ name link cs rest h. h;
    leaf_to = λ name link cs rest h k. (h, k);
    group_of = λ name a b inside rest h. (h.0, h.1.0, h.1.1);
    group_to = λ name a b inside rest g h k. (g, (h, k));
  }

  pub lined-row : (t u : Forest) → IsLined E t → IsLined E u → IsLined E (t ⊕ u)
  lined-row t u h k = walks-row lined t u h k

  -- leaves of one line
  pub lined-leaves : (t : Forest) → AreLeaves t → IsLine (leaf_codes t) → IsLined E t
  lined-leaves empty h l = tt
  lined-leaves (leaf_then name link cs rest) h l =
      let p = line-both cs (leaf_codes rest) l in
      ((on-line cs (h.0, p.0), λ e. p.0), lined-leaves rest h.1 p.1)
  lined-leaves (group_then name a b inside rest) h l = absurd h

  pub lined-leaf : (name : Name) (cs : List Code) → IsLine cs → IsLined E (leaf name cs)
  lined-leaf name [] h = tt
  lined-leaf name (c ∷ cs) h = ((on-line (c ∷ cs) (filled c cs, h), λ e. h), tt)

  -- leaves on lines
  abbrev OnLine : Name → Option Content → List Code → Type 0
  OnLine name link cs = IsOnLine cs × (makes_data name ≡ true → IsLine cs)

  lined-rows : (t : Forest) → Leaves OnLine t → IsLined E t
  lined-rows empty h = tt
  lined-rows (leaf_then name link cs rest) h = (h.0, lined-rows rest h.1)
  lined-rows (group_then name a b inside rest) h = absurd h

  pub lined-linked : (name : Name) (link : Option Content) (cs : List Code) → IsLine cs →
      IsLined E (linked_leaf name link cs)
  lined-linked name link cs h =
      lined-rows (linked_leaf name link cs) (leaves-linked OnLine name link cs (λ some. (on-line cs (some, h), λ e. h)))

  pub lined-lines : (name : Name) (link : Option Content) (cs : List Code) → IsLined E (lines name link cs)
  lined-lines name link cs =
      lined-rows (lines name link cs) (leaves-lines OnLine name link (λ s h. (on-line s h, λ e. h.1)) (λ s some h. (h, λ e. cc)) (λ s h. (on-line s h, λ e. h.1)) cs)

  -- a code that is on a line as it is one
  pub lined-one : (name : Name) (c : Code) → makes_data name ≡ false → IsLined E (leaf name (c ∷ []))
  lined-one name c h = ((tt, λ e. absurd (both_ways (makes_data name) h e)), tt)

  -- a group that begins with a leaf has a code
  pub lined-group : (name : Name) (a b : Point) (n : Name) (cs : List Code) (more : Forest) → cs ≢ [] →
      IsLined E (leaf n cs ⊕ more) → IsLined E (group_then name a b (leaf n cs ⊕ more) empty)
  lined-group name a b n [] more some h = absurd (some refl)
  lined-group name a b n (c ∷ cs) more some h = (λ e. absurd (filled c (cs ++ leaf_codes more) e), (h, tt))

  -- The passes.

  lined-both : (cs ds : List Code) → IsOnLine cs → IsLine cs → IsLine ds →
      IsOnLine (cs ++ ds) × (true ≡ true → IsLine (cs ++ ds))
  lined-both cs ds some h k =
      let both : IsLine (cs ++ ds) = line-join cs ds h k in (on-line (cs ++ ds) ((λ e. on-some cs some (none-left cs ds e).0), both), λ e. both)

  pub lined-merged : (t : Forest) → IsLined E t → IsLined E (merged t)
  lined-merged t h =
      walks-merged lined (λ cs ds k l. lined-both cs ds k.0 (k.1 refl) (l.1 refl)) (λ name a b inside _ g e. g (sym (codes-merged inside) ∙ e)) t h

  pub lined-trimmed : (hard : HardBreaks) (front whole : Bool) (t : Forest) → IsLined E t → IsLined E (trimmed hard front whole t)
  lined-trimmed hard front whole t h =
      walks-trimmed lined hard (λ x y z cs k. lined-leaves (trimmed_data x y z cs) (leaves-trimmed_data x y z cs) (ap (list_any is_line_ending) (codes-trimmed_data x y z cs) ∙ k.1 refl))
      (λ name a b inside _ g e. g (sym (codes-trimmed hard false false inside) ∙ e)) front whole t h

  pub lined-mailed : (t : Forest) → IsLined E t → IsLined E (with_emails_apart t)
  lined-mailed t h =
      walks-mailed lined (λ cs k. lined-leaves (with_emails cs) (leaves-with_emails cs) (ap (list_any is_line_ending) (codes-with_emails cs) ∙ k.1 refl)) (λ name a b inside _ g e. g (sym (codes-mailed inside) ∙ e)) t h
