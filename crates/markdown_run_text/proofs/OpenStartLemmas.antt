-- What the marks of a row do to the starts that wait.
use Rattle.std.proofs.Common.{◌≡◌, List, [], ◌∷◌, ◌⊎◌, refl, sym, ap, subst, arith}
use Rattle.markdown_content.specs.Codes.{Code}
use Rattle.markdown_content.specs.Tree.{Forest, empty, leaf_then, group_then}
use Rattle.markdown_content.specs.declared.label_kind.LabelKind.{LabelKind}
use Rattle.markdown_model.specs.LabelEnd.{link_kind}
use Rattle.markdown_model.specs.Passes.{start_tree}
use Rattle.markdown_label.specs.AfterLabel.{IsTail}
use Rattle.markdown_label.specs.Brackets.{Front, link_front, image_front, call_front, kind_of, codes_of, start_row, last_of, tail_row, Brackets, nothing, label_then, failed_then}
use Rattle.markdown_label.specs.BracketsJoined.{behind, IsClosed}
use Rattle.markdown_label.proofs.BracketJoinLemmas.{waiting-behind, closed-behind}
use Rattle.markdown_run_text.specs.Row.{Mark, begins, makes, loses, IsFront, IsMade, IsMarkAt, kinds_past}
use Rattle.markdown_run_text.specs.OpenStarts.{Opened, none_waits, waits, assembled, put, begun_with, made_front, tail_of, made_with, marked_with}

-- the kinds of the starts that wait, the last one first
abbrev pub kinds_in : Opened → List LabelKind
kinds_in (none_waits b) = []
kinds_in (waits o f inside) = kind_of f ∷ kinds_in o

-- all else is closed
abbrev pub IsClosedIn : Opened → Type 0
IsClosedIn (none_waits b) = IsClosed b
IsClosedIn (waits o f inside) = IsClosedIn o × IsClosed inside

pub assembled-put : (c : Brackets) (o : Opened) → assembled (put c o) ≡ behind (assembled o) c
assembled-put c o = grind (arith, waiting-behind)

pub kinds-put : (c : Brackets) (o : Opened) → kinds_in (put c o) ≡ kinds_in o
kinds-put c o = grind arith

pub closed-put : (c : Brackets) (o : Opened) → IsClosed c → IsClosedIn o → IsClosedIn (put c o)
closed-put c o h k = grind (arith, closed-behind)

-- A start.

pub record BeginsAs (kind : LabelKind) (marker : List Code) : Type 0 where
  pub front : Front
  pub is_kind : kind ≡ kind_of front
  pub tree : start_tree kind marker ≡ start_row front
  pub codes : marker ≡ codes_of front
  pub opens : (o : Opened) → begun_with kind marker o ≡ waits o front nothing

pub begins-as : (kind : LabelKind) (marker : List Code) → IsFront kind marker → BeginsAs kind marker
begins-as LabelKind.Link marker h =
    subst (BeginsAs LabelKind.Link) (sym h.1) (record { front = link_front h.0; is_kind = refl; tree = refl; codes = refl; opens = λ o. refl })
begins-as LabelKind.Image marker h =
    subst (BeginsAs LabelKind.Image) (sym h.1.1) (record { front = image_front h.0 h.1.0; is_kind = refl; tree = refl; codes = refl; opens = λ o. refl })
begins-as LabelKind.GfmFootnote marker h =
    subst (BeginsAs LabelKind.GfmFootnote) (sym h.1.1) (record { front = call_front h.0 h.1.0; is_kind = refl; tree = refl; codes = refl; opens = λ o. refl })
begins-as LabelKind.GfmUndefinedFootnote marker h = absurd h

-- A label.

made-start : (kind : LabelKind) (f : Front) → start_row (made_front kind f) ≡ start_row f
made-start kind f = grind arith

made-codes : (kind : LabelKind) (f : Front) → codes_of (made_front kind f) ≡ codes_of f
made-codes kind f = grind arith

made-last : (kind : LabelKind) (f : Front) → last_of (made_front kind f) ≡ last_of f
made-last kind f = grind arith

own-kind : (f : Front) → kind_of f ≡ kind_of (made_front (kind_of f) f)
own-kind f = grind arith

tried-kind : (f : Front) → link_kind (kind_of f) ≡ kind_of (made_front (link_kind (kind_of f)) f)
tried-kind f = grind arith

made-kind : (kind : LabelKind) (f : Front) → (kind ≡ kind_of f) ⊎ (kind ≡ link_kind (kind_of f)) →
    kind ≡ kind_of (made_front kind f)
made-kind kind f h = grind (arith, own-kind, tried-kind)

tail-is : (t : Forest) → IsTail t → t ≡ tail_row (tail_of t)
tail-is empty h = refl
tail-is (leaf_then name link cs rest) h = absurd h
tail-is (group_then name a b inside rest) h = ap (group_then name a b inside) h.1

-- a label is made of the last start that waits
pub record MakesAs (back : List Code) (kind : LabelKind) (tail : Forest) (o : Opened) : Type 0 where
  pub before : Opened
  pub start : Front
  pub inside : Brackets
  pub waiting : o ≡ waits before start inside
  pub code : Code
  pub one : back ≡ code ∷ []
  pub is_kind : kind ≡ kind_of (made_front kind start)
  pub tree : start_row (made_front kind start) ≡ start_row start
  pub codes : codes_of (made_front kind start) ≡ codes_of start
  pub last : last_of (made_front kind start) ≡ last_of start
  pub is_tail : tail ≡ tail_row (tail_of tail)
  pub closes : made_with back kind tail o ≡ put (label_then (made_front kind start) inside code (tail_of tail) nothing) before

pub no-kinds : (k : LabelKind) (ks : List LabelKind) → ◌≡◌ {A = List LabelKind} [] (k ∷ ks) → ⊥
no-kinds k ks e = cc

first-kind : (k : LabelKind) (ks : List LabelKind) (l : LabelKind) (ls : List LabelKind) → k ∷ ks ≡ l ∷ ls → l ≡ k
first-kind k ks l ls e = cc

pub makes-as : (back : List Code) (kind : LabelKind) (tail : Forest) (o : Opened) → IsMade (kinds_in o) back kind tail →
    MakesAs back kind tail o
makes-as back kind tail (none_waits b) h = absurd (no-kinds h.start h.before h.waits)
makes-as back kind tail (waits o f inside) h = grind (arith, first-kind, made-kind, made-start, made-codes, made-last, tail-is)

-- What a mark leaves.

pub kinds-marked : (mark : Mark) (o : Opened) → IsMarkAt (kinds_in o) mark →
    kinds_in (marked_with mark o) ≡ kinds_past mark (kinds_in o)
kinds-marked (begins kind marker) o h = grind (arith, begins-as)
kinds-marked (makes back kind tail) o h = grind (arith, makes-as, kinds-put)
kinds-marked loses (none_waits b) h = refl
kinds-marked loses (waits o f inside) h = kinds-put (failed_then f inside nothing) o

pub closed-marked : (mark : Mark) (o : Opened) → IsMarkAt (kinds_in o) mark → IsClosedIn o →
    IsClosedIn (marked_with mark o)
closed-marked (begins kind marker) o h k = grind (arith, begins-as)
closed-marked (makes back kind tail) o h k = grind (arith, makes-as, closed-put)
closed-marked loses (none_waits b) h k = k
closed-marked loses (waits o f inside) h k = closed-put (failed_then f inside nothing) o (k.1, tt) k.0
