-- what the readings of whitespace give, by what stands there
use Rattle.std.proofs.Common.{◌≡◌, ℕ, ◌≤◌, ◌||◌, nat_le, Bool, true, false, if◌then◌else◌, Option, Some, None, List, [], ◌∷◌, length, drop, take, refl, sym, ap, ◌∙◌, arith}
use Rattle.markdown_content.specs.Codes.{Code, is_blank, is_line_ending}
use Rattle.markdown_engine.specs.PastTree.{behind}
use Rattle.markdown_content.specs.Tree.{Forest, empty, ◌⊕◌}
use Rattle.markdown_event.specs.declared.event.Content.{Content}
use Rattle.markdown_event.specs.declared.event.Name.{Name}
use Rattle.markdown_event.specs.declared.event.Name.TheVariants as N
use Rattle.markdown_engine.proofs.ReadingSequences.{row-empty}
use Rattle.markdown_model.specs.CodeTests.{is_empty, next_is}
use Rattle.markdown_model.specs.Grammar.{Reading, ◌>>=◌, gives, either, before, one, some, any_number, span}
use Rattle.markdown_model.specs.TextLines.{linked_leaf}
use Rattle.markdown_model.specs.Whitespace.{space_or_tab, spaces_on_line, spaces_across, space_or_tab_eol, begins_filled_line}
use Rattle.markdown_partial.specs.PartialSpaceOrTabEol.{indent, at_ending}
use Rattle.markdown_partial.proofs.BlankCodes.{Heads, heads, taken-all, dropped}
use Rattle.markdown_model.proofs.GrammarSteps.{bind-some, bind-none, one-here, one-other, span-takes, span-none}

-- Bounded whitespace.

abbrev most_blank : ℕ → List Code → List Code
most_blank max cs = take max (span is_blank cs).0

pub space-holds : (name : Name) (link : Option Content) (min max : ℕ) (cs : List Code) →
    nat_le min (length (most_blank max cs)) ≡ true →
    space_or_tab name link min max cs ≡ Some (linked_leaf name link (most_blank max cs), drop (length (most_blank max cs)) cs)
unfolding space_or_tab
space-holds name link min max cs h = rw (h, space_or_tab) refl

pub space-refused : (name : Name) (link : Option Content) (min max : ℕ) (cs : List Code) →
    nat_le min (length (most_blank max cs)) ≡ false → space_or_tab name link min max cs ≡ None
unfolding space_or_tab
space-refused name link min max cs h = rw (h, space_or_tab) refl

-- where a blank code stands one or more are read, all that stand there
pub space-all : (name : Name) (link : Option Content) (most : ℕ) (cs : List Code) → next_is is_blank cs ≡ true →
    length cs ≤ most →
    space_or_tab name link 1 most cs ≡ Some (linked_leaf name link (span is_blank cs).0, (span is_blank cs).1)
space-all name link most cs h l =
    let first : Heads is_blank cs = heads is_blank cs h in
    let all : most_blank most cs ≡ (span is_blank cs).0 = taken-all most is_blank cs l in
    let some : (span is_blank cs).0 ≡ first.code ∷ _ = ap (λ xs. (span is_blank xs).0) first.whole ∙ ap (λ (s : List Code × List Code). s.0) (span-takes is_blank first.code _ first.passes) in
    let enough : nat_le 1 (length (most_blank most cs)) ≡ true = ap (λ xs. nat_le 1 (length xs)) (all ∙ some) ∙ grind arith in
    space-holds name link 1 most cs enough
    ∙ ap (λ xs. Some (linked_leaf name link xs, drop (length xs) cs)) all
    ∙ ap (λ r. Some (linked_leaf name link (span is_blank cs).0, r)) (dropped is_blank cs)

-- Whitespace with a line ending.

either_of : Option (Forest × List Code) → Option (Forest × List Code) → Option (Forest × List Code)
either_of None b = b
either_of (Some r) b = Some r

pub ending-here : (link : Option Content) (enough : Bool) (c : Code) (cs : List Code) → is_line_ending c ≡ true →
    at_ending link enough (c ∷ cs) ≡ behind (linked_leaf N.LineEnding link (c ∷ [])) (indent link cs)
ending-here link enough c cs h = rw h refl

-- nothing is read, where that is enough
abbrev pub nothing : Bool → List Code → Option (Forest × List Code)
nothing enough cs = if enough then Some (empty, cs) else None

pub ending-none : (link : Option Content) (enough : Bool) (cs : List Code) → next_is is_line_ending cs ≡ false →
    at_ending link enough cs ≡ nothing enough cs
ending-none link enough [] h = refl
ending-none link enough (c ∷ cs) h = rw h refl

-- from the line ending on, with the blank codes before it
abbrev across_from : Option Content → List Code → Reading Forest
across_from link front = do
  ending ← one is_line_ending
  back ← before (any_number is_blank) begins_filled_line
  gives (linked_leaf N.SpaceOrTab link front ⊕ linked_leaf N.LineEnding link ending ⊕ linked_leaf N.SpaceOrTab link back)

-- the blank codes of the next line, after a line ending
abbrev across_after : Option Content → List Code → List Code → Reading Forest
across_after link front ending = do
  back ← before (any_number is_blank) begins_filled_line
  gives (linked_leaf N.SpaceOrTab link front ⊕ linked_leaf N.LineEnding link ending ⊕ linked_leaf N.SpaceOrTab link back)

across-indent : (b : Bool) (link : Option Content) (front ending cs : List Code) →
    begins_filled_line (span is_blank cs).1 ≡ b →
    across_after link front ending cs ≡ behind (linked_leaf N.SpaceOrTab link front) (behind (linked_leaf N.LineEnding link ending) (indent link cs))
unfolding ◌>>=◌ before any_number gives
across-indent true link front ending cs h = rw (h, ◌>>=◌, before, any_number) refl
across-indent false link front ending cs h = rw (h, ◌>>=◌, before, any_number) refl

across-ending : (b : Bool) (link : Option Content) (front : List Code) (c : Code) (cs : List Code) →
    is_line_ending c ≡ b →
    across_from link front (c ∷ cs) ≡ behind (linked_leaf N.SpaceOrTab link front) (at_ending link false (c ∷ cs))
across-ending true link front c cs h =
    bind-some (one is_line_ending) (across_after link front) (c ∷ cs) (c ∷ []) cs _ (one-here is_line_ending c cs h) refl
    ∙ across-indent (begins_filled_line (span is_blank cs).1) link front (c ∷ []) cs refl
    ∙ ap (behind (linked_leaf N.SpaceOrTab link front)) (sym (ending-here link false c cs h))
across-ending false link front c cs h =
    bind-none (one is_line_ending) (across_after link front) (c ∷ cs) (one-other is_line_ending c cs h)
    ∙ ap (behind (linked_leaf N.SpaceOrTab link front)) (sym (ending-none link false (c ∷ cs) h))

across-from : (link : Option Content) (front cs : List Code) →
    across_from link front cs ≡ behind (linked_leaf N.SpaceOrTab link front) (at_ending link false cs)
unfolding ◌>>=◌ one
across-from link front [] = refl
across-from link front (c ∷ cs) = across-ending (is_line_ending c) link front c cs refl

across-is : (link : Option Content) (cs : List Code) →
    spaces_across link cs ≡ behind (linked_leaf N.SpaceOrTab link (span is_blank cs).0) (at_ending link false (span is_blank cs).1)
unfolding spaces_across any_number
across-is link cs =
    bind-some (any_number is_blank) (across_from link) cs (span is_blank cs).0 (span is_blank cs).1 _ refl refl ∙ across-from link (span is_blank cs).0 (span is_blank cs).1

-- blank codes with no line ending after them
on_line : Option Content → List Code × List Code → Option (Forest × List Code)
on_line link s =
    if is_empty s.0 || next_is is_line_ending s.1 then None else Some (linked_leaf N.SpaceOrTab link s.0, s.1)

line-is : (a b : Bool) (link : Option Content) (cs : List Code) → is_empty (span is_blank cs).0 ≡ a →
    next_is is_line_ending (span is_blank cs).1 ≡ b → spaces_on_line link cs ≡ on_line link (span is_blank cs)
unfolding spaces_on_line ◌>>=◌ before some gives on_line
line-is true b link cs h k = rw (h, spaces_on_line, ◌>>=◌, before, some) refl
line-is false true link cs h k = rw (h, k, spaces_on_line, ◌>>=◌, before, some) refl
line-is false false link cs h k = rw (h, k, spaces_on_line, ◌>>=◌, before, some) refl

spacing-is : (link : Option Content) (cs : List Code) →
    space_or_tab_eol link cs ≡ either_of (behind (linked_leaf N.SpaceOrTab link (span is_blank cs).0) (at_ending link false (span is_blank cs).1)) (on_line link (span is_blank cs))
unfolding space_or_tab_eol either either_of
spacing-is link cs =
    cased (spaces_across link cs) (spaces_on_line link cs)
    ∙ ap (λ a. either_of a (spaces_on_line link cs)) (across-is link cs)
    ∙ ap (either_of (behind (linked_leaf N.SpaceOrTab link (span is_blank cs).0) (at_ending link false (span is_blank cs).1))) (line-is (is_empty (span is_blank cs).0) (next_is is_line_ending (span is_blank cs).1) link cs refl refl) where
      cased : (a b : Option (Forest × List Code)) →
          (let r : Option (Forest × List Code) = elim a [ None ↦ b | Some r ↦ Some r ] in r) ≡ either_of a b
      cased None b = refl
      cased (Some r) b = refl

-- after blank codes: a line ending with what follows it, or nothing more
either-none : (o : Option (Forest × List Code)) → either_of o None ≡ o
unfolding either_of
either-none None = refl
either-none (Some r) = refl

then-rest : (b : Bool) (link : Option Content) (front back : List Code) → is_empty front ≡ false →
    next_is is_line_ending back ≡ b →
    either_of (behind (linked_leaf N.SpaceOrTab link front) (at_ending link false back)) (on_line link (front, back)) ≡ behind (linked_leaf N.SpaceOrTab link front) (at_ending link true back)
unfolding either_of on_line
then-rest true link front [] h k = cc
then-rest true link front (c ∷ back) h k =
    let line : on_line link (front, c ∷ back) ≡ None = rw (h, k, on_line) refl in
    ap (either_of (behind (linked_leaf N.SpaceOrTab link front) (at_ending link false (c ∷ back)))) line
    ∙ either-none (behind (linked_leaf N.SpaceOrTab link front) (at_ending link false (c ∷ back)))
    ∙ ap (behind (linked_leaf N.SpaceOrTab link front)) (ending-here link false c back k ∙ sym (ending-here link true c back k))
then-rest false link front back h k =
    let t : Forest = linked_leaf N.SpaceOrTab link front in
    let line : on_line link (front, back) ≡ Some (t, back) = rw (h, k, on_line) refl in
    ap (λ o. either_of (behind t o) (on_line link (front, back))) (ending-none link false back k)
    ∙ line
    ∙ ap (λ u. Some (u, back)) (sym (row-empty t))
    ∙ ap (behind t) (sym (ending-none link true back k))

pub spacing-then : (link : Option Content) (cs : List Code) → next_is is_blank cs ≡ true →
    space_or_tab_eol link cs ≡ behind (linked_leaf N.SpaceOrTab link (span is_blank cs).0) (at_ending link true (span is_blank cs).1)
spacing-then link cs h =
    let first : Heads is_blank cs = heads is_blank cs h in
    let some : is_empty (span is_blank cs).0 ≡ false = ap (λ xs. is_empty (span is_blank xs).0) first.whole ∙ ap (λ (s : List Code × List Code). is_empty s.0) (span-takes is_blank first.code _ first.passes) in
    spacing-is link cs ∙ then-rest (next_is is_line_ending (span is_blank cs).1) link (span is_blank cs).0 (span is_blank cs).1 some refl

pub behind-empty : (o : Option (Forest × List Code)) → behind empty o ≡ o
behind-empty None = refl
behind-empty (Some r) = refl

-- where no blank code stands it begins with the line ending
pub spacing-none : (link : Option Content) (cs : List Code) → next_is is_blank cs ≡ false →
    space_or_tab_eol link cs ≡ at_ending link false cs
unfolding on_line
spacing-none link cs h =
    spacing-is link cs
    ∙ ap (λ (s : List Code × List Code). either_of (behind (linked_leaf N.SpaceOrTab link s.0) (at_ending link false s.1)) (on_line link s)) (span-none is_blank cs h)
    ∙ either-none (behind empty (at_ending link false cs))
    ∙ behind-empty (at_ending link false cs)
