-- the innermost events of a tree's events are its leaves, and they cover its codes
use Rattle.std.proofs.Common.{◌≡◌, ℕ, ◌+◌, Option, Some, None, List, [], ◌∷◌, ◌++◌, map, if◌then◌else◌, refl, sym, ap, subst, ◌∙◌, append_assoc}
use Rattle.std.proofs.lemmas.List.{append-nil}
use Rattle.std.specs.List.{All}
use Rattle.std.proofs.lemmas.List.Elements.{All-nil, All-cons, All-append}
use Rattle.markdown_content.specs.Codes.{Code, stop_of, document_start, place_of}
use Rattle.markdown_content.specs.DocumentWalk.{IsPoint}
use Rattle.markdown_content.proofs.PlaceOrder.{before-self}
use Rattle.markdown_passes.specs.TrimmedData.{between, IsStretch}
use Rattle.markdown_passes.specs.TrimmedEvents.{AreDocumentCodes}
use Rattle.markdown_passes.proofs.TrimPassLaw.{IsStretchOf, part-of}
use Rattle.markdown_passes.proofs.TrimWalks.{forward-as, ended-of}
use Rattle.markdown_content.specs.Tree.{Forest, empty, leaf_then, group_then, leaf_codes, event, event_count, events_from, events_of, next_linked, start_of}
use Rattle.markdown_event.specs.declared.event.Content.{Content}
use Rattle.markdown_event.specs.declared.event.Event.{Event}
use Rattle.markdown_event.specs.declared.event.Kind.{Kind}
use Rattle.markdown_event.specs.declared.event.Name.{Name}
use Rattle.markdown_event.specs.declared.event.Point.{Point}
use Rattle.markdown_innermost.specs.InnermostEvents.{IsSpanInOrder, Lent, lent, Span, has_nothing_inside, span_of, innermost, leaves_of, covered, HasLeaves}

abbrev span : Name → Point → Point → Span
span name a b = record { name = name; start = a; end = b }

abbrev at : Kind → Kind → Span → List Span
at enter exit s = if has_nothing_inside enter exit then s ∷ [] else []

abbrev leaf_span : Name → List Code → Span
leaf_span name cs = span name (start_of cs) (stop_of document_start cs)

-- an Exit is no innermost event's first
exit-first : (e : Event) (es : List Event) → e.kind ≡ Kind.Exit → innermost (e ∷ es) ≡ innermost es
exit-first e [] h = refl
exit-first e (x ∷ es) h = ap (λ k. at k x.kind (span_of e x) ++ innermost (x ∷ es)) h

-- an Enter with another behind it
enter-enter : (e x : Event) (es : List Event) → e.kind ≡ Kind.Enter → x.kind ≡ Kind.Enter →
    innermost (e ∷ x ∷ es) ≡ innermost (x ∷ es)
enter-enter e x es h k =
    ap (λ a. at a x.kind (span_of e x) ++ innermost (x ∷ es)) h ∙ ap (λ a. at Kind.Enter a (span_of e x) ++ innermost (x ∷ es)) k

-- they begin with an Enter
abbrev FirstEnters : List Event → Type 0
FirstEnters [] = ⊥
FirstEnters (x ∷ es) = x.kind ≡ Kind.Enter

enter-group : (e : Event) (es : List Event) → e.kind ≡ Kind.Enter → FirstEnters es → innermost (e ∷ es) ≡ innermost es
enter-group e [] h k = absurd k
enter-group e (x ∷ es) h k = enter-enter e x es h k

-- an Enter with its Exit
enter-exit : (e x : Event) (es : List Event) → e.kind ≡ Kind.Enter → x.kind ≡ Kind.Exit →
    innermost (e ∷ x ∷ es) ≡ span_of e x ∷ innermost es
enter-exit e x es h k =
    ap (λ a. at a x.kind (span_of e x) ++ innermost (x ∷ es)) h
    ∙ ap (λ a. at Kind.Enter a (span_of e x) ++ innermost (x ∷ es)) k
    ∙ ap (λ ss. span_of e x ∷ ss) (exit-first x es k)

abbrev InnermostLaw : Forest → Type 0
InnermostLaw t = (n : ℕ) (p : Option ℕ) (es : List Event) → innermost (events_from n p t ++ es) ≡ leaves_of t ++ innermost es

-- a group around something
around : (name : Name) (a b : Point) (inside rest : Forest) → InnermostLaw inside → InnermostLaw rest →
    (n : ℕ) (p : Option ℕ) (es : List Event) →
    innermost (events_from (n + 1) None inside ++ (event Kind.Exit name b ∷ (events_from (n + 2 + event_count inside) p rest ++ es))) ≡ (leaves_of inside ++ leaves_of rest) ++ innermost es
around name a b inside rest in_law rest_law n p es =
    let more : List Event = events_from (n + 2 + event_count inside) p rest ++ es in
    in_law (n + 1) None (event Kind.Exit name b ∷ more)
    ∙ ap (λ ss. leaves_of inside ++ ss) (exit-first (event Kind.Exit name b) more refl ∙ rest_law (n + 2 + event_count inside) p es)
    ∙ sym (append_assoc (leaves_of inside) (leaves_of rest) (innermost es))

split : (n : ℕ) (name : Name) (b : Point) (inside rest : Forest) (p : Option ℕ) (es : List Event) →
    (events_from (n + 1) None inside ++ event Kind.Exit name b ∷ events_from (n + 2 + event_count inside) p rest) ++ es ≡ events_from (n + 1) None inside ++ (event Kind.Exit name b ∷ (events_from (n + 2 + event_count inside) p rest ++ es))
split n name b inside rest p es =
    append_assoc (events_from (n + 1) None inside) (event Kind.Exit name b ∷ events_from (n + 2 + event_count inside) p rest) es

leaf-first : (n : ℕ) (p : Option ℕ) (name : Name) (link : Option Content) (cs : List Code) (rest : Forest) (es : List Event) →
    InnermostLaw rest →
    innermost (events_from n p (leaf_then name link cs rest) ++ es) ≡ leaf_span name cs ∷ (leaves_of rest ++ innermost es)
leaf-first n p name None cs rest es law =
    enter-exit (event Kind.Enter name (start_of cs)) (event Kind.Exit name (stop_of document_start cs)) (events_from (n + 2) p rest ++ es) refl refl ∙ ap (λ ss. leaf_span name cs ∷ ss) (law (n + 2) p es)
leaf-first n p name (Some c) cs rest es law =
    enter-exit (record { kind = Kind.Enter; name = name; point = start_of cs; link = Some (record { previous = p; next = next_linked (n + 2) rest; content = c }) }) (event Kind.Exit name (stop_of document_start cs)) (events_from (n + 2) (Some n) rest ++ es) refl refl
    ∙ ap (λ ss. leaf_span name cs ∷ ss) (law (n + 2) (Some n) es)

group-law : (name : Name) (a b : Point) (inside rest : Forest) → InnermostLaw inside → InnermostLaw rest →
    InnermostLaw (group_then name a b inside rest)
group-law name a b empty rest in_law rest_law n p es =
    enter-exit (event Kind.Enter name a) (event Kind.Exit name b) (events_from (n + 2 + 0) p rest ++ es) refl refl ∙ ap (λ ss. span name a b ∷ ss) (rest_law (n + 2 + 0) p es)
group-law name a b (leaf_then m None cs more) rest in_law rest_law n p es =
    let more_events : List Event = event Kind.Exit name b ∷ (events_from (n + 2 + event_count (leaf_then m None cs more)) p rest ++ es) in
    ap (λ xs. innermost (event Kind.Enter name a ∷ xs)) (split n name b (leaf_then m None cs more) rest p es)
    ∙ enter-group (event Kind.Enter name a) (events_from (n + 1) None (leaf_then m None cs more) ++ more_events) refl refl
    ∙ around name a b (leaf_then m None cs more) rest in_law rest_law n p es
group-law name a b (leaf_then m (Some c) cs more) rest in_law rest_law n p es =
    let more_events : List Event = event Kind.Exit name b ∷ (events_from (n + 2 + event_count (leaf_then m (Some c) cs more)) p rest ++ es) in
    ap (λ xs. innermost (event Kind.Enter name a ∷ xs)) (split n name b (leaf_then m (Some c) cs more) rest p es)
    ∙ enter-group (event Kind.Enter name a) (events_from (n + 1) None (leaf_then m (Some c) cs more) ++ more_events) refl refl
    ∙ around name a b (leaf_then m (Some c) cs more) rest in_law rest_law n p es
group-law name a b (group_then m c d inner more) rest in_law rest_law n p es =
    let more_events : List Event = event Kind.Exit name b ∷ (events_from (n + 2 + event_count (group_then m c d inner more)) p rest ++ es) in
    ap (λ xs. innermost (event Kind.Enter name a ∷ xs)) (split n name b (group_then m c d inner more) rest p es)
    ∙ enter-group (event Kind.Enter name a) (events_from (n + 1) None (group_then m c d inner more) ++ more_events) refl refl
    ∙ around name a b (group_then m c d inner more) rest in_law rest_law n p es

law : (t : Forest) → InnermostLaw t
law empty n p es = refl
law (leaf_then name link cs rest) n p es = leaf-first n p name link cs rest es (law rest)
law (group_then name a b inside rest) n p es = group-law name a b inside rest (law inside) (law rest) n p es

-- the innermost events of a tree's events
pub innermost-leaves : (t : Forest) → innermost (events_of t) ≡ leaves_of t
innermost-leaves t = ap innermost (sym (append-nil (events_of t))) ∙ law t 0 None [] ∙ append-nil (leaves_of t)

-- Leaves that are part of the document.

-- a span with its codes, of which the pass over the others is known
record IsCovered (bytes : List ℕ) (s : Span) (cs : List Code) : Type 0 where
  stretch : IsSpanInOrder bytes s
  codes : between bytes s.start s.end ≡ cs

leaf-covered : (bytes : List ℕ) (name : Name) (cs : List Code) → AreDocumentCodes bytes cs →
    IsCovered bytes (leaf_span name cs) cs
leaf-covered bytes name cs h =
    let p : IsStretchOf bytes cs = part-of bytes cs h in record { stretch = p.stretch; codes = p.codes }

nothing-covered : (bytes : List ℕ) (name : Name) (a b : Point) → IsPoint bytes a → a ≡ b →
    IsCovered bytes (span name a b) []
nothing-covered bytes name a b h e =
    let self : IsStretch bytes a a = record { from_place = h; to_place = h; forward = forward-as a a (before-self (place_of a)) } in
    subst (λ (x : Point). IsCovered bytes (span name a x) []) e (record { stretch = self; codes = (ended-of bytes a a self (before-self (place_of a))).none })

-- What they cover.

lent-codes : (bytes : List ℕ) (s : Span) (ls : List Lent) →
    covered bytes (lent bytes s ∷ ls) ≡ between bytes s.start s.end ++ covered bytes ls
unfolding lent
lent-codes bytes s ls = refl

abbrev codes : List ℕ → List Span → List Code
codes bytes ss = covered bytes (map (lent bytes) ss)

codes-append : (bytes : List ℕ) (a b : List Span) → codes bytes (a ++ b) ≡ codes bytes a ++ codes bytes b
codes-append bytes [] b = refl
codes-append bytes (s ∷ a) b =
    lent-codes bytes s (map (lent bytes) (a ++ b))
    ∙ ap (λ x. between bytes s.start s.end ++ x) (codes-append bytes a b)
    ∙ sym (append_assoc (between bytes s.start s.end) (codes bytes a) (codes bytes b))
    ∙ ap (λ x. x ++ codes bytes b) (sym (lent-codes bytes s (map (lent bytes) a)))

-- some spans with the codes that they cover, in order
record AreCovered (bytes : List ℕ) (ss : List Span) (cs : List Code) : Type 0 where
  stretches : All (IsSpanInOrder bytes) ss
  all : codes bytes ss ≡ cs

one-more : (bytes : List ℕ) (s : Span) (cs : List Code) (ss : List Span) (ds : List Code) → IsCovered bytes s cs →
    AreCovered bytes ss ds → AreCovered bytes (s ∷ ss) (cs ++ ds)
one-more bytes s cs ss ds h k = record {
  stretches = All-cons (IsSpanInOrder bytes) s ss h.stretch k.stretches;
  all = lent-codes bytes s (map (lent bytes) ss) ∙ ap (λ x. x ++ codes bytes ss) h.codes ∙ ap (λ x. cs ++ x) k.all;
}

two-rows : (bytes : List ℕ) (ss ts : List Span) (cs ds : List Code) → AreCovered bytes ss cs → AreCovered bytes ts ds →
    AreCovered bytes (ss ++ ts) (cs ++ ds)
two-rows bytes ss ts cs ds h k = record {
  stretches = All-append (IsSpanInOrder bytes) ss ts h.stretches k.stretches;
  all = codes-append bytes ss ts ∙ ap (λ x. x ++ codes bytes ts) h.all ∙ ap (λ x. cs ++ x) k.all;
}

-- each code is covered once, in order
leaves-covered : (bytes : List ℕ) (t : Forest) → HasLeaves bytes t → AreCovered bytes (leaves_of t) (leaf_codes t)
leaves-covered bytes empty h = record { stretches = All-nil (IsSpanInOrder bytes); all = refl }
leaves-covered bytes (leaf_then name link cs rest) h =
    one-more bytes (leaf_span name cs) cs (leaves_of rest) (leaf_codes rest) (leaf-covered bytes name cs h.0) (leaves-covered bytes rest h.1)
leaves-covered bytes (group_then name a b empty rest) h =
    one-more bytes (span name a b) [] (leaves_of rest) (leaf_codes rest) (nothing-covered bytes name a b h.0.0 h.0.1) (leaves-covered bytes rest h.1)
leaves-covered bytes (group_then name a b (leaf_then m l cs more) rest) h =
    two-rows bytes (leaves_of (leaf_then m l cs more)) (leaves_of rest) (leaf_codes (leaf_then m l cs more)) (leaf_codes rest) (leaves-covered bytes (leaf_then m l cs more) h.0) (leaves-covered bytes rest h.1)
leaves-covered bytes (group_then name a b (group_then m c d inner more) rest) h =
    two-rows bytes (leaves_of (group_then m c d inner more)) (leaves_of rest) (leaf_codes (group_then m c d inner more)) (leaf_codes rest) (leaves-covered bytes (group_then m c d inner more) h.0) (leaves-covered bytes rest h.1)

-- the innermost events of such a tree stand at places of the document
pub leaves-in-order : (bytes : List ℕ) (t : Forest) (es : List Event) → HasLeaves bytes t → es ≡ events_of t →
    All (IsSpanInOrder bytes) (innermost es)
leaves-in-order bytes t es h e =
    subst (All (IsSpanInOrder bytes)) (sym (ap innermost e ∙ innermost-leaves t)) (leaves-covered bytes t h).stretches

-- what is lent for the events of a tree, and the codes of that
pub lent-leaves : (bytes : List ℕ) (t : Forest) (es : List Event) → es ≡ events_of t →
    map (lent bytes) (innermost es) ≡ map (lent bytes) (leaves_of t)
lent-leaves bytes t es e = ap (λ xs. map (lent bytes) (innermost xs)) e ∙ ap (map (lent bytes)) (innermost-leaves t)

pub lent-covers : (bytes : List ℕ) (t : Forest) (es : List Event) → HasLeaves bytes t → es ≡ events_of t →
    covered bytes (map (lent bytes) (innermost es)) ≡ leaf_codes t
lent-covers bytes t es h e = ap (covered bytes) (lent-leaves bytes t es e) ∙ (leaves-covered bytes t h).all
