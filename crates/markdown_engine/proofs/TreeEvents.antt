-- what a tree appends
use Rattle.std.proofs.Common.{◌≡◌, ◌≢◌, ℕ, ◌+◌, Bool, true, false, Option, Some, None, List, [], ◌∷◌, ◌++◌, length, refl, sym, ap, subst, ◌∙◌, arith, append_assoc, append-nil, length-append}
use Rattle.markdown_content.specs.Codes.{Code, stop_of, document_start}
use Rattle.markdown_engine.specs.FailedRun.{Grown, unwound, Fails}
use Rattle.markdown_engine.specs.Operations.{Op, Enter, Exit, Consume, applied, done, ahead, scratched, link_back, enter_event}
use Rattle.markdown_engine.specs.PastTree.{moved_by, past, link_of, last_link, appended_from, entered_leaf, link_before, passed}
use Rattle.markdown_content.specs.Place.{point_of, exit_point}
use Rattle.markdown_content.specs.Tree.{Forest, empty, leaf_then, group_then, ◌⊕◌, leaf_codes, event_count, event, start_of}
use Rattle.markdown_engine.specs.TreeOps.{consumes, ops_of, IsSolid}
use Rattle.markdown_event.specs.declared.event.Content.{Content}
use Rattle.markdown_event.specs.declared.event.Kind.TheVariants as Kind
use Rattle.markdown_event.specs.declared.event.Name.{Name}
use Rattle.markdown_engine.specs.declared.tokenizer.TokenizeState.{TokenizeState}
use Rattle.markdown_engine.specs.declared.tokenizer.Tokenizer.{Tokenizer}
use Rattle.markdown_engine.proofs.LawSteps.{Grown-refl}
use Rattle.markdown_engine.proofs.OperationFields.{ahead-applied}
use Rattle.markdown_engine.proofs.OperationLemmas.{Grown-scratched}
use Rattle.markdown_engine.proofs.PlaceAfterCodes.{stop-moved, ahead-moved_by, moved_by-append}
use Rattle.markdown_content.proofs.PlaceRules.{point_ahead}
use Rattle.markdown_content.proofs.TreeCodes.{leaf_codes-row}

pub done-consumes : (cs : List Code) (os : List Op) (T : Tokenizer) → done (consumes cs ++ os) T ≡ done os (passed cs T)
unfolding passed applied
done-consumes [] os T = refl
done-consumes (c ∷ cs) os T = done-consumes cs os (applied Consume T)

-- the Enter of a leaf, whichever way it is linked
abbrev pub entered_as : Name → Option Content → Option ℕ → Tokenizer → Tokenizer
entered_as n link previous T =
    record T { events = T.events ++ enter_event n (link_of previous link) T ∷ []; stack = n ∷ T.stack }

pub entered_leaf-is : (n : Name) (link : Option Content) (connect : Bool) (T : Tokenizer) →
    entered_leaf n link connect T ≡ entered_as n link (link_before connect T) T
unfolding applied
entered_leaf-is n None connect T = refl
entered_leaf-is n (Some c) true T = refl
entered_leaf-is n (Some c) false T = refl

leaf-events : (k : ℕ) (n : Name) (link : Option Content) (previous : Option ℕ) (c : Code) (cs : List Code) →
    appended_from k previous (leaf_then n link (c ∷ cs) empty) ≡ record { kind = Kind.Enter; name = n; point = c.start; link = link_of previous link } ∷ event Kind.Exit n (stop_of document_start (c ∷ cs)) ∷ []
leaf-events k n None previous c cs = refl
leaf-events k n (Some x) previous c cs = refl

leaf-codes : (n : Name) (link : Option Content) (c : Code) (cs : List Code) →
    leaf_codes (leaf_then n link (c ∷ cs) empty) ≡ c ∷ cs
leaf-codes n link c cs = append-nil (c ∷ cs)

-- A leaf over the codes passed: its Enter, the codes one by one, and its Exit.
pub leaf-past : (n : Name) (link : Option Content) (connect : Bool) (c : Code) (cs rest : List Code) (T : Tokenizer) →
    ahead T ≡ (c ∷ cs) ++ rest →
    applied (Exit n) (passed (c ∷ cs) (entered_leaf n link connect T)) ≡ past (link_before connect T) (leaf_then n link (c ∷ cs) empty) T
unfolding applied passed past
leaf-past n link connect c cs rest T e =
    let previous : Option ℕ = link_before connect T in
    let first : point_of T.cursor ≡ c.start = point_ahead T.cursor c (cs ++ rest) e in
    let last : exit_point (moved_by (c ∷ cs) T.cursor) ≡ stop_of document_start (c ∷ cs) = stop-moved document_start c cs rest T.cursor e in
    rw (entered_leaf-is n link connect T, leaf-events (length T.events) n link previous c cs, leaf-codes n link c cs, first, last, append_assoc) refl

-- the same as operations
pub done-leaf : (n : Name) (link : Option Content) (connect : Bool) (c : Code) (cs rest : List Code) (T : Tokenizer) →
    ahead T ≡ (c ∷ cs) ++ rest →
    done (consumes (c ∷ cs) ++ Exit n ∷ []) (entered_leaf n link connect T) ≡ past (link_before connect T) (leaf_then n link (c ∷ cs) empty) T
done-leaf n link connect c cs rest T e =
    done-consumes (c ∷ cs) (Exit n ∷ []) (entered_leaf n link connect T) ∙ leaf-past n link connect c cs rest T e

-- rows

pub length-appended_from : (n : ℕ) (previous : Option ℕ) (t : Forest) →
    length (appended_from n previous t) ≡ event_count t
length-appended_from n previous empty = refl
length-appended_from n previous (leaf_then name None cs r) = omega (arith, length-appended_from (n + 2) previous r)
length-appended_from n previous (leaf_then name (Some c) cs r) = omega (arith, length-appended_from (n + 2) (Some n) r)
length-appended_from n previous (group_then name a b i r) =
    omega (arith, length-appended_from (n + 1) None i, length-appended_from (n + 2 + event_count i) previous r, length-append (appended_from (n + 1) None i) (event Kind.Exit name b ∷ appended_from (n + 2 + event_count i) previous r))

pub appended_from-row : (n : ℕ) (previous : Option ℕ) (t u : Forest) →
    appended_from n previous (t ⊕ u) ≡ appended_from n previous t ++ appended_from (n + event_count t) (last_link n previous t) u
appended_from-row n previous empty u = ap (λ k. appended_from k previous u) (omega arith)
appended_from-row n previous (leaf_then name None cs r) u =
    ap (λ es. event Kind.Enter name (start_of cs) ∷ event Kind.Exit name (stop_of document_start cs) ∷ es) (appended_from-row (n + 2) previous r u ∙ ap (λ k. appended_from (n + 2) previous r ++ appended_from k (last_link (n + 2) previous r) u) (omega arith))
appended_from-row n previous (leaf_then name (Some c) cs r) u =
    ap (λ es. record { kind = Kind.Enter; name = name; point = start_of cs; link = Some (link_back previous c) } ∷ event Kind.Exit name (stop_of document_start cs) ∷ es) (appended_from-row (n + 2) (Some n) r u ∙ ap (λ k. appended_from (n + 2) (Some n) r ++ appended_from k (last_link (n + 2) (Some n) r) u) (omega arith))
appended_from-row n previous (group_then name a b i r) u =
    let m : ℕ = n + 2 + event_count i in
    let tail : appended_from m previous (r ⊕ u) ≡ appended_from m previous r ++ appended_from (n + (2 + event_count i + event_count r)) (last_link m previous r) u =
    appended_from-row m previous r u ∙ ap (λ k. appended_from m previous r ++ appended_from k (last_link m previous r) u) (omega arith) in
    ap (λ es. event Kind.Enter name a ∷ (appended_from (n + 1) None i ++ event Kind.Exit name b ∷ es)) tail
    ∙ ap (λ es. event Kind.Enter name a ∷ es) (sym (append_assoc (appended_from (n + 1) None i) (event Kind.Exit name b ∷ appended_from m previous r) (appended_from (n + (2 + event_count i + event_count r)) (last_link m previous r) u)))

-- past one row and then another
pub past-past : (previous : Option ℕ) (t u : Forest) (T : Tokenizer) →
    past (last_link (length T.events) previous t) u (past previous t T) ≡ past previous (t ⊕ u) T
unfolding past
past-past previous t u T =
    let at : length (T.events ++ appended_from (length T.events) previous t) ≡ length T.events + event_count t = omega (arith, length-append T.events (appended_from (length T.events) previous t), length-appended_from (length T.events) previous t) in
    rw (at, append_assoc, ← appended_from-row (length T.events) previous t u, leaf_codes-row t u, moved_by-append (leaf_codes t) (leaf_codes u) T.cursor) refl

pub ahead-past : (previous : Option ℕ) (t : Forest) (T : Tokenizer) (rest : List Code) →
    ahead T ≡ leaf_codes t ++ rest → ahead (past previous t T) ≡ rest
unfolding past
ahead-past previous t T rest e = ahead-moved_by (leaf_codes t) rest T.cursor e

pub past-empty : (previous : Option ℕ) (T : Tokenizer) → past previous empty T ≡ T
unfolding past
past-empty previous T = rw (append-nil T.events) refl

pub Grown-past : (d : ℕ) (previous : Option ℕ) (t : Forest) (T U : Tokenizer) → Grown d (past previous t T) U →
    Grown d T U
unfolding past unwound scratched
Grown-past d previous t T U g =
    record { added = _; events = g.events ∙ append_assoc T.events _ g.added; edits = g.edits; map = g.map; opened = g.opened; stack = g.stack; same = ap (λ (x : Tokenizer). record x { events = T.events; cursor = T.cursor }) g.same }

pub Grown-left : (d : ℕ) (previous : Option ℕ) (t : Forest) (s : TokenizeState) (T : Tokenizer) →
    Grown d T (past previous t (scratched s T))
Grown-left d previous t s T = Grown-scratched d s T _ (Grown-past d previous t (scratched s T) _ (Grown-refl d _))

-- a run that reads and then refuses
pub Fails-past : (previous : Option ℕ) (t : Forest) (s : TokenizeState) (T U : Tokenizer) →
    U ≡ past previous t (scratched s T) → Fails s T U
unfolding past scratched
Fails-past previous t s T U e =
    record { grown = subst (λ (x : Tokenizer). Grown 0 T x) (sym e) (Grown-left 0 previous t s T); scratch = ap (λ (x : Tokenizer). x.tokenize_state) e }

-- a group: its Enter, what stands in it, and its Exit
pub group-past : (n : Name) (previous : Option ℕ) (inside : Forest) (T : Tokenizer) →
    applied (Exit n) (past None inside (applied (Enter n) T)) ≡ past previous (group_then n (point_of T.cursor) (exit_point (moved_by (leaf_codes inside) T.cursor)) inside empty) T
unfolding past applied
group-past n previous inside T =
    let at : length (T.events ++ event Kind.Enter n (point_of T.cursor) ∷ []) ≡ length T.events + 1 = length-append T.events (event Kind.Enter n (point_of T.cursor) ∷ []) in
    let codes : leaf_codes inside ++ [] ≡ leaf_codes inside = append-nil (leaf_codes inside) in
    rw (at, codes, append_assoc, append_assoc) refl

-- Operations for a whole tree.

pub done-append : (xs ys : List Op) (T : Tokenizer) → done (xs ++ ys) T ≡ done ys (done xs T)
done-append [] ys T = refl
done-append (x ∷ xs) ys T = done-append xs ys (applied x T)

-- the groups' places are those at which a run enters and leaves them
pub solid-start : (cs rest : List Code) (T : Tokenizer) → cs ≢ [] → ahead T ≡ cs ++ rest →
    point_of T.cursor ≡ start_of cs
solid-start [] rest T some e = absurd (some refl)
solid-start (c ∷ cs) rest T some e = point_ahead T.cursor c (cs ++ rest) e

pub solid-stop : (cs rest : List Code) (T : Tokenizer) → cs ≢ [] → ahead T ≡ cs ++ rest →
    exit_point (moved_by cs T.cursor) ≡ stop_of document_start cs
solid-stop [] rest T some e = absurd (some refl)
solid-stop (c ∷ cs) rest T some e = stop-moved document_start c cs rest T.cursor e

solid-leaf : (n : Name) (cs rest : List Code) (T : Tokenizer) → cs ≢ [] → ahead T ≡ cs ++ rest →
    applied (Exit n) (passed cs (applied (Enter n) T)) ≡ past None (leaf_then n None cs empty) T
solid-leaf n [] rest T some e = absurd (some refl)
solid-leaf n (c ∷ cs) rest T some e = leaf-past n None false c cs rest T e

solid-group : (n : Name) (inside : Forest) (rest : List Code) (T : Tokenizer) → leaf_codes inside ≢ [] →
    ahead T ≡ leaf_codes inside ++ rest →
    applied (Exit n) (past None inside (applied (Enter n) T)) ≡ past None (group_then n (start_of (leaf_codes inside)) (stop_of document_start (leaf_codes inside)) inside empty) T
solid-group n inside rest T some e =
    group-past n None inside T
    ∙ ap (λ p. past None (group_then n p (exit_point (moved_by (leaf_codes inside) T.cursor)) inside empty) T) (solid-start (leaf_codes inside) rest T some e)
    ∙ ap (λ p. past None (group_then n (start_of (leaf_codes inside)) p inside empty) T) (solid-stop (leaf_codes inside) rest T some e)

last-unlinked : (n : ℕ) (t : Forest) → IsSolid t → last_link n None t ≡ None
last-unlinked n empty s = refl
last-unlinked n (leaf_then name None cs rest) s = last-unlinked (n + 2) rest s.1.1
last-unlinked n (leaf_then name (Some c) cs rest) s = cc
last-unlinked n (group_then name a b inside rest) s = last-unlinked (n + 2 + event_count inside) rest s.1.1.1.1

-- one tree and then a row
solid-then : (t rest : Forest) (T U : Tokenizer) → IsSolid t → U ≡ past None t T →
    past None rest U ≡ past None (t ⊕ rest) T
solid-then t rest T U s e =
    ap (past None rest) e
    ∙ ap (λ k. past k rest (past None t T)) (sym (last-unlinked (length T.events) t s))
    ∙ past-past None t rest T

pub ops-past : (t : Forest) (rest : List Code) (T : Tokenizer) → IsSolid t → ahead T ≡ leaf_codes t ++ rest →
    done (ops_of t) T ≡ past None t T
ops-past empty rest T s e = sym (past-empty None T)
ops-past (leaf_then n None cs more) rest T s e =
    let here : ahead T ≡ cs ++ (leaf_codes more ++ rest) = e ∙ append_assoc cs (leaf_codes more) rest in
    let U : Tokenizer = applied (Exit n) (passed cs (applied (Enter n) T)) in
    let is : U ≡ past None (leaf_then n None cs empty) T = solid-leaf n cs (leaf_codes more ++ rest) T s.1.0 here in
    let left : ahead U ≡ leaf_codes more ++ rest = ap ahead is ∙ ahead-past None (leaf_then n None cs empty) T (leaf_codes more ++ rest) (here ∙ ap (λ xs. xs ++ (leaf_codes more ++ rest)) (sym (append-nil cs))) in
    done-consumes cs (Exit n ∷ ops_of more) (applied (Enter n) T)
    ∙ ops-past more rest U s.1.1 left
    ∙ solid-then (leaf_then n None cs empty) more T U (refl, (s.1.0, tt)) is
ops-past (leaf_then n (Some c) cs more) rest T s e = cc
ops-past (group_then n a b inside more) rest T s e =
    let here : ahead T ≡ leaf_codes inside ++ (leaf_codes more ++ rest) = e ∙ append_assoc (leaf_codes inside) (leaf_codes more) rest in
    let E : Tokenizer = applied (Enter n) T in
    let inner : done (ops_of inside) E ≡ past None inside E = ops-past inside (leaf_codes more ++ rest) E s.1.1.1.0 (ahead-applied (Enter n) T ∙ here) in
    let G : Forest = group_then n (start_of (leaf_codes inside)) (stop_of document_start (leaf_codes inside)) inside empty in
    let U : Tokenizer = applied (Exit n) (done (ops_of inside) E) in
    let is : U ≡ past None G T = ap (applied (Exit n)) inner ∙ solid-group n inside (leaf_codes more ++ rest) T s.0 here in
    let left : ahead U ≡ leaf_codes more ++ rest = ap ahead is ∙ ahead-past None G T (leaf_codes more ++ rest) (here ∙ ap (λ xs. xs ++ (leaf_codes more ++ rest)) (sym (append-nil (leaf_codes inside)))) in
    done-append (ops_of inside) (Exit n ∷ ops_of more) E
    ∙ ops-past more rest U s.1.1.1.1 left
    ∙ solid-then G more T U (s.0, (refl, (refl, (s.1.1.1.0, tt)))) is
    ∙ ap (λ p. past None (group_then n p (stop_of document_start (leaf_codes inside)) inside more) T) (sym s.1.0)
    ∙ ap (λ p. past None (group_then n a p inside more) T) (sym s.1.1.0)
