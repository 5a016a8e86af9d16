-- trees without empty or linked leaves, whose groups reach from their first code to their last
use Rattle.std.proofs.Common.{◌≡◌, ◌≢◌, List, [], ◌∷◌, ◌++◌, refl, sym, ap, ◌∙◌}
use Rattle.markdown_content.specs.Codes.{Code, stop_of, document_start}
use Rattle.markdown_content.specs.Tree.{Forest, empty, leaf_then, group_then, leaf, group, ◌⊕◌, leaf_codes, start_of, enter_of, exit_after}
use Rattle.markdown_engine.specs.TreeOps.{IsSolid}
use Rattle.markdown_event.specs.declared.event.Name.{Name}
use Rattle.markdown_event.specs.declared.event.Point.{Point}

pub IsSolid-leaf : (n : Name) (cs : List Code) → IsSolid (leaf n cs)
IsSolid-leaf n [] = tt
IsSolid-leaf n (c ∷ cs) = (refl, (λ e. cc, tt))

pub IsSolid-row : (t u : Forest) → IsSolid t → IsSolid u → IsSolid (t ⊕ u)
IsSolid-row empty u s r = r
IsSolid-row (leaf_then n link cs more) u s r = (s.0, (s.1.0, IsSolid-row more u s.1.1 r))
IsSolid-row (group_then n a b inside more) u s r =
    (s.0, (s.1.0, (s.1.1.0, (s.1.1.1.0, IsSolid-row more u s.1.1.1.1 r))))

pub stop_of-append : (p : Point) (xs ys : List Code) → stop_of p (xs ++ ys) ≡ stop_of (stop_of p xs) ys
stop_of-append p [] ys = refl
stop_of-append p (x ∷ xs) ys = stop_of-append x.stop xs ys

-- where some codes end does not depend on where the codes before them end
pub stop_of-some : (p q : Point) (cs : List Code) → cs ≢ [] → stop_of p cs ≡ stop_of q cs
stop_of-some p q [] some = absurd (some refl)
stop_of-some p q (c ∷ cs) some = refl

pub start-append : (cs ds : List Code) → cs ≢ [] → start_of (cs ++ ds) ≡ start_of cs
start-append [] ds some = absurd (some refl)
start-append (c ∷ cs) ds some = refl

solid-enter : (t : Forest) → IsSolid t → enter_of t ≡ start_of (leaf_codes t)
solid-enter empty s = refl
solid-enter (leaf_then n link cs more) s = sym (start-append cs (leaf_codes more) s.1.0)
solid-enter (group_then n a b inside more) s = s.1.0 ∙ sym (start-append (leaf_codes inside) (leaf_codes more) s.0)

solid-exit : (p : Point) (t : Forest) → IsSolid t → exit_after p t ≡ stop_of p (leaf_codes t)
solid-exit p empty s = refl
solid-exit p (leaf_then n link cs more) s =
    solid-exit (stop_of p cs) more s.1.1 ∙ sym (stop_of-append p cs (leaf_codes more))
solid-exit p (group_then n a b inside more) s =
    solid-exit b more s.1.1.1.1
    ∙ ap (λ q. stop_of q (leaf_codes more)) (s.1.1.0 ∙ stop_of-some document_start p (leaf_codes inside) s.0)
    ∙ sym (stop_of-append p (leaf_codes inside) (leaf_codes more))

pub IsSolid-group : (n : Name) (inside : Forest) → leaf_codes inside ≢ [] → IsSolid inside → IsSolid (group n inside)
IsSolid-group n inside some s =
    (some, (solid-enter inside s, (solid-exit (enter_of inside) inside s ∙ stop_of-some (enter_of inside) document_start (leaf_codes inside) some, (s, tt))))
