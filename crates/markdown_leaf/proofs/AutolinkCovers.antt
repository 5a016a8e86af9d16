-- Whole autolinks: the codes that their readings pass, and the operations of their trees.
use Rattle.std.proofs.Common.{◌≡◌, ◌≢◌, ◌==◌, Bool, true, false, ◌&&◌, if◌then◌else◌, Option, Some, None, List, [], ◌∷◌, ◌++◌, refl, sym, ap, subst, ◌∙◌, append_assoc}
use Rattle.std.proofs.lemmas.Bool.{eqb-true}
use Rattle.markdown_content.specs.Codes.{Code}
use Rattle.markdown_content.specs.declared.configuration.Rules.{Rules}
use Rattle.markdown_engine.specs.Operations.{Op, Enter, Exit, Consume}
use Rattle.markdown_content.specs.Tree.{Forest, ◌⊕◌, leaf, group}
use Rattle.markdown_engine.specs.TreeOps.{consumes, ops_of}
use Rattle.markdown_event.specs.declared.event.Name.{Name}
use Rattle.markdown_event.specs.declared.event.Name.TheVariants as N
use Rattle.markdown_model.specs.CodeTests.{is_value, is_letter, next_is}
use Rattle.markdown_model.specs.Grammar.{Reading, ◌>>=◌, ◌>>◌, ◌then_◌, gives, one, some, provided, either, with_first}
use Rattle.markdown_model.specs.LeafConstructs.{scheme, uri, email_address, domain_label, in_angle_brackets, autolink, is_scheme_code, is_local_code}
use Rattle.markdown_plan.specs.PrecededReadings.{after}
use Rattle.markdown_leaf.specs.Autolink.{ended, up_to_bracket, or_else, ending, domains, more_labels, open_naming}
use Rattle.markdown_plan.specs.Plan.{preceded, tree_ops, plan_of}
use Rattle.markdown_plan.specs.LateNames.{opened, preceded_by}
use Rattle.markdown_plan.proofs.PrecededReadingLemmas.{then-after}
use Rattle.markdown_leaf.proofs.AutolinkReadings.{bracket-next}
use Rattle.markdown_model.proofs.GrammarSteps.{bind-some, bind-none, one-here, one-not, then-none, switched-on, switched-off}
use Rattle.markdown_model.proofs.DefinitionSteps.{and_then, repeatedly-next, repeatedly-holds, Holds}
use Rattle.markdown_model.proofs.ReadingsCover.{itself, given, if_passed, takes_one, takes_any_number, takes_then, takes_repeatedly, takes_domain_label, takes_uri, takes_email_address}
use Rattle.markdown_model.proofs.ReadsACode.{Consumes, SomeCodes, weaker, one_takes, some_takes, then_takes, first_takes, takes_no_more, some_yields}
use Rattle.markdown_model.proofs.PlainConstructs.{reads_switched, reads_autolink}
use Rattle.markdown_model.proofs.NoLinkInConstructs.{PassesValue, Yields}
use Rattle.markdown_plan.proofs.SolidReadings.{ReadsSolid, plain-reads}

abbrev dot_label : Reading (List Code)
dot_label = one (is_value 46) then_ domain_label

dot_takes : Consumes 1 dot_label
dot_takes = then_takes (one (is_value 46)) domain_label (one_takes (is_value 46)) (takes_no_more itself domain_label takes_domain_label)

pub whole-link : (on : Bool) (rules : Rules) → ReadsSolid (provided on >> autolink rules)
whole-link on rules = plain-reads [] _ (reads_switched [] on (autolink rules) (reads_autolink [] rules))

-- an address has a code
scheme-takes : Consumes 1 scheme
unfolding scheme
scheme-takes =
    first_takes _ _ (then_takes _ _ (one_takes is_letter) (weaker _ (some_takes is_scheme_code))) (λ text. takes_no_more (λ x. []) _ (if_passed _ _ _ _ (given _ _ text refl)))

uri-some : (replaced : Bool) → Yields SomeCodes (uri replaced)
unfolding uri
uri-some replaced = some_yields (uri replaced) (takes_uri replaced) (then_takes _ _ scheme-takes (takes_no_more itself _ (takes_then _ _ (takes_one _) (takes_any_number _))))

email-some : (all : Bool) → Yields SomeCodes (email_address all)
unfolding email_address
email-some all =
    some_yields (email_address all) (takes_email_address all) (then_takes _ _ (some_takes (is_local_code all)) (takes_no_more itself _ (takes_then _ _ (takes_one _) (takes_then _ _ takes_domain_label (takes_repeatedly dot_label (takes_then _ _ (takes_one _) takes_domain_label))))))

-- The end of the link.

pub ended-here : (n : Name) (c : Code) (cs : List Code) → is_value 62 c ≡ true →
    ended n (Some ([], c ∷ cs)) ≡ Some (n, ending n)
ended-here n c cs h = ap (λ b. if b then Some (n, ending n) else None) h

pub ended-other : (n : Name) (cs : List Code) → next_is (is_value 62) cs ≡ false → ended n (Some ([], cs)) ≡ None
ended-other n cs h = ap (λ b. if b then Some (n, ending n) else None) h

-- More labels.

pub more-none : (cs : List Code) → next_is (is_value 46) cs ≡ false → more_labels cs ≡ Some ([], cs)
more-none cs h =
    repeatedly-next dot_label dot_takes cs ∙ ap (and_then more_labels cs) (then-none (one (is_value 46)) domain_label cs (one-not (is_value 46) cs h))

dot-here : (c : Code) (cs : List Code) → is_value 46 c ≡ true → dot_label (c ∷ cs) ≡ after (c ∷ []) (domain_label cs)
dot-here c cs h = then-after (one (is_value 46)) domain_label (c ∷ cs) (c ∷ []) cs (one-here (is_value 46) c cs h)

joined-by : (x y : List Code) (o : Option (List Code × List Code)) → Holds o → (c : Code) →
    elim o as (λ _. Option (List Code × List Code)) [ None ↦ Some (c ∷ x, y) | Some s ↦ Some ((c ∷ x) ++ s.0, s.1) ] ≡ with_first c (after x o)
joined-by x y o k c =
    ap (λ (z : Option (List Code × List Code)). elim z as (λ _. Option (List Code × List Code)) [ None ↦ Some (c ∷ x, y) | Some s ↦ Some ((c ∷ x) ++ s.0, s.1) ]) k.is ∙ ap (λ (z : Option (List Code × List Code)). with_first c (after x z)) (sym k.is)

-- a dot, and whether a label follows
dot-by : (c : Code) (cs : List Code) (o : Option (List Code × List Code)) → is_value 46 c ≡ true → domain_label cs ≡ o →
    up_to_bracket N.AutolinkEmail more_labels (c ∷ cs) ≡ preceded_by (Consume ∷ []) (up_to_bracket N.AutolinkEmail domains cs)
dot-by c cs None h e =
    ap (ended N.AutolinkEmail) (repeatedly-next dot_label dot_takes (c ∷ cs) ∙ ap (and_then more_labels (c ∷ cs)) (dot-here c cs h ∙ ap (after (c ∷ [])) e))
    ∙ ended-other N.AutolinkEmail (c ∷ cs) (ap (λ v. v == 62) (eqb-true c.value 46 h))
    ∙ ap (λ o. preceded_by (Consume ∷ []) (ended N.AutolinkEmail o)) (sym (then-none domain_label more_labels cs e))
dot-by c cs (Some r) h e =
    bracket-next N.AutolinkEmail more_labels domains c cs (
    repeatedly-next dot_label dot_takes (c ∷ cs)
    ∙ ap (and_then more_labels (c ∷ cs)) (dot-here c cs h ∙ ap (after (c ∷ [])) e)
    ∙ joined-by r.0 r.1 (more_labels r.1) (repeatedly-holds dot_label r.1) c
    ∙ ap (with_first c) (sym (then-after domain_label more_labels cs r.0 r.1 e)))

pub more-dot : (c : Code) (cs : List Code) → is_value 46 c ≡ true →
    up_to_bracket N.AutolinkEmail more_labels (c ∷ cs) ≡ preceded_by (Consume ∷ []) (up_to_bracket N.AutolinkEmail domains cs)
more-dot c cs h = dot-by c cs (domain_label cs) h refl

-- The operations of the tree.

abbrev pub bracket_ops : List Op
bracket_ops = Enter N.Autolink ∷ Enter N.AutolinkMarker ∷ Consume ∷ Exit N.AutolinkMarker ∷ []

link-ops : (name : Name) (c t d : Code) (text : List Code) →
    ops_of (group N.Autolink (leaf N.AutolinkMarker (c ∷ []) ⊕ leaf name (t ∷ text) ⊕ leaf N.AutolinkMarker (d ∷ []))) ≡ bracket_ops ++ Enter name ∷ (consumes (t ∷ text) ++ ending name)
link-ops name c t d text =
    ap (λ os. bracket_ops ++ Enter name ∷ Consume ∷ os) (append_assoc (consumes text) (Exit name ∷ Enter N.AutolinkMarker ∷ Consume ∷ Exit N.AutolinkMarker ∷ []) (Exit N.Autolink ∷ []))

-- after the text
back-by : (name : Name) (c : Code) (text rest : List Code) (b : Bool) → text ≢ [] → next_is (is_value 62) rest ≡ b →
    tree_ops ((one (is_value 62) >>= λ back. gives (group N.Autolink (leaf N.AutolinkMarker (c ∷ []) ⊕ leaf name text ⊕ leaf N.AutolinkMarker back))) rest) ≡ preceded bracket_ops (opened (if b then Some (name, consumes text ++ ending name) else None))
unfolding gives
back-by name c [] rest b some e = absurd (some refl)
back-by name c (t ∷ text) rest false some e = ap tree_ops (bind-none _ _ rest (one-not (is_value 62) rest e))
back-by name c (t ∷ text) [] true some e = cc
back-by name c (t ∷ text) (d ∷ rest) true some e =
    ap tree_ops (bind-some _ _ (d ∷ rest) (d ∷ []) rest _ (one-here (is_value 62) d rest e) refl) ∙ ap (λ os. Some os) (link-ops name c t d text)

inside-by : (inside : Reading (List Code)) (name : Name) (c : Code) (cs : List Code) (o : Option (List Code × List Code)) →
    Yields SomeCodes inside → is_value 60 c ≡ true → inside cs ≡ o →
    tree_ops (in_angle_brackets inside name (c ∷ cs)) ≡ preceded bracket_ops (opened (ended name o))
unfolding in_angle_brackets
inside-by inside name c cs None g h e =
    ap tree_ops (bind-some _ _ (c ∷ cs) (c ∷ []) cs _ (one-here (is_value 60) c cs h) (bind-none _ _ cs e))
inside-by inside name c cs (Some r) g h e =
    ap tree_ops (bind-some _ _ (c ∷ cs) (c ∷ []) cs _ (one-here (is_value 60) c cs h) (bind-some _ _ cs r.0 r.1 _ e refl))
    ∙ back-by name c r.0 r.1 (next_is (is_value 62) r.1) (subst (PassesValue SomeCodes) e (g.at cs)) refl

either-by : (os : List Op) (o p : Option (Forest × List Code)) (a b : Option (Name × List Op)) →
    tree_ops o ≡ preceded os (opened a) → tree_ops p ≡ preceded os (opened b) →
    tree_ops (elim o as (λ _. Option (Forest × List Code)) [ None ↦ p | Some r ↦ Some r ]) ≡ preceded os (opened (or_else a b))
either-by os None p None b e f = f
either-by os None p (Some x) b e f = cc
either-by os (Some r) p None b e f = cc
either-by os (Some r) p (Some x) b e f = e

pub link-here : (on : Bool) (rules : Rules) (c : Code) (cs : List Code) → on ≡ true → is_value 60 c ≡ true →
    plan_of (provided on >> autolink rules) (c ∷ cs) ≡ preceded bracket_ops (opened (open_naming rules.nul_is_replaced rules.all_address_marks cs))
unfolding autolink either
link-here on rules c cs e h =
    let replaced : Bool = rules.nul_is_replaced in
    let all : Bool = rules.all_address_marks in
    ap tree_ops (switched-on (autolink rules) on (c ∷ cs) e)
    ∙ either-by bracket_ops (in_angle_brackets (uri replaced) N.AutolinkProtocol (c ∷ cs)) (in_angle_brackets (email_address all) N.AutolinkEmail (c ∷ cs)) (up_to_bracket N.AutolinkProtocol (uri replaced) cs) (up_to_bracket N.AutolinkEmail (email_address all) cs) (inside-by (uri replaced) N.AutolinkProtocol c cs (uri replaced cs) (uri-some replaced) h refl) (inside-by (email_address all) N.AutolinkEmail c cs (email_address all cs) (email-some all) h refl)

no-brackets : (inside : Reading (List Code)) (name : Name) (cs : List Code) → next_is (is_value 60) cs ≡ false →
    in_angle_brackets inside name cs ≡ None
unfolding in_angle_brackets
no-brackets inside name cs h = bind-none _ _ cs (one-not (is_value 60) cs h)

pub no-link : (on : Bool) (rules : Rules) (cs : List Code) → on && next_is (is_value 60) cs ≡ false →
    plan_of (provided on >> autolink rules) cs ≡ None
unfolding autolink either
no-link false rules cs e = ap tree_ops (switched-off (autolink rules) false cs refl)
no-link true rules cs e =
    let replaced : Bool = rules.nul_is_replaced in
    let all : Bool = rules.all_address_marks in
    ap tree_ops (switched-on (autolink rules) true cs refl)
    ∙ either-by [] (in_angle_brackets (uri replaced) N.AutolinkProtocol cs) (in_angle_brackets (email_address all) N.AutolinkEmail cs) None None (ap tree_ops (no-brackets (uri replaced) N.AutolinkProtocol cs e)) (ap tree_ops (no-brackets (email_address all) N.AutolinkEmail cs e))
