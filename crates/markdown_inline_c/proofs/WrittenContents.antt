-- The HTML of contents, one after another.
use Rattle.std.proofs.Common.{◌≡◌, ◌∙◌, sym, ap, subst, refl, ◌⊎◌, inl, inr, ℕ, ◌+◌, ◌<◌, ◌≤◌, Bool, true, false, ◌==◌, if◌then◌else◌, List, [], ◌∷◌, ◌++◌, get_or, length, map, take, arith, Option, None, Some, Result, Ok, Err, IsErrAnd, zero, suc}
use Rattle.std.specs.List.{All}
use Rattle.std.proofs.lemmas.Bool.{false≢true}
use Rattle.std.proofs.lemmas.Bool.Decides.{Decides-eqb}
use Rattle.std.proofs.lemmas.List.{length-map, length-take-le, map-append, take_more, take_all, take-map}
use Rattle.std.proofs.lemmas.List.Elements.{All-more, All-nil}
use Rattle.std.proofs.lemmas.List.Sums.{sum_by_push}
use Rattle.markdown_content.specs.CommonMark.{rules_of}
use Rattle.markdown_content.specs.declared.parser.ParseState.{ParseState}
use Rattle.markdown_html.specs.View.{page_from}
use Rattle.markdown_html_model.specs.Html.{Defined, Page}
use Rattle.markdown_html_model.specs.Resolved.{decoding_of}
use Rattle.markdown_html_model.specs.declared.options.HtmlOptions.{HtmlOptions}
use Rattle.markdown_model.specs.Setting.{Setting}
use Rattle.markdown_run_text.specs.RunSetting.{setting_of}
use Rattle.markdown_content.specs.DefaultOptions.{options_of}
use Rattle.markdown_inline_c.specs.FlatHtml.{IsWithinLimit, defined_by, html_options_of, page}
use Rattle.markdown_inline_c.specs.FlatInput.{replaces_nul}
use Rattle.markdown_inline_c.specs.FlatHtmls.{AreWritable, IsHtmlFaultAt, Read, brought_to, brought_to_one, calls_of_one, html_of_each, html_of_one}
use Rattle.markdown_inline_c.specs.FlatTexts.{IsTextAt, many_setting}
use Rattle.markdown_inline_c.specs.HtmlsState.{IsOverspent, IsSpent, IsWriteFault}
use Rattle.markdown_inline_c.specs.Many.{AreFound, AreHandedOut, EndsBy}
use Rattle.markdown_inline_c.specs.Refusals.{blames, blames_none}
use Rattle.markdown_inline_c.specs.declared.fault.Fault.{Fault}
use Rattle.markdown_inline_c.specs.declared.flat.FlatContent.{FlatContent}
use Rattle.markdown_inline_c.specs.declared.flat.FlatPiece.{FlatPiece}
use Rattle.markdown_inline_c.specs.declared.flat.FlatTarget.{FlatTarget}
use Rattle.markdown_inline_c.specs.declared.flat.Input.{Input}
use Rattle.markdown_inline_c.specs.declared.outcome.Outcome.{Outcome}
use Rattle.markdown_inline_c.specs.declared.refusal.Refusal.{Refusal}
use Rattle.markdown_inline_c.proofs.HandedOut.{none_handed_out}
use Rattle.markdown_inline_c.proofs.InTurn.{one_refused, out_of_memory}

-- What is left of a limit.

abbrev pub IsLeftBy : (limit left : Option ℕ) → ℕ → Type 0
IsLeftBy limit None n = limit ≡ None
IsLeftBy limit (Some l) n = limit ≡ Some (l + n)

-- this is left once n bytes are brought
pub record IsLeft (limit left : Option ℕ) (n : ℕ) : Type 0 where
  pub cases : IsLeftBy limit left n

left-first : (limit : Option ℕ) → IsLeft limit limit 0
left-first None = record { cases = refl }
left-first (Some l) = record { cases = ap Some (omega arith) }

left-more : (limit left rest : Option ℕ) (n m : ℕ) → IsLeft limit left n → IsSpent left m rest → IsLeft limit rest (n + m)
left-more limit None rest n m h spent = subst (λ x. IsLeft limit x (n + m)) (sym spent) (record { cases = h.cases })
left-more limit (Some l) rest n m h spent =
    subst (λ x. IsLeft limit x (n + m)) (sym spent.1) (record { cases = h.cases ∙ ap Some (omega (arith, spent.0)) })

pub left-within : (limit left : Option ℕ) (n : ℕ) → IsLeft limit left n → IsWithinLimit limit n
left-within limit None n h = subst (λ x. IsWithinLimit x n) (sym h.cases) tt
left-within limit (Some l) n h = subst (λ x. IsWithinLimit x n) (sym h.cases) (omega arith)

past-limit : (limit left : Option ℕ) (n m : ℕ) → IsLeft limit left n → IsOverspent left m → IsWithinLimit limit (n + m) → ⊥
past-limit limit None n m h over within = over
past-limit limit (Some l) n m h over within = let le : n + m ≤ l + n = subst (λ x. IsWithinLimit x (n + m)) h.cases within in omega (arith, over, le)

-- Trees, one after another.

pub calls_after : Page → List (List ℕ) → List Read → List (List ℕ)
calls_after p before [] = before
calls_after p before (t ∷ trees) = calls_after p (calls_of_one p before t) trees

each-push : (p : Page) (before : List (List ℕ)) (trees : List Read) (t : Read) → html_of_each p before (trees ++ t ∷ []) ≡ html_of_each p before trees ++ html_of_one p (calls_after p before trees) t ∷ []
unfolding calls_after
each-push p before [] t = refl
each-push p before (u ∷ trees) t = ap (λ xs. html_of_one p before u ∷ xs) (each-push p (calls_of_one p before u) trees t)

calls-push : (p : Page) (before : List (List ℕ)) (trees : List Read) (t : Read) → calls_after p before (trees ++ t ∷ []) ≡ calls_of_one p (calls_after p before trees) t
unfolding calls_after
calls-push p before [] t = refl
calls-push p before (u ∷ trees) t = calls-push p (calls_of_one p before u) trees t

each-length : (p : Page) (before : List (List ℕ)) (trees : List Read) → length (html_of_each p before trees) ≡ length trees
each-length p before [] = refl
each-length p before (t ∷ trees) = omega (arith, each-length p (calls_of_one p before t) trees)

each-take : (p : Page) (before : List (List ℕ)) (trees : List Read) (n : ℕ) → take n (html_of_each p before trees) ≡ html_of_each p before (take n trees)
each-take p before trees zero = refl
each-take p before [] (suc n) = refl
each-take p before (t ∷ trees) (suc n) = ap (λ xs. html_of_one p before t ∷ xs) (each-take p (calls_of_one p before t) trees n)

-- what is handed out of the first contents, of which these are the trees, and what they leave to the next one
pub record AreWritten (p : Page) (pieces : List FlatPiece) (tree : FlatContent → Read) (limit : Option ℕ) (contents : List FlatContent) (old array ends_old ends : List ℕ) (o : Outcome) (calls : List (List ℕ))
    (left : Option ℕ) (i : ℕ) : Type 0 where
  pub handed_out : AreHandedOut (html_of_each p [] (map tree (take i contents))) old array ends_old ends o
  pub calls_are : calls ≡ calls_after p [] (map tree (take i contents))
  pub texts : All (IsTextAt p.bytes pieces) (take i contents)
  pub is_left : IsLeft limit left (brought_to p (map tree (take i contents)))

pub none_written : (p : Page) (pieces : List FlatPiece) (tree : FlatContent → Read) (limit : Option ℕ) (contents : List FlatContent) (old ends_old : List ℕ) (o : Outcome) (calls : List (List ℕ)) (left : Option ℕ)
    → o.done ≡ 0 → o.count ≡ 0 → calls ≡ [] → left ≡ limit → AreWritten p pieces tree limit contents old old ends_old ends_old o calls left 0
unfolding calls_after
none_written p pieces tree limit contents old ends_old o calls left done count c l = record {
  handed_out = none_handed_out old ends_old o done count;
  calls_are = c;
  texts = All-nil (IsTextAt p.bytes pieces);
  is_left = subst (λ x. IsLeft limit x 0) (sym l) (left-first limit);
}

pub is_next : (p : Page) (tree : FlatContent → Read) (contents : List FlatContent) (i : ℕ) → i < length contents → length (html_of_each p [] (map tree (take i contents))) ≡ i
is_next p tree contents i h = each-length p [] (map tree (take i contents)) ∙ length-map (take i contents) tree ∙ length-take-le i contents (omega (arith, h))

pub one_more : (p : Page) (pieces : List FlatPiece) (tree : FlatContent → Read) (limit : Option ℕ) (contents : List FlatContent) (written old array array' ends_old ends ends' : List ℕ) (o o' : Outcome)
    (calls calls' : List (List ℕ)) (left left' : Option ℕ) (i : ℕ) (d : FlatContent) → i < length contents → AreWritten p pieces tree limit contents old array ends_old ends o calls left i
    → IsTextAt p.bytes pieces (get_or contents i d) → written ≡ html_of_one p calls (tree (get_or contents i d)) → calls' ≡ calls_of_one p calls (tree (get_or contents i d))
    → IsSpent left (brought_to_one p (tree (get_or contents i d))) left' → AreHandedOut (html_of_each p [] (map tree (take i contents)) ++ written ∷ []) old array' ends_old ends' o'
    → AreWritten p pieces tree limit contents old array' ends_old ends' o' calls' left' (i + 1)
one_more p pieces tree limit contents written old array array' ends_old ends ends' o o' calls calls' left left' i d h so_far is_text e c spent handed =
    let t = tree (get_or contents i d) in
    let trees = map tree (take i contents) in
    let all : map tree (take (i + 1) contents) ≡ trees ++ t ∷ [] = ap (map tree) (take_more contents i d h) ∙ map-append tree (take i contents) (get_or contents i d ∷ []) in
    let each : html_of_each p [] trees ++ written ∷ [] ≡ html_of_each p [] (map tree (take (i + 1) contents)) =
    ap (λ x. html_of_each p [] trees ++ x ∷ []) (e ∙ ap (λ x. html_of_one p x t) so_far.calls_are) ∙ sym (each-push p [] trees t) ∙ ap (html_of_each p []) (sym all)
    in
    record {
      handed_out = subst (λ found. AreHandedOut found old array' ends_old ends' o') each handed;
      calls_are = c ∙ ap (λ x. calls_of_one p x t) so_far.calls_are ∙ sym (calls-push p [] trees t) ∙ ap (calls_after p []) (sym all);
      texts = All-more (IsTextAt p.bytes pieces) contents i d h so_far.texts is_text;
      is_left =
          subst (λ n. IsLeft limit left' n) (sym (sum_by_push (brought_to_one p) trees t) ∙ ap (brought_to p) (sym all))
          (left-more limit left left' (brought_to p trees) (brought_to_one p t) so_far.is_left spent);
    }

-- Where it ends.

written-so-far : (p : Page) (pieces : List FlatPiece) (tree : FlatContent → Read) (limit : Option ℕ) (contents : List FlatContent) (old array ends_old ends : List ℕ) (o : Outcome) (calls : List (List ℕ))
    (left : Option ℕ) (i : ℕ) (Ends : ℕ → Type 0) → AreWritten p pieces tree limit contents old array ends_old ends o calls left i → Ends i
    → AreFound (html_of_each p [] (map tree contents)) old array ends_old ends o Ends
written-so-far p pieces tree limit contents old array ends_old ends o calls left i Ends w h = record {
  read = i;
  handed_out =
      subst (λ found. AreHandedOut found old array ends_old ends o) (sym (each-take p [] (map tree contents) i ∙ ap (html_of_each p []) (take-map tree i contents))) w.handed_out;
  ends_by = h;
}

pub all_written : (p : Page) (pieces : List FlatPiece) (tree : FlatContent → Read) (limit : Option ℕ) (contents : List FlatContent) (old array ends_old ends : List ℕ) (o : Outcome) (calls : List (List ℕ))
    (left : Option ℕ) (i : ℕ) → i ≡ length contents → AreWritten p pieces tree limit contents old array ends_old ends o calls left i
    → AreFound (html_of_each p [] (map tree contents)) old array ends_old ends o (λ read. EndsBy (AreWritable p pieces tree limit) (IsHtmlFaultAt p pieces tree limit) contents read (Ok (tt {0})))
all_written p pieces tree limit contents old array ends_old ends o calls left i e w =
    let all : take i contents ≡ contents = take_all i contents (omega (arith, e)) in
    written-so-far p pieces tree limit contents old array ends_old ends o calls left i (λ read. EndsBy (AreWritable p pieces tree limit) (IsHtmlFaultAt p pieces tree limit) contents read (Ok (tt {0}))) w
    (e, subst (AreWritable p pieces tree limit) all (w.texts, left-within limit left _ w.is_left))

-- what is brought to one content more
brought-push : (p : Page) (tree : FlatContent → Read) (before : List FlatContent) (c : FlatContent) → brought_to p (map tree (before ++ c ∷ [])) ≡ brought_to p (map tree before) + brought_to_one p (tree c)
brought-push p tree before c = ap (brought_to p) (map-append tree before (c ∷ [])) ∙ sum_by_push (brought_to_one p) (map tree before) (tree c)

fault-behind : (p : Page) (pieces : List FlatPiece) (tree : FlatContent → Read) (limit : Option ℕ) (left : Option ℕ) (before : List FlatContent) (c : FlatContent) (fault : Fault)
    → IsLeft limit left (brought_to p (map tree before)) → IsWriteFault p pieces tree left c fault → (fault ≡ Fault.Memory) ⊎ IsHtmlFaultAt p pieces tree limit before c fault
fault-behind p pieces tree limit left before c fault is_left (inl e) = inl e
fault-behind p pieces tree limit left before c fault is_left (inr (inl h)) = inr (inl h)
fault-behind p pieces tree limit left before c fault is_left (inr (inr h)) =
    inr
    (inr
    (h.0, (h.1.0, λ within. past-limit limit left (brought_to p (map tree before)) (brought_to_one p (tree c)) is_left h.1.1 (subst (IsWithinLimit limit) (brought-push p tree before c) within))))

pub next_refused : (p : Page) (pieces : List FlatPiece) (tree : FlatContent → Read) (limit : Option ℕ) (contents : List FlatContent) (old array ends_old ends : List ℕ) (o : Outcome) (calls : List (List ℕ))
    (left : Option ℕ) (i : ℕ) (d : FlatContent) (fault : Fault) (r : Refusal) → i < length contents → AreWritten p pieces tree limit contents old array ends_old ends o calls left i
    → IsWriteFault p pieces tree left (get_or contents i d) fault → r ≡ blames fault i
    → AreFound (html_of_each p [] (map tree contents)) old array ends_old ends o (λ read. EndsBy {T = Unit {0}} (AreWritable p pieces tree limit) (IsHtmlFaultAt p pieces tree limit) contents read (Err r))
next_refused p pieces tree limit contents old array ends_old ends o calls left i d fault r h w refused is =
    written-so-far p pieces tree limit contents old array ends_old ends o calls left i
    (λ read. EndsBy {T = Unit {0}} (AreWritable p pieces tree limit) (IsHtmlFaultAt p pieces tree limit) contents read (Err r)) w
    (one_refused (AreWritable p pieces tree limit) (IsHtmlFaultAt p pieces tree limit) contents i d fault r h (w.texts, left-within limit left _ w.is_left)
    (fault-behind p pieces tree limit left (take i contents) (get_or contents i d) fault w.is_left refused) is)

pub next_without_memory : (p : Page) (pieces : List FlatPiece) (tree : FlatContent → Read) (limit : Option ℕ) (contents : List FlatContent) (old array array' ends_old ends ends' : List ℕ) (o o' : Outcome)
    (calls : List (List ℕ)) (left : Option ℕ) (i : ℕ) (end : Result (Unit {0}) Refusal) → AreWritten p pieces tree limit contents old array ends_old ends o calls left i
    → (array' ≡ array) × ((ends' ≡ ends) × (o' ≡ o)) → IsErrAnd end (λ r. r ≡ blames_none Fault.Memory)
    → AreFound (html_of_each p [] (map tree contents)) old array' ends_old ends' o' (λ read. EndsBy (AreWritable p pieces tree limit) (IsHtmlFaultAt p pieces tree limit) contents read end)
next_without_memory p pieces tree limit contents old array array' ends_old ends ends' o o' calls left i end w same is =
    let Of : List ℕ → List ℕ → Outcome → Type 0 = λ a e q. AreWritten p pieces tree limit contents old a ends_old e q calls left i in
    let w' : Of array' ends' o' = subst (λ q. Of array' ends' q) (sym same.1.1) (subst (λ e. Of array' e o) (sym same.1.0) (subst (λ a. Of a ends o) (sym same.0) w)) in
    written-so-far p pieces tree limit contents old array' ends_old ends' o' calls left i
    (λ read. EndsBy (AreWritable p pieces tree limit) (IsHtmlFaultAt p pieces tree limit) contents read end) w' (out_of_memory (AreWritable p pieces tree limit) (IsHtmlFaultAt p pieces tree limit) contents i end is)

-- What stands beside the trees.

-- what is handed in, as the document has it
pub same_page : (d : ParseState) (i : Input) (targets : List FlatTarget) (options : ℕ) (definitions : List Defined) (allowed : HtmlOptions) → setting_of d ≡ many_setting i
    → definitions ≡ defined_by (replaces_nul (options_of i.options)) i.labels.now i.definitions.now targets → allowed ≡ html_options_of options → page_from d [] definitions allowed ≡ page i targets options
same_page d i targets options definitions allowed s e a =
    let of_parts : Setting → List Defined → HtmlOptions → Page = λ asked defined may. record {
      bytes = asked.bytes;
      content = [];
      rules = rules_of asked.options;
      footnotes_on = asked.options.constructs.gfm_label_start_footnote;
      decoding = decoding_of asked.options;
      definitions = defined;
      options = may;
    } in
    ap (λ x. of_parts x definitions allowed) s ∙ ap (λ x. of_parts (many_setting i) x allowed) e ∙ ap (of_parts (many_setting i) (defined_by (replaces_nul (options_of i.options)) i.labels.now i.definitions.now targets)) a
