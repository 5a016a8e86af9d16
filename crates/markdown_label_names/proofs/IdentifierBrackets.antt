-- A label with another number of opening brackets than each name has is not defined.
use Rattle.std.proofs.Common.{◌≡◌, ◌∙◌, sym, ap, refl, ℕ, ◌+◌, Bool, true, false, ◌&&◌, ◌||◌, ◌==◌, cond, List, [], ◌∷◌, ◌++◌, Option, Some, None, IsUtf8, arith}
use Rattle.std.specs.Prelude.{not}
use Rattle.std.specs.List.{slice_range}
use Rattle.std.specs.Str.{bytes_eq}
use Rattle.std.proofs.lemmas.Bool.{false≢true, not-true, or_parts, or_from}
use Rattle.std.proofs.lemmas.Bool.Decides.{Decides-eqb}
use Rattle.std.proofs.lemmas.List.Sums.{sum_by-append}
use Rattle.std.proofs.lemmas.Slice.Eq.{bytes_eq-Decides}
use Rattle.markdown_notes.specs.BracketIndex.{BracketPlaces, brackets_of, brackets_between, has_brackets, counted}
use Rattle.markdown_notes.specs.declared.name_index.Names.{Names}
use Rattle.markdown_content.specs.declared.label_kind.LabelKind.{LabelKind}
use Rattle.markdown_engine.specs.declared.tokenizer.Tokenizer.{Tokenizer}
use Rattle.markdown_notes.proofs.BracketIndexLemmas.{count-first, counted-is}
use Rattle.markdown_plan.specs.Characters.{bytes_of}
use Rattle.markdown_util.specs.Identifier.{identifier_by, read_text}
use Rattle.markdown_label_names.proofs.BracketCounts.{of-identifier, of-read}
use Rattle.markdown_label_names.proofs.TextParts.{read-utf8}
use Rattle.markdown_model.specs.LabelEnd.{is_footnote, with_caret}
use Rattle.markdown_model.specs.Setting.{Setting, is_defined}
use Rattle.markdown_label_names.specs.IdentifierFronts.{AreCuts, IsUnknown, lacks_count}
use Rattle.markdown_label_names.specs.LabelSetting.{setting_in, IsListed}
use Rattle.markdown_label_names.proofs.IdentifierFrontLemmas.{range-parts, cuts-text}
use Rattle.markdown_label_names.proofs.NameIndexSearch.{any-definition, any-footnote}

-- a text is none of those that have another number of brackets
unlike-all : (ds : List (List ℕ)) (name : List ℕ) → has_brackets (brackets_of name) ds ≡ false →
    is_defined ds name ≡ false
unlike-all [] name h = refl
unlike-all (d ∷ ds) name h =
    let parts = or_parts (brackets_of d == brackets_of name) (has_brackets (brackets_of name) ds) h in
    or_from (bytes_eq name d) (is_defined ds name) (off (bytes_eq name d) refl parts.0) (unlike-all ds name parts.1)
  where
    off : (b : Bool) → bytes_eq name d ≡ b → (brackets_of d == brackets_of name) ≡ false → b ≡ false
    off true e k =
        absurd (false≢true (sym k ∙ (Decides-eqb (brackets_of d) (brackets_of name)).1 (ap brackets_of (sym ((bytes_eq-Decides name d).0 e)))))
    off false e k = refl

first : (x : ℕ) (xs : List ℕ) → brackets_of (x ∷ xs) ≡ cond (x == 91) 1 0 + brackets_of xs
first x xs = count-first (λ b. b == 91) x xs

-- a caret is no bracket
link-brackets : (kind : LabelKind) (name : List ℕ) → brackets_of (with_caret kind name) ≡ brackets_of name
link-brackets kind name = go (is_footnote kind)
  where
    go : (b : Bool) → brackets_of (elim b [ true ↦ 94 ∷ name | false ↦ name ]) ≡ brackets_of name
    go true = omega (arith, first 94 name)
    go false = refl

-- what is counted between two indexes is how many brackets the identifier has
between-brackets : (replaced : Bool) (bytes : List ℕ) (start end from to n : ℕ) → AreCuts bytes from to →
    counted (brackets_between bytes start end) from to ≡ Some n →
    n ≡ brackets_of (identifier_by replaced (slice_range bytes from to))
between-brackets replaced bytes start end from to n cuts h =
    let k = counted-is bytes start end from to n h in
    let parts : slice_range bytes start to ≡ slice_range bytes start from ++ slice_range bytes from to = range-parts bytes start from to k.0 cuts.in_order cuts.first.0 in
    let both : brackets_of (slice_range bytes start to) ≡ brackets_of (slice_range bytes start from) + brackets_of (slice_range bytes from to) =
    ap brackets_of parts ∙ sum_by-append (λ b. cond (b == 91) 1 0) (slice_range bytes start from) (slice_range bytes from to) in
    let here : n ≡ brackets_of (slice_range bytes from to) = omega (arith, k.1, both) in
    let u : IsUtf8 (slice_range bytes from to) = cuts-text bytes from to cuts in
    here ∙ sym (of-identifier (read_text replaced (slice_range bytes from to)) (read-utf8 replaced (slice_range bytes from to) u) ∙ of-read replaced (slice_range bytes from to) u)

unknown-by : (s : Setting) (kind : LabelKind) (name : List ℕ) (n : ℕ) → n ≡ brackets_of name →
    (is_footnote kind && has_brackets n s.footnotes) ≡ false → has_brackets n s.definitions ≡ false →
    IsUnknown s kind name
unknown-by s kind name n e f d = record {
  call = calls (is_footnote kind) f;
  link = unlike-all s.definitions (with_caret kind name) (ap (λ m. has_brackets m s.definitions) (link-brackets kind name ∙ sym e) ∙ d);
}
  where
    calls : (is : Bool) → (is && has_brackets n s.footnotes) ≡ false → (is && is_defined s.footnotes name) ≡ false
    calls true h = unlike-all s.footnotes name (ap (λ m. has_brackets m s.footnotes) (sym e) ∙ h)
    calls false h = refl

module _ (T : Tokenizer) (names : Names) (listed : IsListed T) (known : T.tokenize_state.names ≡ Some names) where
  brackets-of : names.brackets ≡ brackets_between (bytes_of T) names.brackets.start names.brackets.end
  brackets-of = ap (λ (x : Names). x.brackets) (listed names known)

  pub lacks-unknown : (replaced : Bool) (kind : LabelKind) (from to : ℕ) → AreCuts (bytes_of T) from to →
      lacks_count names kind from to ≡ true →
      IsUnknown (setting_in T) kind (identifier_by replaced (slice_range (bytes_of T) from to))
  lacks-unknown replaced kind from to cuts h = go (counted names.brackets from to) refl h
    where
      go : (found : Option ℕ) → counted names.brackets from to ≡ found → (elim found [ None ↦ false | Some n ↦ not ((is_footnote kind && has_brackets n names.footnotes) || has_brackets n names.definitions) ]) ≡ true
          → IsUnknown (setting_in T) kind (identifier_by replaced (slice_range (bytes_of T) from to))
      go None e h = absurd (false≢true h)
      go (Some n) e h =
          let parts = or_parts (is_footnote kind && has_brackets n names.footnotes) (has_brackets n names.definitions) (not-true _ h) in
          let some : counted (brackets_between (bytes_of T) names.brackets.start names.brackets.end) from to ≡ Some n = ap (λ (b : BracketPlaces). counted b from to) (sym brackets-of) ∙ e in
          unknown-by (setting_in T) kind (identifier_by replaced (slice_range (bytes_of T) from to)) n (between-brackets replaced (bytes_of T) names.brackets.start names.brackets.end from to n cuts some)
          (ap (λ b. is_footnote kind && b) (sym (any-footnote T names listed known (λ text. brackets_of text == n))) ∙ parts.0)
          (sym (any-definition T names listed known (λ text. brackets_of text == n)) ∙ parts.1)
