-- Codes over which a state goes on by itself.
use Rattle.std.proofs.Common.{◌≡◌, ℕ, ◌==◌, true, false, Some, List, [], ◌∷◌, refl}
use Rattle.std.specs.Prelude.{codes}
use Rattle.markdown_engine.specs.Operations.{current_of, consumed}
use Rattle.markdown_engine.specs.StateRuns.{stepped}
use Rattle.markdown_content.specs.Stretch.{is_free}
use Rattle.markdown_event.specs.declared.state.State.TheVariants.{Next}
use Rattle.markdown_event.specs.declared.state.StateName.{StateName}
use Rattle.markdown_event.specs.declared.state.StateName.TheVariants as H
use Rattle.markdown_engine.specs.declared.tokenizer.Tokenizer.{Tokenizer}
use Rattle.markdown_engine.proofs.SteadyLemmas.{steady-at, alone-is, alone-other}
use Rattle.markdown_leaf_html.specs.HtmlText.{marked_at, comment_step, cdata_step, declaration_at, declaration_step, instruction_at, instruction_step, tag_open_attribute_value_quoted_at, tag_open_attribute_value_quoted_step, stops_in}

only : (m : ℕ) (set : List ℕ) → Some (m ∷ []) ≡ Some set → set ≡ m ∷ []
only m set e = cc

marked-steady : (T : Tokenizer) (mark : ℕ) (set : List ℕ) (inside close : StateName) → Some (mark ∷ []) ≡ Some set →
    is_free set (current_of T) ≡ true →
    marked_at mark inside close (current_of T) T ≡ stepped (Next inside) (consumed T)
marked-steady T mark set inside close known free =
    steady-at set T (marked_at mark inside close) (stepped (Next inside) (consumed T)) free (λ v a b.
    let o : (v == mark) ≡ false = alone-other v mark set (only mark set known) b in
    rw (a, o) refl)

pub comment-steady : (T : Tokenizer) (set : List ℕ) → stops_in H.HtmlTextComment T.tokenize_state ≡ Some set →
    is_free set (current_of T) ≡ true → comment_step T ≡ stepped (Next H.HtmlTextComment) (consumed T)
comment-steady T set known free = marked-steady T 45 set H.HtmlTextComment H.HtmlTextCommentClose known free

pub cdata-steady : (T : Tokenizer) (set : List ℕ) → stops_in H.HtmlTextCdata T.tokenize_state ≡ Some set →
    is_free set (current_of T) ≡ true → cdata_step T ≡ stepped (Next H.HtmlTextCdata) (consumed T)
cdata-steady T set known free = marked-steady T 93 set H.HtmlTextCdata H.HtmlTextCdataClose known free

pub declaration-steady : (T : Tokenizer) (set : List ℕ) → stops_in H.HtmlTextDeclaration T.tokenize_state ≡ Some set →
    is_free set (current_of T) ≡ true → declaration_step T ≡ stepped (Next H.HtmlTextDeclaration) (consumed T)
declaration-steady T set known free =
    steady-at set T declaration_at (stepped (Next H.HtmlTextDeclaration) (consumed T)) free (λ v a b.
    let o : (v == 62) ≡ false = alone-other v 62 set (only 62 set known) b in
    rw (o, a) refl)

pub instruction-steady : (T : Tokenizer) (set : List ℕ) → stops_in H.HtmlTextInstruction T.tokenize_state ≡ Some set →
    is_free set (current_of T) ≡ true → instruction_step T ≡ stepped (Next H.HtmlTextInstruction) (consumed T)
instruction-steady T set known free =
    steady-at set T instruction_at (stepped (Next H.HtmlTextInstruction) (consumed T)) free (λ v a b.
    let o : (v == 63) ≡ false = alone-other v 63 set (only 63 set known) b in
    rw (a, o) refl)

pub quoted-steady : (T : Tokenizer) (set : List ℕ) →
    stops_in H.HtmlTextTagOpenAttributeValueQuoted T.tokenize_state ≡ Some set → is_free set (current_of T) ≡ true →
    tag_open_attribute_value_quoted_step T ≡ stepped (Next H.HtmlTextTagOpenAttributeValueQuoted) (consumed T)
quoted-steady T set known free =
    let m : ℕ = T.tokenize_state.marker in
    steady-at set T tag_open_attribute_value_quoted_at (stepped (Next H.HtmlTextTagOpenAttributeValueQuoted) (consumed T)) free (λ v a b.
    let o : (v == m) ≡ false = alone-other v m set (alone-is (codes "\"'") m set known) b in
    rw (o, a) refl)
