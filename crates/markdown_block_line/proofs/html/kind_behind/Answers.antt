use Rattle.std.proofs.Common.{◌∙◌, sym, refl, true, false}
use Rattle.markdown_block_line.proofs.HtmlBegins.{comment-begin, instruction-begin, cdata-begin, kind-is}
use Rattle.markdown_block_line.proofs.html.kind_behind.Goals as goal

pub returns-then-begins_raw : goal.returns-then-begins_raw
returns-then-begins_raw c = λ cs h. sym (kind-is cs true _ _ _ _ _ (sym (c.begins_raw.ensures cs h) ∙ c.if-begins_raw.true) refl refl refl refl refl)

pub returns-then-starts_with : goal.returns-then-starts_with
returns-then-starts_with c = λ cs h. sym (kind-is cs false true _ _ _ _ (sym (c.begins_raw.ensures cs h) ∙ c.if-begins_raw.false) (comment-begin cs _ c.starts_with.result h c.starts_with.ensures.value ∙ c.if-starts_with.true) refl refl refl refl)

pub returns-then-starts_with-2 : goal.returns-then-starts_with-2
returns-then-starts_with-2 c = λ cs h. sym (kind-is cs false false true _ _ _ (sym (c.begins_raw.ensures cs h) ∙ c.if-begins_raw.false) (comment-begin cs _ c.starts_with.result h c.starts_with.ensures.value ∙ c.if-starts_with.false) (instruction-begin cs _ c.starts_with-2.result h c.starts_with-2.ensures.value ∙ c.if-starts_with-2.true) refl refl refl)

pub returns-then-begins_declaration : goal.returns-then-begins_declaration
returns-then-begins_declaration c = λ cs h. sym (kind-is cs false false false true _ _ (sym (c.begins_raw.ensures cs h) ∙ c.if-begins_raw.false) (comment-begin cs _ c.starts_with.result h c.starts_with.ensures.value ∙ c.if-starts_with.false) (instruction-begin cs _ c.starts_with-2.result h c.starts_with-2.ensures.value ∙ c.if-starts_with-2.false) (sym (c.begins_declaration.ensures cs h) ∙ c.if-begins_declaration.true) refl refl)

pub returns-then-starts_with-3 : goal.returns-then-starts_with-3
returns-then-starts_with-3 c = λ cs h. sym (kind-is cs false false false false true _ (sym (c.begins_raw.ensures cs h) ∙ c.if-begins_raw.false) (comment-begin cs _ c.starts_with.result h c.starts_with.ensures.value ∙ c.if-starts_with.false) (instruction-begin cs _ c.starts_with-2.result h c.starts_with-2.ensures.value ∙ c.if-starts_with-2.false) (sym (c.begins_declaration.ensures cs h) ∙ c.if-begins_declaration.false) (cdata-begin cs _ c.starts_with-3.result h c.starts_with-3.ensures.value ∙ c.if-starts_with-3.true) refl)

pub returns-then-begins_block_tag : goal.returns-then-begins_block_tag
returns-then-begins_block_tag c = λ cs h. sym (kind-is cs false false false false false true (sym (c.begins_raw.ensures cs h) ∙ c.if-begins_raw.false) (comment-begin cs _ c.starts_with.result h c.starts_with.ensures.value ∙ c.if-starts_with.false) (instruction-begin cs _ c.starts_with-2.result h c.starts_with-2.ensures.value ∙ c.if-starts_with-2.false) (sym (c.begins_declaration.ensures cs h) ∙ c.if-begins_declaration.false) (cdata-begin cs _ c.starts_with-3.result h c.starts_with-3.ensures.value ∙ c.if-starts_with-3.false) (sym (c.begins_block_tag.ensures cs h) ∙ c.if-begins_block_tag.true))

pub returns : goal.returns
returns c = λ cs h. sym (kind-is cs false false false false false false (sym (c.begins_raw.ensures cs h) ∙ c.if-begins_raw.false) (comment-begin cs _ c.starts_with.result h c.starts_with.ensures.value ∙ c.if-starts_with.false) (instruction-begin cs _ c.starts_with-2.result h c.starts_with-2.ensures.value ∙ c.if-starts_with-2.false) (sym (c.begins_declaration.ensures cs h) ∙ c.if-begins_declaration.false) (cdata-begin cs _ c.starts_with-3.result h c.starts_with-3.ensures.value ∙ c.if-starts_with-3.false) (sym (c.begins_block_tag.ensures cs h) ∙ c.if-begins_block_tag.false))
