-- What laws ask of each construct that stands by itself: that each leaf begins with a character, and the codes behind the construct too (`leads_..`);
-- that references are as they are read (`refers_..`). Of escapes and hard breaks both stand here.
use Rattle.std.proofs.Common.{true, refl}
use Rattle.markdown_event.specs.declared.event.Name.TheVariants as N
use Rattle.markdown_content.specs.Tree.{leaf}
use Rattle.markdown_model.specs.LeafConstructs.{character_escape, hard_break_escape}
use Rattle.markdown_model.proofs.NoLinkInConstructs.{yields_gives, then_any}
use Rattle.markdown_model_laws.proofs.CharacterRows.{Lows, value-low, reads_bind, reads_gives, reads_before}
use Rattle.markdown_model_laws.proofs.CharacterConstructs.{HasLeads, leads-row, marker-leaf, ReadsLeads, a-one, punctuation-low, leads_character_reference, leads_autolink, leads_code_text, leads_math_text, leads_html_text, leads_gfm_task_list_item_check, leads_gfm_autolink_literal_protocol, leads_gfm_autolink_literal_www}
use Rattle.markdown_model_laws.proofs.ReferenceRows.{row, free-leaf, free-group}
use Rattle.markdown_model_laws.proofs.ReferenceConstructs.{Refers, refers_character_reference, refers_autolink, refers_code_text, refers_math_text, refers_html_text, refers_gfm_task_list_item_check, refers_gfm_autolink_literal_protocol, refers_gfm_autolink_literal_www}

-- Escapes.

pub leads_character_escape : ReadsLeads character_escape
unfolding character_escape
leads_character_escape =
    reads_bind true true true Lows HasLeads _ _ (a-one _ (value-low 92 refl)) λ slash h. reads_bind true true true Lows HasLeads _ _ (a-one _ punctuation-low) λ value k. reads_gives HasLeads true _
    (leads-row (leaf N.CharacterEscapeMarker slash) (leaf N.CharacterEscapeValue value) (marker-leaf N.CharacterEscapeMarker slash refl h) (marker-leaf N.CharacterEscapeValue value refl k), tt)

pub refers_character_escape : Refers character_escape
unfolding character_escape
refers_character_escape =
    then_any _ _ _ λ slash. then_any _ _ _ λ value. yields_gives _ _
    (free-group N.CharacterEscape _ refl (row (leaf N.CharacterEscapeMarker slash) _ (free-leaf N.CharacterEscapeMarker slash refl) (free-leaf N.CharacterEscapeValue value refl)))

-- Hard breaks.

pub leads_hard_break_escape : ReadsLeads hard_break_escape
unfolding hard_break_escape
leads_hard_break_escape =
    reads_bind true true true Lows HasLeads _ _ (reads_before Lows true true _ _ (a-one _ (value-low 92 refl))) λ slash h. reads_gives HasLeads true _ (marker-leaf N.HardBreakEscape slash refl h)

pub refers_hard_break_escape : Refers hard_break_escape
unfolding hard_break_escape
refers_hard_break_escape = then_any _ _ _ λ slash. yields_gives _ _ (free-leaf N.HardBreakEscape slash refl)

-- All of them.
pub ruleset leads_constructs = (
  leads_character_escape,
  leads_hard_break_escape,
  leads_character_reference,
  leads_autolink,
  leads_code_text,
  leads_math_text,
  leads_html_text,
  leads_gfm_task_list_item_check,
  leads_gfm_autolink_literal_protocol,
  leads_gfm_autolink_literal_www,
)

pub ruleset refers_constructs = (
  refers_character_escape,
  refers_hard_break_escape,
  refers_character_reference,
  refers_autolink,
  refers_code_text,
  refers_math_text,
  refers_html_text,
  refers_gfm_task_list_item_check,
  refers_gfm_autolink_literal_protocol,
  refers_gfm_autolink_literal_www,
)
