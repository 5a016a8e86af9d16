-- The two tables of names are sound and in order: computed here part by part, in one pass each, and nowhere else. And the parts among which a name
-- would stand.
use Rattle.std.proofs.Common.{◌≡◌, refl, List, [], ℕ, true, false, ◌++◌, codes}
use Rattle.markdown_util.specs.Reference.{Table, html_4_rows, html_5_rows, html_4_capitals, html_4_a_to_d, html_4_e_to_l, html_4_m_to_r, html_4_s_to_z, html_5_capitals, html_5_a_to_d, html_5_e_to_l, html_5_m_to_r, html_5_s_to_z, html_rows, is_below, is_sorted, is_value, rows_named, IsTable}
use Rattle.markdown_util.specs.declared.util.character_reference.Names.{Names}
use Rattle.markdown_util.specs.declared.util.character_reference.Names.TheVariants.{Html4, Html5, Html}
use Rattle.markdown_util.specs.TableText.{html_text, table_text, is_parted, IsSortedText}
use Rattle.std.specs.List.{list_all}
use Rattle.markdown_util.specs.IdentifierLaws.{ConstantsHoldRows, are_lines_of}
use Rattle.markdown_util.specs.TableParts.{IsTablePart}
use Rattle.markdown_util.proofs.SortedTable.{IsSortedPart, distinct, order-join, whole, part-before, part-after}

html_4_capitals_order : IsSortedPart html_4_capitals [] (codes "a")
unfolding html_4_capitals
html_4_capitals_order = record { sorted = refl; names = refl; filled = refl; first = refl; before = refl }

html_4_a_to_d_order : IsSortedPart html_4_a_to_d (codes "a") (codes "e")
unfolding html_4_a_to_d
html_4_a_to_d_order = record { sorted = refl; names = refl; filled = refl; first = refl; before = refl }

html_4_e_to_l_order : IsSortedPart html_4_e_to_l (codes "e") (codes "m")
unfolding html_4_e_to_l
html_4_e_to_l_order = record { sorted = refl; names = refl; filled = refl; first = refl; before = refl }

html_4_m_to_r_order : IsSortedPart html_4_m_to_r (codes "m") (codes "s")
unfolding html_4_m_to_r
html_4_m_to_r_order = record { sorted = refl; names = refl; filled = refl; first = refl; before = refl }

html_4_s_to_z_order : IsSortedPart html_4_s_to_z (codes "s") (codes "{")
unfolding html_4_s_to_z
html_4_s_to_z_order = record { sorted = refl; names = refl; filled = refl; first = refl; before = refl }

html_5_capitals_order : IsSortedPart html_5_capitals [] (codes "a")
unfolding html_5_capitals
html_5_capitals_order = record { sorted = refl; names = refl; filled = refl; first = refl; before = refl }

html_5_a_to_d_order : IsSortedPart html_5_a_to_d (codes "a") (codes "e")
unfolding html_5_a_to_d
html_5_a_to_d_order = record { sorted = refl; names = refl; filled = refl; first = refl; before = refl }

html_5_e_to_l_order : IsSortedPart html_5_e_to_l (codes "e") (codes "m")
unfolding html_5_e_to_l
html_5_e_to_l_order = record { sorted = refl; names = refl; filled = refl; first = refl; before = refl }

html_5_m_to_r_order : IsSortedPart html_5_m_to_r (codes "m") (codes "s")
unfolding html_5_m_to_r
html_5_m_to_r_order = record { sorted = refl; names = refl; filled = refl; first = refl; before = refl }

html_5_s_to_z_order : IsSortedPart html_5_s_to_z (codes "s") (codes "{")
unfolding html_5_s_to_z
html_5_s_to_z_order = record { sorted = refl; names = refl; filled = refl; first = refl; before = refl }

-- a table in five parts with the cuts a, e, m and s
pub record IsParted (capitals a_to_d e_to_l m_to_r s_to_z : Table) : Type 0 where
  first : IsSortedPart capitals [] (codes "a")
  second : IsSortedPart a_to_d (codes "a") (codes "e")
  third : IsSortedPart e_to_l (codes "e") (codes "m")
  fourth : IsSortedPart m_to_r (codes "m") (codes "s")
  fifth : IsSortedPart s_to_z (codes "s") (codes "{")

module _ {capitals a_to_d e_to_l m_to_r s_to_z : Table} (parts : IsParted capitals a_to_d e_to_l m_to_r s_to_z) where
  from_m : IsSortedPart (m_to_r ++ s_to_z) (codes "m") (codes "{")
  from_m = order-join _ _ _ m_to_r s_to_z refl parts.fourth parts.fifth

  from_e : IsSortedPart (e_to_l ++ (m_to_r ++ s_to_z)) (codes "e") (codes "{")
  from_e = order-join _ _ _ e_to_l (m_to_r ++ s_to_z) refl parts.third from_m

  from_a : IsSortedPart (a_to_d ++ (e_to_l ++ (m_to_r ++ s_to_z))) (codes "a") (codes "{")
  from_a = order-join _ _ _ a_to_d (e_to_l ++ (m_to_r ++ s_to_z)) refl parts.second from_e

  from_start : IsSortedPart (capitals ++ (a_to_d ++ (e_to_l ++ (m_to_r ++ s_to_z)))) [] (codes "{")
  from_start = order-join _ _ _ capitals (a_to_d ++ (e_to_l ++ (m_to_r ++ s_to_z))) refl parts.first from_a

  module _ (rows : Table) (name : List ℕ) where
    after_a : is_below name (codes "a") ≡ false → IsTablePart (a_to_d ++ (e_to_l ++ (m_to_r ++ s_to_z))) rows name →
        IsTablePart (capitals ++ (a_to_d ++ (e_to_l ++ (m_to_r ++ s_to_z)))) rows name
    after_a a part = part-after capitals (a_to_d ++ (e_to_l ++ (m_to_r ++ s_to_z))) rows name _ _ parts.first a part

    after_e : is_below name (codes "a") ≡ false → is_below name (codes "e") ≡ false →
        IsTablePart (e_to_l ++ (m_to_r ++ s_to_z)) rows name →
        IsTablePart (capitals ++ (a_to_d ++ (e_to_l ++ (m_to_r ++ s_to_z)))) rows name
    after_e a e part = after_a a (part-after a_to_d (e_to_l ++ (m_to_r ++ s_to_z)) rows name _ _ parts.second e part)

    after_m : is_below name (codes "a") ≡ false → is_below name (codes "e") ≡ false →
        is_below name (codes "m") ≡ false → IsTablePart (m_to_r ++ s_to_z) rows name →
        IsTablePart (capitals ++ (a_to_d ++ (e_to_l ++ (m_to_r ++ s_to_z)))) rows name
    after_m a e m part = after_e a e (part-after e_to_l (m_to_r ++ s_to_z) rows name _ _ parts.third m part)

    pub in_capitals : rows ≡ capitals → is_below name (codes "a") ≡ true →
        IsTablePart (capitals ++ (a_to_d ++ (e_to_l ++ (m_to_r ++ s_to_z)))) rows name
    in_capitals is a =
        part-before capitals (a_to_d ++ (e_to_l ++ (m_to_r ++ s_to_z))) rows name _ _ from_a a (whole _ rows name _ _ parts.first is)

    pub in_a_to_d : rows ≡ a_to_d → is_below name (codes "a") ≡ false → is_below name (codes "e") ≡ true →
        IsTablePart (capitals ++ (a_to_d ++ (e_to_l ++ (m_to_r ++ s_to_z)))) rows name
    in_a_to_d is a e =
        after_a a (part-before a_to_d (e_to_l ++ (m_to_r ++ s_to_z)) rows name _ _ from_e e (whole _ rows name _ _ parts.second is))

    pub in_e_to_l : rows ≡ e_to_l → is_below name (codes "a") ≡ false → is_below name (codes "e") ≡ false →
        is_below name (codes "m") ≡ true → IsTablePart (capitals ++ (a_to_d ++ (e_to_l ++ (m_to_r ++ s_to_z)))) rows name
    in_e_to_l is a e m =
        after_e a e (part-before e_to_l (m_to_r ++ s_to_z) rows name _ _ from_m m (whole _ rows name _ _ parts.third is))

    pub in_m_to_r : rows ≡ m_to_r → is_below name (codes "a") ≡ false → is_below name (codes "e") ≡ false →
        is_below name (codes "m") ≡ false → is_below name (codes "s") ≡ true →
        IsTablePart (capitals ++ (a_to_d ++ (e_to_l ++ (m_to_r ++ s_to_z)))) rows name
    in_m_to_r is a e m s =
        after_m a e m (part-before m_to_r s_to_z rows name _ _ parts.fifth s (whole _ rows name _ _ parts.fourth is))

    pub in_s_to_z : rows ≡ s_to_z → is_below name (codes "a") ≡ false → is_below name (codes "e") ≡ false →
        is_below name (codes "m") ≡ false → is_below name (codes "s") ≡ false →
        IsTablePart (capitals ++ (a_to_d ++ (e_to_l ++ (m_to_r ++ s_to_z)))) rows name
    in_s_to_z is a e m s =
        after_m a e m (part-after m_to_r s_to_z rows name _ _ parts.fourth s (whole _ rows name _ _ parts.fifth is))

pub html_4_parted : IsParted html_4_capitals html_4_a_to_d html_4_e_to_l html_4_m_to_r html_4_s_to_z
html_4_parted =
    record { first = html_4_capitals_order; second = html_4_a_to_d_order; third = html_4_e_to_l_order; fourth = html_4_m_to_r_order; fifth = html_4_s_to_z_order }

html_4_order : IsSortedPart html_4_rows [] (codes "{")
unfolding html_4_rows
html_4_order = from_start html_4_parted

pub html_4_sorted : is_sorted html_4_rows ≡ true
html_4_sorted = html_4_order.sorted

pub html_4_sound : IsTable html_4_rows
html_4_sound = record { names = html_4_order.names; distinct = distinct html_4_rows html_4_order.sorted }

pub html_5_parted : IsParted html_5_capitals html_5_a_to_d html_5_e_to_l html_5_m_to_r html_5_s_to_z
html_5_parted =
    record { first = html_5_capitals_order; second = html_5_a_to_d_order; third = html_5_e_to_l_order; fourth = html_5_m_to_r_order; fifth = html_5_s_to_z_order }

html_5_order : IsSortedPart html_5_rows [] (codes "{")
unfolding html_5_rows
html_5_order = from_start html_5_parted

pub html_5_sorted : is_sorted html_5_rows ≡ true
html_5_sorted = html_5_order.sorted

pub html_5_sound : IsTable html_5_rows
html_5_sound = record { names = html_5_order.names; distinct = distinct html_5_rows html_5_order.sorted }

pub html_sorted : is_sorted html_rows ≡ true
unfolding html_rows
html_sorted = refl

html_names : list_all (λ row. is_value 38 row.0) html_rows ≡ true
unfolding html_rows
html_names = refl

pub html_sound : IsTable html_rows
html_sound = record { names = html_names; distinct = distinct html_rows html_sorted }

pub html_5_kept : are_lines_of html_5_rows html_rows ≡ true
unfolding html_rows html_5_rows html_5_capitals html_5_a_to_d html_5_e_to_l html_5_m_to_r html_5_s_to_z
html_5_kept = refl

pub named_sound : (names : Names) → IsTable (rows_named names)
named_sound Html4 = html_4_sound
named_sound Html5 = html_5_sound
named_sound Html = html_sound

html_is : html_text ≡ table_text html_rows
unfolding html_rows html_text
html_is = refl

html_parted : list_all is_parted html_rows ≡ true
unfolding html_rows
html_parted = refl

pub html_text_sorted : IsSortedText html_rows html_text
html_text_sorted = record { lines = record { is = html_is; parted = html_parted }; sorted = html_sorted }

pub constants : ConstantsHoldRows
unfolding html_4_rows html_4_capitals html_4_a_to_d html_4_e_to_l html_4_m_to_r html_4_s_to_z html_5_rows html_5_capitals html_5_a_to_d html_5_e_to_l html_5_m_to_r html_5_s_to_z
constants = record { html_4 = refl; html_5 = refl }
