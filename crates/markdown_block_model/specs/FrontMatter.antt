-- Front matter, as in the crate `markdown`: two fences, both `---` or both `+++`, and the lines between them. The first fence is the first line of the document.
use Rattle.std.specs.Prelude.{ℕ, Bool, ◌&&◌, ◌||◌, ◌==◌, List, [], ◌∷◌, drop, Option, Some, None, if◌then◌else◌}
use Rattle.std.specs.Str.{byte}
use Rattle.markdown_content.specs.Codes.{Code}
use Rattle.markdown_block_model.specs.LineRests.{is_blank_line, count_first, first_value}

-- exactly three of the character, and only whitespace after them
abbrev pub is_matter_fence : ℕ → List Code → Bool
is_matter_fence n cs = count_first n cs == 3 && is_blank_line (drop 3 cs)

abbrev pub onto_matter : List Code → Option (List (List Code) × List (List Code)) → Option (List (List Code) × List (List Code))
onto_matter l None = None
onto_matter l (Some r) = Some (l ∷ r.0, r.1)

-- the lines before the next fence, and those after it
abbrev pub matter_before : ℕ → List (List Code) → Option (List (List Code) × List (List Code))
matter_before n [] = None
matter_before n (l ∷ ls) = if is_matter_fence n l then Some ([], ls) else onto_matter l (matter_before n ls)

abbrev pub begins_matter : ℕ → List Code → Bool
begins_matter n l = (n == byte "-" || n == byte "+") && is_matter_fence n l

-- the front matter of a document's lines, and the lines after it
abbrev pub matter_at : List (List Code) → Option (List (List Code) × List (List Code))
matter_at [] = None
matter_at (l ∷ ls) = if begins_matter (first_value l) l then matter_before (first_value l) ls else None
