-- The starts of labels, as constructs by themselves.
use Rattle.std.proofs.Common.{◌≡◌, true, false, List, [], ◌∷◌, None, Some, ap, ◌∙◌, arith}
use Rattle.markdown_engine.proofs.OperationFields.{BeginsWithValue}
use Rattle.markdown_label.proofs.BegunStartPlaces.{first-is, two-whole}
use Rattle.markdown_content.specs.Codes.{Code}
use Rattle.markdown_content.specs.ListFunctions.{rest_of}
use Rattle.markdown_engine.specs.Operations.{ahead}
use Rattle.markdown_content.specs.declared.label_kind.LabelKind.{LabelKind}
use Rattle.markdown_engine.specs.declared.tokenizer.Tokenizer.{Tokenizer}
use Rattle.markdown_label.specs.LabelStarts.{links_on, link_test, link_ends, footnotes_on, footnote_test, footnote_ends, images_on, image_test, image_ends}
use Rattle.markdown_model.proofs.GrammarSteps.{and-left, and-right}
use Rattle.markdown_model.specs.Elements.{label_start_image, gfm_label_start_footnote, label_start_link}
use Rattle.markdown_model.specs.Grammar.{Reading}
use Rattle.markdown_model.specs.LabelEnd.{Element, starts}
use Rattle.markdown_model.specs.SingleConstructs.{gfm_label_start_footnote_here, label_start_image_here, label_start_link_here}
use Rattle.markdown_run_text.proofs.LabelMarks.{PastStart, link-past, footnote-past, image-past}
use Rattle.markdown_run_text.specs.ReaderEnds.{BeginsOrStays, options_here}
use Rattle.markdown_run_text.proofs.TextLabelTries.{later-tests, right-test, on-some, on-none, footnote-some, footnote-none, link-some, link-none, image-some, image-none}

begun : (reading : Reading Element) (kind : LabelKind) (marker rest : List Code) (T U : Tokenizer) →
    PastStart kind marker rest T U → reading (ahead T) ≡ Some (starts kind marker, rest) →
    BeginsOrStays reading T true U
begun reading kind marker rest T U p e = grind arith

pub link-begins : (T U : Tokenizer) → link_ends T true U → BeginsOrStays (label_start_link_here (options_here T)) T true U
link-begins T U k =
    let f : BeginsWithValue 91 (ahead T) = first-is 91 (ahead T) (and-right _ _ k.holds) in
    let rest : List Code = rest_of (ahead T) in
    begun (label_start_link_here (options_here T)) LabelKind.Link (f.code ∷ []) rest T U (link-past f.code rest T U f.whole f.value k)
    (ap (label_start_link_here (options_here T)) f.whole ∙ on-some (links_on T) label_start_link (f.code ∷ rest) (starts LabelKind.Link (f.code ∷ []), rest) (and-left _ _ k.holds) (link-some f.code rest f.value))

pub link-not : (T : Tokenizer) → link_test T (ahead T) ≡ false → label_start_link_here (options_here T) (ahead T) ≡ None
link-not T refused = grind (arith, on-none, link-none, right-test)

pub footnote-begins : (T U : Tokenizer) → footnote_ends T true U →
    BeginsOrStays (gfm_label_start_footnote_here (options_here T)) T true U
footnote-begins T U k =
    let f : BeginsWithValue 91 (ahead T) = first-is 91 (ahead T) (and-right _ _ (and-left _ _ k.holds)) in
    let g : BeginsWithValue 94 (rest_of (ahead T)) = first-is 94 (rest_of (ahead T)) (and-right _ _ k.holds) in
    let rest : List Code = rest_of (rest_of (ahead T)) in
    let whole : ahead T ≡ f.code ∷ g.code ∷ rest = two-whole 91 94 (ahead T) f g in
    begun (gfm_label_start_footnote_here (options_here T)) LabelKind.GfmFootnote (f.code ∷ g.code ∷ []) rest T U (footnote-past f.code g.code rest T U whole f.value g.value k)
    (ap (gfm_label_start_footnote_here (options_here T)) whole
    ∙ on-some (footnotes_on T) gfm_label_start_footnote (f.code ∷ g.code ∷ rest) (starts LabelKind.GfmFootnote (f.code ∷ g.code ∷ []), rest) (and-left _ _ (and-left _ _ k.holds)) (footnote-some f.code g.code rest f.value g.value))

pub footnote-not : (T : Tokenizer) → footnote_test T (ahead T) ≡ false →
    gfm_label_start_footnote_here (options_here T) (ahead T) ≡ None
footnote-not T refused = grind (arith, on-none, footnote-none, later-tests)

pub image-begins : (T U : Tokenizer) → image_ends T true U →
    BeginsOrStays (label_start_image_here (options_here T)) T true U
image-begins T U k =
    let f : BeginsWithValue 33 (ahead T) = first-is 33 (ahead T) (and-right _ _ (and-left _ _ k.holds)) in
    let g : BeginsWithValue 91 (rest_of (ahead T)) = first-is 91 (rest_of (ahead T)) (and-left _ _ (and-right _ _ k.holds)) in
    let rest : List Code = rest_of (rest_of (ahead T)) in
    let whole : ahead T ≡ f.code ∷ g.code ∷ rest = two-whole 33 91 (ahead T) f g in
    begun (label_start_image_here (options_here T)) LabelKind.Image (f.code ∷ g.code ∷ []) rest T U (image-past f.code g.code rest T U whole f.value g.value k)
    (ap (label_start_image_here (options_here T)) whole
    ∙ on-some (images_on T) (label_start_image (footnotes_on T)) (f.code ∷ g.code ∷ rest) (starts LabelKind.Image (f.code ∷ g.code ∷ []), rest) (and-left _ _ (and-left _ _ k.holds))
    (image-some (footnotes_on T) f.code g.code rest f.value g.value (and-right _ _ (and-right _ _ k.holds))))

pub image-not : (T : Tokenizer) → image_test T (ahead T) ≡ false → label_start_image_here (options_here T) (ahead T) ≡ None
image-not T refused = grind (arith, on-none, image-none, later-tests)
