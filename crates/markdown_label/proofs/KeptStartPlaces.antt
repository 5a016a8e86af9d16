-- The kept starts go on ending between characters.
use Rattle.std.proofs.Common.{◌≡◌, true, false, if◌then◌else◌, List, [], ◌∷◌, ◌++◌, length, refl, sym, ap, subst, ◌∙◌, arith, length-append}
use Rattle.std.specs.Str.{IsCharBoundary}
use Rattle.markdown_content.specs.ListFunctions.{rest_of}
use Rattle.markdown_event.specs.declared.event.Event.{Event}
use Rattle.markdown_event.specs.declared.event.Point.{Point}
use Rattle.markdown_content.specs.declared.label_kind.LabelKind.{LabelKind}
use Rattle.markdown_engine.specs.declared.tokenizer.LabelStart as Kept
use Rattle.markdown_engine.specs.declared.tokenizer.Tokenizer.{Tokenizer}
use Rattle.markdown_model.specs.LabelEnd.{is_image}
use Rattle.markdown_plan.specs.Characters.{bytes_of}
use Rattle.markdown_label.specs.LabelFields.{AreInactive, AreOrdered, marked, barred_by}
use Rattle.markdown_label.specs.LabelEnd.{EndsBetween, AllEndBetween, AreStartsWithin}
use Rattle.markdown_label_names.specs.LabelNames.{place_at}
use Rattle.markdown_label.proofs.KeptStartStack.{place-front}

-- where events are appended
ends-grown : (T U : Tokenizer) (more : List Event) → bytes_of U ≡ bytes_of T → U.events ≡ T.events ++ more →
    (l : Kept.LabelStart) → EndsBetween T l → EndsBetween U l
ends-grown T U more same events l k =
    let place : place_at U.events l.start.1 ≡ place_at T.events l.start.1 = ap (λ es. place_at es l.start.1) events ∙ place-front T.events more l.start.1 k.within in
    record {
      within = omega (arith, k.within, ap length events, length-append T.events more);
      between = subst (λ bs. IsCharBoundary bs (place_at U.events l.start.1).index) (sym same) (subst (λ (p : Point). IsCharBoundary (bytes_of T) p.index) (sym place) k.between);
    }

all-grown : (T U : Tokenizer) (more : List Event) → bytes_of U ≡ bytes_of T → U.events ≡ T.events ++ more →
    (ls : List Kept.LabelStart) → AllEndBetween T ls → AllEndBetween U ls
all-grown T U more same events [] k = tt
all-grown T U more same events (l ∷ ls) k =
    (ends-grown T U more same events l k.0, all-grown T U more same events ls k.1)

pub within-grown : (T U : Tokenizer) (more : List Event) → bytes_of U ≡ bytes_of T → U.events ≡ T.events ++ more →
    (ls : List Kept.LabelStart) → AreStartsWithin T ls → AreStartsWithin U ls
within-grown T U more same events ls k = (all-grown T U more same events ls k.0, k.1)

-- where the last one is used up
pub within-rest : (T : Tokenizer) (ls : List Kept.LabelStart) → AreStartsWithin T ls → AreStartsWithin T (rest_of ls)
within-rest T [] k = k
within-rest T (l ∷ ls) k = (k.0.1, k.1.1)

-- where all are marked
all-marked : (T : Tokenizer) (ls : List Kept.LabelStart) → AllEndBetween T ls → AllEndBetween T (marked ls)
all-marked T [] k = tt
all-marked T (l ∷ ls) k = (record { within = k.0.within; between = k.0.between }, all-marked T ls k.1)

are-marked : (ls : List Kept.LabelStart) → AreInactive (marked ls)
are-marked [] = tt
are-marked (l ∷ ls) = (refl, are-marked ls)

ordered-marked : (ls : List Kept.LabelStart) → AreOrdered (marked ls)
ordered-marked [] = tt
ordered-marked (l ∷ ls) = (λ e. are-marked ls, ordered-marked ls)

pub within-barred : (T : Tokenizer) (kind : LabelKind) (ls : List Kept.LabelStart) → AreStartsWithin T ls →
    AreStartsWithin T (barred_by kind ls)
within-barred T kind ls k =
    elim (is_image kind) as (λ b. AreStartsWithin T (if b then ls else marked ls)) [
      | true ↦ k
      | false ↦ (all-marked T ls k.0, ordered-marked ls)
    ]
