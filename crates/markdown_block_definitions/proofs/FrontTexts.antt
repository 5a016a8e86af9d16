-- The texts of definitions as bytes.
use Rattle.std.proofs.Common.{◌≡◌, ℕ, zero, suc, ◌+◌, ◌-◌, ◌≤◌, ◌<◌, refl, ap, ◌∙◌, sym, Bool, List, [], ◌∷◌, ◌++◌, length, take, drop, map, true, false, Some, None, Option, arith, drop-drop, length-drop}
use Rattle.std.specs.Prelude.{if◌then◌else◌}
use Rattle.std.proofs.lemmas.List.{map-append}
use Rattle.markdown_content.specs.Codes.{Code}
use Rattle.markdown_model.specs.CodeTests.{values_of, is_value, next_is}
use Rattle.markdown_block_model.specs.LinkDefinitions as link_definitions
use Rattle.markdown_block_model.specs.LinkDefinitions.{between, destination_text, definition, definitions_of}
use Rattle.markdown_block_model.specs.LineRests.{lines_of}
use Rattle.markdown_block_line.proofs.RestValues.{values-drop, values-take}
use Rattle.markdown_block_definitions.specs.DefinitionTexts.{Texts, texts_of, texts_in, IsFrontOf}
use Rattle.markdown_block_definitions.specs.TextReadings.{firsts_of}
use Rattle.markdown_block_definitions.specs.declared.front.Definition.{Definition}
use Rattle.markdown_block_definitions.specs.declared.front.Front.{Front}
use Rattle.markdown_block_definitions.proofs.CodesAt.{firsts-drop}
use Rattle.markdown_block_definitions.proofs.TextTrees.{firsts-take}
use Rattle.markdown_block_definitions.proofs.LinesTaken.{lines-left}
use Rattle.markdown_block_definitions.proofs.DefinitionReads.{IsDefinedTo, front-start, start-none, front-more, front-end, front-all}

-- What stands between two markers.

taken-few : (n : ℕ) (xs : List Code) → length (take n xs) ≤ n
taken-few zero xs = omega arith
taken-few (suc n) [] = omega arith
taken-few (suc n) (x ∷ xs) = omega (arith, taken-few n xs)

taken-all : (n : ℕ) (xs : List Code) → n ≤ length xs → length (take n xs) ≡ n
taken-all zero xs l = refl
taken-all (suc n) [] l = absurd (omega (arith, l))
taken-all (suc n) (x ∷ xs) l = ap suc (taken-all n xs (omega (arith, l)))

take-less : (m : ℕ) (xs : List Code) → take m (take (suc m) xs) ≡ take m xs
take-less zero xs = refl
take-less (suc m) [] = refl
take-less (suc m) (x ∷ xs) = ap (λ r. x ∷ r) (take-less m xs)

between-few : (xs : List Code) → length xs < 2 → between xs ≡ []
between-few [] l = refl
between-few (x ∷ []) l = refl
between-few (x ∷ y ∷ xs) l = absurd (omega (arith, l))

between-more : (m : ℕ) (xs : List Code) → suc (suc m) ≤ length xs → between (take (suc (suc m)) xs) ≡ take m (drop 1 xs)
between-more m [] l = absurd (omega (arith, l))
between-more m (x ∷ xs) l =
    let k : length (take (suc (suc m)) (x ∷ xs)) - 1 ≡ suc m = omega (arith, taken-all (suc (suc m)) (x ∷ xs) l) in
    ap (λ n. drop 1 (take n (take (suc (suc m)) (x ∷ xs)))) k ∙ take-less m xs

pub inside-few : (cs : List Code) (a n : ℕ) → n < 2 → [] ≡ between (take n (drop a cs))
inside-few cs a n l = sym (between-few (take n (drop a cs)) (omega (arith, l, taken-few n (drop a cs))))

pub inside-more : (cs : List Code) (a n m : ℕ) → a + n ≤ length cs → n ≡ m + 2 → take m (drop (a + 1) cs) ≡ between (take n (drop a cs))
inside-more cs a n m l e =
    let two : m + 2 ≡ suc (suc m) = omega arith in
    sym (ap (λ k. between (take k (drop a cs))) (e ∙ two) ∙ between-more m (drop a cs) (omega (arith, l, e, length-drop a cs)) ∙ ap (take m) (drop-drop 1 a cs))

pub destination-inside : (xs : List Code) → next_is (is_value 60) xs ≡ true → destination_text xs ≡ between xs
destination-inside xs e = ap (λ b. if b then between xs else xs) e

pub destination-bare : (xs : List Code) → next_is (is_value 60) xs ≡ false → destination_text xs ≡ xs
destination-bare xs e = ap (λ b. if b then between xs else xs) e

pub part-of : (cs : List Code) (vs : List ℕ) (s n m : ℕ) → values_of cs ≡ vs → m ≡ n → values_of (take n (drop s cs)) ≡ take m (drop s vs)
part-of cs vs s n m h e = values-take n (drop s cs) ∙ ap (take n) (values-drop s cs ∙ ap (drop s) h) ∙ ap (λ k. take k (drop s vs)) (sym e)

pub part-firsts : (cs : List Code) (bs : List Bool) (s n m : ℕ) → firsts_of cs ≡ bs → m ≡ n → firsts_of (take n (drop s cs)) ≡ take m (drop s bs)
part-firsts cs bs s n m h e = firsts-take n (drop s cs) ∙ ap (take n) (firsts-drop s cs ∙ ap (drop s) h) ∙ ap (λ k. take k (drop s bs)) (sym e)

pub texts-same : (a x b y : List ℕ) (t u : Option (List ℕ)) → a ≡ x → b ≡ y → t ≡ u → ◌≡◌ {A = Texts} (record { label = a; destination = b; title = t }) (record { label = x; destination = y; title = u })
texts-same a x b y t u e f g =
    ap (λ (z : List ℕ). let r : Texts = record { label = z; destination = b; title = t } in r) e
    ∙ ap (λ (z : List ℕ). let r : Texts = record { label = x; destination = z; title = t } in r) f
    ∙ ap (λ (z : Option (List ℕ)). let r : Texts = record { label = x; destination = y; title = z } in r) g

-- one definition more
pub copies-more : (xs ys : List Definition) (x : Definition) (ds es : List link_definitions.Definition) (d : link_definitions.Definition) → ys ≡ xs ++ x ∷ [] → es ≡ ds ++ d ∷ [] → map texts_of xs ≡ map texts_in ds → texts_of x ≡ texts_in d → map texts_of ys ≡ map texts_in es
copies-more xs ys x ds es d e f h g = ap (map texts_of) e ∙ map-append texts_of xs (x ∷ []) ∙ ap (λ (ts : List Texts). ts ++ texts_of x ∷ []) h ∙ ap (λ (t : Texts). map texts_in ds ++ t ∷ []) g ∙ sym (ap (map texts_in) f ∙ map-append texts_in ds (d ∷ []))

-- the definitions of so many codes
pub record IsCollected (cs : List Code) (len : ℕ) (xs : List Definition) : Type 0 where
  pub front : IsDefinedTo cs len
  pub same : map texts_of xs ≡ map texts_in front.done

pub collected-start : (cs : List Code) (xs : List Definition) → xs ≡ [] → IsCollected cs 0 xs
collected-start cs xs e = record { front = front-start cs; same = ap (map texts_of) e ∙ sym (ap (map texts_in) (start-none cs)) }

pub collected-more : (cs : List Code) (len k : ℕ) (d : link_definitions.Definition) (xs ys : List Definition) (x : Definition) → IsCollected cs len xs → definition (drop len cs) ≡ Some (d, drop k (drop len cs)) → 0 < k → len + k ≤ length cs
    → ys ≡ xs ++ x ∷ [] → texts_of x ≡ texts_in d → IsCollected cs (len + k) ys
collected-more cs len k d xs ys x h e z l i g =
    let more : (f : IsDefinedTo cs (len + k)) × (f.done ≡ h.front.done ++ d ∷ []) = front-more cs len k d h.front e z l in
    record { front = more.0; same = copies-more xs ys x h.front.done more.0.done d i more.1 h.same g }

pub collected-end : (cs : List Code) (len : ℕ) (f : Front) → IsCollected cs len f.definitions.items → definition (drop len cs) ≡ None → len ≤ length cs → length (lines_of (take len cs)) ≡ f.lines → IsFrontOf cs f
collected-end cs len f h e l n =
    let left = lines-left cs len (front-end cs len h.front e) l in
    record {
      definitions_are = h.same ∙ ap (map texts_in) (sym (front-all cs len h.front e));
      rest = left.0 ∙ ap (λ k. drop k (lines_of cs)) n;
      within = omega (arith, left.1, n);
    }

-- a text without definitions
pub front-none : (cs : List Code) (f : Front) → definitions_of cs ≡ ([], cs) → f.definitions.items ≡ [] → f.lines ≡ 0 → IsFrontOf cs f
front-none cs f e d n = record {
  definitions_are = ap (map texts_of) d ∙ sym (ap (λ (r : List link_definitions.Definition × List Code). map texts_in r.0) e);
  rest = ap (λ (r : List link_definitions.Definition × List Code). lines_of r.1) e ∙ sym (ap (λ k. drop k (lines_of cs)) n);
  within = omega (arith, n);
}
