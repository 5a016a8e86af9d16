-- how readings follow one another
use Rattle.std.proofs.Common.{◌≡◌, ℕ, ◌≤◌, Bool, true, false, Option, None, List, ◌++◌, length, refl, sym, ap, subst, ◌∙◌, arith, append_assoc, length-append}
use Rattle.markdown_engine.specs.FailedRun.{Grown, Fails}
use Rattle.markdown_engine.specs.Operations.{Op, ahead, scratched, done, stays}
use Rattle.markdown_engine.specs.PastTree.{past, last_link, TreeReading, EndsAs, Reads, Refuses, behind}
use Rattle.markdown_content.specs.Tree.{Forest, empty, leaf_then, group_then, ◌⊕◌, leaf_codes}
use Rattle.markdown_engine.specs.Weights.{codes_left}
use Rattle.markdown_engine.specs.declared.tokenizer.TokenizeState.{TokenizeState}
use Rattle.markdown_engine.specs.declared.tokenizer.Tokenizer.{Tokenizer}
use Rattle.markdown_engine.proofs.OperationFields.{left-ahead}
use Rattle.markdown_engine.proofs.OperationLemmas.{Grown-scratched, Grown-done, scratch-done}
use Rattle.markdown_content.proofs.TreeCodes.{leaf_codes-row}
use Rattle.markdown_engine.proofs.TreeEvents.{past-past, Grown-past}

-- the scratch fields before a reading do not matter
pub EndsAs-scratched : (r : TreeReading) (previous : Option ℕ) (s q : TokenizeState) (T : Tokenizer) (ok : Bool) (U : Tokenizer) →
    EndsAs r previous s (scratched q T) ok U → EndsAs r previous s T ok U
unfolding scratched
EndsAs-scratched r previous s q T true U k =
    record { tree = k.tree; rest = k.rest; holds = k.holds; left = k.left; whole = k.whole; after = k.after }
EndsAs-scratched r previous s q T false U k =
    record { refused = k.refused; fails = record { grown = Grown-scratched 0 q T U k.fails.grown; scratch = k.fails.scratch } }

then-past : (previous q : Option ℕ) (t u : Forest) (s1 s2 : TokenizeState) (T U V : Tokenizer) →
    U ≡ past previous t (scratched s1 T) → q ≡ last_link (length T.events) previous t → V ≡ past q u (scratched s2 U) →
    V ≡ past previous (t ⊕ u) (scratched s2 T)
unfolding past scratched
then-past previous q t u s1 s2 T U V e f g =
    g ∙ ap (λ (x : Tokenizer). past q u (scratched s2 x)) e ∙ ap (λ k. past k u (past previous t (scratched s2 T))) f ∙ past-past previous t u (scratched s2 T)

pub then-fails : (previous : Option ℕ) (t : Forest) (s1 s2 : TokenizeState) (T U V : Tokenizer) →
    U ≡ past previous t (scratched s1 T) → Fails s2 U V → Fails s2 T V
then-fails previous t s1 s2 T U V e f =
    record { grown = Grown-scratched 0 s1 T V (Grown-past 0 previous t (scratched s1 T) V (subst (λ (x : Tokenizer). Grown 0 x V) e f.grown)); scratch = f.scratch }

-- a reading of one row and then another
pub EndsAs-then : (r1 r2 : TreeReading) (previous q : Option ℕ) (t : Forest) (s1 s2 : TokenizeState) (T U : Tokenizer) →
    U ≡ past previous t (scratched s1 T) → ahead T ≡ leaf_codes t ++ ahead U →
    q ≡ last_link (length T.events) previous t → r1 (ahead T) ≡ behind t (r2 (ahead U)) → (ok : Bool) (V : Tokenizer) →
    EndsAs r2 q s2 U ok V → EndsAs r1 previous s2 T ok V
EndsAs-then r1 r2 previous q t s1 s2 T U e w f h true V k =
    record {
      tree = t ⊕ k.tree;
      rest = k.rest;
      holds = h ∙ ap (behind t) k.holds;
      left = then-past previous q t k.tree s1 s2 T U V e f k.left;
      whole = w ∙ ap (λ x. leaf_codes t ++ x) k.whole ∙ sym (append_assoc (leaf_codes t) (leaf_codes k.tree) k.rest) ∙ ap (λ x. x ++ k.rest) (sym (leaf_codes-row t k.tree));
      after = k.after;
    }
EndsAs-then r1 r2 previous q t s1 s2 T U e w f h false V k =
    record { refused = h ∙ ap (behind t) k.refused; fails = then-fails previous t s1 s2 T U V e k.fails }

pub left-read : (r : TreeReading) (previous : Option ℕ) (s : TokenizeState) (T U : Tokenizer) → Reads r previous s T U →
    codes_left U ≤ codes_left T
left-read r previous s T U k =
    omega (arith, left-ahead T, left-ahead U, ap length k.whole, ap length k.after, length-append (leaf_codes k.tree) k.rest)

-- Rows.

pub row-empty : (t : Forest) → t ⊕ empty ≡ t
row-empty empty = refl
row-empty (leaf_then n l cs r) = ap (leaf_then n l cs) (row-empty r)
row-empty (group_then n a b i r) = ap (group_then n a b i) (row-empty r)

-- Constructs that leave the scratch fields alone.

pub scratched-same : (T : Tokenizer) → scratched T.tokenize_state T ≡ T
unfolding scratched
scratched-same T = refl

pub Refuses-done : (r : TreeReading) (os : List Op) (T U : Tokenizer) → stays 0 os ≡ true → r (ahead T) ≡ None →
    U ≡ done os T → Refuses r T.tokenize_state T U
Refuses-done r os T U s refused e =
    record { refused = refused; fails = record { grown = subst (λ (x : Tokenizer). Grown 0 T x) (sym e) (Grown-done 0 os T s); scratch = ap (λ (x : Tokenizer). x.tokenize_state) e ∙ scratch-done os T } }
