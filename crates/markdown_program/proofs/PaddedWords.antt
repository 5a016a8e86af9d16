-- The words of an event with spaces behind them.
use Rattle.std.proofs.Common.{refl, ℕ, ◌≤◌, true, leb, List, ◌++◌, length, codes, IsUtf8}
use Rattle.std.proofs.lemmas.Bool.{leb-true}
use Rattle.markdown_event.specs.declared.event.Kind.{Kind}
use Rattle.markdown_event.specs.declared.event.Name.{Name}
use Rattle.markdown_program.specs.PrintedLines.{words_text}
use Rattle.markdown_program.proofs.NamesInOrder.{same-at}
use lib.Utf8.{scalars, encodes}

abbrev pub padded : Kind → Name → List ℕ
padded kind name = words_text kind name ++ codes "                                       "

pub padded-long : (kind : Kind) (name : Name) → 48 ≤ length (padded kind name)
padded-long Kind.Enter name = leb-true _ _ (same-at (λ n. leb 48 (length (padded Kind.Enter n))) (λ _. true) name refl)
padded-long Kind.Exit name = leb-true _ _ (same-at (λ n. leb 48 (length (padded Kind.Exit n))) (λ _. true) name refl)

pub words-short : (kind : Kind) (name : Name) → length (words_text kind name) ≤ 48
words-short Kind.Enter name = leb-true _ _ (same-at (λ n. leb (length (words_text Kind.Enter n)) 48) (λ _. true) name refl)
words-short Kind.Exit name = leb-true _ _ (same-at (λ n. leb (length (words_text Kind.Exit n)) 48) (λ _. true) name refl)

pub padded-utf8 : (kind : Kind) (name : Name) → IsUtf8 (padded kind name)
unfolding lib.Utf8.encode
padded-utf8 Kind.Enter name =
    (padded Kind.Enter name, (same-at (λ n. scalars (padded Kind.Enter n)) (λ _. true) name refl, same-at (λ n. encodes (padded Kind.Enter n)) (padded Kind.Enter) name refl))
padded-utf8 Kind.Exit name =
    (padded Kind.Exit name, (same-at (λ n. scalars (padded Kind.Exit n)) (λ _. true) name refl, same-at (λ n. encodes (padded Kind.Exit n)) (padded Kind.Exit) name refl))
