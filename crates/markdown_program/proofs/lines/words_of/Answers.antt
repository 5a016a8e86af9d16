use Rattle.std.proofs.Common.{◌≡◌, ◌∙◌, sym, ap, subst, refl, ℕ, ◌≤◌, List, length, map, take, Bor, IsUtf8}
use Rattle.std.proofs.lemmas.List.{take_at}
use Rattle.markdown_event.specs.declared.event.Kind.{Kind}
use Rattle.markdown_program.specs.PrintedLines.{words_text}
use Rattle.markdown_program.proofs.NamesInOrder.{names, number-small, at-name}
use Rattle.markdown_program.proofs.PaddedWords.{padded, padded-long, padded-utf8, words-short}
use Rattle.markdown_program.proofs.lines.words_of.Goals as goal
use Rattle.markdown_program.proofs.lines.words_of.Goals.{in-Enter, in-Exit}

abbrev Tables : Type 0
Tables = Bor (List (Bor (List ℕ))) × Bor (List ℕ)

abbrev texts : Tables → List (List ℕ)
texts t = map (λ (b : Bor (List ℕ)). b.now) t.0.now

-- the tables have the words of a kind, and their lengths
abbrev HasTexts : Kind → Tables → Type 0
HasTexts kind t = texts t ≡ map (padded kind) names

abbrev HasLengths : Kind → Tables → Type 0
HasLengths kind t = map (λ n. n) t.1.now ≡ map (λ n. length (words_text kind n)) names

pub bounds-words-number : goal.bounds-words-number
bounds-words-number c = number-small c.args.name

pub bounds-lengths-number : goal.bounds-lengths-number
bounds-lengths-number c = number-small c.args.name

text-read : (c : goal.After-result-2-1) → HasTexts c.args.kind c.match-kind.t-7
text-read c = elim c.match-kind.branch [
  | in-Enter w ↦ subst (λ k. HasTexts k c.match-kind.t-7) (sym w.in-Enter.is) (subst (HasTexts Kind.Enter) (sym w.t-7-is) refl)
  | in-Exit w ↦ subst (λ k. HasTexts k c.match-kind.t-7) (sym w.in-Exit.is) (subst (HasTexts Kind.Exit) (sym w.t-7-is) refl)
]

pub fact_in-result : goal.fact_in-result
fact_in-result c =
    subst IsUtf8 (sym (at-name {A = Bor (List ℕ)} (λ b. b.now) (padded c.args.kind) c.match-kind.t-7.0.now c.args.name _ (text-read c))) (padded-utf8 c.args.kind c.args.name)

pub returns-clause-long : goal.returns-clause-long
returns-clause-long c =
    subst (λ s. 48 ≤ length s) (sym (at-name {A = Bor (List ℕ)} (λ b. b.now) (padded c.args.kind) c.match-kind.t-7.0.now c.args.name _ (text-read c.before))) (padded-long c.args.kind c.args.name)

pub returns-clause-length : goal.returns-clause-length
returns-clause-length c =
    let held : HasLengths c.args.kind c.match-kind.t-7 = elim c.match-kind.branch [
      | in-Enter w ↦ subst (λ k. HasLengths k c.match-kind.t-7) (sym w.in-Enter.is) (subst (HasLengths Kind.Enter) (sym w.t-7-is) refl)
      | in-Exit w ↦ subst (λ k. HasLengths k c.match-kind.t-7) (sym w.in-Exit.is) (subst (HasLengths Kind.Exit) (sym w.t-7-is) refl)
    ] in
    at-name (λ n. n) (λ n. length (words_text c.args.kind n)) c.match-kind.t-7.1.now c.args.name 0 held

pub returns-clause-short : goal.returns-clause-short
returns-clause-short c = subst (λ n. n ≤ 48) (sym (returns-clause-length c)) (words-short c.args.kind c.args.name)

pub returns-clause-words : goal.returns-clause-words
returns-clause-words c =
    ap (take (length (words_text c.args.kind c.args.name))) (at-name {A = Bor (List ℕ)} (λ b. b.now) (padded c.args.kind) c.match-kind.t-7.0.now c.args.name _ (text-read c.before))
    ∙ take_at (words_text c.args.kind c.args.name) _ _ refl
