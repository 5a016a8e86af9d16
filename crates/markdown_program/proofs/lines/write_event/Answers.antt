use Rattle.std.proofs.Common.{◌≡◌, ◌∙◌, sym, ap, subst, refl, List, ℕ, ◌≤◌, ◌++◌, codes, take, length, append_assoc, arith}
use Rattle.std.proofs.lemmas.List.{length-take-le, take-take}
use Rattle.markdown_program.specs.PrintedLines.{words_text, line_of, link_text, point_text}
use Rattle.markdown_program.proofs.lines.write_event.Goals as goal

-- words, of which the spaces behind them do not count, and what is written behind them
joined : (l4 l3 l2 l1 old padded words point link end : List ℕ) (n k : ℕ)
    → n ≤ k → n ≡ length words → take (length words) padded ≡ words
    → l1 ≡ old ++ take n (take k padded) → l2 ≡ l1 ++ point → l3 ≡ l2 ++ link → l4 ≡ l3 ++ end → l4 ≡ old ++ (((words ++ point) ++ link) ++ end)
joined l4 l3 l2 l1 old padded words point link end n k h e w a b c d =
    d ∙ ap (λ bs. bs ++ end) (c ∙ ap (λ bs. bs ++ link) (b ∙ ap (λ bs. bs ++ point) (a ∙ ap (λ bs. old ++ bs) (take-take n k padded h ∙ ap (λ m. take m padded) e ∙ w))))
    ∙ simp append_assoc refl

-- what is long enough has so many bytes
long : (n : ℕ) (bytes words : List ℕ) → bytes ≡ words → n ≤ length words → length (take n bytes) ≡ n
long n bytes words e h = length-take-le n bytes (subst (λ bs. n ≤ length bs) (sym e) h)

pub slice_bounds-write_bytes-end : goal.slice_bounds-write_bytes-end
slice_bounds-write_bytes-end c = sym (long 48 _ _ c.as_bytes.ensures.value c.words_of-length.ensures.long)

pub write_bytes-at-requires : goal.write_bytes-at-requires
write_bytes-at-requires c =
    let all = long 48 _ _ c.as_bytes.ensures.value c.words_of-length.ensures.long in
    (omega (arith, all, c.words_of-length.ensures.short), omega (arith, all, c.requires))

pub returns-clause-written : goal.returns-clause-written
unfolding line_of
returns-clause-written c =
    let event = c.args.event.now in
    joined _ _ _ _ (take c.args.at c.args.lines.now) c.as_bytes.result.now (words_text event.kind event.name) (point_text event.point) (link_text event.link) (codes "\n")
    c.words_of-length.result.1 48 c.words_of-length.ensures.short c.words_of-length.ensures.length
    (ap (take (length (words_text event.kind event.name))) c.as_bytes.ensures.value ∙ c.words_of-length.ensures.words)
    c.write_bytes-at.ensures.written
    (c.write-at.ensures.written ∙ ap (λ p. take c.write_bytes-at.result c.write_bytes-at.new.lines ++ point_text p) c.turn_to.ensures)
    c.write_link_of-at.ensures.written
    c.write_all.ensures.written
