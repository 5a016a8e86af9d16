use Rattle.std.proofs.Common.{◌+◌, ◌≤◌, arith, length}
use Rattle.markdown_blocks.proofs.LinePieces.{at-within, codes-fit, codes-within, later-within, piece-is, piece-placed, piece-inside, piece-rest, piece-line, rest-is-line}
use Rattle.markdown_blocks.proofs.rest.Rest.piece.Goals as goal

pub overflow_add-self-inside : goal.overflow_add-self-inside
overflow_add-self-inside c =
    let w : c.self.inside.at + (c.args.from + c.args.len) ≤ length c.self.inside.values.now = at-within _ _ _ _ _ (c.args.from + c.args.len) c.self.invariant (rw (← c.self.view_is) at c.requires) in
    let v : c.self.inside.at + c.args.from ≤ length c.self.inside.values.now = omega (arith, w) in
    omega (arith, codes-fit _ _ _ _ _ c.args.from c.self.invariant v)

pub past_codes-start-requires-clause-within : goal.past_codes-start-requires-clause-within
past_codes-start-requires-clause-within c =
    let w : c.self.inside.at + (c.args.from + c.args.len) ≤ length c.self.inside.values.now = at-within _ _ _ _ _ (c.args.from + c.args.len) c.self.invariant (rw (← c.self.view_is) at c.requires) in
    codes-within _ _ _ _ _ c.args.from c.self.invariant (omega (arith, w))

pub past_codes-end-requires-clause-within : goal.past_codes-end-requires-clause-within
past_codes-end-requires-clause-within c =
    let w : c.self.inside.at + (c.args.from + c.args.len) ≤ length c.self.inside.values.now = at-within _ _ _ _ _ (c.args.from + c.args.len) c.self.invariant (rw (← c.self.view_is) at c.requires) in
    later-within _ _ _ _ _ _ c.args.from c.args.len c.self.invariant (omega (arith, w)) c.past_codes-start.ensures.is_point c.past_codes-start.ensures.place

pub returns-clause-codes : goal.returns-clause-codes
returns-clause-codes c =
    let w : c.self.inside.at + (c.args.from + c.args.len) ≤ length c.self.inside.values.now = at-within _ _ _ _ _ (c.args.from + c.args.len) c.self.invariant (rw (← c.self.view_is) at c.requires) in
    rw (← c.self.view_is) (piece-is _ _ _ _ _ _ _ c.args.from c.args.len c.self.invariant (omega (arith, w)) c.past_codes-start.ensures.is_point c.past_codes-start.ensures.place c.past_codes-end.ensures.place)

pub returns-clause-placed : goal.returns-clause-placed
returns-clause-placed c = λ o b w2.
    let w : c.self.inside.at + (c.args.from + c.args.len) ≤ length c.self.inside.values.now = at-within _ _ _ _ _ (c.args.from + c.args.len) c.self.invariant (rw (← c.self.view_is) at c.requires) in
    rw (← c.self.view_is) (piece-placed _ _ _ _ _ _ _ c.args.from c.args.len c.self.invariant (omega (arith, w)) c.past_codes-start.ensures.is_point c.past_codes-start.ensures.place c.past_codes-end.ensures.is_point c.past_codes-end.ensures.place
    (rw (← c.self.view_is) at o) (rw (← c.self.view_is) at b) (rw (← c.self.view_is) at w2))

pub returns-clause-line : goal.returns-clause-line
returns-clause-line c = λ o m w2.
    let w : c.self.inside.at + (c.args.from + c.args.len) ≤ length c.self.inside.values.now = at-within _ _ _ _ _ (c.args.from + c.args.len) c.self.invariant (rw (← c.self.view_is) at c.requires) in
    rw (← c.self.view_is) (piece-line _ _ _ _ _ _ _ c.args.from c.args.len c.self.invariant (omega (arith, w)) c.past_codes-start.ensures.is_point c.past_codes-start.ensures.place c.past_codes-end.ensures.is_point c.past_codes-end.ensures.place
    (rw (← c.self.view_is) at o) (rw (← c.self.view_is) at m) (rw (← c.self.view_is) at w2))

pub returns-clause-is_line : goal.returns-clause-is_line
returns-clause-is_line c = rw (← c.self.view_is) (rest-is-line c.self.inside.document.now c.self.inside.start c.self.inside.at)

pub returns-clause-inside : goal.returns-clause-inside
returns-clause-inside c = λ o b.
    let w : c.self.inside.at + (c.args.from + c.args.len) ≤ length c.self.inside.values.now = at-within _ _ _ _ _ (c.args.from + c.args.len) c.self.invariant (rw (← c.self.view_is) at c.requires) in
    rw (← c.self.view_is) (piece-inside _ _ _ _ _ _ _ c.args.from c.args.len c.self.invariant (omega (arith, w)) c.past_codes-start.ensures.is_point c.past_codes-start.ensures.place c.past_codes-end.ensures.is_point c.past_codes-end.ensures.place
    (rw (← c.self.view_is) at o) (rw (← c.self.view_is) at b))

pub returns-clause-rest : goal.returns-clause-rest
returns-clause-rest c = λ o m.
    let w : c.self.inside.at + (c.args.from + c.args.len) ≤ length c.self.inside.values.now = at-within _ _ _ _ _ (c.args.from + c.args.len) c.self.invariant (rw (← c.self.view_is) at c.requires) in
    rw (← c.self.view_is) (piece-rest _ _ _ _ _ _ _ c.args.from c.args.len c.self.invariant (omega (arith, w)) c.past_codes-start.ensures.is_point c.past_codes-start.ensures.place c.past_codes-end.ensures.is_point c.past_codes-end.ensures.place
    (rw (← c.self.view_is) at o) (rw (← c.self.view_is) at m))
