use Rattle.std.proofs.Common.{◌<◌, length, sym, subst}
use Rattle.markdown_event.proofs.ReverseSet.{put_reverse}
use Rattle.markdown_event.proofs.seq.Stack.put.Goals as goal

pub returns : goal.returns
returns g c =
    rw (c.len.ensures, ← c.self.view_is) (put_reverse c.self.inside.bottom_up.items _ c.args.depth c.args.item c.self.inside.bottom_up.ok.0 (subst (λ xs. c.args.depth < length xs) (sym c.self.view_is) c.requires))
