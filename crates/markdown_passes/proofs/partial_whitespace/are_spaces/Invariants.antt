use Rattle.std.proofs.Common.{◌≡◌, length}
use Rattle.std.specs.List.{list_all}
use Rattle.markdown_model.specs.CodeTests.{is_real_space}
use Rattle.markdown_passes.specs.TrimmedData.{between, IsStretch}
use Rattle.markdown_passes.proofs.partial_whitespace.are_spaces.Given as goal

-- all codes are spaces where those that are left are
abbrev pub invariant-loop-to : goal.invariant-loop-to
invariant-loop-to l =
    IsStretch l.bytes l.point l.to × (list_all is_real_space (between l.bytes l.point l.to) ≡ list_all is_real_space (between l.bytes l.fn.from l.fn.to))

abbrev pub decreases-loop-to : goal.decreases-loop-to
decreases-loop-to l = length (between l.bytes l.point l.to)
