use Rattle.std.proofs.Common.{length, Ok}
use Rattle.std.specs.Fn.{FnReturnsAt}
use Rattle.lines.specs.Lines.{EachLine}
use Rattle.lines.proofs.answer_lines.Given as goal

-- Where the rest's lines are answered, the text's are.
abbrev pub invariant-loop-line : goal.invariant-loop-line
invariant-loop-line g l =
    EachLine (λ line. FnReturnsAt g.F.Fn l.answer line (Ok tt)) l.rest
    → EachLine (λ line. FnReturnsAt g.F.Fn l.answer line (Ok tt)) l.fn.text

abbrev pub decreases-loop-line : goal.decreases-loop-line
decreases-loop-line g l = length l.rest
