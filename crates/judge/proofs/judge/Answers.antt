use native.Mathlib.Omega.{arith}
use Rattle.judge.specs.Verdict.{long}
use Rattle.judge.proofs.judge.Goals as goal

pub returns-then-document-gt-MOST_BYTES : goal.returns-then-document-gt-MOST_BYTES
returns-then-document-gt-MOST_BYTES c = long (omega arith)

pub pass-requires : goal.pass-requires
pass-requires c = c.if-document-gt-MOST_BYTES.false
