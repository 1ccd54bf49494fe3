use Rattle.meaning.specs.Pattern.{a_context}
use Rattle.pattern.proofs.Rules.{any_size, size_one, says_of, no_kind}
use Rattle.pattern.proofs.sized.Goals as goal

pub returns-in-0 : goal.returns-in-0
returns-in-0 c = any_size c.in-0.is

pub returns-in-4 : goal.returns-in-4
returns-in-4 c = says_of a_context c.in-4.is c.one_argument.ensures

pub returns-in-1 : goal.returns-in-1
returns-in-1 c = size_one c.in-1.in_default-own.rest.0.1 c.in-1.if-this-lt3-own.true

pub returns-in_default : goal.returns-in_default
returns-in_default c = no_kind c.in_default.in_default-own.rest.0.1 c.in_default.in_default-own.rest.1 c.in_default.if-this-lt3-own.false
