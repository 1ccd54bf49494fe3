use Rattle.dictionary.proofs.Names.{Begins}
use Rattle.dictionary.proofs.spelling.name_part.Given as goal

-- `name_part` meets its contract. The invariant: `start` is where the name `counter` begins.
abbrev pub invariant-loop : goal.invariant-loop
invariant-loop l = Begins l.dictionary l.start l.counter
