use Rattle.walk.specs.Packed.{numbers_of}
use Rattle.walk.proofs.Ups.{Rising}
use Rattle.walk.proofs.up.Given as goal

abbrev pub invariant-loop-q : goal.invariant-loop-q
invariant-loop-q l = Rising l.tree.label.now l.tree.size.now (numbers_of l.pattern) l.initial.«record» l.«record» l.initial.at l.at l.p l.n l.q l.m

abbrev pub decreases-loop-q : goal.decreases-loop-q
decreases-loop-q l = l.q
