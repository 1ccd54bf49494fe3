use Rattle.std.proofs.Common.{◌≡◌, List, ℕ, ◌+◌, ◌≤◌, ◌<◌, length, get_or, arith}
use Rattle.grammar.specs.Classes.{class_number}
use Rattle.tokens.specs.Tokens.{Passed, name_at}
use Rattle.tokens.proofs.Spans.{name_yes, name_not, passed_none, passed_more, passed_next, stops, span_then}
use Rattle.tokens.proofs.long_name_end.Goals as goal

-- THE NAME GOES ON behind so many bytes of a turn
module _ {w : List ℕ} {a i : ℕ} (named : Passed (name_at w) w a i) (turn : i + 4 ≤ length w) where
  one : {k : ℕ} → k ≡ class_number (get_or w i 0) → 4 ≤ k → Passed (name_at w) w a (i + 1)
  one is h = passed_more named (omega arith) (name_yes _ _ is (omega arith))

  two : {k l : ℕ} → k ≡ class_number (get_or w i 0) → 4 ≤ k → l ≡ class_number (get_or w (i + 1) 0) → 4 ≤ l → Passed (name_at w) w a (i + 2)
  two is h js g = passed_next i 1 (one is h) (omega arith) (name_yes _ _ js (omega arith))

  three : {k l m : ℕ} → k ≡ class_number (get_or w i 0) → 4 ≤ k → l ≡ class_number (get_or w (i + 1) 0) → 4 ≤ l →
      m ≡ class_number (get_or w (i + 2) 0) → 4 ≤ m → Passed (name_at w) w a (i + 3)
  three is h js g ks f = passed_next i 2 (two is h js g) (omega arith) (name_yes _ _ ks (omega arith))

pub loop-i-init : goal.loop-i-init
loop-i-init c = passed_none _ _ _ c.requires

pub overflow_add-i : goal.overflow_add-i
overflow_add-i c = omega (arith, c.loop-i.invariant.within, c.well_formed)

pub returns-then-class_of-lt-IN_NAME : goal.returns-then-class_of-lt-IN_NAME
returns-then-class_of-lt-IN_NAME c = stops c.loop-i.invariant (name_not _ _ c.class_of.ensures (omega (arith, c.if-class_of-lt-IN_NAME.true)))

pub returns-then-class_of-lt-IN_NAME-2 : goal.returns-then-class_of-lt-IN_NAME-2
returns-then-class_of-lt-IN_NAME-2 c = stops (one c.loop-i.invariant c.loop-i-test.true c.class_of.ensures c.if-class_of-lt-IN_NAME.false) (name_not _ _ c.class_of-in-loop-i.ensures (omega (arith, c.if-class_of-lt-IN_NAME-2.true)))

pub returns-then-class_of-lt-IN_NAME-3 : goal.returns-then-class_of-lt-IN_NAME-3
returns-then-class_of-lt-IN_NAME-3 c = stops (two c.loop-i.invariant c.loop-i-test.true c.class_of.ensures c.if-class_of-lt-IN_NAME.false c.class_of-in-loop-i.ensures c.if-class_of-lt-IN_NAME-2.false) (name_not _ _ c.class_of-in-loop-i-2.ensures (omega (arith, c.if-class_of-lt-IN_NAME-3.true)))

pub returns-then-class_of-lt-IN_NAME-4 : goal.returns-then-class_of-lt-IN_NAME-4
returns-then-class_of-lt-IN_NAME-4 c = stops (three c.loop-i.invariant c.loop-i-test.true c.class_of.ensures c.if-class_of-lt-IN_NAME.false c.class_of-in-loop-i.ensures c.if-class_of-lt-IN_NAME-2.false c.class_of-in-loop-i-2.ensures c.if-class_of-lt-IN_NAME-3.false) (name_not _ _ c.class_of-in-loop-i-3.ensures (omega (arith, c.if-class_of-lt-IN_NAME-4.true)))

pub loop-i-preserved : goal.loop-i-preserved
loop-i-preserved c =
    passed_next c.loop-i.i 3 (three c.loop-i.invariant c.loop-i-test.true c.class_of.ensures c.if-class_of-lt-IN_NAME.false c.class_of-in-loop-i.ensures c.if-class_of-lt-IN_NAME-2.false c.class_of-in-loop-i-2.ensures c.if-class_of-lt-IN_NAME-3.false) (omega (arith, c.loop-i-test.true)) (name_yes _ _ c.class_of-in-loop-i-3.ensures (omega (arith, c.if-class_of-lt-IN_NAME-4.false)))

pub name_end-requires : goal.name_end-requires
name_end-requires c = c.loop-i.invariant.within

pub returns : goal.returns
returns c = span_then c.loop-i.invariant c.name_end.ensures
