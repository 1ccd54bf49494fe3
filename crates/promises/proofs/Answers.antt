-- Demand 2 holds.
use Prim.Native.Nat.{ℕ}
use mathlib.Core.Path.{◌≡◌, refl, sym, ap, subst, ◌∙◌}
use mathlib.Core.Bool.{true, true≢false}
use mathlib.Core.Logic.{inr}
use mathlib.Core.List.{List}
use Rattle.std.specs.Prelude.{Bool, Result, Ok, Err}
use Rattle.meaning.specs.declared.refusal.Refusal.{Refusal}
use Rattle.meaning.specs.Forest.{Term}
use Rattle.meaning.specs.Pattern.{Pattern, Kind}
use Rattle.meaning.specs.Record.{IsRecord}
use Rattle.meaning.proofs.OneCode.{one_refuse, one_accept}
use Rattle.meaning.proofs.Means.{matcher_means}
use Rattle.grammar.proofs.Unique.{one_reading}
use Rattle.dictionary.specs.Spelling.{spelling_of, bytes_of, IsPart, part_stands_at}
use Rattle.dictionary.proofs.Names.{names_unique}
use Rattle.document.proofs.Filling.{number_of, tree_labels, tree_sizes}
use Rattle.document.proofs.Labels.{spelled_row, same_half, same_label, even_at, small_at}
use Rattle.document.proofs.Promises.{tree_is_good, spellings_inside}
use Rattle.document.proofs.Lookup.{lookup_is_read}
use Rattle.expression.specs.Expression.{Expression}
use Rattle.constraint.specs.Obeys.{Constraint, Allowed}
use Rattle.constraint.proofs.Allowed.{allowed?}
use Rattle.problem.specs.Problem.{Lists, Poses}
use Rattle.problem.proofs.Posed.{codes_high, one_codes}
use Rattle.test.specs.Tested.{code_of, yes_of, Fifteen, TestSettled}
use Rattle.instance.proofs.Promises.{instance_made, matcher_made}
use Rattle.promises.specs.Answers.{LooksUp, Answers}

looks_up : LooksUp
looks_up = record {
  part = λ {d} {w} {l} {b} {n} {row} {s} {t} {u} x m. subst (λ (ns : List (List ℕ)). IsPart s t u (spelling_of ns w l b n row)) (names_unique x.taken m) x.part_is;
  slice = λ {d_at} {w_at} {at} {d} {w} {l} {b} {n} {v} {row} x m.
      let e = ap (λ (ns : List (List ℕ)). spelling_of ns w l b n row) (names_unique x.taken m) in
      (x.stands ∙ ap (part_stands_at d_at w_at) e, x.bytes_are ∙ ap (bytes_of d w) e);
}

-- a yes is no refusal
accepted : (r : Result Bool Refusal) → yes_of r ≡ true → code_of r ≡ 0
accepted (Ok b) h = refl
accepted (Err e) h = absurd (true≢false (sym h))

module _ {l : Lists} {list : List ℕ} {r : Result Bool Refusal} {T : Term} {P : Pattern} {Q : List Kind} {es : List Expression} {cs : List Constraint} (s : TestSettled l list r) (p : Poses l T P Q es cs) where
  -- the record of a matcher is not refused
  of_matcher : IsRecord (Allowed cs) Q P T list → code_of r ≡ 0
  of_matcher m =
      let g = p.rest.pattern in
      let x = rw m.its at (matcher_means (Allowed cs) (allowed? cs) g.numbered m.solves) in
      one_codes l (Fifteen l list) (λ i j. one_refuse 15 _ _ i j one_accept) (code_of r) 0 s.code
      (codes_high l (Fifteen l list) 0 (record { T = T; P = P; Q = Q; es = es; cs = cs; poses = p }) (inr ((T, P, Q, m.matcher, p.tree, g, x), refl)))

pub answers : Answers
answers = record {
  reader = record { tree = λ r e g y. r.written e _ _ _ g y; one = λ a c. (one_reading a c).0; one_tree = λ names f. (number_of names f, sym (tree_labels names f), tree_sizes names f); taken = tree_is_good; spelt = spellings_inside; looked_up = lookup_is_read };
  element_or_text = record {
    half_tells = λ names f i j h k. same_half names f i j (spelled_row f i h) (spelled_row f j k);
    whole_tells = λ names f i j h k. same_label names f i j (spelled_row f i h) (spelled_row f j k);
    even_tells = λ names f i h. even_at names f i (spelled_row f i h);
    small = λ d names f i g few h. small_at names f i (spelled_row f i h) g.few few;
  };
  lookup = looks_up;
  test = λ l list r T P Q es cs s p. (λ h. (s.yes_or_no (accepted r h) T P Q es cs p).0 h, λ m. (s.yes_or_no (of_matcher s p m) T P Q es cs p).1 m);
  instance = λ l L S L' S' r U s i h a b. instance_made l L S r L' S' U i h a b s;
  of_matcher = λ l L S L' S' r T P Q cs s t p m a b. matcher_made (Allowed cs) (allowed? cs) l T P Q L S r L' S' t p m s a b;
}
