-- The walk at a variable that has to be chosen: it asks, and with one choice more it goes on from there.
use Prim.Native.Nat.{ℕ, ◌+◌}
use mathlib.Core.Path.{◌≡◌}
use mathlib.Core.List.{List, [], ◌∷◌}
use Rattle.meaning.specs.Forest.{Forest, Term, rows, terms}
use Rattle.meaning.specs.Read.{take_t, cut, values}
use Rattle.meaning.specs.Pattern.{Pattern, context, Patterns, sequence, new, look}
use Rattle.meaning.specs.Matcher.{of_sequence, of_context}
use Rattle.meaning.specs.Record.{Entry}
use Rattle.meaning.proofs.Laws.{drop_t}
use Rattle.meaning.proofs.Walk.{need, and_then, walk_t, walk_f}
use Rattle.meaning.proofs.Resume.{Frame, at_sequence, at_context, run, enter, then_chosen}
use Rattle.meaning.proofs.Next.{Any, any?}

module _ {ps : Patterns} {x : ℕ} {qs : Patterns} (us : Forest) (t : ℕ) (B : List Entry) (e : ps ≡ sequence x qs) (f : look (values B) x ≡ new) where
  pub sequence_asks : walk_f Any any? ps us t B [] ≡ need B t 0 (terms us)
  unfolding walk_f
  sequence_asks = rw (e, f)

  pub sequence_goes : (fs : List Frame) (v : ℕ) (cs : List ℕ) → and_then (walk_f Any any? ps us t B (v ∷ cs)) (run Any any? fs) ≡ enter Any any? (at_sequence qs us) x t fs B v cs
  unfolding walk_f
  sequence_goes fs v cs =
      rw (e, f)
      (then_chosen Any any? new (v ∷ cs) x 0 (terms us) t (λ d. of_sequence (take_t d us)) B (λ d C ds. walk_f Any any? qs (drop_t d us) (t + rows (take_t d us)) C ds) (run Any any? fs))

module _ {p : Pattern} {x : ℕ} {q : Pattern} (T : Term) (t : ℕ) (B : List Entry) (e : p ≡ context x q) (f : look (values B) x ≡ new) where
  pub context_asks : walk_t Any any? p T t B [] ≡ need B t t (t + rows T.args)
  unfolding walk_t
  context_asks = rw (e, f)

  pub context_goes : (fs : List Frame) (v : ℕ) (cs : List ℕ) → and_then (walk_t Any any? p T t B (v ∷ cs)) (run Any any? fs) ≡ enter Any any? (at_context q T) x t fs B v cs
  unfolding walk_t
  context_goes fs v cs =
      rw (e, f)
      (then_chosen Any any? new (v ∷ cs) x t (t + rows T.args) t (λ d. of_context (cut T d).around) B (λ d C ds. walk_t Any any? q (cut T d).at (t + d) C ds) (run Any any? fs))
