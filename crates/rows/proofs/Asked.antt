-- What `?` and `map_err` make of an answer.
use mathlib.Core.Path.{◌≡◌, ap, subst}
use mathlib.Core.List.{List}
use Prim.Native.Nat.{ℕ, ◌+◌}
use Rattle.std.specs.Prelude.{Result, Ok, Err, IsErrAnd, MatchResult}
use Rattle.grammar.specs.Grammar.{Bytes, Content}
use Rattle.grammar.specs.Machine.{Open}
use Rattle.judge.specs.Tags.{Does}
use Rattle.judge.specs.declared.tags.Tag.{Tag}
use Rattle.rows.specs.Turns.{TagDone, refused}
use Rattle.rows.specs.declared.note.Turn.{Turn}
use Rattle.rows.specs.declared.note.Unread.{Unread}
use Rattle.rows.specs.declared.note.Unread.TheVariants.{Outside}

-- an error that is handed on
pub handed_on : {T E : Type 0} (r : Result T E) {e : E} → IsErrAnd r (λ x. x ≡ e) → r ≡ Err e
handed_on (Ok x) h = absurd h
handed_on (Err x) h = ap Err h

-- m is a tag's answer with a refusal in the place's stead
abbrev Mapped : Result Tag ℕ → Result Tag Unread → Type 0
Mapped r m = MatchResult r (λ x. m ≡ Ok x) (λ q. IsErrAnd m (λ e. e ≡ Outside q))

module _ (w : List ℕ) (a : ℕ) (o : List Open) (f : Content) (t : Bytes) where
  pub tag_refused : (S L Z : List ℕ) (depth row : ℕ) (r : Result Tag ℕ) {e : Unread} → Mapped r (Err e) → Does w (a + 1) o f t r → (u : Result Turn Unread) → u ≡ Err e →
      TagDone w S L Z depth row a o f t S L Z u
  tag_refused S L Z depth row (Ok x) m d u is = absurd (cc)
  tag_refused S L Z depth row (Err q) m d u is = rw (is, m) (refused d)

  pub tag_kept : (r : Result Tag ℕ) {x y : Tag} → Mapped r (Ok x) → x ≡ y → Does w (a + 1) o f t r → Does w (a + 1) o f t (Ok y)
  tag_kept (Ok z) {x} {y} m is d = let e : z ≡ y = cc in subst (λ (v : Tag). Does w (a + 1) o f t (Ok v)) e d
  tag_kept (Err q) m is d = absurd m
