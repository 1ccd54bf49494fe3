-- The rows that the machine has read are the first of the document's rows.
use mathlib.Core.Path.{◌≡◌, refl, sym, ap, ◌∙◌}
use mathlib.Core.Bool.{Bool, true, false, cond}
use mathlib.Core.List.{List, [], ◌∷◌, ◌++◌, append_assoc, append-nil}
use Prim.Native.Nat.{ℕ, suc, ◌+◌, ◌<◌}
use native.Mathlib.Omega.{arith}
use lib.Dec.{eqb}
use lib.ListN.{length, get_or, take, drop, length-append, take-append-drop}
use lib.Seq.{get_or-append_seam}
use Rattle.grammar.specs.Classes.{white, name_start, name_byte}
use Rattle.grammar.specs.Grammar.{Bytes, ε, Content, nothing, empty_element, element, Document}
use Rattle.grammar.specs.Tokens.{may_open}
use Rattle.grammar.specs.Machine.{may_follow, Open, State, dead, in_run, after_less, in_name, in_space, after_slash, in_end_name, in_end_space, level, end_tag_state, tag, tail, step, runs, initial, At}
use Rattle.grammar.specs.Rows.{inked, #, width, Row, row, leaf_row, rows_from, rows_of, of_element, of_text}
use Rattle.grammar.proofs.Theory.{Live, by_cond, accepts, live_step, runs_append}
use Rattle.grammar.proofs.Positions.{off_o}

-- the rows R, and then that of the run t at a
unfoldable pub leaf_on : List Row → ℕ → ℕ → Bytes → List Row
leaf_on R k a t = cond (inked t) (R ++ (row of_text k a t ∷ [])) R

-- .. and then that of an element behind it
unfoldable pub named_on : List Row → ℕ → ℕ → Bytes → Bytes → List Row
named_on R k a t n = leaf_on R k a t ++ (row of_element k (a + # t + 1) n ∷ [])

-- the rows R, and then those of the content at a
unfoldable pub rows_on : List Row → ℕ → ℕ → Content → List Row
rows_on R k a nothing = R
rows_on R k a (empty_element f t n g) = named_on (rows_on R k a f) k (a + width f) t n
rows_on R k a (element f t n g i l h) =
    leaf_on (rows_on (named_on (rows_on R k a f) k (a + width f) t n) (suc k) (a + width f + # t + 1 + # n + # g + 1) i)
    (suc k) (a + width f + # t + 1 + # n + # g + 1 + width i) l

leaf_pre : (R : List Row) (k a : ℕ) (t : Bytes) (r : List Row) → leaf_on R k a t ++ r ≡ R ++ leaf_row k a t r
unfolding leaf_on
leaf_pre R k a t r = go (inked t)
  where
    go : (y : Bool) → cond y (R ++ (row of_text k a t ∷ [])) R ++ r ≡ R ++ cond y (row of_text k a t ∷ r) r
    go true = append_assoc R (row of_text k a t ∷ []) r
    go false = refl

named_pre : (R : List Row) (k a : ℕ) (t n : Bytes) (r : List Row) → named_on R k a t n ++ r ≡ R ++ leaf_row k a t (row of_element k (a + # t + 1) n ∷ r)
unfolding named_on
named_pre R k a t n r = append_assoc (leaf_on R k a t) (row of_element k (a + # t + 1) n ∷ []) r ∙ leaf_pre R k a t (row of_element k (a + # t + 1) n ∷ r)

rows_pre : (R : List Row) (k a : ℕ) (f : Content) (r : List Row) → rows_on R k a f ++ r ≡ R ++ rows_from k a f r
unfolding rows_on rows_from
rows_pre R k a nothing r = refl
rows_pre R k a (empty_element f t n g) r = named_pre (rows_on R k a f) k (a + width f) t n r ∙ rows_pre R k a f _
rows_pre R k a (element f t n g i l h) r =
    leaf_pre _ (suc k) _ l r ∙ rows_pre (named_on (rows_on R k a f) k (a + width f) t n) (suc k) _ i _ ∙ named_pre (rows_on R k a f) k (a + width f) t n _ ∙ rows_pre R k a f _

pub rows_same : (f : Content) → rows_on [] 1 0 f ≡ rows_of f
rows_same f = sym (append-nil (rows_on [] 1 0 f)) ∙ rows_pre [] 1 0 f []

-- THE ROWS THAT A STATE HAS READ
unfoldable pub rows_o : List Open → List Row
rows_o [] = []
rows_o (p ∷ o) = named_on (rows_on (rows_o o) (suc (length o)) (off_o o) p.before) (suc (length o)) (off_o o + width p.before) p.run p.name

abbrev pub at_run : List Open → Content → List Row
at_run o f = rows_on (rows_o o) (suc (length o)) (off_o o) f

abbrev pub at_tag : List Open → Content → Bytes → List Row
at_tag o f t = leaf_on (at_run o f) (suc (length o)) (off_o o + width f) t

abbrev pub at_name : List Open → Content → Bytes → Bytes → List Row
at_name o f t n = named_on (at_run o f) (suc (length o)) (off_o o + width f) t n

unfoldable pub rows_s : State → List Row
rows_s dead = []
rows_s (in_run o f t) = at_run o f
rows_s (after_less o f t) = at_tag o f t
rows_s (in_name o f t n) = at_tag o f t
rows_s (in_space o f t n g) = at_name o f t n
rows_s (after_slash o f t n g) = at_name o f t n
rows_s (in_end_name p o f t m r) = at_tag (p ∷ o) f t
rows_s (in_end_space p o f t h) = at_tag (p ∷ o) f t

pub record Prefix (X Y : List Row) : Type 0 where
  pub rest : List Row
  pub is : Y ≡ X ++ rest

prefix_same : {X Y : List Row} → X ≡ Y → Prefix X Y
prefix_same {X} {Y} e = record { rest = []; is = sym e ∙ sym (append-nil X) }

prefix_then : {X Y Z : List Row} → Prefix X Y → Prefix Y Z → Prefix X Z
prefix_then {X} {Y} {Z} p q = record {
  rest = p.rest ++ q.rest;
  is = q.is ∙ ap (λ (l : List Row). l ++ q.rest) p.is ∙ append_assoc X p.rest q.rest;
}

prefix_leaf : (R : List Row) (k a : ℕ) (t : Bytes) → Prefix R (leaf_on R k a t)
unfolding leaf_on
prefix_leaf R k a t = go (inked t)
  where
    go : (y : Bool) → Prefix R (cond y (R ++ (row of_text k a t ∷ [])) R)
    go true = record { rest = row of_text k a t ∷ []; is = refl }
    go false = prefix_same refl

prefix_named : (R : List Row) (k a : ℕ) (t n : Bytes) → Prefix (leaf_on R k a t) (named_on R k a t n)
unfolding named_on
prefix_named R k a t n = record { rest = row of_element k (a + # t + 1) n ∷ []; is = refl }

abbrev Grows : State → State → Type 0
Grows z z' = Live z' → Prefix (rows_s z) (rows_s z')

grow_tag : (z : State) (o : List Open) (f : Content) (t n g : Bytes) (b : ℕ) → Prefix (rows_s z) (at_name o f t n) → Grows z (tag o f t n g b)
unfolding rows_s rows_on rows_o
grow_tag z o f t n g b h =
    by_cond (Grows z) (white b) (λ q l. h)
    (λ q. by_cond (Grows z) (eqb b 62) (λ m l. h) (λ m. by_cond (Grows z) (eqb b 47) (λ r l. h) (λ r l. absurd l)))

grow_tail : (z : State) (p : Open) (o : List Open) (f : Content) (t h : Bytes) (b : ℕ) → rows_s z ≡ at_tag (p ∷ o) f t → Grows z (tail p o f t h b)
unfolding rows_s rows_on rows_o off_o
grow_tail z p o f t g b h =
    by_cond (Grows z) (white b) (λ q l. prefix_same h) (λ q. by_cond (Grows z) (eqb b 62) (λ m l. prefix_same h) (λ m l. absurd l))

grows : (z : State) (b : ℕ) → Grows z (step z b)
unfolding rows_s rows_on
grows dead b = λ l. absurd l
grows (in_run o f t) b =
    by_cond (Grows (in_run o f t)) (eqb b 60)
    (λ q. by_cond (Grows (in_run o f t)) (may_open (level o) f) (λ m l. prefix_leaf _ _ _ t) (λ m l. absurd l))
    (λ q. by_cond (Grows (in_run o f t)) (may_follow (level o) t b) (λ m l. prefix_same refl) (λ m l. absurd l))
grows (after_less o f t) b =
    by_cond (Grows (after_less o f t)) (name_start b) (λ q l. prefix_same refl)
    (λ q. by_cond (Grows (after_less o f t)) (eqb b 47) (λ m. go o) (λ m l. absurd l))
  where
    go : (o : List Open) → Grows (after_less o f t) (end_tag_state o f t)
    go [] l = absurd l
    go (p ∷ o) l = prefix_same refl
grows (in_name o f t n) b =
    by_cond (Grows (in_name o f t n)) (name_byte b) (λ q l. prefix_same refl) (λ q. grow_tag (in_name o f t n) o f t n ε b (prefix_named _ _ _ t n))
grows (in_space o f t n g) b = grow_tag (in_space o f t n g) o f t n g b (prefix_same refl)
grows (after_slash o f t n g) b = by_cond (Grows (after_slash o f t n g)) (eqb b 62) (λ q l. prefix_same refl) (λ q l. absurd l)
grows (in_end_name p o f t m []) b = grow_tail (in_end_name p o f t m []) p o f t ε b refl
grows (in_end_name p o f t m (r ∷ rs)) b = by_cond (Grows (in_end_name p o f t m (r ∷ rs))) (eqb b r) (λ q l. prefix_same refl) (λ q l. absurd l)
grows (in_end_space p o f t g) b = grow_tail (in_end_space p o f t g) p o f t g b refl

grow_all : (z : State) (v : List ℕ) → Live (runs z v) → Prefix (rows_s z) (rows_s (runs z v))
grow_all z [] l = prefix_same refl
grow_all z (b ∷ v) l = prefix_then (grows z b (live_step (step z b) v l)) (grow_all (step z b) v l)

-- IN A DOCUMENT
module _ {w : List ℕ} {F : Content} {T : Bytes} (d : Document w F T) {j : ℕ} {z : State} (a : At w j z) where
  ends : runs z (drop j w) ≡ in_run [] F T
  ends =
      ap (λ (s : State). runs s (drop j w)) (sym a.is) ∙ sym (runs_append initial (take j w) (drop j w))
      ∙ ap (runs initial) (take-append-drop j w) ∙ accepts d

  -- what it has read are the first rows
  pub emitted : Prefix (rows_s z) (rows_of F)
  unfolding rows_s rows_o off_o
  emitted =
      let p : Prefix (rows_s z) (rows_s (runs z (drop j w))) = grow_all z (drop j w) (rw ends tt) in
      rw (← (rows_same F)) (rw ends at p)

-- the row behind the first ones
pub prefix_next : (X R : List Row) (x y : Row) → Prefix (X ++ (x ∷ [])) R → (length X < length R) × (get_or R (length X) y ≡ x)
prefix_next X R x y p =
    let e : R ≡ X ++ (x ∷ p.rest) = p.is ∙ append_assoc X (x ∷ []) p.rest in
    (omega (arith, ap length e, length-append X (x ∷ p.rest)), ap (λ (l : List Row). get_or l (length X) y) e ∙ get_or-append_seam X x p.rest y)
