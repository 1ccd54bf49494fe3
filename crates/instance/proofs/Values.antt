-- What a good record says of a variable: its value is read off the tree at its numbers, and stands there.
use Prim.Native.Nat.{ℕ, ◌+◌, ◌-◌, ◌<◌, ◌≤◌}
use mathlib.Core.Path.{◌≡◌, ap, ◌∙◌, sym, subst}
use mathlib.Core.List.{List}
use lib.ListN.{length, get_or}
use native.Mathlib.Omega.{arith}
use native.Mathlib.Decide.{dec_lt}
use Rattle.meaning.specs.Forest.{Forest, Term, rows, Context, hole_row}
use Rattle.meaning.specs.Pattern.{Kind, an_individual, a_sequence, a_function, a_context, old, look}
use Rattle.meaning.specs.Matcher.{Value, at, as_term, as_forest, as_symbol, as_context}
use Rattle.meaning.specs.Read.{forest_from_row, head_term, value_at, read_off, Fits, GoodRecord}
use Rattle.meaning.proofs.Lists.{at_old, look_old}
use Rattle.meaning.proofs.Laws.{no_rows, cut_holds}
use Rattle.meaning.proofs.From.{from_past}
use Rattle.tree.specs.Places.{TermsAt, TermAt, ContextAt}
use Rattle.tree.specs.Helpers.{PastPre, PastPost}
use Rattle.tree.proofs.Terms.{terms_end, terms_rows, nothing_at, term_size, first_at}
use Rattle.tree.proofs.Cuts.{from_row, cut_at}
use Rattle.tree.proofs.Counts.{past_at}
use Rattle.pattern.specs.Places.{Variable}
use Rattle.record.proofs.Each.{good_each, good_long, read_look}
use Rattle.instance.specs.Places.{Ground, meant}

-- the variable x of the kind k: its numbers
pub record Given (R : Forest) (W : List ℕ) (x : ℕ) (k : Kind) (v : Value) : Type 0 where
  pub within : x + x + 1 < length W
  pub is : v ≡ value_at k R (get_or W (x + x) 0) (get_or W (x + x + 1) 0)
  pub fits : Fits k R (get_or W (x + x) 0) (get_or W (x + x + 1) 0)

given : (Q : List Kind) (R : Forest) (W : List ℕ) (x : ℕ) (k : Kind) → GoodRecord Q R W → look Q x ≡ old k → Given R W x k (at (read_off Q R W) x)
given Q R W x k g e =
    let l = look_old Q x k e in
    record { within = omega (arith, good_long Q R W g); is = at_old (read_off Q R W) x (read_look Q R W x k g e); fits = (good_each Q R W (length Q) g).fits x k l e }

-- a term of the tree
pub record HeadAt (L S : List ℕ) (a : ℕ) (T : Term) : Type 0 where
  pub within : a < length S
  pub labelled : a < length L
  pub here : TermAt L S a T.label T.args

module _ {L S W : List ℕ} {Q : List Kind} {R : Forest} (g : Ground L S W Q R) where
  pub head_at : (a : ℕ) → a < rows R → HeadAt L S a (head_term (forest_from_row R a))
  head_at a h =
      let r = terms_rows g.tree in
      let e = terms_end g.tree in
      let w = (from_row a g.tree (omega arith)).0 in
      let x = first_at w.here w.later in
      record {
        within = omega arith;
        labelled = omega (arith, e.0);
        here = subst (λ (f : Forest). TermAt L S a (head_term f).label (head_term f).args) (sym x.is) x.first;
      }

  -- the sequence from a row on, or none at the end
  pub sequence_at : (a : ℕ) → a ≤ rows R → (e : ℕ) × TermsAt L S a e (forest_from_row R a)
  sequence_at a h = go (dec_lt a (length S))
    where
      go : Dec (a < length S) → (e : ℕ) × TermsAt L S a e (forest_from_row R a)
      go (yes l) =
          let w = (from_row a g.tree l).0 in
          (w.end, w.here)
      go (no l) =
          let r = terms_rows g.tree in
          let e = terms_end g.tree in
          let z = no_rows (forest_from_row R a) (from_past R a (omega arith)) in
          (a, subst (λ (f : Forest). TermsAt L S a a f) (sym z) (nothing_at a (omega (arith, e.0)) (omega arith)))

  module _ {x : ℕ} {k : Kind} (v : Variable Q k x) where
    pub its : Given R W x k (at (meant W Q R) x)
    its = given Q R W x k g.good v.kept

-- what the four kinds of variables say of their rows
module _ {L S W : List ℕ} {Q : List Kind} {R : Forest} {x : ℕ} (g : Ground L S W Q R) where
  pub individual_at : Variable Q an_individual x → HeadAt L S (get_or W (x + x) 0) (as_term (at (meant W Q R) x))
  individual_at v =
      let i = its g v in
      rw i.is (head_at g (get_or W (x + x) 0) i.fits.0)

  pub function_at : Variable Q a_function x → (get_or W (x + x) 0 < length L) × (get_or L (get_or W (x + x) 0) 0 ≡ as_symbol (at (meant W Q R) x))
  function_at v =
      let i = its g v in
      let h = head_at g (get_or W (x + x) 0) i.fits.0 in
      (h.labelled, h.here.row.label ∙ sym (ap as_symbol i.is))

  pub sequence_pre : Variable Q a_sequence x → PastPre S (get_or W (x + x) 0) (get_or W (x + x + 1) 0)
  sequence_pre v =
      let i = its g v in
      let s = sequence_at g (get_or W (x + x) 0) i.fits.0 in
      record { some = (L, s.0, forest_from_row R (get_or W (x + x) 0), s.1, i.fits.1) }

  pub sequence_is : {r : ℕ} → Variable Q a_sequence x → PastPost S (get_or W (x + x) 0) (get_or W (x + x + 1) 0) r → TermsAt L S (get_or W (x + x) 0) r (as_forest (at (meant W Q R) x))
  sequence_is v p =
      let i = its g v in
      let s = sequence_at g (get_or W (x + x) 0) i.fits.0 in
      rw i.is (past_at p s.1 i.fits.1).0

-- a context variable's numbers: the term where it starts, its hole in that term, and the context between
pub record HoleAt (L S : List ℕ) (a b : ℕ) (c : Context) : Type 0 where
  pub label : ℕ
  pub args : Forest
  pub here : TermAt L S a label args
  pub low : a ≤ b
  pub high : b < a + get_or S a 0
  pub around : ContextAt L S a b c
  pub row : hole_row c ≡ b - a

pub context_at : {L S W : List ℕ} {Q : List Kind} {R : Forest} {x : ℕ} → Ground L S W Q R → Variable Q a_context x
    → HoleAt L S (get_or W (x + x) 0) (get_or W (x + x + 1) 0) (as_context (at (meant W Q R) x))
context_at {L} {S} {W} {Q} {R} {x} g v =
    let a : ℕ = get_or W (x + x) 0 in
    let b : ℕ = get_or W (x + x + 1) 0 in
    let i = its g v in
    let T : Term = head_term (forest_from_row R a) in
    let h = head_at g a i.fits.0 in
    let z = term_size h.here in
    let f = i.fits.2 in
    record {
      label = T.label;
      args = T.args;
      here = h.here;
      low = i.fits.1;
      high = omega (arith, f);
      around = rw i.is (cut_at b h.here i.fits.1 (omega (arith, f))).0;
      row = rw i.is (cut_holds T (b - a) (omega (arith, f)));
    }
