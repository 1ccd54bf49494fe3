-- The words of sequences and contexts on rows, letter by letter.
use Prim.Native.Nat.{ℕ, zero, suc, ◌+◌, ◌≤◌, ◌<◌}
use mathlib.Core.Path.{◌≡◌, refl, ap, ◌∙◌, sym}
use mathlib.Core.Logic.{◌≢◌}
use mathlib.Core.List.{List, [], ◌∷◌, ◌++◌, append_assoc, append-nil}
use lib.ListN.{length, get_or}
use native.Mathlib.Omega.{arith}
use Rattle.meaning.specs.Forest.{Forest, none, some, terms, Context, hole, node}
use Rattle.meaning.specs.Read.{take_t}
use Rattle.meaning.proofs.Laws.{drop_t}
use Rattle.tree.specs.Places.{TermsAt, stop, step, Next, ContextAt, at_hole, at_node}
use Rattle.tree.specs.Helpers.{ChildPre, ChildPost}
use Rattle.tree.proofs.Terms.{terms_le, terms_end}
use Rattle.tree.proofs.Ways.{context_le, hole_here}
use Rattle.constraint.specs.Obeys.{heads, path}

-- as many terms, as many letters; only the bare hole has none
pub heads_none : (c : ℕ) (f : Forest) → c ≤ terms f → heads (take_t c f) ≡ [] → c ≡ 0
unfolding heads take_t terms
heads_none zero f h e = refl
heads_none (suc c) none h e = absurd (omega arith)
heads_none (suc c) (some l us rest) h e = absurd (let z : ◌≡◌ {A = ℕ} 0 1 = cc in omega arith)

pub none_heads : (f : Forest) → heads (take_t 0 f) ≡ []
unfolding heads take_t
none_heads f = refl

pub path_none : (c : Context) → path c ≡ [] → c ≡ hole
unfolding path
path_none hole e = refl
path_none (node l left c right) e = absurd (let z : ◌≡◌ {A = ℕ} 0 1 = cc in omega arith)

pub none_path : path hole ≡ []
unfolding path
none_path = refl

-- the bare hole stands at the context's own row
pub here_hole : {L S : List ℕ} {a b : ℕ} {c : Context} → ContextAt L S a b c → c ≡ hole → a ≡ b
here_hole (at_hole n e) h = e
here_hole (at_node v lo hi k) h = absurd (let z : ◌≡◌ {A = ℕ} 0 1 = cc in omega arith)

-- A word is read along the rows: what is done, and from the row where the reading stands what is to come.

-- the row of the next head is in the lists
pub heads_row : {L S : List ℕ} {t e : ℕ} {f : Forest} → TermsAt L S t e f → 0 < terms f → (t < length L) × (t < length S)
unfolding terms
heads_row (stop p _ _) m = absurd (omega arith)
heads_row (step r i b k) m =
    let x = terms_end k in
    (omega arith, omega arith)

-- behind it stand the others
pub heads_rest : {L S : List ℕ} {t e : ℕ} {f : Forest} → TermsAt L S t e f → 0 < terms f → (g : Forest) × TermsAt L S (t + get_or S t 0) e g × (terms f ≡ suc (terms g))
unfolding terms
heads_rest (stop p _ _) m = absurd (omega arith)
heads_rest (step {rest = rest} r i b k) m = (rest, rw r.size k, refl)

pub drop_more : {L S : List ℕ} {t e : ℕ} (i : ℕ) (f : Forest) → TermsAt L S t e (drop_t i f) → i < terms f → TermsAt L S (t + get_or S t 0) e (drop_t (suc i) f)
unfolding drop_t terms
drop_more i none x h = absurd (omega arith)
drop_more zero (some l us rest) (step r i b k) h = rw r.size k
drop_more (suc i) (some l us rest) x h = drop_more i rest x (omega arith)

-- one more term is one more letter
pub heads_more : {L S : List ℕ} {t e : ℕ} (i : ℕ) (f : Forest) → TermsAt L S t e (drop_t i f) → i < terms f → heads (take_t (suc i) f) ≡ heads (take_t i f) ++ (get_or L t 0 ∷ [])
unfolding heads take_t drop_t terms
heads_more i none x h = absurd (omega arith)
heads_more zero (some l us rest) (step r i b k) h = rw r.label
heads_more (suc i) (some l us rest) x h = ap (λ (w : List ℕ). l ∷ w) (heads_more i rest x (omega arith))

-- read are the labels on the path from the start down to the row t
pub record PathLeft (L S : List ℕ) (t b : ℕ) (whole read : List ℕ) : Type 0 where
  pub inner : Context
  pub here : ContextAt L S t b inner
  pub is : whole ≡ read ++ path inner

pub path_begin : {L S : List ℕ} {a b : ℕ} {c : Context} → ContextAt L S a b c → PathLeft L S a b (path c) []
path_begin {c = c} x = record { inner = c; here = x; is = refl }

context_next : {L S : List ℕ} {a b : ℕ} {c : Context} → ContextAt L S a b c → Next L S a
context_next (at_hole n e) = n
context_next (at_node v lo hi k) = v.here

context_hole : {L S : List ℕ} {a b : ℕ} {c : Context} → ContextAt L S a b c → Next L S b
context_hole (at_hole n e) = rw (sym e) n
context_hole (at_node v lo hi k) = context_hole k

module _ {L S : List ℕ} {t b : ℕ} {whole read : List ℕ} (h : PathLeft L S t b whole read) where
  -- the rows on the way are within the lists
  pub path_row : (t < length L) × (t < length S) × (t ≤ b) × (b < length L)
  path_row = ((context_next h.here).labelled, (context_next h.here).sized, context_le h.here, (context_hole h.here).labelled)

  pub path_child : t ≢ b → ChildPre S t b
  path_child n = record { below = n; some = (L, h.inner, h.here) }

  -- one more label is read
  pub path_read : {r : ℕ} → t ≢ b → ChildPost S t b r → PathLeft L S r b whole (read ++ (get_or L t 0 ∷ [])) × (t < r)
  unfolding path
  path_read {r} n post = go h.here h.is
    where
      go : {c : Context} → ContextAt L S t b c → whole ≡ read ++ path c → PathLeft L S r b whole (read ++ (get_or L t 0 ∷ [])) × (t < r)
      go (at_hole _ e) q = absurd (n e)
      go (at_node {l = l} {left = left} {right = right} {c = c} v lo hi k) q =
          let x = post.is L l left c right (at_node {b = b} v lo hi k) in
          (rw v.label (record { inner = c; here = x.1; is = q ∙ sym (append_assoc read (l ∷ []) (path c)) }), omega (arith, terms_le x.0.before))

  pub path_end : t ≡ b → whole ≡ read
  unfolding path
  path_end e = h.is ∙ ap (λ (c : Context). read ++ path c) (hole_here h.here e) ∙ append-nil read
