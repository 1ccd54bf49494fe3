-- Labels and sizes are one thing: a number for each row, made of its label and its size. What follows is said once for both.
use Prim.Native.Nat.{ℕ, suc, ◌+◌}
use mathlib.Core.Path.{◌≡◌, refl, ap, ap₂, ◌∙◌}
use mathlib.Core.List.{List, [], ◌∷◌, ◌++◌, append_assoc, append-nil}
use lib.ListN.{length, get_or, length-append}
use native.Mathlib.Omega.{arith}
use Rattle.meaning.specs.Forest.{Forest, none, some, Term, ◌◂◌, rows, ◌⊕◌}
use Rattle.tree.specs.Rows.{labels, sizes}
use Rattle.tree.specs.Places.{TermsAt, stop, step}
use Rattle.instance.specs.Places.{along}
use Rattle.instance.proofs.Writes.{along_both}

unfoldable pub listing : (ℕ → ℕ → ℕ) → Forest → List ℕ
listing w none = []
listing w (some l us rest) = w l (suc (rows us)) ∷ (listing w us ++ listing w rest)

abbrev pub the_label : ℕ → ℕ → ℕ
the_label l n = l

abbrev pub the_size : ℕ → ℕ → ℕ
the_size l n = n

pub labels_listing : (f : Forest) → labels f ≡ listing the_label f
unfolding labels listing
labels_listing none = refl
labels_listing (some l us rest) = rw (labels_listing us, labels_listing rest)

pub sizes_listing : (f : Forest) → sizes f ≡ listing the_size f
unfolding sizes listing
sizes_listing none = refl
sizes_listing (some l us rest) = rw (sizes_listing us, sizes_listing rest)

module _ (w : ℕ → ℕ → ℕ) where
  pub listing_length : (f : Forest) → length (listing w f) ≡ rows f
  unfolding listing rows
  listing_length none = refl
  listing_length (some l us rest) = ap suc (simp (length-append, listing_length us, listing_length rest))

  pub listing_both : (f g : Forest) → listing w (f ⊕ g) ≡ listing w f ++ listing w g
  unfolding listing ◌⊕◌
  listing_both none g = refl
  listing_both (some l us rest) g =
      ap (λ (xs : List ℕ). w l (suc (rows us)) ∷ (listing w us ++ xs)) (listing_both rest g) ∙ simp append_assoc

  -- one term in front of others
  pub listing_first : (T : Term) (f : Forest) → listing w (T ◂ f) ≡ listing w (T ◂ none) ++ listing w f
  unfolding ◌⊕◌
  listing_first T f = listing_both (T ◂ none) f

  pub listing_term : (T : Term) → listing w (T ◂ none) ≡ w T.label (suc (rows T.args)) ∷ listing w T.args
  unfolding listing
  listing_term T = ap (λ (xs : List ℕ). w T.label (suc (rows T.args)) ∷ xs) (append-nil (listing w T.args))

  -- rows that are a sequence's
  pub listing_at : {L S : List ℕ} {t e : ℕ} {f : Forest} → TermsAt L S t e f → along (λ i. w (get_or L i 0) (get_or S i 0)) t (rows f) ≡ listing w f
  unfolding along rows listing
  listing_at (stop h a b) = refl
  listing_at {L} {S} {t} (step {us = us} {rest = rest} r i b k) =
      let z : t + 1 + rows us ≡ t + suc (rows us) = omega arith in
      ap₂ (λ (x : ℕ) (xs : List ℕ). x ∷ xs) (ap₂ w r.label r.size)
      (along_both (λ i. w (get_or L i 0) (get_or S i 0)) (t + 1) (rows us) (rows rest) ∙ rw z (ap₂ (λ (x y : List ℕ). x ++ y) (listing_at i) (listing_at k)))
