-- Decisions put together.
use mathlib.Core.Logic.{◌⊎◌, inl, inr}

unfoldable pub when? : {A B : Type 0} → Dec A → (A → Dec B) → Dec (A × B)
when? {A} {B} (no n) d = no (λ p. n p.0)
when? {A} {B} (yes x) d = go (d x)
  where
    go : Dec B → Dec (A × B)
    go (yes y) = yes (x, y)
    go (no n) = no (λ p. n p.1)

unfoldable pub by? : {A B : Type 0} → (A → B) → (B → A) → Dec A → Dec B
by? f g (yes x) = yes (f x)
by? f g (no n) = no (λ y. n (g y))

unfoldable pub either? : {A B : Type 0} → Dec A → Dec B → Dec (A ⊎ B)
either? (yes x) d = yes (inl x)
either? (no n) (yes y) = yes (inr y)
either? {A} {B} (no n) (no m) = no neither
  where
    neither : A ⊎ B → ⊥
    neither (inl x) = n x
    neither (inr y) = m y
