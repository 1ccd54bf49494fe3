-- 01, "What a matcher is": "Order: records are compared variable by variable, by the second number, smaller first." and "Tries are
-- taken in the order above, depth first."
use Rattle.std.specs.Prelude.{ℕ, ◌<◌, List, [], ◌∷◌, ◌≡◌, ◌⊎◌}
use Rattle.meaning.specs.Pattern.{Kind, an_individual, a_sequence, a_function, a_context}

-- the second numbers of a record
abbrev pub seconds : List ℕ → List ℕ
seconds [] = []
seconds (a ∷ []) = []
seconds (a ∷ b ∷ r) = b ∷ seconds r

-- those of its sequence and context variables: the others are 0
abbrev pub choices : List Kind → List ℕ → List ℕ
choices [] r = []
choices (k ∷ Q) [] = []
choices (k ∷ Q) (a ∷ []) = []
choices (an_individual ∷ Q) (a ∷ b ∷ r) = choices Q r
choices (a_sequence ∷ Q) (a ∷ b ∷ r) = b ∷ choices Q r
choices (a_function ∷ Q) (a ∷ b ∷ r) = choices Q r
choices (a_context ∷ Q) (a ∷ b ∷ r) = b ∷ choices Q r

-- numbers compared place by place, the first difference deciding; a list comes before those that it begins
infix 30 ◌⊏◌
abbrev pub ◌⊏◌ : List ℕ → List ℕ → Type 0
v ⊏ [] = ⊥
[] ⊏ (y ∷ w) = Unit {0}
(x ∷ v) ⊏ (y ∷ w) = (x < y) ⊎ ((x ≡ y) × (v ⊏ w))

-- a is in the list
abbrev pub Mem : {A : Type 0} → A → List A → Type 0
Mem a [] = ⊥
Mem a (b ∷ l) = (a ≡ b) ⊎ Mem a l

-- each element is before all that follow it: in order, and none twice
abbrev pub Ascending : {A : Type 0} → (A → A → Type 0) → List A → Type 0
Ascending R [] = Unit {0}
Ascending {A = A} R (a ∷ l) = ((b : A) → Mem b l → R a b) × Ascending R l
