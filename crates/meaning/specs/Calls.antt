-- What holds of every call. 01, "Numbers and order of checks": "The lowest that applies is given; .. Code 0 is no refusal." All codes are
-- put by `refuse` and `accept`: each code with the rule that it stands for, 01's from the lowest up, 02's where 02 puts them.
use Rattle.std.specs.Prelude.{ℕ, ◌≡◌, ◌⊎◌, ◌↔◌, Bool, true, List, ◌++◌, length, drop}

-- the code is given where its rule is broken; where the rule is kept, the others decide
abbrev pub refuse : ℕ → Type 0 → (ℕ → Type 0) → ℕ → Type 0
refuse code Rule others given = ((Rule → ⊥) × (given ≡ code)) ⊎ (Rule × others given)

-- no rule is left
abbrev pub accept : ℕ → Type 0
accept given = given ≡ 0

-- a yes or no that is exact: yes if and only if P holds. Every check's promise is put by it.
abbrev pub Says : Bool → Type 0 → Type 0
Says r P = (r ≡ true) ↔ P

-- "In every call, entries after what it writes are unchanged": a lent list that was `before` is `after`, xs and then what it had
abbrev pub Filled : List ℕ → List ℕ → List ℕ → Type 0
Filled xs before after = after ≡ xs ++ drop (length xs) before
