-- Not needed to believe the promise: what the functions that write the instance of a pattern ask and answer.
use Rattle.std.specs.Prelude.{ℕ, ◌+◌, ◌≡◌, ◌≢◌, List, get_or}
use Rattle.meaning.specs.Forest.{Forest, none, ◌◂◌, size}
use Rattle.meaning.specs.Pattern.{Pattern, Kind}
use Rattle.meaning.specs.Matcher.{apply}
use Rattle.pattern.specs.Places.{PatternAt}
use Rattle.instance.specs.Places.{Ground, meant, Room, Written}

-- the instance of the pattern at row p is written from t on; the answer is the row behind
pub record TermPre (L S K N Z W OL OS : List ℕ) (p t : ℕ) : Type 0 where
  pub some : (Q : List Kind) × (R : Forest) × (q : Pattern) × Ground L S W Q R × PatternAt K N Z Q p q × Room OL OS t (size (apply (meant W Q R) q))

pub record TermPost (L S K N Z W OL OS : List ℕ) (p t r : ℕ) (NL NS : List ℕ) : Type 0 where
  pub is : (Q : List Kind) (R : Forest) (q : Pattern) → Ground L S W Q R → PatternAt K N Z Q p q
      → (r ≡ t + size (apply (meant W Q R) q)) × Written OL OS NL NS t (apply (meant W Q R) q ◂ none)

-- its head is a symbol or a function variable
pub record HeadedPre (L S K N Z W OL OS : List ℕ) (p t : ℕ) : Type 0 where
  pub pre : TermPre L S K N Z W OL OS p t
  pub not_individual : get_or K p 0 ≢ 1
  pub not_context : get_or K p 0 ≢ 4
