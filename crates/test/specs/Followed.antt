-- Not needed to believe the promise: the walk with the choices of a record.
use Rattle.std.specs.Prelude.{ℕ, ◌≡◌, Bool, true, false, List, [], length, take}
use Rattle.meaning.specs.Forest.{Term}
use Rattle.meaning.specs.Pattern.{Pattern, Kind}
use Rattle.meaning.specs.Record.{Entry, numbers}
use Rattle.meaning.specs.Order.{choices}
use Rattle.meaning.proofs.Walk.{Res, fail, ok, walk}
use Rattle.meaning.proofs.Next.{Any, any?}
use Rattle.walk.specs.Packed.{Packed}
use Rattle.test.specs.Inside.{Walkable}

pub record FollowPre (L S M list R : List ℕ) : Type 0 where
  pub long : length R ≡ 32
  pub some : (K : List ℕ) × (N : List ℕ) × (Z : List ℕ) × (T : Term) × (P : Pattern) × (Q : List Kind) × Walkable L S K N Z list T P Q × Packed K N Z M

-- whether the walk matches; then the record has its numbers
pub data Followed (R : List ℕ) : Bool → Res → Type 0 where
  lost : Followed R false fail
  found : {B : List Entry} → take (length (numbers B)) R ≡ numbers B → Followed R true (ok B [])

pub record FollowPost (L S M list : List ℕ) (r : Bool) (R' : List ℕ) : Type 0 where
  pub long : length R' ≡ 32
  pub is : (K N Z : List ℕ) (T : Term) (P : Pattern) (Q : List Kind) → Walkable L S K N Z list T P Q → Packed K N Z M → Followed R' r (walk Any any? P T (choices Q list))
