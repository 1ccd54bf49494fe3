-- Not needed to believe the promise: what the functions of a panel ask of each other.
use Rattle.std.specs.Prelude.{ℕ, ◌+◌, ◌≤◌, ◌<◌, ◌≡◌, List, length, take, set}
use Rattle.answer.specs.declared.Listing.{Listing}
use Rattle.portion.specs.Portion.{most}
use Rattle.portion.specs.declared.Reach.{Reach}
use Rattle.panel.specs.Parts.{sum}
use Rattle.panel.specs.Panel.{Panel}

-- how far all problems reach; the sums are numbers of the machine
pub record AllReach (p : Panel) (all : Reach) : Type 0 where
  pub is : all ≡ record { rows = sum p.pattern_length; expressions = sum p.expression_length; numbers = sum p.constraint_length; entries = sum p.share }
  pub rows : sum p.pattern_length ≤ most
  pub expression_rows_lem : sum p.expression_length ≤ most
  pub numbers : sum p.constraint_length ≤ most
  pub entries : sum p.share ≤ most

-- how far the first i problems reach
abbrev pub reach : Panel → ℕ → Reach
reach p i =
    record {
      rows = sum (take i p.pattern_length);
      expressions = sum (take i p.expression_length);
      numbers = sum (take i p.constraint_length);
      entries = sum (take i p.share);
    }

-- n is the sum of the first i lengths, and there is one more
pub record HasNext (lengths : List ℕ) (i n : ℕ) : Type 0 where
  pub is : n ≡ sum (take i lengths)
  pub there : i < length lengths
  pub fits : sum lengths ≤ most

pub record WithNextPre (p : Panel) (i : ℕ) (before : Reach) : Type 0 where
  pub rows : HasNext p.pattern_length i before.rows
  pub expression_rows_lem : HasNext p.expression_length i before.expressions
  pub numbers : HasNext p.constraint_length i before.numbers
  pub entries : HasNext p.share i before.entries

-- four numbers are written
abbrev pub written : List ℕ → ℕ → Listing → List ℕ
written answer at listing = set (set (set (set answer at listing.code) (at + 1) listing.ending) (at + 2) listing.records) (at + 3) listing.tries
