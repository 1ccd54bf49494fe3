-- 01, "Numbers and order of checks", code 15: "record not twice the variables long, or bad", of a good tree and a good pattern.
use Rattle.std.specs.Prelude.{ℕ, List}
use Rattle.meaning.specs.Forest.{Term}
use Rattle.meaning.specs.Pattern.{Pattern, Kind}
use Rattle.meaning.specs.Matcher.{Value}
use Rattle.meaning.specs.Means.{RecordMeans}
use Rattle.tree.specs.Rows.{GoodTree}
use Rattle.pattern.specs.Rows.{GoodPattern}

abbrev pub GoodRecordList : (label size kind name pattern_size list : List ℕ) → Type 0
GoodRecordList label size kind name pattern_size list =
    (T : Term) × (P : Pattern) × (Q : List Kind) × (σ : List Value) × GoodTree label size T × GoodPattern kind name pattern_size P Q × RecordMeans T Q list σ
