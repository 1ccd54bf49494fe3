-- 01, "Numbers and order of checks", and 02: the number of each refusal of the matcher's half.
use Rattle.std.specs.Prelude.{ℕ}
use Rattle.meaning.specs.declared.refusal.Refusal.{Refusal}
use Rattle.meaning.specs.declared.refusal.Refusal.TheVariants.{Tree, Pattern, Expressions, Constraints, Record, TooLarge, NoRoom, Forgotten, NoMatcher, Panel}

abbrev pub code : Refusal → ℕ
code Tree = 11
code Pattern = 12
code Expressions = 13
code Constraints = 14
code Record = 15
code TooLarge = 16
code NoRoom = 17
code Forgotten = 19
code NoMatcher = 20
code Panel = 21
