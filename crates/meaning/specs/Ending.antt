-- The number that the lister answers for how a list ends.
use Rattle.std.specs.Prelude.{ℕ}
use Rattle.meaning.specs.declared.endings.Ending.{Ending}
use Rattle.meaning.specs.declared.endings.Ending.TheVariants.{All, Room, Budget}

abbrev pub number : Ending → ℕ
number All = 0
number Room = 1
number Budget = 2
