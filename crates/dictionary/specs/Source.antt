-- 01, "From document to tree": the spelling lookup answers "a part of the dictionary .. else of the document", told by a number.
use Rattle.std.specs.Prelude.{ℕ}
use Rattle.dictionary.specs.declared.spelling.Source.{Source}
use Rattle.dictionary.specs.declared.spelling.Source.TheVariants.{Dictionary, Document}

abbrev pub number_of_source : Source → ℕ
number_of_source Dictionary = 0
number_of_source Document = 1
