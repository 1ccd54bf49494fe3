use mathlib.Core.Path.{ap}
use Rattle.dictionary.specs.Source.{number_of_source}
use Rattle.dictionary.proofs.Parts.{inside_dictionary, inside_document, spelled_dictionary, spelled_document, is_document}
use Rattle.dictionary.proofs.spelling.spelling.Goals as goal

-- `spelling` meets its contract: the part lies in its source.
pub slice_bounds-result-end : goal.slice_bounds-result-end
slice_bounds-result-end c = inside_dictionary c.part_of-found.ensures (ap number_of_source c.in-Dictionary.is)

pub returns-in-Dictionary : goal.returns-in-Dictionary
returns-in-Dictionary c = spelled_dictionary c.part_of-found.ensures _ _ (ap number_of_source c.in-Dictionary.is)

pub slice_bounds-result-end-in-Document : goal.slice_bounds-result-end-in-Document
slice_bounds-result-end-in-Document c = inside_document c.part_of-found.ensures (is_document (ap number_of_source c.in-Document.is))

pub returns-in-Document : goal.returns-in-Document
returns-in-Document c = spelled_document c.part_of-found.ensures _ _ (is_document (ap number_of_source c.in-Document.is))
