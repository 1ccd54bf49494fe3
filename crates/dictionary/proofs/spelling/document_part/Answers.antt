use Rattle.dictionary.proofs.Parts.{document_inside, document_outside}
use Rattle.dictionary.proofs.spelling.document_part.Goals as goal

pub returns-then-document-start : goal.returns-then-document-start
returns-then-document-start c = let a = c.args in document_outside a.document.now a.start a.length c.if-document-start.true

pub returns : goal.returns
returns c = let a = c.args in document_inside a.document.now a.start a.length c.if-document-start.false
