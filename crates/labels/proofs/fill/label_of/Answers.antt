use Rattle.labels.proofs.Labelling.{told_element, told_text}
use Rattle.labels.proofs.fill.label_of.Goals as goal

pub returns-then-document-from-eq60 : goal.returns-then-document-from-eq60
returns-then-document-from-eq60 c = λ sort t. told_element c.args.number sort t c.if-document-from-eq60.true

pub returns : goal.returns
returns c = λ sort t. told_text c.args.number sort t c.if-document-from-eq60.false
