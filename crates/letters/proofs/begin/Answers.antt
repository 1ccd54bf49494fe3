use Rattle.letters.proofs.begin.Goals as goal

pub returns : goal.returns
returns c = λ es e t s. t.starts s
