use Rattle.judge.proofs.Turns.{end_within, none_stands, start_stands, end_stands}
use Rattle.judge.proofs.tags.next_tag.Goals as goal

pub end_tag-requires : goal.end_tag-requires
end_tag-requires c = ((end_within c.in-End.ensures).1, c.requires.1)

pub returns-in-Nothing : goal.returns-in-Nothing
returns-in-Nothing c = none_stands c.in-Nothing.ensures

pub returns-in-Start : goal.returns-in-Start
returns-in-Start c = start_stands c.start_tag.result c.in-Start.ensures c.start_tag.ensures

pub returns-in-End : goal.returns-in-End
returns-in-End c = end_stands c.end_tag.result c.in-End.ensures c.end_tag.ensures
