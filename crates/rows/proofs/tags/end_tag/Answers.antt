use mathlib.Core.Path.{sym, ◌∙◌}
use Rattle.judge.proofs.Turns.{end_closes, end_other}
use Rattle.rows.proofs.Names.{name_again, name_whole, shut_at_once}
use Rattle.rows.proofs.tags.end_tag.Goals as goal

-- the name stands again
pub returns-then-byte_at-eq62 : goal.returns-then-byte_at-eq62
returns-then-byte_at-eq62 c =
    let stood = c.stands_again.ensures c.if-not-stands_again.false in
    let shut = sym c.byte_at.ensures ∙ c.if-byte_at-eq62.true in
    end_closes (name_again c.requires.2 stood.0 stood.1) (name_whole c.requires.2 stood.0 stood.1) (shut_at_once stood.0 shut) shut

pub returns-then-byte_at-eq62-2 : goal.returns-then-byte_at-eq62-2
returns-then-byte_at-eq62-2 c =
    let stood = c.stands_again.ensures c.if-not-stands_again.false in
    end_closes (name_again c.requires.2 stood.0 stood.1) (name_whole c.requires.2 stood.0 stood.1) c.white_end-shut.ensures (sym c.byte_at-2.ensures ∙ c.if-byte_at-eq62-2.true)

pub returns : goal.returns
returns c =
    let stood = c.stands_again.ensures c.if-not-stands_again.false in
    end_other (name_again c.requires.2 stood.0 stood.1) (name_whole c.requires.2 stood.0 stood.1) c.white_end-shut.ensures (λ e. c.if-byte_at-eq62-2.false (c.byte_at-2.ensures ∙ e))
