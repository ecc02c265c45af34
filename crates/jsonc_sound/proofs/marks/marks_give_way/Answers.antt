use Rattle.jsonc_sound.proofs.ReplacedStretches.{marks_join, marks_follow}
use Rattle.jsonc_sound.proofs.Printed.{printed_give_way}
use Rattle.jsonc_sound.proofs.marks.marks_give_way.Goals as goal

pub returns-clause-join : goal.returns-clause-join
returns-clause-join c = marks_join

pub returns-clause-leaves : goal.returns-clause-leaves
returns-clause-leaves c = marks_follow

pub returns-clause-printed : goal.returns-clause-printed
returns-clause-printed c = printed_give_way
