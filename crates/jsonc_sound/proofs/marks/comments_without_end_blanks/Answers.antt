use Rattle.jsonc_sound.proofs.TrimmedTexts.{blanks_left_out, block_whole}
use Rattle.jsonc_sound.proofs.marks.comments_without_end_blanks.Goals as goal

pub returns-clause-block : goal.returns-clause-block
returns-clause-block c = block_whole

pub returns-clause-line : goal.returns-clause-line
returns-clause-line c = blanks_left_out
