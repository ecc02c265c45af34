use Rattle.jsonc_sound.proofs.Laid.{laid_as_written, laid_as_written_named, writes_no_comments}
use Rattle.jsonc_sound.proofs.marks.laid_values_are_written.Goals as goal

pub returns-clause-value : goal.returns-clause-value
returns-clause-value c = laid_as_written

pub returns-clause-property : goal.returns-clause-property
returns-clause-property c = laid_as_written_named

pub returns-clause-comments : goal.returns-clause-comments
returns-clause-comments c = writes_no_comments
