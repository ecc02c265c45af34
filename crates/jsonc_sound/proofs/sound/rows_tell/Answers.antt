use Rattle.jsonc_sound.proofs.RowsTell.{kept_without_comment_in_row, kept_by_value_in_row, kept_by_value_in_root, kept_by_value_in_property}
use Rattle.jsonc_sound.proofs.sound.rows_tell.Goals as goal

pub returns-clause-comment : goal.returns-clause-comment
returns-clause-comment c = kept_without_comment_in_row

pub returns-clause-value : goal.returns-clause-value
returns-clause-value c = kept_by_value_in_row

pub returns-clause-root : goal.returns-clause-root
returns-clause-root c = kept_by_value_in_root

pub returns-clause-held : goal.returns-clause-held
returns-clause-held c = kept_by_value_in_property
