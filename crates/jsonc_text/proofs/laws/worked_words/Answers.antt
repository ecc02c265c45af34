use Rattle.jsonc_text.proofs.Rows.{true_first, underline, true_no_word, infinity_document}
use Rattle.jsonc_text.proofs.laws.worked_words.Goals as goal

pub returns-clause-keyword : goal.returns-clause-keyword
returns-clause-keyword c = true_first

pub returns-clause-word : goal.returns-clause-word
returns-clause-word c = underline

pub returns-clause-no_word : goal.returns-clause-no_word
returns-clause-no_word c = true_no_word

pub returns-clause-infinity_x : goal.returns-clause-infinity_x
returns-clause-infinity_x c = infinity_document
