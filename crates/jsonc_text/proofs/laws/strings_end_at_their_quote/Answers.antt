use Rattle.jsonc_text.proofs.StringFrames.{pieces_of_decodes, decodes_of_pieces, pieces_decode}
use Rattle.jsonc_text.proofs.UniqueStrings.{decodes_unique}
use Rattle.jsonc_text.proofs.laws.strings_end_at_their_quote.Goals as goal

pub returns-clause-anywhere : goal.returns-clause-anywhere
returns-clause-anywhere c = λ o q s v r. (pieces_of_decodes s r, decodes_of_pieces s r)

pub returns-clause-text : goal.returns-clause-text
returns-clause-text c = λ o q t v r p. pieces_decode p

pub returns-clause-one : goal.returns-clause-one
returns-clause-one c = λ o q s a v w h k. decodes_unique o s a h k
