use Rattle.jsonc_sound.proofs.RemovedEntries.{items_lose, members_lose}
use Rattle.jsonc_sound.proofs.RemovedValues.{document_loses}
use Rattle.jsonc_sound.proofs.rows.values_without_an_element.Goals as goal

pub returns-clause-items : goal.returns-clause-items
returns-clause-items c = λ o top row left new h i e k. items_lose o top i row left new h e k

pub returns-clause-members : goal.returns-clause-members
returns-clause-members c = λ o top row left new h i e k. members_lose o top i row left new h e k

pub returns-clause-document : goal.returns-clause-document
returns-clause-document c = document_loses
