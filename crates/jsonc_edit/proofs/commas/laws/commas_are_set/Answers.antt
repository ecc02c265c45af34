use Rattle.jsonc_tree.specs.Tree.{IsOver}
use Rattle.jsonc_edit.specs.commas.InTurn.{holders}
use Rattle.jsonc_edit.proofs.lemmas.commas.UnsoundDocuments.{sets_anyway}
use Rattle.jsonc_edit.proofs.lemmas.commas.Documents.{are_holders, holders_stay, leaves_set, sets_all, sets_in_part, sets_once}
use Rattle.jsonc_edit.proofs.lemmas.commas.NoneLeft.{leaves_none, leaves_none_anywhere}
use Rattle.jsonc_edit.proofs.lemmas.commas.NoneMissing.{leaves_all}
use Rattle.jsonc_edit.proofs.commas.laws.commas_are_set.Goals as goal

pub returns-clause-all : goal.returns-clause-all
returns-clause-all c mode o old k new is = sets_all mode o old k is new

pub returns-clause-part : goal.returns-clause-part
returns-clause-part c mode o old k new is = sets_in_part mode o old k is new

pub returns-clause-several : goal.returns-clause-several
returns-clause-several c = sets_anyway

pub returns-clause-left : goal.returns-clause-left
returns-clause-left c mode old k new = leaves_set mode (holders old k) old new

pub returns-clause-once : goal.returns-clause-once
returns-clause-once c mode o old now k new = sets_once mode o old now k new

pub returns-clause-holders : goal.returns-clause-holders
returns-clause-holders c mode old k new tree there set = holders_stay mode k (holders old k) old new tree (are_holders old tree k k IsOver.itself) set k there

pub returns-clause-bare : goal.returns-clause-bare
returns-clause-bare c = leaves_none

pub returns-clause-document : goal.returns-clause-document
returns-clause-document c = leaves_none_anywhere

pub returns-clause-full : goal.returns-clause-full
returns-clause-full c = leaves_all
