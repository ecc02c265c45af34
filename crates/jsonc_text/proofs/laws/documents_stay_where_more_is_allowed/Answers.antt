use Rattle.jsonc_text.proofs.WiderOptions.{document_wider, commas_allow_less}
use Rattle.jsonc_text.proofs.laws.documents_stay_where_more_is_allowed.Goals as goal

pub returns-clause-more : goal.returns-clause-more
returns-clause-more c = λ o p m t v d. document_wider t v m d

pub returns-clause-commas : goal.returns-clause-commas
returns-clause-commas c = λ o t v d. document_wider t v (commas_allow_less o) d
