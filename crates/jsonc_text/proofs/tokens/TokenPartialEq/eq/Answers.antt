use Rattle.jsonc_text.proofs.TokenTexts.{same_tokens, decides_from}
use Rattle.jsonc_text.proofs.tokens.TokenPartialEq.eq.Goals as goal

pub returns-then-class-clause-value : goal.returns-then-class-clause-value
returns-then-class-clause-value g c =
    same_tokens _ _ _ _ _ _ _ c.as_str.utf8 c.as_str-then-class.utf8 c.as_str.ensures c.as_str-then-class.ensures c.class.ensures c.class-2.ensures c.if-class.true c.eq.ensures

pub returns-then-class-clause-same : goal.returns-then-class-clause-same
returns-then-class-clause-same g c =
    decides_from _ _ _ (same_tokens _ _ _ _ _ _ _ c.as_str.utf8 c.as_str-then-class.utf8 c.as_str.ensures c.as_str-then-class.ensures c.class.ensures c.class-2.ensures c.if-class.true c.eq.ensures)
