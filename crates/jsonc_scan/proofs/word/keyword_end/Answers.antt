use Rattle.std.proofs.Common.{refl, sym, ◌∙◌, ◌≡◌, true, false, arith}
use Rattle.jsonc_scan.proofs.Words.{text_here, bytes_here, not_alone, alone_before, alone_at_end}
use Rattle.jsonc_scan.proofs.word.keyword_end.Goals as goal

pub returns-then-not-has_text-clause-none : goal.returns-then-not-has_text-clause-none
returns-then-not-has_text-clause-none c = λ r h.
    let both : false ≡ true = c.if-not-has_text.ensures.1 (bytes_here _ _ r _ c.utf8.text c.requires.ascii c.requires.boundary h.0) in cc

pub char_at-requires : goal.char_at-requires
char_at-requires c = (text_here _ _ _ c.utf8.text c.requires.ascii c.requires.boundary (c.if-not-has_text.ensures.0 refl)).1

pub returns-then-goes_on-clause-none : goal.returns-then-goes_on-clause-none
returns-then-goes_on-clause-none c = λ r h.
    let here = text_here _ _ _ c.utf8.text c.requires.ascii c.requires.boundary (c.if-not-has_text.ensures.0 refl) in
    not_alone _ _ r _ _ _ _ here.0 c.in-Some.ensures.some (sym c.goes_on.ensures ∙ c.if-goes_on.true) h

pub returns-else-goes_on-clause-found : goal.returns-else-goes_on-clause-found
returns-else-goes_on-clause-found c =
    let here = text_here _ _ _ c.utf8.text c.requires.ascii c.requires.boundary (c.if-not-has_text.ensures.0 refl) in
    alone_before _ _ _ _ _ _ (omega arith) here.1 here.0 c.in-Some.ensures.some (sym c.goes_on.ensures ∙ c.if-goes_on.false)

pub returns-in-None-clause-found : goal.returns-in-None-clause-found
returns-in-None-clause-found c =
    let here = text_here _ _ _ c.utf8.text c.requires.ascii c.requires.boundary (c.if-not-has_text.ensures.0 refl) in
    alone_at_end _ _ _ _ (omega arith) here.1 here.0 c.in-None.ensures.none
