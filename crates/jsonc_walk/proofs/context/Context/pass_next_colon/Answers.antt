use Rattle.std.proofs.Common.{Some, refl, subst}
use Rattle.jsonc_text.specs.Gaps.{Gap}
use Rattle.jsonc_text.specs.Lexemes.{lexeme, punctuation}
use Rattle.jsonc_walk.specs.Located.{Ends}
use Rattle.jsonc_walk.specs.Context.{text_in, options_in}
use Rattle.jsonc_walk.proofs.lemmas.Collecting.{collects_same, collects_nothing}
use Rattle.jsonc_walk.proofs.lemmas.Gaps.{join, passed}
use Rattle.jsonc_walk.proofs.lemmas.Scans.{token_is, kept_same}
use Rattle.jsonc_walk.proofs.lemmas.PassedGaps.{next_mark}
use Rattle.jsonc_walk.proofs.context.Context.pass_next_colon.Goals as goal

pub returns-clause-found : goal.returns-clause-found
returns-clause-found g c =
    let old = c.args.self.now in
    let blanks = c.pass_mark.ensures.blanks in
    let gap = passed (options_in old) old.scanner c.pass_mark.new.self blanks in
    let mark = token_is (text_in old) (options_in old) c.pass_mark.new.self (lexeme (punctuation 0x3A)) 0x3A blanks.text blanks.options c.pass_mark.ensures.found refl in
    join (Ends (options_in old) 0x3A) (λ t u r g e. subst (λ x. Gap (options_in old) t x) e g) gap mark

pub returns-clause-collects : goal.returns-clause-collects
returns-clause-collects g c =
    let old = c.args.self.now in
    collects_nothing old old c.pass_mark.new.self (Some (lexeme (punctuation 0x3A))) (lexeme (punctuation 0x3A)) _ (kept_same old) (collects_same old) c.pass_mark.ensures.blanks refl c.pass_mark.ensures.found refl refl c.requires.tokens refl c.requires.comments

pub returns-clause-next : goal.returns-clause-next
returns-clause-next g c =
    let old = c.args.self.now in
    let blanks = c.pass_mark.ensures.blanks in
    next_mark old c.pass_mark.new.self 0x3A refl c.requires.next blanks (token_is (text_in old) (options_in old) c.pass_mark.new.self (lexeme (punctuation 0x3A)) 0x3A blanks.text blanks.options c.pass_mark.ensures.found refl)
