use Rattle.std.proofs.Common.{[], chars, refl, subst, sym, ◌≡◌, ℕ, List, OnOk}
use Rattle.jsonc_text.specs.Lexemes.{Lexeme, LexemeKind}
use Rattle.jsonc_text.specs.Options.{all_on}
use Rattle.jsonc_text.specs.Spelling.{spelled}
use Rattle.jsonc_engine.specs.Texts.{text_of, Adds}
use Rattle.jsonc_engine.specs.Rewritten.{IsLiteralFor}
use Rattle.jsonc_engine.specs.Tokens.{IsLiteralOf}
use Rattle.jsonc_engine.proofs.ToldTokens.{of_other, on_ok}
use Rattle.jsonc_engine.proofs.json.literal.push_literal.Goals as goal

pub returns-in-String : goal.returns-in-String
returns-in-String g c = λ k lit lex fin.
    let cs = chars c.args.literal.now.written.now in
    let v = chars c.args.literal.now.string.now in
    let is : k ≡ LexemeKind.string v = subst (λ kind. IsLiteralOf v kind k) c.in-String.is lit in
    subst (λ k. OnOk c.push_string.result (Adds (IsLiteralFor k c.args.is_name cs) (text_of c.args.written.now) (text_of c.push_string.new.written))) (sym is)
    (c.push_string.ensures (subst (λ k. Lexeme all_on k cs []) is lex))

pub returns-in-Word : goal.returns-in-Word
returns-in-Word g c = λ k lit lex fin.
    let cs = chars c.args.literal.now.written.now in
    let v = chars c.args.literal.now.string.now in
    let is : (s : List ℕ) × (k ≡ LexemeKind.word s) = subst (λ kind. IsLiteralOf v kind k) c.in-Word.is lit in
    subst (λ k. OnOk c.push_spelled.result (Adds (IsLiteralFor k c.args.is_name cs) (text_of c.args.written.now) (text_of c.push_spelled.new.written))) (sym is.1)
    (on_ok c.push_spelled.result (λ e. record { more = spelled cs; is = refl; behind = e }) c.push_spelled.ensures)

pub returns-in-Number : goal.returns-in-Number
returns-in-Number g c = λ k lit lex fin.
    let cs = chars c.args.literal.now.written.now in
    let v = chars c.args.literal.now.string.now in
    let is : (s : List ℕ) × (k ≡ LexemeKind.number s) = subst (λ kind. IsLiteralOf v kind k) c.in-Number.is lit in
    subst (λ k. OnOk c.push_number_as.result (Adds (IsLiteralFor k c.args.is_name cs) (text_of c.args.written.now) (text_of c.push_number_as.new.written))) (sym is.1)
    (c.push_number_as.ensures is.0 (subst (λ k. Lexeme all_on k cs []) is.1 lex) (λ e n. fin e is.0 is.1 n))

pub returns-in_default : goal.returns-in_default
returns-in_default g c = λ k lit lex fin.
    let cs = chars c.args.literal.now.written.now in
    let v = chars c.args.literal.now.string.now in
    let q = of_other v c.args.kind k lit c.in_default.not-String c.in_default.not-Word c.in_default.not-Number in
    subst (λ k. OnOk c.push_keyword_as.result (Adds (IsLiteralFor k c.args.is_name cs) (text_of c.args.written.now) (text_of c.push_keyword_as.new.written))) (sym q.1)
    (c.push_keyword_as.ensures q.0)
