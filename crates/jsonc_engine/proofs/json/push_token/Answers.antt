use Rattle.std.proofs.Common.{chars, subst, ◌≡◌}
use Rattle.jsonc_text.specs.Lexemes.{lexeme, punctuation}
use Rattle.jsonc_engine.specs.Texts.{text_of}
use Rattle.jsonc_engine.specs.Tokens.{IsTokenOf}
use Rattle.jsonc_engine.proofs.ToldTokens.{entry_written, is_literal, mark_written, of_entry}
use Rattle.jsonc_engine.proofs.json.push_token.Goals as goal

pub returns-in-OpenBrace : goal.returns-in-OpenBrace
returns-in-OpenBrace g c = λ k tok there finite.
    let is : lexeme k ≡ lexeme (punctuation 0x7B) = subst (λ kind. IsTokenOf (chars c.args.literal.now.string.now) kind (lexeme k)) c.in-OpenBrace.is tok in
    mark_written k 0x7B (chars c.args.literal.now.written.now) c.args.mark (text_of c.args.written.now) (text_of c.put.new.written) c.put.result is c.put.ensures

pub returns-in-OpenBracket : goal.returns-in-OpenBracket
returns-in-OpenBracket g c = λ k tok there finite.
    let is : lexeme k ≡ lexeme (punctuation 0x5B) = subst (λ kind. IsTokenOf (chars c.args.literal.now.string.now) kind (lexeme k)) c.in-OpenBracket.is tok in
    mark_written k 0x5B (chars c.args.literal.now.written.now) c.args.mark (text_of c.args.written.now) (text_of c.put-in-OpenBracket.new.written) c.put-in-OpenBracket.result is c.put-in-OpenBracket.ensures

pub returns-in-Colon : goal.returns-in-Colon
returns-in-Colon g c = λ k tok there finite.
    let is : lexeme k ≡ lexeme (punctuation 0x3A) = subst (λ kind. IsTokenOf (chars c.args.literal.now.string.now) kind (lexeme k)) c.in-Colon.is tok in
    mark_written k 0x3A (chars c.args.literal.now.written.now) c.args.mark (text_of c.args.written.now) (text_of c.put-in-Colon.new.written) c.put-in-Colon.result is c.put-in-Colon.ensures

pub returns-in-Comma : goal.returns-in-Comma
returns-in-Comma g c = λ k tok there finite.
    let is : lexeme k ≡ lexeme (punctuation 0x2C) = subst (λ kind. IsTokenOf (chars c.args.literal.now.string.now) kind (lexeme k)) c.in-Comma.is tok in
    mark_written k 0x2C (chars c.args.literal.now.written.now) c.args.mark (text_of c.args.written.now) (text_of c.push_comma.new.written) c.push_comma.result is c.push_comma.ensures

pub returns-in-CloseBrace : goal.returns-in-CloseBrace
returns-in-CloseBrace g c = λ k tok there finite.
    let is : lexeme k ≡ lexeme (punctuation 0x7D) = subst (λ kind. IsTokenOf (chars c.args.literal.now.string.now) kind (lexeme k)) c.in-CloseBrace.is tok in
    mark_written k 0x7D (chars c.args.literal.now.written.now) c.args.mark (text_of c.args.written.now) (text_of c.push_close.new.written) c.push_close.result is c.push_close.ensures

pub returns-in-CloseBracket : goal.returns-in-CloseBracket
returns-in-CloseBracket g c = λ k tok there finite.
    let is : lexeme k ≡ lexeme (punctuation 0x5D) = subst (λ kind. IsTokenOf (chars c.args.literal.now.string.now) kind (lexeme k)) c.in-CloseBracket.is tok in
    mark_written k 0x5D (chars c.args.literal.now.written.now) c.args.mark (text_of c.args.written.now) (text_of c.push_close-in-CloseBracket.new.written) c.push_close-in-CloseBracket.result is c.push_close-in-CloseBracket.ensures

pub returns-in_default : goal.returns-in_default
returns-in_default g c = λ k tok there finite.
    let d = c.in_default in
    let v = chars c.args.literal.now.string.now in
    let l = of_entry v c.args.kind k tok d.not-OpenBrace d.not-OpenBracket d.not-Colon d.not-Comma d.not-CloseBrace d.not-CloseBracket in
    entry_written k (chars c.args.literal.now.written.now) c.args.mark (text_of c.args.written.now) (text_of c.push_entry.new.written) c.push_entry.result (c.push_entry.ensures k l there finite) (is_literal v c.args.kind k l)
