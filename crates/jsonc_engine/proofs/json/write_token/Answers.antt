use Rattle.std.proofs.Common.{chars}
use Rattle.jsonc_engine.specs.Texts.{text_of}
use Rattle.jsonc_engine.proofs.ToldTokens.{block_told, lexeme_told, line_told}
use Rattle.jsonc_engine.proofs.WrittenTokens.{comment_passed, reached}
use Rattle.jsonc_engine.proofs.json.write_token.Goals as goal

pub returns-in-CommentLine-clause-written : goal.returns-in-CommentLine-clause-written
returns-in-CommentLine-clause-written g c =
    let f = c.args.found.now in
    let h = c.requires in
    comment_passed c.args.text.now c.utf8.text f (text_of c.args.written.now) (text_of c.push_blanks.new.written) c.range.result.now h.token h.stands c.range.ensures.value c.in_ok-push_blanks.ensures
    (line_told (chars f.string.now) f.kind h.token h.kind c.in-CommentLine.is h.stands.there)

pub returns-in-CommentBlock-clause-written : goal.returns-in-CommentBlock-clause-written
returns-in-CommentBlock-clause-written g c =
    let f = c.args.found.now in
    let h = c.requires in
    comment_passed c.args.text.now c.utf8.text f (text_of c.args.written.now) (text_of c.push_blanks.new.written) c.range.result.now h.token h.stands c.range.ensures.value c.in_ok-push_blanks.ensures
    (block_told (chars f.string.now) f.kind h.token h.kind c.in-CommentBlock.is h.stands.there)

pub write_lexeme-requires : goal.write_lexeme-requires
write_lexeme-requires g c =
    let f = c.args.found.now in
    let h = c.requires in
    let k = lexeme_told (chars f.string.now) f.kind h.token h.kind c.in_default.not-CommentLine c.in_default.not-CommentBlock in
    reached c.args.text.now c.utf8.text f (text_of c.args.written.now) (text_of c.push_blanks.new.written) c.range.result.now h.token h.stands c.range.ensures.value c.in_ok-push_blanks.ensures k.0 k.1 h.kind
