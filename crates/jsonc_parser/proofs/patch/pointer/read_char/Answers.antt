use Rattle.jsonc_parser.proofs.lemmas.patch.Texts.{end_read}
use Rattle.jsonc_parser.proofs.patch.pointer.read_char.Goals as goal

pub returns-in_ok-end_token-in-false-eq47-clause-read : goal.returns-in_ok-end_token-in-false-eq47-clause-read
returns-in_ok-end_token-in-false-eq47-clause-read g c =
    let end = c.in_ok-end_token-in-false-eq47.ensures in
    end_read c.args.tokens.now.items c.end_token.new.tokens.items c.args.token.now c.end_token.new.token c.args.tilde c.args.c end.ended end.empty c.in-false-eq47.is-0 c.in-false-eq47.is-1
