use Rattle.std.proofs.Common.{ap, append_assoc, chars, refl, subst, sym, ◌++◌, ◌∙◌}
use Rattle.jsonc_engine.specs.Texts.{text_of}
use Rattle.jsonc_engine.specs.Rewritten.{IsLiteralFor, missing_comma}
use Rattle.jsonc_engine.proofs.ToldTokens.{on_ok}
use Rattle.jsonc_engine.proofs.json.push_entry.Goals as goal

pub returns : goal.returns
returns g c = λ k lit lex fin.
    let cs = chars c.args.literal.now.written.now in
    let comma = missing_comma c.args.mark in
    let a = c.in_ok-push_literal.ensures k lit lex (λ e. fin (sym c.is_colon.ensures ∙ e)) in
    on_ok c.push_missing_comma.result (λ e. record {
      more = a.more ++ comma;
      is = (a.more, subst (λ b. IsLiteralFor k b cs a.more) c.is_colon.ensures a.is, refl);
      behind = e ∙ ap (λ m. m ++ comma) a.behind ∙ append_assoc (text_of c.args.written.now) a.more comma;
    }) c.push_missing_comma.ensures
