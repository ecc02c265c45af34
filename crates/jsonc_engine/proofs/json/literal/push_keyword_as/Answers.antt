use Rattle.std.proofs.Common.{chars, refl, subst, sym}
use Rattle.jsonc_text.specs.Lexemes.{LexemeKind}
use Rattle.jsonc_text.specs.Spelling.{spelled}
use Rattle.jsonc_engine.specs.Rewritten.{IsLiteralFor}
use Rattle.jsonc_engine.proofs.ToldTokens.{on_ok}
use Rattle.jsonc_engine.proofs.json.literal.push_keyword_as.Goals as goal

pub returns-then-is_name : goal.returns-then-is_name
returns-then-is_name g c = λ k.
    let cs = chars c.args.keyword.now in
    on_ok c.push_spelled.result (λ e. record {
      more = spelled cs;
      is = subst (λ b. IsLiteralFor (LexemeKind.keyword k) b cs (spelled cs)) (sym c.if-is_name.true) refl;
      behind = e;
    }) c.push_spelled.ensures

pub returns-else-is_name : goal.returns-else-is_name
returns-else-is_name g c = λ k.
    let cs = chars c.args.keyword.now in
    on_ok c.put_all.result (λ e. record {
      more = cs;
      is = subst (λ b. IsLiteralFor (LexemeKind.keyword k) b cs cs) (sym c.if-is_name.false) refl;
      behind = e;
    }) c.put_all.ensures
