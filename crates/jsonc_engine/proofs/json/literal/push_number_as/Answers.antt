use Rattle.std.proofs.Common.{append-nil, chars, refl, subst, sym, ◌∙◌, ◌≡◌}
use Rattle.jsonc_text.specs.Lexemes.{LexemeKind}
use Rattle.jsonc_text.specs.Spelling.{spelled}
use Rattle.jsonc_engine.specs.Texts.{text_of, Adds}
use Rattle.jsonc_engine.specs.Rewritten.{IsLiteralFor, IsNonFinite}
use Rattle.jsonc_engine.proofs.ToldTokens.{on_ok}
use Rattle.jsonc_engine.proofs.json.literal.push_number_as.Goals as goal

pub returns-then-is_name : goal.returns-then-is_name
returns-then-is_name g c = λ s lex fin.
    let cs = chars c.args.number.now in
    on_ok c.push_spelled.result (λ e. record {
      more = spelled cs;
      is = subst (λ b. IsLiteralFor (LexemeKind.number s) b cs (spelled cs)) (sym c.if-is_name.true) refl;
      behind = e;
    }) c.push_spelled.ensures

pub returns-else-is_name : goal.returns-else-is_name
returns-else-is_name g c = λ s lex fin.
    let cs = chars c.args.number.now in
    let same : cs ≡ s = lex.0 ∙ append-nil s in
    let finite = λ (n : IsNonFinite cs). fin c.if-is_name.false (subst IsNonFinite same n) in
    on_ok c.push_number.result (λ a. subst (λ b. Adds (IsLiteralFor (LexemeKind.number s) b cs) (text_of c.args.written.now) (text_of c.push_number.new.written)) (sym c.if-is_name.false) a)
    (c.push_number.ensures lex.1 finite)
