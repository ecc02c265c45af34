use Rattle.std.proofs.Common.{chars, inl, inr, refl, sym, ◌∙◌}
use Rattle.std.proofs.lemmas.Bool.{false≢true}
use Rattle.jsonc_text.specs.Spelling.{spelled}
use Rattle.jsonc_engine.proofs.ToldTokens.{on_ok}
use Rattle.jsonc_engine.proofs.Strings.{quoted_passes, string_quoted}
use Rattle.jsonc_engine.proofs.json.literal.push_string.Goals as goal

pub returns-then-is_json_string : goal.returns-then-is_json_string
returns-then-is_json_string g c = λ h.
    on_ok c.put_all.result (λ e. record {
      more = chars c.args.literal.now.written.now;
      is = inl (string_quoted _ _ h (sym c.if-is_json_string.ensures), refl);
      behind = e;
    }) c.put_all.ensures

pub returns-else-is_json_string : goal.returns-else-is_json_string
returns-else-is_json_string g c = λ h.
    on_ok c.push_spelled.result (λ e. record {
      more = spelled (chars c.args.literal.now.string.now);
      is = inr (λ q. false≢true (c.if-is_json_string.ensures ∙ quoted_passes q), refl);
      behind = e;
    }) c.push_spelled.ensures
