use Rattle.std.proofs.Common.{◌∙◌, ◌++◌, List, ap, codes, string_bytes, ℕ}
use Rattle.std.proofs.lemmas.Result.{IfOk-weaker}
use Rattle.jsonc_lint.specs.Lines.{json_place, json_string}
use Rattle.jsonc_lint.specs.Messages.{kind_name}
use Rattle.jsonc_lint.proofs.finding.Finding.to_json.Goals as goal

pub returns : goal.returns
returns g c =
    let finding = c.args.self.now in
    let line : List ℕ → List ℕ → List ℕ → List ℕ → List ℕ =
    λ file place kind text. codes "{\"file\":" ++ (file ++ (codes "," ++ (place ++ (codes ",\"kind\":\"" ++ (kind ++ (codes "\",\"message\":" ++ (text ++ codes "}"))))))) in
    let text = c.in_ok-spell-2.ensures.bytes ∙ ap json_string (c.as_str.ensures.value ∙ c.in_ok-message.ensures.ok) in
    IfOk-weaker c.format-2.result _ _
    (λ s e. e ∙ ap (λ f. line f (string_bytes c.in_ok-json_place.field-0) c.name.result.now (string_bytes c.in_ok-spell-2.field-0)) c.in_ok-spell.ensures.bytes
    ∙ ap (λ p. line (json_string c.args.file.now) p c.name.result.now (string_bytes c.in_ok-spell-2.field-0)) c.in_ok-json_place.ensures
    ∙ ap (λ k. line (json_string c.args.file.now) (json_place finding) k (string_bytes c.in_ok-spell-2.field-0)) c.name.ensures
    ∙ ap (line (json_string c.args.file.now) (json_place finding) (kind_name finding.kind)) text)
    c.format-2.ensures.ok
