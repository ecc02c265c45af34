use Rattle.std.proofs.Common.{◌≡◌, ◌∙◌, sym, ap, subst, IfOk, Some}
use Rattle.std.specs.Option.{option_map}
use Rattle.jsonc_tree.specs.Content.{Content}
use Rattle.jsonc_tree.specs.Stored.{content_of}
use Rattle.jsonc_layout.specs.nodes.Names.{Names, ReadsAs, string_text}
use Rattle.jsonc_layout.proofs.lemmas.nodes.NodeNames.{string_from_text}
use Rattle.jsonc_layout.proofs.nodes.names.name_in.Goals as goal

pub returns-in-Some-clause-read : goal.returns-in-Some-clause-read
returns-in-Some-clause-read g c =
    let content : Content = content_of c.args.kind.now in
    let said : string_text content ≡ Some c.in-Some.text.now = sym c.text_of_string.ensures ∙ ap (option_map (λ s. s.now)) c.in-Some.is in
    subst (λ k. IfOk c.front_string.result (ReadsAs (Names k))) (sym (string_from_text content c.in-Some.text.now said)) c.front_string.ensures.read
