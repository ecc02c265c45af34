use Rattle.std.proofs.Common.{◌≡◌, ◌∙◌, sym, ap, subst, Some}
use Rattle.std.specs.Option.{option_map}
use Rattle.jsonc_tree.specs.Content.{text_of}
use Rattle.jsonc_tree.specs.Order.{text_at}
use Rattle.jsonc_tree.specs.Stored.{content_of}
use Rattle.jsonc_layout.specs.nodes.Names.{HoldsString, IsNoString, string_text}
use Rattle.jsonc_layout.proofs.lemmas.nodes.NodeNames.{string_from_text}
use Rattle.jsonc_layout.proofs.nodes.names.decoded_value.Goals as goal

pub fault_of-requires : goal.fault_of-requires
fault_of-requires g c = record {
  fault = λ ne. record {
    none = λ v h. c.in-Err.ensures.fault.none ne v h.0 h.1;
    error = (c.in-Err.fault.byte_index, c.in-Err.ensures.fault.error ne);
  };
}

pub returns-in-Err-clause-fault : goal.returns-in-Err-clause-fault
returns-in-Err-clause-fault g c = λ ne.
    let content = content_of c.kind.result.now in
    let said : string_text content ≡ Some c.in-Some.text.now = sym c.text_of_string.ensures ∙ ap (option_map (λ s. s.now)) c.in-Some.is in
    let same : text_at c.args.tree.now.nodes c.args.leaf ≡ c.in-Some.text.now = ap text_of (sym c.kind.ensures ∙ string_from_text content c.in-Some.text.now said) in
    subst (λ s. IsNoString s c.fault_of.result) (sym same) (c.fault_of.ensures.fault ne)

pub returns-in-Err-clause-memory : goal.returns-in-Err-clause-memory
returns-in-Err-clause-memory g c = λ e.
    let content = content_of c.kind.result.now in
    let said : string_text content ≡ Some c.in-Some.text.now = sym c.text_of_string.ensures ∙ ap (option_map (λ s. s.now)) c.in-Some.is in
    let same : text_at c.args.tree.now.nodes c.args.leaf ≡ c.in-Some.text.now = ap text_of (sym c.kind.ensures ∙ string_from_text content c.in-Some.text.now said) in
    subst HoldsString (sym same) (c.fault_of.ensures.memory e)
