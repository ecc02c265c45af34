use Rattle.std.proofs.Common.{◌≡◌, ◌∙◌, sym, ap, option_copied, option_map, List, ℕ, String, Vec}
use Rattle.std.specs.List.{find}
use Rattle.jsonc_layout.specs.declared.input.value.CstInputValue.{CstInputValue, Object, out-roll-CstInputValue, roll-CstInputValue}
use Rattle.jsonc_layout.specs.declared.input.value.CstInputValue.TheOpen.{CstInputValue-F}
use Rattle.jsonc_layout.specs.input.Named.{is_named, value_in, value_named}
use Rattle.jsonc_layout.proofs.input.value.CstInputValue.get.Goals as goal

in_object : {A : Type 0} (name : List ℕ) (ps : Vec (String A × CstInputValue A) A) → value_named name (Object ps) ≡ value_in name (CstInputValue-F.Object ps)
unfolding roll-CstInputValue denote.Hole.Carrier.roll
in_object {A} name ps = ap (value_in name) (out-roll-CstInputValue A (CstInputValue-F.Object ps))

pub returns-in-Some : goal.returns-in-Some
returns-in-Some g c =
    let name = c.args.name.now in
    sym (ap (value_named name) c.in-Object.is
    ∙ in_object name c.in-Object.properties
    ∙ ap (λ l. option_map (λ p. p.1) (find (is_named name) l)) (sym c.as_slice.ensures.value)
    ∙ ap (option_map (λ p. p.1)) (sym c.property_named.ensures)
    ∙ ap (λ r. option_map (λ p. p.1) (option_copied r)) c.in-Some.is)

pub returns-in-None : goal.returns-in-None
returns-in-None g c =
    let name = c.args.name.now in
    sym (ap (value_named name) c.in-Object.is
    ∙ in_object name c.in-Object.properties
    ∙ ap (λ l. option_map (λ p. p.1) (find (is_named name) l)) (sym c.as_slice.ensures.value)
    ∙ ap (option_map (λ p. p.1)) (sym c.property_named.ensures)
    ∙ ap (λ r. option_map (λ p. p.1) (option_copied r)) c.in-None.is)
