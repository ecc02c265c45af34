use Rattle.std.proofs.Common.{◌≡◌, ◌∙◌, ◌≢◌, [], ap, arith, chars, get_or, map, subst, sym}
use Rattle.std.proofs.lemmas.Bool.{false≢true}
use Rattle.std.proofs.lemmas.Slice.Eq.{bytes_eq-Decides}
use Rattle.jsonc_ast.specs.Views as ast
use Rattle.jsonc_insert.specs.named.Members.{LacksMember}
use Rattle.jsonc_parser.proofs.lemmas.patch.PatchReads.{ascii_name}
use Rattle.jsonc_parser.proofs.lemmas.patch.PatchValues.{lacks_name, member_there, prop_name}
use Rattle.jsonc_parser.proofs.lemmas.patch.SeenNames.{name_at, one_text, other_there}
use Rattle.jsonc_parser.specs.patch.Equality.{HasMember}
use Rattle.jsonc_parser.specs.patch.PatchFaults.{member_name}
use Rattle.jsonc_parser.specs.patch.PatchReading.{said}
use Rattle.jsonc_parser.proofs.patch.reading.member_value.Goals as goal

pub loop-property-init : goal.loop-property-init
loop-property-init g c = record { texts = λ j l. absurd (omega (arith, l)); others = λ j l e. absurd (omega (arith, l)) }

pub returns-then-eq-clause-found : goal.returns-then-eq-clause-found
returns-then-eq-clause-found g c =
    let p = c.property-item.result in
    let same : prop_name p ≡ member_name c.args.member =
    sym c.as_str.ensures ∙ (bytes_eq-Decides c.as_str.result.now c.name-required.result.now).0 (sym c.eq.ensures ∙ c.if-eq.true) ∙ c.name-required.ensures in
    subst (λ n. HasMember n (ast.plain p.value) (said c.args.members.now)) (ap chars same ∙ ascii_name c.args.member)
    (member_there c.args.members.now c.loop-property.property-index p c.loop-property-test.true c.property-item.is)

pub loop-property-preserved : goal.loop-property-preserved
loop-property-preserved g c =
    let ps = c.args.members.now in
    let i = c.loop-property.property-index in
    let name = c.as_str.result.now in
    let required = c.name-required.result.now in
    let at : get_or (map prop_name ps) i [] ≡ name = name_at prop_name ps i c.property-item.result c.loop-property-test.true c.property-item.is ∙ sym c.as_str.ensures in
    let other : name ≢ required = λ e. false≢true (sym c.if-eq.false ∙ c.eq.ensures ∙ (bytes_eq-Decides name required).1 e) in
    record {
      texts = one_text (map prop_name ps) i name at c.loop-property.invariant.texts c.as_str.utf8;
      others = λ j l e. other_there (map prop_name ps) i required c.loop-property.invariant.others (λ f. other (sym at ∙ f)) j l e;
    }

pub returns-clause-fault : goal.returns-clause-fault
returns-clause-fault g c = λ needs.
    let ps = c.args.members.now in
    let h = c.loop-property.invariant in
    let past = c.loop-property-test.false in
    let none = lacks_name ps c.name-required.result.now c.name-required.utf8 (λ j l. h.texts j (omega (arith, l, past))) (λ j l e. h.others j (omega (arith, l, past)) e) in
    (needs, subst (λ n. LacksMember n (said ps)) (ap chars c.name-required.ensures ∙ ascii_name c.args.member) none)
