use Rattle.std.proofs.Common.{ℕ, ◌<◌, ◌∷◌, ◌++◌, [], Option, chars, length, subst, sym, None, Some}
use Rattle.jsonc_cst.specs.Document.{nodes_of}
use Rattle.jsonc_cst.specs.Nodes.{number_of}
use Rattle.jsonc_layout.specs.input.Views.{plain}
use Rattle.jsonc_run.specs.Edits.{append_element, insert_element}
use Rattle.jsonc_parser.specs.patch.Applied.{IsPlaceBy}
use Rattle.jsonc_parser.proofs.lemmas.patch.Contents.{element_contents}
use Rattle.jsonc_parser.proofs.lemmas.patch.Edited.{appends_so, inserts_so, kept_same, kept_there}
use Rattle.jsonc_parser.proofs.lemmas.patch.Failing.{appends_not, inserts_not, no_place}
use Rattle.jsonc_parser.proofs.patch.making.add_element.Goals as goal

pub element_place-requires : goal.element_place-requires
element_place-requires g c = subst (λ (n : ℕ). n < length (nodes_of c.args.doc.now)) (sym c.number.ensures) c.requires.in_document.0

pub returns-in_default-clause-kept : goal.returns-in_default-clause-kept
returns-in_default-clause-kept g c = kept_same c.args.doc.now

pub returns-in_default-clause-fails : goal.returns-in_default-clause-fails
returns-in_default-clause-fails g c =
    let doc = c.args.doc.now in
    let token = chars c.args.token.now in
    let reported = subst (λ (o : Option (Option ℕ)). IsPlaceBy (nodes_of doc) c.number.result token o) c.in_default.is c.element_place.ensures in
    no_place doc doc.tree.tree c.args.array token (plain c.args.value.now) c.requires.array (subst (λ (n : ℕ). IsPlaceBy (nodes_of doc) n token None) c.number.ensures reported)

pub returns-in-Ok-clause-made : goal.returns-in-Ok-clause-made
returns-in-Ok-clause-made g c = λ tokens leads.
    let doc = c.args.doc.now in
    let token = chars c.args.token.now in
    let reported = subst (λ (n : ℕ). IsPlaceBy (nodes_of doc) n token c.element_place.result) c.number.ensures c.element_place.ensures in
    let place = subst (λ (o : Option (Option ℕ)). IsPlaceBy (nodes_of doc) (number_of c.args.array) token o) c.in-Some.is reported in
    let index = subst (λ (o : Option ℕ). IsPlaceBy (nodes_of doc) (number_of c.args.array) token (Some o)) c.in-Some-place.is place in
    inserts_so doc c.insert_element_there.new.self doc.tree.tree c.insert_element_there.new.self.tree.tree c.args.array tokens leads c.args.value.now c.requires.array token c.in-Some-place.index index.0 index.1 c.in-Ok.ensures

pub returns-in-Ok-clause-contents : goal.returns-in-Ok-clause-contents
returns-in-Ok-clause-contents g c = let m = (c.in-Ok.ensures []).made in element_contents _ _ (number_of c.args.array) c.in-Some-place.index m.0 (plain c.args.value.now) m.1

pub returns-in-Err-clause-kept : goal.returns-in-Err-clause-kept
returns-in-Err-clause-kept g c = kept_there _ _ _ (insert_element [] _ _) _ (c.in-Err.ensures [])

pub returns-in-Err-clause-fails : goal.returns-in-Err-clause-fails
returns-in-Err-clause-fails g c = λ tokens leads.
    let doc = c.args.doc.now in
    inserts_not doc doc.tree.tree c.args.array tokens leads c.in-Err.error c.requires.array (tokens ++ chars c.args.token.now ∷ []) (plain c.args.value.now) c.in-Some-place.index (λ path. (c.in-Err.ensures path).error)

pub returns-in-Ok-append_element_there-clause-made : goal.returns-in-Ok-append_element_there-clause-made
returns-in-Ok-append_element_there-clause-made g c = λ tokens leads.
    let doc = c.args.doc.now in
    let token = chars c.args.token.now in
    let reported = subst (λ (n : ℕ). IsPlaceBy (nodes_of doc) n token c.element_place.result) c.number.ensures c.element_place.ensures in
    let place = subst (λ (o : Option (Option ℕ)). IsPlaceBy (nodes_of doc) (number_of c.args.array) token o) c.in-Some.is reported in
    let last = subst (λ (o : Option ℕ). IsPlaceBy (nodes_of doc) (number_of c.args.array) token (Some o)) c.in-None.is place in
    appends_so doc c.append_element_there.new.self doc.tree.tree c.append_element_there.new.self.tree.tree c.args.array tokens leads c.args.value.now c.requires.array token last c.in-Ok-append_element_there.ensures

pub returns-in-Ok-append_element_there-clause-contents : goal.returns-in-Ok-append_element_there-clause-contents
returns-in-Ok-append_element_there-clause-contents g c = let m = (c.in-Ok-append_element_there.ensures []).made in element_contents _ _ (number_of c.args.array) _ m.0 (plain c.args.value.now) m.1

pub returns-in-Err-append_element_there-clause-kept : goal.returns-in-Err-append_element_there-clause-kept
returns-in-Err-append_element_there-clause-kept g c = kept_there _ _ _ (append_element [] _) _ (c.in-Err-append_element_there.ensures [])

pub returns-in-Err-append_element_there-clause-fails : goal.returns-in-Err-append_element_there-clause-fails
returns-in-Err-append_element_there-clause-fails g c = λ tokens leads.
    let doc = c.args.doc.now in
    appends_not doc doc.tree.tree c.args.array tokens leads c.in-Err-append_element_there.error c.requires.array (tokens ++ chars c.args.token.now ∷ []) (plain c.args.value.now) (λ path. (c.in-Err-append_element_there.ensures path).error)
