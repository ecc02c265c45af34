use Rattle.std.proofs.Common.{◌∙◌, List, Some, None, [], ap, arith, length, refl, subst, sym, ℕ}
use Rattle.jsonc_layout.specs.input.Views.{chars_of, plain}
use Rattle.jsonc_tree.specs.OrderedTree.{ordered_tree}
use Rattle.jsonc_cst.specs.Document.{nodes_of}
use Rattle.jsonc_cst.specs.Nodes.{number_of}
use Rattle.jsonc_parser.specs.paths.Found.{names_of}
use Rattle.jsonc_parser.specs.patch.Found.{IsOfShown}
use Rattle.jsonc_parser.specs.patch.PutSteps.{StopsAtNode}
use Rattle.jsonc_parser.specs.declared.patch.entry.Stop.{Stop}
use Rattle.jsonc_parser.specs.declared.patch.entry.Stop.TheVariants.{OtherKind, PastEnd}
use Rattle.jsonc_parser.proofs.lemmas.patch.PutChosen.{chosen_element, chosen_member, chosen_other, element_not_put, member_not_named, member_not_put, name_so, other_not_put, stop_told}
use Rattle.jsonc_parser.proofs.patch.putting.choose_beyond.Goals as goal

pub returns-in-Ok-copy_of-clause-chosen : goal.returns-in-Ok-copy_of-clause-chosen
returns-in-Ok-copy_of-clause-chosen g c =
    let doc = c.args.doc.now in
    let tokens = c.args.tokens.now in
    let k = c.args.number in
    let stops = subst (λ (s : Stop). IsOfShown doc (λ d. StopsAtNode d (nodes_of doc) (names_of tokens) (number_of c.args.node) k s)) c.in-NoMember.is c.requires.stops in
    chosen_member doc doc.tree.tree (plain c.args.value) c.args.over (names_of tokens) c.args.node k stops c.in-Ok.path c.in-Ok.ensures.at c.in-Ok.value c.in-Ok.ensures.nested c.in-Ok-copy_of.name _
    (name_so tokens k c.index-tokens-number.result c.requires.within (chars_of c.in-Ok-copy_of.name) (c.in-Ok-copy_of.ensures.copy ∙ ap chars_of c.index-tokens-number.is))

pub returns-in-Err-copy_of-clause-fails : goal.returns-in-Err-copy_of-clause-fails
returns-in-Err-copy_of-clause-fails g c =
    let doc = c.args.doc.now in
    let tokens = c.args.tokens.now in
    let k = c.args.number in
    let stops = subst (λ (s : Stop). IsOfShown doc (λ d. StopsAtNode d (nodes_of doc) (names_of tokens) (number_of c.args.node) k s)) c.in-NoMember.is c.requires.stops in
    member_not_named doc doc.tree.tree (plain c.args.value) c.args.over tokens c.args.node k c.requires.within stops (plain c.in-Ok.value) c.in-Ok.ensures.nested c.in-Err-copy_of.error c.in-Err-copy_of.ensures.memory

pub returns-in-Err-clause-fails : goal.returns-in-Err-clause-fails
returns-in-Err-clause-fails g c =
    let doc = c.args.doc.now in
    let tokens = c.args.tokens.now in
    let k = c.args.number in
    let stops = subst (λ (s : Stop). IsOfShown doc (λ d. StopsAtNode d (nodes_of doc) (names_of tokens) (number_of c.args.node) k s)) c.in-NoMember.is c.requires.stops in
    member_not_put doc doc.tree.tree (plain c.args.value) c.args.over tokens c.args.node k c.requires.within stops c.in-Err.error c.in-Err.ensures.fails

pub returns-in-Ok-prepare-clause-chosen : goal.returns-in-Ok-prepare-clause-chosen
returns-in-Ok-prepare-clause-chosen g c =
    let doc = c.args.doc.now in
    let tokens = c.args.tokens.now in
    let k = c.args.number in
    let stops = subst (λ (s : Stop). IsOfShown doc (λ d. StopsAtNode d (nodes_of doc) (names_of tokens) (number_of c.args.node) k s)) c.in-AfterLast.is c.requires.stops in
    chosen_element doc doc.tree.tree (plain c.args.value) c.args.over (names_of tokens) c.args.node k stops c.in-Ok-prepare.path c.in-Ok-prepare.ensures.at c.in-Ok-prepare.value c.in-Ok-prepare.ensures.nested

pub returns-in-Err-prepare-clause-fails : goal.returns-in-Err-prepare-clause-fails
returns-in-Err-prepare-clause-fails g c =
    let doc = c.args.doc.now in
    let tokens = c.args.tokens.now in
    let k = c.args.number in
    let stops = subst (λ (s : Stop). IsOfShown doc (λ d. StopsAtNode d (nodes_of doc) (names_of tokens) (number_of c.args.node) k s)) c.in-AfterLast.is c.requires.stops in
    element_not_put doc doc.tree.tree (plain c.args.value) c.args.over tokens c.args.node k c.requires.within stops c.in-Err-prepare.error c.in-Err-prepare.ensures.fails

pub returns-in-PastEnd-clause-fails : goal.returns-in-PastEnd-clause-fails
returns-in-PastEnd-clause-fails g c =
    let doc = c.args.doc.now in
    let tokens = c.args.tokens.now in
    let k = c.args.number in
    let stops = subst (λ (s : Stop). IsOfShown doc (λ d. StopsAtNode d (nodes_of doc) (names_of tokens) (number_of c.args.node) k s)) c.in-PastEnd.is c.requires.stops in
    stop_told doc doc.tree.tree (plain c.args.value) c.args.over (names_of tokens) c.args.node k PastEnd stops

pub returns-in-Keep-clause-fails : goal.returns-in-Keep-clause-fails
returns-in-Keep-clause-fails g c = λ d shown.
    let doc = c.args.doc.now in
    let tokens = c.args.tokens.now in
    let k = c.args.number in
    let stops = subst (λ (s : Stop). IsOfShown doc (λ d. StopsAtNode d (nodes_of doc) (names_of tokens) (number_of c.args.node) k s)) c.in-OtherKind.is c.requires.stops in
    (stop_told doc doc.tree.tree (plain c.args.value) c.args.over (names_of tokens) c.args.node k OtherKind stops d shown, c.in-Keep.is)

pub returns-in-Ok-prepare-2-clause-chosen : goal.returns-in-Ok-prepare-2-clause-chosen
returns-in-Ok-prepare-2-clause-chosen g c =
    let doc = c.args.doc.now in
    let tokens = c.args.tokens.now in
    let k = c.args.number in
    let stops = subst (λ (s : Stop). IsOfShown doc (λ d. StopsAtNode d (nodes_of doc) (names_of tokens) (number_of c.args.node) k s)) c.in-OtherKind.is c.requires.stops in
    chosen_other doc doc.tree.tree (plain c.args.value) c.args.over (names_of tokens) c.args.node k stops c.in-Replace.is c.in-Ok-prepare-2.path c.in-Ok-prepare-2.ensures.at c.in-Ok-prepare-2.value c.in-Ok-prepare-2.ensures.nested

pub returns-in-Err-prepare-2-clause-fails : goal.returns-in-Err-prepare-2-clause-fails
returns-in-Err-prepare-2-clause-fails g c =
    let doc = c.args.doc.now in
    let tokens = c.args.tokens.now in
    let k = c.args.number in
    let stops = subst (λ (s : Stop). IsOfShown doc (λ d. StopsAtNode d (nodes_of doc) (names_of tokens) (number_of c.args.node) k s)) c.in-OtherKind.is c.requires.stops in
    other_not_put doc doc.tree.tree (plain c.args.value) c.args.over tokens c.args.node k c.requires.within stops c.in-Replace.is c.in-Err-prepare-2.error c.in-Err-prepare-2.ensures.fails
