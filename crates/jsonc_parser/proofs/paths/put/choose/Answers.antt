use Rattle.std.proofs.Common.{◌∙◌, refl, subst, sym}
use Rattle.jsonc_layout.specs.input.Views.{plain}
use Rattle.jsonc_parser.specs.paths.Found.{names_of}
use Rattle.jsonc_parser.specs.paths.Reach.{ReachesWhatShown}
use Rattle.jsonc_parser.proofs.lemmas.paths.ChosenEdit.{chosen_first, chosen_kept, chosen_replace, chosen_result, chosen_root, chosen_value, nested_rest, no_names, sliced, some_names}
use Rattle.jsonc_parser.proofs.paths.put.choose.Goals as goal

pub returns-in-Ok-clause-chosen : goal.returns-in-Ok-clause-chosen
returns-in-Ok-clause-chosen g c =
    chosen_first c.args.which c.args.doc.now (plain c.args.value) c.args.over (names_of c.args.names.now) c.in-Ok.value c.in-Ok.ensures.nested
    (subst (ReachesWhatShown c.args.which c.args.doc.now (names_of c.args.names.now)) c.in-Ok-Nothing.field-0-is c.in-Ok-Nothing.ensures.reached)

pub returns-then-is_empty-clause-chosen : goal.returns-then-is_empty-clause-chosen
returns-then-is_empty-clause-chosen g c =
    chosen_root c.args.which c.args.doc.now (plain c.args.value) c.args.over (names_of c.args.names.now) c.args.value refl (no_names c.args.names.now (sym c.is_empty.ensures ∙ c.if-is_empty.true))

pub returns-else-is_empty-clause-chosen : goal.returns-else-is_empty-clause-chosen
returns-else-is_empty-clause-chosen g c =
    chosen_value c.args.which c.args.doc.now (plain c.args.value) c.args.over (names_of c.args.names.now) c.in-Ok-Value.path c.args.value refl (some_names c.args.names.now (sym c.is_empty.ensures ∙ c.if-is_empty.false))
    (subst (ReachesWhatShown c.args.which c.args.doc.now (names_of c.args.names.now)) c.in-Ok-Value.field-0-is c.in-Ok-Value.ensures.reached)

pub returns-in-Ok-Missing-clause-chosen : goal.returns-in-Ok-Missing-clause-chosen
returns-in-Ok-Missing-clause-chosen g c =
    chosen_result c.args.which c.args.doc.now (plain c.args.value) c.args.over (names_of c.args.names.now) c.in-Ok-Missing.path.items c.in-Ok-Missing.count c.appending.result c.appending.ensures.appends
    (subst (ReachesWhatShown c.args.which c.args.doc.now (names_of c.args.names.now)) c.in-Ok-Missing.field-0-is c.in-Ok-Missing.ensures.reached)

pub returns-in-Keep-clause-chosen : goal.returns-in-Keep-clause-chosen
returns-in-Keep-clause-chosen g c =
    chosen_kept c.args.which c.args.doc.now (plain c.args.value) c.args.over (names_of c.args.names.now) c.in-Ok-Another.path.items c.in-Ok-Another.count c.in-Keep.is
    (subst (ReachesWhatShown c.args.which c.args.doc.now (names_of c.args.names.now)) c.in-Ok-Another.field-0-is c.in-Ok-Another.ensures.reached)

pub returns-in-Ok-nested-clause-chosen : goal.returns-in-Ok-nested-clause-chosen
returns-in-Ok-nested-clause-chosen g c =
    chosen_replace c.args.which c.args.doc.now (plain c.args.value) c.args.over (names_of c.args.names.now) c.in-Ok-Another.path c.in-Ok-Another.count c.in-Ok-nested.value
    (nested_rest c.args.names.now c.in-Ok-Another.count (plain c.in-Ok-nested.value) (plain c.args.value)
    (sliced c.args.names.now c.in-Ok-Another.count (plain c.in-Ok-nested.value) (plain c.args.value) c.in-Ok-nested.ensures.nested)) c.in-Replace.is
    (subst (ReachesWhatShown c.args.which c.args.doc.now (names_of c.args.names.now)) c.in-Ok-Another.field-0-is c.in-Ok-Another.ensures.reached)
