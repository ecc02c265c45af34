use Rattle.std.proofs.Common.{◌∙◌, ap}
use Rattle.jsonc_text.specs.OptionsOf.{parse_options}
use Rattle.jsonc_walk.specs.Context.{text_in}
use Rattle.jsonc_ast.proofs.lemmas.to_ast.MadeTrees.{tree_located, tree_within, tree_written}
use Rattle.jsonc_walk.proofs.lemmas.Refusals.{ok_of}
use Rattle.jsonc_ast.proofs.to_ast.values.parse_whole.Goals as goal

pub returns-clause-located : goal.returns-clause-located
returns-clause-located g c = ok_of c.read_document.result (tree_located _ _ _) c.read_document.ensures.found

pub returns-clause-written : goal.returns-clause-written
returns-clause-written g c =
    let old = c.args.context.now in
    ok_of c.read_document.result
    (λ f made. tree_written _ _ _ f (ap (λ b. record { bytes = b; options = parse_options c.copied.result }) c.file_text.ensures ∙ ap (λ o. record { bytes = text_in old; options = o }) (ap parse_options c.copied.ensures ∙ old.same)) made)
    c.read_document.ensures.found

pub returns-clause-within : goal.returns-clause-within
returns-clause-within g c = ok_of c.read_document.result (tree_within _ _ _) c.read_document.ensures.found
