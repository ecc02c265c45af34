use Rattle.std.proofs.Common.{◌≡◌, option_map, rules}
use Rattle.jsonc_text.specs.Options.{all_on}
use Rattle.jsonc_text.specs.OptionsOf.{parse_options}
use Rattle.jsonc_ast.specs.Views as ast
use Rattle.jsonc_program.proofs.EditNames.{names_read, names_refused}
use Rattle.jsonc_program.proofs.edit.words.read_path.Goals as goal

pub returns-in-Ok-clause-names : goal.returns-in-Ok-clause-names
returns-in-Ok-clause-names g c =
    let o = parse_options c.default-2.result in
    let all : o ≡ all_on = search rules in
    names_read c.args.path.now o all (option_map ast.plain c.in-Ok.read.value) c.in-Ok.ensures.accepted c.names_in.result c.names_in.ensures.names

pub returns-in-Ok-clause-refused : goal.returns-in-Ok-clause-refused
returns-in-Ok-clause-refused g c =
    let o = parse_options c.default-2.result in
    let all : o ≡ all_on = search rules in
    names_refused c.args.path.now o all (option_map ast.plain c.in-Ok.read.value) c.in-Ok.ensures.accepted c.names_in.result c.names_in.ensures.refused
