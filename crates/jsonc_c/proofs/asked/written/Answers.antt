use Rattle.std.proofs.Common.{◌≡◌, arith, rules}
use Rattle.jsonc_text.specs.OptionsOf.{parse_options}
use Rattle.jsonc_engine.specs.Command.{request_of}
use Rattle.jsonc_c.specs.Commands.{asked_of}
use Rattle.jsonc_c.specs.Options.{options_of}
use Rattle.jsonc_c.proofs.Refused.{refused_so}
use Rattle.jsonc_c.proofs.asked.written.Goals as goal

pub returns-in-Err-clause-refused : goal.returns-in-Err-clause-refused
returns-in-Err-clause-refused c = λ three.
    let same : parse_options c.options_of.result ≡ options_of c.args.options = search rules in
    refused_so (parse_options c.options_of.result) (options_of c.args.options) (request_of c.in-Some.command) (asked_of c.args.asked) c.args.text.now c.in-Err.told c.tell.result c.tell.new.fault same c.in-Some.ensures.read c.in-Err.ensures.refused c.tell.ensures.told (omega (arith, three))
