use Rattle.jsonc_walk.proofs.lemmas.Handing.{number_here, number_made, passed_here, passed_made, plain_here, plain_inside, plain_made, string_here, utf8_there}
use Rattle.jsonc_walk.proofs.walk.leaf.Goals as goal

pub hand_string-requires-clause-utf8 : goal.hand_string-requires-clause-utf8
hand_string-requires-clause-utf8 g c = utf8_there c.args.context.now (g.R.Receiver.source c.args.to.now) c.requires.source

pub hand_string-requires-clause-written : goal.hand_string-requires-clause-written
hand_string-requires-clause-written g c = string_here c.args.context.now (g.R.Receiver.source c.args.to.now) c.args.token c.take_string-value.result c.args.range c.in-String.is c.take_string-value.ensures.string c.requires.source c.requires.token c.requires.lent c.requires.place

pub number-requires-clause-stands : goal.number-requires-clause-stands
number-requires-clause-stands g c = number_here c.args.context.now (g.R.Receiver.source c.args.to.now) c.args.token c.args.range c.in-Number.is c.requires.source c.requires.token c.requires.place

pub returns-in_ok-item-in-Number-clause-made : goal.returns-in_ok-item-in-Number-clause-made
returns-in_ok-item-in-Number-clause-made g c =
    number_made c.args.context.now (g.R.Receiver.source c.args.to.now) c.args.token c.args.range (g.R.Receiver.makes c.args.to.now c.number.new.self c.in_ok-item-in-Number.item) c.in-Number.is c.requires.source c.requires.token c.requires.place c.in_ok-item-in-Number.ensures.made

pub passed-requires-clause-stands : goal.passed-requires-clause-stands
passed-requires-clause-stands g c = passed_here c.args.context.now (g.R.Receiver.source c.args.to.now) c.args.token c.args.range c.in-Passed.is c.requires.source c.requires.token c.requires.lent c.requires.place

pub returns-in_ok-item-in-Passed-clause-made : goal.returns-in_ok-item-in-Passed-clause-made
returns-in_ok-item-in-Passed-clause-made g c =
    passed_made c.args.context.now (g.R.Receiver.source c.args.to.now) c.args.token c.args.range (g.R.Receiver.makes c.args.to.now c.passed.new.self c.in_ok-item-in-Passed.item) c.in-Passed.is c.requires.source c.requires.place c.in_ok-item-in-Passed.ensures.made

pub string-requires-clause-inside : goal.string-requires-clause-inside
string-requires-clause-inside g c = plain_inside c.args.context.now (g.R.Receiver.source c.args.to.now) c.args.token c.args.range c.in-Plain.is c.requires.source c.requires.token c.requires.lent c.requires.place

pub string-requires-clause-stands : goal.string-requires-clause-stands
string-requires-clause-stands g c = plain_here c.args.context.now (g.R.Receiver.source c.args.to.now) c.args.token c.args.range c.in-Plain.is c.requires.source c.requires.token c.requires.lent c.requires.place

pub returns-in_ok-item-in-Plain-clause-made : goal.returns-in_ok-item-in-Plain-clause-made
returns-in_ok-item-in-Plain-clause-made g c =
    plain_made c.args.context.now (g.R.Receiver.source c.args.to.now) c.args.token c.args.range (g.R.Receiver.makes c.args.to.now c.string.new.self c.in_ok-item-in-Plain.item) c.in-Plain.is c.requires.source c.requires.place c.in_ok-item-in-Plain.ensures.made
