use Rattle.jsonc_walk.proofs.lemmas.Handing.{name_here, plain_here, plain_inside, plain_named, utf8_there}
use Rattle.jsonc_walk.proofs.lemmas.MovedTokens.{kept_self}
use Rattle.jsonc_walk.proofs.lemmas.Refusals.{on_err}
use Rattle.jsonc_walk.proofs.lemmas.Scans.{failure, kept_same, starved, told_anyhow}
use Rattle.std.proofs.Common.{inr}
use Rattle.jsonc_walk.proofs.walk.parse_name.Goals as goal

pub hand_name-requires-clause-utf8 : goal.hand_name-requires-clause-utf8
hand_name-requires-clause-utf8 g c = utf8_there c.args.context.now (g.R.Receiver.source c.args.to.now) c.requires.source

pub hand_name-requires-clause-written : goal.hand_name-requires-clause-written
hand_name-requires-clause-written g c = name_here c.args.context.now (g.R.Receiver.source c.args.to.now) c.in_ok-name.name c.requires.source (c.in_ok-name.ensures.written c.requires.lent)

pub returns-in_default-passed_name-clause-fault : goal.returns-in_default-passed_name-clause-fault
returns-in_default-passed_name-clause-fault g c =
    let old = c.args.context.now in
    starved old old _ (kept_same old) c.stop_for_memory.ensures.fault (inr (failure _ c.in_default-passed_name.not-Ok))

pub returns-in_err-name-clause-fault : goal.returns-in_err-name-clause-fault
returns-in_err-name-clause-fault g c = on_err c.from_residual.result (told_anyhow c.in_err-name.ensures.fault)

pub returns-in_default-hand_name-clause-fault : goal.returns-in_default-hand_name-clause-fault
returns-in_default-hand_name-clause-fault g c =
    let old = c.args.context.now in
    starved old _ _ (kept_self old _ c.in_ok-name.ensures.gives) c.stop_for_memory-in_default-hand_name.ensures.fault (inr (failure _ c.in_default-hand_name.not-Ok))

pub string_name-requires-clause-inside : goal.string_name-requires-clause-inside
string_name-requires-clause-inside g c = plain_inside c.args.context.now (g.R.Receiver.source c.args.to.now) c.args.token c.range-range-in-Plain.result c.in-Plain.is c.requires.source c.requires.token c.requires.lent c.range-range-in-Plain.ensures

pub string_name-requires-clause-stands : goal.string_name-requires-clause-stands
string_name-requires-clause-stands g c = plain_here c.args.context.now (g.R.Receiver.source c.args.to.now) c.args.token c.range-range-in-Plain.result c.in-Plain.is c.requires.source c.requires.token c.requires.lent c.range-range-in-Plain.ensures

pub returns-in_default-string_name-clause-fault : goal.returns-in_default-string_name-clause-fault
returns-in_default-string_name-clause-fault g c =
    let old = c.args.context.now in
    starved old old _ (kept_same old) c.stop_for_memory-in_default-string_name.ensures.fault (inr (failure _ c.in_default-string_name.not-Ok))
