use Rattle.jsonc_insert.proofs.ComingBehind.{after_ready, comma_child, comma_joins, put_alone, put_both, written_joins}
use Rattle.jsonc_insert.proofs.insert.put_beside.Goals as goal

pub insert_after-requires-clause-child : goal.insert_after-requires-clause-child
insert_after-requires-clause-child g c = after_ready c.args.tree.now.nodes c.args.container c.args.beside c.args.comma.now c.args.written.now c.requires

pub insert_after-requires-clause-join : goal.insert_after-requires-clause-join
insert_after-requires-clause-join g c = written_joins c.args.tree.now.nodes c.args.container c.args.beside c.args.comma.now c.args.written.now c.requires

pub returns-in_default : goal.returns-in_default
returns-in_default g c =
    put_alone c.args.tree.now.nodes c.args.container c.args.beside c.args.comma.now c.args.written.now c.requires c.insert_after.new.tree.nodes c.insert_after.new.tree.tree c.insert_after.ensures.splices c.in_default.is

pub insert_after-requires-2-clause-child : goal.insert_after-requires-2-clause-child
insert_after-requires-2-clause-child g c =
    comma_child c.args.tree.now.nodes c.args.container c.args.beside c.args.comma.now c.args.written.now c.requires c.insert_after.new.tree.nodes c.insert_after.new.tree.tree c.insert_after.ensures.splices c.in-Some.node c.in-Some.is

pub insert_after-requires-2-clause-join : goal.insert_after-requires-2-clause-join
insert_after-requires-2-clause-join g c =
    comma_joins c.args.tree.now.nodes c.args.container c.args.beside c.args.comma.now c.args.written.now c.requires c.insert_after.new.tree.nodes c.insert_after.new.tree.tree c.insert_after.ensures.splices c.in-Some.node c.in-Some.is

pub returns : goal.returns
returns g c =
    put_both c.args.tree.now.nodes c.args.container c.args.beside c.args.comma.now c.args.written.now c.requires c.insert_after.new.tree.nodes c.insert_after.new.tree.tree c.insert_after.ensures.splices c.in-Some.node c.in-Some.is
    c.insert_after-2.new.tree.nodes c.insert_after-2.new.tree.tree c.insert_after-2.ensures.splices
