use Rattle.jsonc_layout.specs.input.Views.{plain}
use Rattle.jsonc_layout.specs.from_input.Layout.{layout_of}
use Rattle.jsonc_edit.proofs.ReplacedChildren.{child_raw, gives_way_raw, join_raw, where_refused}
use Rattle.jsonc_edit.proofs.NodesKept.{tree_stays}
use Rattle.jsonc_edit.proofs.replacing.replace_raw.Goals as goal

pub returns-in_err-new-clause-document : goal.returns-in_err-new-clause-document
returns-in_err-new-clause-document g c =
    where_refused c.from_residual.result (tree_stays c.args.tree.now.nodes c.lay_out.new.tree.nodes c.args.tree.now.tree c.lay_out.ensures.kept c.lay_out.new.tree.tree)

pub put_in_place-requires-clause-child : goal.put_in_place-requires-clause-child
put_in_place-requires-clause-child g c =
    child_raw c.args.tree.now.nodes c.lay_out.new.tree.nodes c.args.tree.now.tree c.args.node c.args.container c.in_ok-new.new (layout_of c.args.layout.now) (plain c.args.value.now) c.requires c.in_ok-new.ensures.built

pub put_in_place-requires-clause-join : goal.put_in_place-requires-clause-join
put_in_place-requires-clause-join g c =
    join_raw c.args.tree.now.nodes c.lay_out.new.tree.nodes c.args.tree.now.tree c.args.node c.args.container c.in_ok-new.new (layout_of c.args.layout.now) (plain c.args.value.now) c.requires c.in_ok-new.ensures.built

pub returns-clause-replaced : goal.returns-clause-replaced
returns-clause-replaced g c =
    gives_way_raw c.args.tree.now.nodes c.lay_out.new.tree.nodes c.args.tree.now.tree c.args.node c.args.container c.in_ok-new.new (layout_of c.args.layout.now) (plain c.args.value.now) c.requires c.in_ok-new.ensures.built
    c.put_in_place.new.tree.nodes c.put_in_place.new.tree.tree c.put_in_place.ensures.put
