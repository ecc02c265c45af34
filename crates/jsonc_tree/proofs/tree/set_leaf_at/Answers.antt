use Rattle.std.proofs.Common.{◌≡◌, length, List, sym, ap, ◌∙◌, arith, None, Some}
use Rattle.jsonc_tree.specs.Stored.{LinkedNode, content_of, counted_in, counted_out, leaf_set, nodes_of}
use Rattle.jsonc_tree.specs.Tree.{parent_at}
use Rattle.jsonc_tree.proofs.AgreeingLinks.{parent_shown}
use Rattle.jsonc_tree.proofs.UnchangedRows.{leaf_alone, leaf_counted, few_counted, parent_there, was_counted}
use Rattle.jsonc_tree.proofs.tree.set_leaf_at.Goals as goal

pub returns-in_default-clause-becomes : goal.returns-in_default-clause-becomes
returns-in_default-clause-becomes g c =
    let ls : List LinkedNode = c.args.nodes.now.items in
    let alone : parent_at (nodes_of ls) c.args.leaf ≡ None = sym (parent_shown ls c.args.leaf) ∙ sym c.parent_of-parent.ensures ∙ c.in_default.is in
    rw c.write_leaf.ensures.nodes (leaf_alone ls c.requires.stored c.args.leaf (content_of c.args.kind) (omega (arith, c.requires.in_tree, c.args.nodes.now.ok.0)) c.requires.leaf alone).1

pub returns-in_default-clause-stored : goal.returns-in_default-clause-stored
returns-in_default-clause-stored g c =
    let ls : List LinkedNode = c.args.nodes.now.items in
    let alone : parent_at (nodes_of ls) c.args.leaf ≡ None = sym (parent_shown ls c.args.leaf) ∙ sym c.parent_of-parent.ensures ∙ c.in_default.is in
    rw c.write_leaf.ensures.nodes (leaf_alone ls c.requires.stored c.args.leaf (content_of c.args.kind) (omega (arith, c.requires.in_tree, c.args.nodes.now.ok.0)) c.requires.leaf alone).0

pub count_out-requires-clause-in_tree : goal.count_out-requires-clause-in_tree
count_out-requires-clause-in_tree g c =
    let ls : List LinkedNode = c.args.nodes.now.items in
    let said : parent_at (nodes_of ls) c.args.leaf ≡ Some c.in-Some.c = sym (parent_shown ls c.args.leaf) ∙ sym c.parent_of-parent.ensures ∙ c.in-Some.is in
    omega (arith, parent_there ls c.requires.stored c.args.leaf (content_of c.args.kind) (omega (arith, c.requires.in_tree, c.args.nodes.now.ok.0)) c.requires.leaf c.in-Some.c said, ap length c.write_leaf.ensures.nodes, c.write_leaf.new.nodes.ok.0)

pub count_out-requires-clause-counted : goal.count_out-requires-clause-counted
count_out-requires-clause-counted g c = λ h.
    let ls : List LinkedNode = c.args.nodes.now.items in
    let said : parent_at (nodes_of ls) c.args.leaf ≡ Some c.in-Some.c = sym (parent_shown ls c.args.leaf) ∙ sym c.parent_of-parent.ensures ∙ c.in-Some.is in
    rw c.write_leaf.ensures.nodes (was_counted ls c.requires.stored c.args.leaf (content_of c.args.kind) (omega (arith, c.requires.in_tree, c.args.nodes.now.ok.0)) c.requires.leaf c.in-Some.c said c.is_newline-was.result c.is_newline-is.result c.is_newline-was.ensures c.is_newline-is.ensures h)

pub count_in-requires-clause-in_tree : goal.count_in-requires-clause-in_tree
count_in-requires-clause-in_tree g c =
    let ls : List LinkedNode = c.args.nodes.now.items in
    let said : parent_at (nodes_of ls) c.args.leaf ≡ Some c.in-Some.c = sym (parent_shown ls c.args.leaf) ∙ sym c.parent_of-parent.ensures ∙ c.in-Some.is in
    omega (arith, parent_there ls c.requires.stored c.args.leaf (content_of c.args.kind) (omega (arith, c.requires.in_tree, c.args.nodes.now.ok.0)) c.requires.leaf c.in-Some.c said, ap length c.write_leaf.ensures.nodes, c.write_leaf.new.nodes.ok.0, c.count_out.ensures.len)

pub count_in-requires-clause-fits : goal.count_in-requires-clause-fits
count_in-requires-clause-fits g c =
    let ls : List LinkedNode = c.args.nodes.now.items in
    let said : parent_at (nodes_of ls) c.args.leaf ≡ Some c.in-Some.c = sym (parent_shown ls c.args.leaf) ∙ sym c.parent_of-parent.ensures ∙ c.in-Some.is in
    let is : c.count_out.new.nodes.items ≡ counted_out (leaf_set ls c.args.leaf (content_of c.args.kind)) c.in-Some.c c.is_newline-was.result = c.count_out.ensures.nodes ∙ ap (λ l. counted_out l c.in-Some.c c.is_newline-was.result) c.write_leaf.ensures.nodes in
    rw is (few_counted ls c.requires.stored c.args.leaf (content_of c.args.kind) (omega (arith, c.requires.in_tree, c.args.nodes.now.ok.0)) c.requires.leaf c.in-Some.c said c.is_newline-was.result c.is_newline-is.result c.is_newline-was.ensures c.is_newline-is.ensures)

pub returns-clause-becomes : goal.returns-clause-becomes
returns-clause-becomes g c =
    let ls : List LinkedNode = c.args.nodes.now.items in
    let said : parent_at (nodes_of ls) c.args.leaf ≡ Some c.in-Some.c = sym (parent_shown ls c.args.leaf) ∙ sym c.parent_of-parent.ensures ∙ c.in-Some.is in
    let is : c.count_in.new.nodes.items ≡ counted_in (counted_out (leaf_set ls c.args.leaf (content_of c.args.kind)) c.in-Some.c c.is_newline-was.result) c.in-Some.c c.is_newline-is.result = c.count_in.ensures.nodes ∙ ap (λ l. counted_in l c.in-Some.c c.is_newline-is.result) (c.count_out.ensures.nodes ∙ ap (λ l. counted_out l c.in-Some.c c.is_newline-was.result) c.write_leaf.ensures.nodes) in
    rw is (leaf_counted ls c.requires.stored c.args.leaf (content_of c.args.kind) (omega (arith, c.requires.in_tree, c.args.nodes.now.ok.0)) c.requires.leaf c.in-Some.c said c.is_newline-was.result c.is_newline-is.result c.is_newline-was.ensures c.is_newline-is.ensures).1

pub returns-clause-stored : goal.returns-clause-stored
returns-clause-stored g c =
    let ls : List LinkedNode = c.args.nodes.now.items in
    let said : parent_at (nodes_of ls) c.args.leaf ≡ Some c.in-Some.c = sym (parent_shown ls c.args.leaf) ∙ sym c.parent_of-parent.ensures ∙ c.in-Some.is in
    let is : c.count_in.new.nodes.items ≡ counted_in (counted_out (leaf_set ls c.args.leaf (content_of c.args.kind)) c.in-Some.c c.is_newline-was.result) c.in-Some.c c.is_newline-is.result = c.count_in.ensures.nodes ∙ ap (λ l. counted_in l c.in-Some.c c.is_newline-is.result) (c.count_out.ensures.nodes ∙ ap (λ l. counted_out l c.in-Some.c c.is_newline-was.result) c.write_leaf.ensures.nodes) in
    rw is (leaf_counted ls c.requires.stored c.args.leaf (content_of c.args.kind) (omega (arith, c.requires.in_tree, c.args.nodes.now.ok.0)) c.requires.leaf c.in-Some.c said c.is_newline-was.result c.is_newline-is.result c.is_newline-was.ensures c.is_newline-is.ensures).0
