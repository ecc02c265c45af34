use Rattle.jsonc_cst.specs.Nodes.{number_of}
use Rattle.jsonc_cst.proofs.lemmas.typed.Commented.{comment_elsewhere, comment_inserted, comment_stays, comment_step}
use Rattle.jsonc_cst.proofs.lemmas.typed.HandlesKept.{nodes_stay}
use Rattle.jsonc_cst.proofs.cst.node.CstNode.insert_comment.Goals as goal

pub returns : goal.returns
returns g c =
    let old = c.args.doc.now.tree in
    let new = c.insert_comment.new.tree in
    let n = number_of c.args.self in
    let text = c.args.text.now in
    let place = c.args.place in
    let r = c.insert_comment.result in
    let said = rw c.number.ensures at c.insert_comment.ensures in
    record {
      inserted = comment_inserted old.nodes new.nodes place n text r said.may said.come;
      step = comment_step old.nodes new.nodes place n text old.tree new.tree c.utf8.text r said.may said.come;
      written = said.written;
      among = said.among;
      detached = comment_elsewhere old.nodes new.nodes place n text old.tree new.tree r said.may said.come;
      error = said.error;
      handles = nodes_stay old.nodes new.nodes (comment_stays old.nodes new.nodes place n text r said.may said.come said.kept);
      kept = said.kept;
      document = said.document;
    }
