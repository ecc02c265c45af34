use Rattle.std.proofs.Common.{◌≡◌, true, false, ap, subst, sym, ◌∙◌}
use Rattle.std.proofs.lemmas.Bool.{false≢true}
use Rattle.jsonc_layout.specs.input.Views.{plain}
use Rattle.jsonc_edit.specs.Reading.{IsReplaced, IsReplacedRaw}
use Rattle.jsonc_cst.specs.Nodes.{number_of}
use Rattle.jsonc_cst.specs.typed.Edits.{is_name_in, IsReplacedAs}
use Rattle.jsonc_cst.specs.typed.Steps.{IsValueIn}
use Rattle.jsonc_cst.proofs.lemmas.typed.HandlesKept.{as_typed, nodes_stay, raw_there, replaced_there, stay_raw, stay_replaced}
use Rattle.jsonc_cst.proofs.lemmas.typed.Marked.{replaced_marked}
use Rattle.jsonc_cst.proofs.lemmas.typed.Around.{replaced_around}
use Rattle.jsonc_run.proofs.DetachedNodes.{raw_elsewhere, replaced_elsewhere}
use Rattle.jsonc_cst.proofs.lemmas.typed.Detached.{raw_nobodys, replaced_nobodys}
use Rattle.jsonc_cst.proofs.lemmas.typed.Places.{value_unnamed}
use Rattle.jsonc_cst.proofs.lemmas.typed.Steps.{replaced_step}
use Rattle.jsonc_layout.proofs.lemmas.from_input.Texts.{of_texts}
use Rattle.jsonc_cst.proofs.typed.replacing.replace_with.Goals as goal

pub node_at-requires : goal.node_at-requires
node_at-requires g c =
    raw_there c.args.doc.now.tree.nodes c.replace_name.new.tree.nodes c.number-number.result (plain c.args.value) c.in-Some-2.raw (rw c.in-Some-2.is at c.in_ok-raw.ensures.replaced)

pub returns-then-is_name_in : goal.returns-then-is_name_in
returns-then-is_name_in g c =
    let old = c.args.doc.now.tree.nodes in
    let tree = c.args.doc.now.tree.tree in
    let new = c.replace_name.new.tree.nodes in
    let after = c.replace_name.new.tree.tree in
    let node = g.N.TypedNode.node_of c.args.node in
    let n = number_of node in
    let v = plain c.args.value in
    let m = c.in-Some-2.raw in
    let same : c.number-number.result ≡ n = c.number-number.ensures ∙ ap number_of c.node.ensures in
    let given = rw (c.in-Some-2.is, same) at c.in_ok-raw.ensures.replaced in
    let named : is_name_in old n ≡ true = ap (is_name_in old) (sym same) ∙ sym c.is_name_in.ensures ∙ c.if-is_name_in.true in
    let other : is_name_in old n ≡ false → ⊥ = λ e. false≢true (sym e ∙ named) in
    record {
      replaced = subst (λ b. IsReplacedAs b old new n v (number_of c.node_at.result)) (sym named) (as_typed (IsReplacedRaw old new n v) new m c.node_at.result c.node_at.ensures.node given);
      marked = λ e. absurd (other e);
      around = λ e. absurd (other e);
      step = λ is. absurd (other (value_unnamed old n (subst (IsValueIn old) (sym c.requires.1) is)));
      detached = raw_elsewhere old tree new n m v after given;
      gone = raw_nobodys old new n m tree after v given;
      none = tt;
      untouched = tt;
      in_document = c.node_at.ensures.in_document;
      handles = nodes_stay old new (stay_raw old new n v m given);
      memory = tt;
      child = tt;
      kept = tt;
      document = tt;
    }

pub node_at-requires-2 : goal.node_at-requires-2
node_at-requires-2 g c =
    replaced_there c.args.doc.now.tree.nodes c.replace.new.tree.nodes c.number-number.result (plain c.args.value) c.in-Some-3.new (rw c.in-Some-3.is at c.in_ok-new.ensures.replaced)

pub returns : goal.returns
returns g c =
    let old = c.args.doc.now.tree.nodes in
    let tree = c.args.doc.now.tree.tree in
    let new = c.replace.new.tree.nodes in
    let after = c.replace.new.tree.tree in
    let node = g.N.TypedNode.node_of c.args.node in
    let n = number_of node in
    let v = plain c.args.value in
    let m = c.in-Some-3.new in
    let same : c.number-number.result ≡ n = c.number-number.ensures ∙ ap number_of c.node.ensures in
    let given = rw (c.in-Some-3.is, same) at c.in_ok-new.ensures.replaced in
    let unnamed : is_name_in old n ≡ false = ap (is_name_in old) (sym same) ∙ sym c.is_name_in.ensures ∙ c.if-is_name_in.false in
    record {
      replaced = subst (λ b. IsReplacedAs b old new n v (number_of c.node_at-2.result)) (sym unnamed) (as_typed (IsReplaced old new n v) new m c.node_at-2.result c.node_at-2.ensures.node given);
      marked = λ e. replaced_marked old new v tree n m given;
      around = λ e. replaced_around old new v tree n m given;
      step = λ is. replaced_step old new tree after n m v (of_texts _ c.args.value) given (subst (IsValueIn old) (sym c.requires.1) is);
      detached = replaced_elsewhere old tree new n m v after given;
      gone = replaced_nobodys old new n m tree after v given;
      none = tt;
      untouched = tt;
      in_document = c.node_at-2.ensures.in_document;
      handles = nodes_stay old new (stay_replaced old new n v m given);
      memory = tt;
      child = tt;
      kept = tt;
      document = tt;
    }
