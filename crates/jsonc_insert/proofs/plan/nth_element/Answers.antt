use Rattle.std.proofs.Common.{◌∙◌, sym, ap, rules}
use Rattle.std.proofs.lemmas.Iterator.{YieldsList-from_slice}
use Rattle.std.proofs.lemmas.Iterator.Consumers.{nth_from_yields_List, YieldsList-from_copied, YieldsList-from_filter}
use Rattle.std.specs.Iterator.Adapters.{copied_source}
use Rattle.std.specs.Slice.Iter.{iter_rest}
use Rattle.jsonc_layout.specs.nodes.Kinds.{is_element_at}
use Rattle.jsonc_layout.proofs.lemmas.nodes.Rows.{option_map_same}
use Rattle.jsonc_insert.proofs.plan.nth_element.Goals as goal

pub returns : goal.returns
returns g c =
    let ns = c.args.tree.now.nodes in
    let row = YieldsList-from_copied (YieldsList-from_slice c.args.row.now (ap (λ i. iter_rest (copied_source i)) c.filter.ensures.source ∙ ap iter_rest c.copied.ensures.source ∙ c.iter.ensures.rest)) in
    record {
      element = sym (option_map_same c.nth.result)
          ∙ nth_from_yields_List c.nth.result c.nth.new.self c.args.index c.nth.ensures.ran
          (YieldsList-from_filter _ (is_element_at ns) row c.filter.ensures.closure (λ x b q k. search rules));
    }
