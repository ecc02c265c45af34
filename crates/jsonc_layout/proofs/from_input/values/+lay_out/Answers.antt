use Rattle.std.proofs.Common.{◌∙◌, ap, sym, subst, refl, chars, arith}
use Rattle.jsonc_text.specs.Plain.{array, number, object, string}
use Rattle.jsonc_tree.specs.OrderedTree.{none}
use Rattle.jsonc_tree.specs.Building.{Builds}
use Rattle.jsonc_tree.specs.Stored.{content_of}
use Rattle.jsonc_tree.specs.Content as content
use Rattle.jsonc_tree.proofs.Builder.{Keeps-same}
use Rattle.jsonc_layout.specs.input.Views.{plain, items_plain, members_plain}
use Rattle.jsonc_layout.specs.from_input.Layout.{layout_of}
use Rattle.jsonc_layout.specs.from_input.Extending.{Extends, IsUnfinished}
use Rattle.jsonc_layout.specs.from_input.Laid.{laid, laid_items, laid_members, laid_property, leaf_then, node_then, on_lines, closed}
use Rattle.jsonc_layout.proofs.lemmas.from_input.Extending.{on_ok, begun_same, built_on, can_append, extends_appends, extends_none, extends_same, extends_then, keeps_apart, keeps_appends, keeps_both, keeps_old}
use Rattle.jsonc_layout.proofs.lemmas.from_input.Leaves.{leaf_built, built_as}
use Rattle.jsonc_layout.proofs.lemmas.from_input.Rows.{lines_at, line_at, properties_at, lines_none, line_none, properties_past, line_written, among_written, written_start, written_end, pair_laid, elements_then, properties_then, elements_flat, elements_spread, properties_spread, properties_none}
use Rattle.jsonc_layout.proofs.lemmas.from_input.ValueLevels.{plain-Array, plain-Object, plain-Null, plain-Bool, plain-Number, plain-String, length_none, length_some, part_smaller}
use Rattle.jsonc_layout.proofs.from_input.values.+lay_out.Goals as goal

pub lay_out-returns-in-Null-clause-built : goal.lay_out-returns-in-Null-clause-built
lay_out-returns-in-Null-clause-built g t c =
    built_as _ _ (layout_of c.args.layout.now) c.add.result (sym (ap plain c.in-Null.is ∙ plain-Null g.row.A.Denot))
    (leaf_built _ _ content.null content.null c.add.result refl c.add.new.self.tree c.add.ensures.number c.add.ensures.added)

pub lay_out-returns-in-Bool-clause-built : goal.lay_out-returns-in-Bool-clause-built
lay_out-returns-in-Bool-clause-built g t c =
    let b = c.in-Bool.value in
    built_as _ _ (layout_of c.args.layout.now) c.add-in-Bool.result (sym (ap plain c.in-Bool.is ∙ plain-Bool g.row.A.Denot b))
    (leaf_built _ _ (content.boolean b) (content.boolean b) c.add-in-Bool.result refl c.add-in-Bool.new.self.tree c.add-in-Bool.ensures.number c.add-in-Bool.ensures.added)

pub lay_out-returns-in-Array-clause-built : goal.lay_out-returns-in-Array-clause-built
lay_out-returns-in-Array-clause-built g t c =
    built_as _ _ (layout_of c.args.layout.now) c.lay_out_array.result
    (ap (λ xs. array (items_plain xs)) c.as_slice.ensures.value ∙ sym (ap plain c.in-Array.is ∙ plain-Array c.in-Array.elements)) c.lay_out_array.ensures.built

pub lay_out-returns-in-Object-clause-built : goal.lay_out-returns-in-Object-clause-built
lay_out-returns-in-Object-clause-built g t c =
    built_as _ _ (layout_of c.args.layout.now) c.lay_out_object.result
    (ap (λ ps. object (members_plain ps)) c.as_slice-in-Object.ensures.value ∙ sym (ap plain c.in-Object.is ∙ plain-Object c.in-Object.properties)) c.lay_out_object.ensures.built

pub lay_out_array-returns-clause-built : goal.lay_out_array-returns-clause-built
lay_out_array-returns-clause-built g t c =
    subst (λ row. Builds c.args.tree.now.nodes c.push_leaf.new.tree.nodes c.in_ok-array.array content.array (leaf_then (content.token 0x5B) row))
    (elements_then (layout_of c.args.layout.now) (items_plain c.args.elements.now) (closed 0x5D))
    (built_on (built_on (begun_same (ap content_of c.token.ensures) c.in_ok-array.ensures.built) c.in_ok-push_elements.ensures.added) (extends_same (ap content_of c.token-2.ensures) c.in_ok-push_leaf.ensures.added))

pub lay_out_array-returns-clause-kept : goal.lay_out_array-returns-clause-kept
lay_out_array-returns-clause-kept g t c = keeps_old c.in_ok-array.ensures.built (keeps_both c.in_ok-push_elements.ensures.kept c.in_ok-push_leaf.ensures.kept)

pub lay_out_array-returns-in_err-push_leaf-clause-kept : goal.lay_out_array-returns-in_err-push_leaf-clause-kept
lay_out_array-returns-in_err-push_leaf-clause-kept g t c = keeps_old c.in_ok-array.ensures.built (keeps_both c.in_ok-push_elements.ensures.kept c.in_err-push_leaf.ensures.kept)

pub lay_out_object-returns-clause-built : goal.lay_out_object-returns-clause-built
lay_out_object-returns-clause-built g t c =
    subst (λ row. Builds c.args.tree.now.nodes c.push_leaf.new.tree.nodes c.in_ok-object.object content.object (leaf_then (content.token 0x7B) row))
    (properties_then (layout_of c.args.layout.now) (members_plain c.args.properties.now) (closed 0x7D))
    (built_on (built_on (begun_same (ap content_of c.token.ensures) c.in_ok-object.ensures.built) c.in_ok-push_properties.ensures.added) (extends_same (ap content_of c.token-2.ensures) c.in_ok-push_leaf.ensures.added))

pub lay_out_object-returns-clause-kept : goal.lay_out_object-returns-clause-kept
lay_out_object-returns-clause-kept g t c = keeps_old c.in_ok-object.ensures.built (keeps_both c.in_ok-push_properties.ensures.kept c.in_ok-push_leaf.ensures.kept)

pub lay_out_property-returns-clause-built : goal.lay_out_property-returns-clause-built
lay_out_property-returns-clause-built g t c = built_on (built_on c.in_ok-property.ensures.built c.in_ok-push_spaced.ensures.added) c.in_ok-push_value.ensures.added

pub push_elements-returns-clause-added : goal.push_elements-returns-clause-added
push_elements-returns-clause-added g t c =
    let layout = layout_of c.args.layout.now in
    let vs = items_plain c.args.elements.now in
    let old = c.args.tree.now.nodes in
    let lines = subst (λ l. Extends old c.push_elements_on_lines.new.tree.nodes c.args.array (on_lines l (laid_items l vs) none)) c.in_ok-deeper.ensures c.in_ok-push_elements_on_lines.ensures.added in
    on_ok c.begin_line.result
    (λ next. subst (Extends old c.begin_line.new.tree.nodes c.args.array) (elements_spread layout vs (sym c.holds_filled.ensures ∙ c.if-not-holds_filled.false)) (extends_then lines next))
    c.begin_line.ensures.added

pub push_elements-returns-clause-kept : goal.push_elements-returns-clause-kept
push_elements-returns-clause-kept g t c = keeps_both c.in_ok-push_elements_on_lines.ensures.kept c.begin_line.ensures.kept

pub push_elements_on_lines-loop-place-init : goal.push_elements_on_lines-loop-place-init
push_elements_on_lines-loop-place-init g t c = written_start _ c.requires

pub push_elements_on_lines-returns-in_err-begin_line-clause-kept : goal.push_elements_on_lines-returns-in_err-begin_line-clause-kept
push_elements_on_lines-returns-in_err-begin_line-clause-kept g t c = keeps_both c.loop-place.invariant.kept c.in_err-begin_line.ensures.kept

pub push_elements_on_lines-returns-in_err-push_value-clause-kept : goal.push_elements_on_lines-returns-in_err-push_value-clause-kept
push_elements_on_lines-returns-in_err-push_value-clause-kept g t c =
    keeps_both (keeps_both c.loop-place.invariant.kept c.in_ok-begin_line.ensures.kept) c.in_err-push_value.ensures.kept

pub push_elements_on_lines-returns-in_err-push_comma_if-clause-kept : goal.push_elements_on_lines-returns-in_err-push_comma_if-clause-kept
push_elements_on_lines-returns-in_err-push_comma_if-clause-kept g t c =
    keeps_both (keeps_both (keeps_both c.loop-place.invariant.kept c.in_ok-begin_line.ensures.kept) c.in_ok-push_value.ensures.kept) c.in_err-push_comma_if.ensures.kept

pub push_elements_on_lines-loop-place-preserved : goal.push_elements_on_lines-loop-place-preserved
push_elements_on_lines-loop-place-preserved g t c =
    let layout = layout_of c.args.layout.now in
    let x = c.index-elements-place.result in
    line_written layout (laid layout (plain x)) c.needs_comma.result c.loop-place.invariant
    (lines_at layout c.args.elements.now c.loop-place.place _ x c.needs_comma.result c.loop-place-test.true c.index-elements-place.is (omega arith) c.needs_comma.ensures)
    c.in_ok-begin_line.ensures.kept c.in_ok-begin_line.ensures.added c.in_ok-push_value.ensures.kept c.in_ok-push_value.ensures.added c.in_ok-push_comma_if.ensures.kept c.in_ok-push_comma_if.ensures.added

pub push_elements_on_lines-returns-clause-added : goal.push_elements_on_lines-returns-clause-added
push_elements_on_lines-returns-clause-added g t c = written_end c.loop-place.invariant (lines_none (layout_of c.args.layout.now) c.args.elements.now c.loop-place.place c.loop-place-test.false)

pub push_elements_on_one_line-loop-place-init : goal.push_elements_on_one_line-loop-place-init
push_elements_on_one_line-loop-place-init g t c = written_start _ c.requires

pub push_elements_on_one_line-returns-in_err-push_value-clause-kept : goal.push_elements_on_one_line-returns-in_err-push_value-clause-kept
push_elements_on_one_line-returns-in_err-push_value-clause-kept g t c = keeps_both c.loop-place.invariant.kept c.in_err-push_value.ensures.kept

pub push_elements_on_one_line-returns-in_err-push_gap_if-clause-kept : goal.push_elements_on_one_line-returns-in_err-push_gap_if-clause-kept
push_elements_on_one_line-returns-in_err-push_gap_if-clause-kept g t c =
    keeps_both (keeps_both c.loop-place.invariant.kept c.in_ok-push_value.ensures.kept) c.in_err-push_gap_if.ensures.kept

pub push_elements_on_one_line-loop-place-preserved : goal.push_elements_on_one_line-loop-place-preserved
push_elements_on_one_line-loop-place-preserved g t c =
    let layout = layout_of c.args.layout.now in
    let x = c.index-elements-place.result in
    among_written (laid layout (plain x)) _ c.loop-place.invariant
    (line_at layout c.args.elements.now c.loop-place.place _ x c.loop-place-test.true c.index-elements-place.is (omega arith))
    c.in_ok-push_value.ensures.kept c.in_ok-push_value.ensures.added c.in_ok-push_gap_if.ensures.kept c.in_ok-push_gap_if.ensures.added

pub push_elements_on_one_line-returns-clause-added : goal.push_elements_on_one_line-returns-clause-added
push_elements_on_one_line-returns-clause-added g t c = written_end c.loop-place.invariant (line_none (layout_of c.args.layout.now) c.args.elements.now c.loop-place.place c.loop-place-test.false)

pub push_properties-returns-then-is_empty-clause-added : goal.push_properties-returns-then-is_empty-clause-added
push_properties-returns-then-is_empty-clause-added g t c =
    subst (Extends c.args.tree.now.nodes c.args.tree.now.nodes c.args.object)
    (properties_none (layout_of c.args.layout.now) c.args.properties.now (length_none _ c.is_empty.result c.is_empty.ensures c.if-is_empty.true)) (extends_none c.requires)

pub push_properties-returns-clause-added : goal.push_properties-returns-clause-added
push_properties-returns-clause-added g t c =
    let layout = layout_of c.args.layout.now in
    let ms = members_plain c.args.properties.now in
    let old = c.args.tree.now.nodes in
    let lines = subst (λ l. Extends old c.push_properties_on_lines.new.tree.nodes c.args.object (on_lines l (laid_members l ms) none)) c.in_ok-deeper.ensures c.in_ok-push_properties_on_lines.ensures.added in
    on_ok c.begin_line.result
    (λ next. subst (Extends old c.begin_line.new.tree.nodes c.args.object) (properties_spread layout c.args.properties.now (length_some _ c.is_empty.result c.is_empty.ensures c.if-is_empty.false)) (extends_then lines next))
    c.begin_line.ensures.added

pub push_properties-returns-clause-kept : goal.push_properties-returns-clause-kept
push_properties-returns-clause-kept g t c = keeps_both c.in_ok-push_properties_on_lines.ensures.kept c.begin_line.ensures.kept

pub push_properties_on_lines-loop-place-init : goal.push_properties_on_lines-loop-place-init
push_properties_on_lines-loop-place-init g t c = written_start _ c.requires

pub push_properties_on_lines-push_property-requires : goal.push_properties_on_lines-push_property-requires
push_properties_on_lines-push_property-requires g t c κs within =
    (part_smaller _ c.args.properties.now c.loop-place.place c.index-properties-place.result _ t _ _ c.decreases c.loop-place-test.true c.index-properties-place.is (omega arith), (within, c.in_ok-begin_line.ensures.added.unfinished))

pub push_properties_on_lines-returns-in_err-begin_line-clause-kept : goal.push_properties_on_lines-returns-in_err-begin_line-clause-kept
push_properties_on_lines-returns-in_err-begin_line-clause-kept g t c = keeps_both c.loop-place.invariant.kept c.in_err-begin_line.ensures.kept

pub push_properties_on_lines-returns-in_err-push_property-clause-kept : goal.push_properties_on_lines-returns-in_err-push_property-clause-kept
push_properties_on_lines-returns-in_err-push_property-clause-kept g t c =
    keeps_both (keeps_both c.loop-place.invariant.kept c.in_ok-begin_line.ensures.kept) c.in_err-push_property.ensures.kept

pub push_properties_on_lines-returns-in_err-push_comma_if-clause-kept : goal.push_properties_on_lines-returns-in_err-push_comma_if-clause-kept
push_properties_on_lines-returns-in_err-push_comma_if-clause-kept g t c =
    keeps_both (keeps_both (keeps_both c.loop-place.invariant.kept c.in_ok-begin_line.ensures.kept) c.in_ok-push_property.ensures.kept) c.in_err-push_comma_if.ensures.kept

pub push_properties_on_lines-loop-place-preserved : goal.push_properties_on_lines-loop-place-preserved
push_properties_on_lines-loop-place-preserved g t c =
    let layout = layout_of c.args.layout.now in
    let p = c.index-properties-place.result in
    let added = subst (λ s. Extends c.begin_line.new.tree.nodes c.push_property.new.tree.nodes c.args.object (node_then (laid_property layout (chars s) (plain p.1)) none)) c.as_str.ensures.value c.in_ok-push_property.ensures.added in
    line_written layout (pair_laid layout p) c.needs_comma.result c.loop-place.invariant
    (properties_at layout c.args.properties.now c.loop-place.place _ p c.needs_comma.result c.loop-place-test.true c.index-properties-place.is (omega arith) c.needs_comma.ensures)
    c.in_ok-begin_line.ensures.kept c.in_ok-begin_line.ensures.added c.in_ok-push_property.ensures.kept added c.in_ok-push_comma_if.ensures.kept c.in_ok-push_comma_if.ensures.added

pub push_properties_on_lines-returns-clause-added : goal.push_properties_on_lines-returns-clause-added
push_properties_on_lines-returns-clause-added g t c = written_end c.loop-place.invariant (properties_past (layout_of c.args.layout.now) c.args.properties.now c.loop-place.place c.loop-place-test.false)

pub push_property-append-requires : goal.push_property-append-requires
push_property-append-requires g t c =
    let unfinished : IsUnfinished c.args.tree.now.nodes c.args.object = assumption c.requires in
    can_append unfinished c.in_ok-node.ensures.built

pub push_property-returns-clause-added : goal.push_property-returns-clause-added
push_property-returns-clause-added g t c =
    let unfinished : IsUnfinished c.args.tree.now.nodes c.args.object = assumption c.requires in
    extends_appends unfinished c.in_ok-node.ensures.built c.append.ensures c.append.new.self.tree

pub push_value-append-requires : goal.push_value-append-requires
push_value-append-requires g t c = can_append c.requires c.in_ok-node.ensures.built

pub push_value-returns-clause-added : goal.push_value-returns-clause-added
push_value-returns-clause-added g t c = extends_appends c.requires c.in_ok-node.ensures.built c.append.ensures c.append.new.self.tree

pub lay_out_object-returns-in_err-push_properties-clause-kept : goal.lay_out_object-returns-in_err-push_properties-clause-kept
lay_out_object-returns-in_err-push_properties-clause-kept g t c = keeps_old c.in_ok-object.ensures.built c.in_err-push_properties.ensures.kept

pub lay_out_object-returns-in_err-push_leaf-clause-kept : goal.lay_out_object-returns-in_err-push_leaf-clause-kept
lay_out_object-returns-in_err-push_leaf-clause-kept g t c = keeps_old c.in_ok-object.ensures.built (keeps_both c.in_ok-push_properties.ensures.kept c.in_err-push_leaf.ensures.kept)

pub lay_out-returns-in-Number-clause-built : goal.lay_out-returns-in-Number-clause-built
lay_out-returns-in-Number-clause-built g t c =
    built_as _ _ (layout_of c.args.layout.now) c.add_number.result
    (ap (λ s. number (chars s)) c.as_str.ensures.value ∙ sym (ap plain c.in-Number.is ∙ plain-Number c.in-Number.text)) c.add_number.ensures.built

pub lay_out-returns-in-String-clause-built : goal.lay_out-returns-in-String-clause-built
lay_out-returns-in-String-clause-built g t c =
    built_as _ _ (layout_of c.args.layout.now) c.add_string.result
    (ap (λ s. string (chars s)) c.as_str-in-String.ensures.value ∙ sym (ap plain c.in-String.is ∙ plain-String c.in-String.text)) c.add_string.ensures.built

pub lay_out_array-returns-in_err-push_elements-clause-kept : goal.lay_out_array-returns-in_err-push_elements-clause-kept
lay_out_array-returns-in_err-push_elements-clause-kept g t c = keeps_old c.in_ok-array.ensures.built c.in_err-push_elements.ensures.kept

pub lay_out_property-returns-in_err-push_spaced-clause-kept : goal.lay_out_property-returns-in_err-push_spaced-clause-kept
lay_out_property-returns-in_err-push_spaced-clause-kept g t c = keeps_old c.in_ok-property.ensures.built c.in_err-push_spaced.ensures.kept

pub lay_out_property-returns-in_err-push_value-clause-kept : goal.lay_out_property-returns-in_err-push_value-clause-kept
lay_out_property-returns-in_err-push_value-clause-kept g t c = keeps_old c.in_ok-property.ensures.built (keeps_both c.in_ok-push_spaced.ensures.kept c.in_err-push_value.ensures.kept)

pub lay_out_property-returns-clause-kept : goal.lay_out_property-returns-clause-kept
lay_out_property-returns-clause-kept g t c = keeps_old c.in_ok-property.ensures.built (keeps_both c.in_ok-push_spaced.ensures.kept c.in_ok-push_value.ensures.kept)

pub push_value-returns-clause-kept : goal.push_value-returns-clause-kept
push_value-returns-clause-kept g t c = keeps_appends c.requires c.in_ok-node.ensures.built c.append.ensures

pub push_value-returns-in_err-node-clause-kept : goal.push_value-returns-in_err-node-clause-kept
push_value-returns-in_err-node-clause-kept g t c = keeps_apart c.requires c.in_err-node.ensures.kept

pub push_property-returns-clause-kept : goal.push_property-returns-clause-kept
push_property-returns-clause-kept g t c =
    let unfinished : IsUnfinished c.args.tree.now.nodes c.args.object = assumption c.requires in
    keeps_appends unfinished c.in_ok-node.ensures.built c.append.ensures

pub push_property-returns-in_err-node-clause-kept : goal.push_property-returns-in_err-node-clause-kept
push_property-returns-in_err-node-clause-kept g t c =
    let unfinished : IsUnfinished c.args.tree.now.nodes c.args.object = assumption c.requires in
    keeps_apart unfinished c.in_err-node.ensures.kept

pub push_elements-returns-then-not-holds_filled-clause-added : goal.push_elements-returns-then-not-holds_filled-clause-added
push_elements-returns-then-not-holds_filled-clause-added g t c =
    let layout = layout_of c.args.layout.now in
    let old = c.args.tree.now.nodes in
    on_ok c.push_elements_on_one_line.result
    (λ line. subst (Extends old c.push_elements_on_one_line.new.tree.nodes c.args.array) (elements_flat layout (items_plain c.args.elements.now) (sym c.holds_filled.ensures ∙ c.if-not-holds_filled.true)) line)
    c.push_elements_on_one_line.ensures.added

pub push_elements-returns-in_err-deeper-clause-kept : goal.push_elements-returns-in_err-deeper-clause-kept
push_elements-returns-in_err-deeper-clause-kept g t c = Keeps-same c.args.array c.args.tree.now.nodes

pub push_properties-returns-in_err-deeper-clause-kept : goal.push_properties-returns-in_err-deeper-clause-kept
push_properties-returns-in_err-deeper-clause-kept g t c = Keeps-same c.args.object c.args.tree.now.nodes

pub push_properties-returns-then-is_empty-clause-kept : goal.push_properties-returns-then-is_empty-clause-kept
push_properties-returns-then-is_empty-clause-kept g t c = Keeps-same c.args.object c.args.tree.now.nodes

pub push_elements_on_lines-push_value-requires : goal.push_elements_on_lines-push_value-requires
push_elements_on_lines-push_value-requires g t c κs within =
    (part_smaller _ c.args.elements.now c.loop-place.place c.index-elements-place.result _ t _ _ c.decreases c.loop-place-test.true c.index-elements-place.is (omega arith), (within, c.in_ok-begin_line.ensures.added.unfinished))

pub push_elements_on_one_line-push_value-requires : goal.push_elements_on_one_line-push_value-requires
push_elements_on_one_line-push_value-requires g t c κs within =
    (part_smaller _ c.args.elements.now c.loop-place.place c.index-elements-place.result _ t _ _ c.decreases c.loop-place-test.true c.index-elements-place.is (omega arith), (within, c.loop-place.invariant.extends.unfinished))
