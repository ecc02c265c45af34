use Rattle.std.proofs.Common.{◌∙◌, sym, ap, map, arith}
use denote.Param.Weighed.{most}
use Rattle.jsonc_value.specs.Contents.{content, named_contents, array, object}
use Rattle.jsonc_value.specs.Kinds.{properties}
use Rattle.jsonc_value.specs.declared.value.JsonValue.{size-JsonValue}
use Rattle.jsonc_value.proofs.Contents.{content-Array, content-Object, same_texts, one_pair_copied, size-pair, one_copied, all_copied, size-in-array, size-of-array, size-of-object, size-element}
use Rattle.jsonc_value.proofs.value.+copy.Goals as goal

pub JsonValue::try_clone-returns-in_ok-try_clone-in-Object-clause-value : goal.JsonValue::try_clone-returns-in_ok-try_clone-in-Object-clause-value
JsonValue::try_clone-returns-in_ok-try_clone-in-Object-clause-value g t c =
    content-Object c.in_ok-try_clone-in-Object.field-0 ∙ ap object c.in_ok-try_clone-in-Object.ensures.value ∙ sym (content-Object c.in-Object.object) ∙ ap content (sym c.in-Object.is)

pub JsonValue::try_clone-returns-in_ok-try_clone-in-Array-clause-value : goal.JsonValue::try_clone-returns-in_ok-try_clone-in-Array-clause-value
JsonValue::try_clone-returns-in_ok-try_clone-in-Array-clause-value g t c =
    content-Array c.in_ok-try_clone-in-Array.field-0 ∙ ap array c.in_ok-try_clone-in-Array.ensures.value ∙ sym (content-Array c.in-Array.array) ∙ ap content (sym c.in-Array.is)

pub copies::copy_all-loop-value-preserved : goal.copies::copy_all-loop-value-preserved
copies::copy_all-loop-value-preserved g t c =
    one_copied c.args.values.now c.loop-value.copies.items c.push.new.self.items c.loop-value.value-index c.value-item.result c.in_ok-try_clone.field-0 c.loop-value.invariant c.loop-value-test.true c.value-item.is c.in_ok-try_clone.ensures.value c.in_ok-push.ensures.items

pub JsonValue::try_clone-try_clone-requires : goal.JsonValue::try_clone-try_clone-requires
JsonValue::try_clone-try_clone-requires g t c κs within =
    (omega (arith, size-of-object g.row.A.Denot c.in-Object.object, ap (λ x. size-JsonValue g.row.A.Denot x) c.in-Object.is), within)

pub JsonValue::try_clone-try_clone-requires-in-Array : goal.JsonValue::try_clone-try_clone-requires-in-Array
JsonValue::try_clone-try_clone-requires-in-Array g t c κs within =
    (omega (arith, size-of-array g.row.A.Denot c.in-Array.array, ap (λ x. size-JsonValue g.row.A.Denot x) c.in-Array.is), within)

pub JsonValue::try_clone-returns-in-Number-clause-value : goal.JsonValue::try_clone-returns-in-Number-clause-value
JsonValue::try_clone-returns-in-Number-clause-value g t c =
    ap content (sym c.in-Number.is)

pub JsonValue::try_clone-returns-in-Boolean-clause-value : goal.JsonValue::try_clone-returns-in-Boolean-clause-value
JsonValue::try_clone-returns-in-Boolean-clause-value g t c =
    ap content (sym c.in-Boolean.is)

pub JsonValue::try_clone-returns-in-Null-clause-value : goal.JsonValue::try_clone-returns-in-Null-clause-value
JsonValue::try_clone-returns-in-Null-clause-value g t c =
    ap content (sym c.in-Null.is)

pub JsonArray::try_clone-copy_all-requires : goal.JsonArray::try_clone-copy_all-requires
JsonArray::try_clone-copy_all-requires g t c κs within =
    (omega (arith, size-in-array g.row.A.Denot c.args.self.now, ap (λ xs. most (λ x. size-JsonValue g.row.A.Denot x) xs) c.as_slice.ensures.value), within)

pub copies::copy_all-loop-value-init : goal.copies::copy_all-loop-value-init
copies::copy_all-loop-value-init g t c =
    ap (map content) c.in_ok-copies.ensures.items

pub copies::copy_all-try_clone-requires : goal.copies::copy_all-try_clone-requires
copies::copy_all-try_clone-requires g t c κs within =
    (omega (arith, size-element g.row.A.Denot c.args.values.now c.loop-value.value-index c.value-item.result c.loop-value-test.true c.value-item.is), within)

pub copies::copy_all-loop-value-smaller : goal.copies::copy_all-loop-value-smaller
copies::copy_all-loop-value-smaller g t c =
    omega (arith, c.loop-value-test.true)

pub copies::copy_all-returns-clause-values : goal.copies::copy_all-returns-clause-values
copies::copy_all-returns-clause-values g t c =
    all_copied c.args.values.now c.loop-value.copies.items c.loop-value.value-index c.loop-value-test.false c.loop-value.invariant

pub JsonObject::try_clone-with_copies-requires-clause-keys : goal.JsonObject::try_clone-with_copies-requires-clause-keys
JsonObject::try_clone-with_copies-requires-clause-keys g t c =
    same_texts (properties c.args.self.now) c.in_ok-copies.copies.items (c.in_ok-copies.ensures ∙ ap named_contents c.pairs_slice.ensures)

pub copies::copy_pairs-try_clone-requires : goal.copies::copy_pairs-try_clone-requires
copies::copy_pairs-try_clone-requires g t c κs within =
    (omega (arith, size-pair g.row.A.Denot c.args.pairs.now c.loop-name.name-index c.loop-name-item.result c.loop-name-test.true c.loop-name-item.is), within)

pub copies::copy_pairs-loop-name-preserved : goal.copies::copy_pairs-loop-name-preserved
copies::copy_pairs-loop-name-preserved g t c =
    one_pair_copied c.args.pairs.now c.loop-name.copies.items c.push.new.self.items c.loop-name.name-index c.loop-name-item.result (c.in_ok-clone.field-0, c.in_ok-try_clone.field-0)
    c.loop-name.invariant c.loop-name-test.true c.loop-name-item.is c.in_ok-clone.ensures.cases c.in_ok-try_clone.ensures.value c.in_ok-push.ensures.items
