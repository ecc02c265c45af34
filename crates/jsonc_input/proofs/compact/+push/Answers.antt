use Rattle.std.proofs.Common.{◌≡◌, ◌∙◌, ◌∷◌, ◌++◌, [], ap, sym, subst, IfOk, false, arith, encode_utf8, encode_utf8_all, string_bytes, chars}
use Rattle.std.proofs.lemmas.Str.{encodes-chars, IsUtf8-string_bytes}
use Rattle.std.proofs.lemmas.List.{append-nil}
use Rattle.jsonc_text.specs.Plain.{array, object}
use Rattle.jsonc_text.specs.Spelling.{spelled}
use Rattle.jsonc_layout.specs.input.Views.{plain, chars_of, items_plain, members_plain}
use Rattle.jsonc_input.specs.Compact.{Appends, compact, compact_items, compact_members}
use Rattle.jsonc_layout.proofs.lemmas.from_input.ValueLevels.{plain-Array, plain-Object, plain-Number}
use Rattle.jsonc_input.proofs.Compacting.{on_ok, part_smaller, appends_then, leads_start, leads_more, leads_end, item_at, items_end, member_at, members_end, pair}
use Rattle.jsonc_input.proofs.compact.+push.Goals as goal

pub push_elements-loop-place-init : goal.push_elements-loop-place-init
push_elements-loop-place-init g t c = leads_start _ _

pub push_elements-loop-place-preserved : goal.push_elements-loop-place-preserved
push_elements-loop-place-preserved g t c =
    leads_more c.args.text.now c.loop-place.text c.push_value.new.text _ _ _ _ c.loop-place.invariant
    (item_at c.loop-place.apart c.args.elements.now c.loop-place.place c.index-elements-place.result c.loop-place-test.true c.index-elements-place.is)
    (appends_then c.loop-place.text c.push_comma_if.new.text c.push_value.new.text _ _ c.in_ok-push_comma_if.ensures c.in_ok-push_value.ensures)

pub push_properties-loop-place-init : goal.push_properties-loop-place-init
push_properties-loop-place-init g t c = leads_start _ _

pub push_properties-push_value-requires : goal.push_properties-push_value-requires
push_properties-push_value-requires g t c κs within = (part_smaller _ c.args.properties.now c.loop-place.place c.index-properties-place.result _ t _ _ c.decreases c.loop-place-test.true c.index-properties-place.is (omega arith), within)

pub push_properties-loop-place-preserved : goal.push_properties-loop-place-preserved
push_properties-loop-place-preserved g t c =
    let start = c.push_comma_if.new.text in
    let named = subst (λ s. Appends start c.push_string.new.text (spelled (chars s))) c.as_str.ensures.value c.in_ok-push_string.ensures in
    let coloned = c.in_ok-push.ensures.bytes ∙ ap (λ b. string_bytes c.push_string.new.text ++ b) (sym (append-nil (encode_utf8 0x3A))) in
    let name = c.push_string.new.text in
    let colon = c.push.new.self in
    let end = c.push_value.new.text in
    leads_more c.args.text.now c.loop-place.text end _ _ _ _ c.loop-place.invariant
    (member_at c.loop-place.apart c.args.properties.now c.loop-place.place c.index-properties-place.result c.loop-place-test.true c.index-properties-place.is)
    (appends_then c.loop-place.text start end _ (pair c.index-properties-place.result) c.in_ok-push_comma_if.ensures
    (appends_then start name end (spelled (chars_of c.index-properties-place.result.0)) (0x3A ∷ compact (plain c.index-properties-place.result.1)) named
    (appends_then name colon end (0x3A ∷ []) (compact (plain c.index-properties-place.result.1)) coloned c.in_ok-push_value.ensures)))

pub push_array-returns : goal.push_array-returns
push_array-returns g t c =
    on_ok c.push-2.result _ _ _ _
    (λ closed. appends_then c.args.text.now c.push_elements.new.text c.push-2.new.self (0x5B ∷ compact_items false (items_plain c.args.elements.now)) (0x5D ∷ [])
    (appends_then c.args.text.now c.push.new.self c.push_elements.new.text (0x5B ∷ []) (compact_items false (items_plain c.args.elements.now))
    (c.in_ok-push.ensures.bytes ∙ ap (λ b. string_bytes c.args.text.now ++ b) (sym (append-nil (encode_utf8 0x5B)))) c.in_ok-push_elements.ensures)
    (closed ∙ ap (λ b. string_bytes c.push_elements.new.text ++ b) (sym (append-nil (encode_utf8 0x5D))))) c.push-2.ensures.bytes

pub push_object-returns : goal.push_object-returns
push_object-returns g t c =
    on_ok c.push-2.result _ _ _ _
    (λ closed. appends_then c.args.text.now c.push_properties.new.text c.push-2.new.self (0x7B ∷ compact_members false (members_plain c.args.properties.now)) (0x7D ∷ [])
    (appends_then c.args.text.now c.push.new.self c.push_properties.new.text (0x7B ∷ []) (compact_members false (members_plain c.args.properties.now))
    (c.in_ok-push.ensures.bytes ∙ ap (λ b. string_bytes c.args.text.now ++ b) (sym (append-nil (encode_utf8 0x7B)))) c.in_ok-push_properties.ensures)
    (closed ∙ ap (λ b. string_bytes c.push_properties.new.text ++ b) (sym (append-nil (encode_utf8 0x7D))))) c.push-2.ensures.bytes

pub push_value-returns-in-Number : goal.push_value-returns-in-Number
push_value-returns-in-Number g t c =
    on_ok c.push_str-in-Number.result _ _ _ _
    (λ h. h ∙ ap (λ b. string_bytes c.args.text.now ++ b)
    (c.as_str.ensures.value ∙ sym (encodes-chars (string_bytes c.in-Number.number) (IsUtf8-string_bytes c.in-Number.number)) ∙ ap (λ v. encode_utf8_all (compact v)) (sym (ap plain c.in-Number.is ∙ plain-Number c.in-Number.number))))
    c.push_str-in-Number.ensures.bytes

pub push_value-returns-in-Array : goal.push_value-returns-in-Array
push_value-returns-in-Array g t c =
    subst (λ v. IfOk c.push_array.result (λ x. Appends c.args.text.now c.push_array.new.text (compact v)))
    (ap (λ xs. array (items_plain xs)) c.as_slice.ensures.value ∙ sym (ap plain c.in-Array.is ∙ plain-Array c.in-Array.elements)) c.push_array.ensures

pub push_value-returns-in-Object : goal.push_value-returns-in-Object
push_value-returns-in-Object g t c =
    subst (λ v. IfOk c.push_object.result (λ x. Appends c.args.text.now c.push_object.new.text (compact v)))
    (ap (λ ps. object (members_plain ps)) c.as_slice-in-Object.ensures.value ∙ sym (ap plain c.in-Object.is ∙ plain-Object c.in-Object.properties)) c.push_object.ensures
