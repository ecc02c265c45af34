use Rattle.std.proofs.Common.{◌≡◌, ◌∙◌, ◌<◌, ap, arith, chars, get_or, length, sym}
use Rattle.std.proofs.lemmas.Result.{IfOk-weaker}
use Rattle.jsonc_text.specs.Plain.{array, number, object, string}
use Rattle.jsonc_layout.specs.input.Views.{chars_of, items_plain, members_plain, plain}
use Rattle.jsonc_layout.proofs.lemmas.input.ValueLevels.{part_smaller, plain-Array, plain-Number, plain-Object, plain-String}
use Rattle.jsonc_parser.specs.patch.Comparing.{same_by}
use Rattle.jsonc_parser.proofs.lemmas.patch.Equality.{all_equal, all_in, array_told, beq_told, boolean_told, counts_differ, lacks_from, lengths_differ, none_named, null_told, number_told, object_told, objects_told, of_some, one_differs, one_equal, place_named, place_within, plain-Bool, plain-Null, string_told, texts_told, unique_in_array, unique_in_object, unique_item, unique_member, value_differs, value_equal}
use Rattle.jsonc_parser.proofs.patch.equality.+equality.Goals as goal

pub are_elements_equal-returns-then-left-right : goal.are_elements_equal-returns-then-left-right
are_elements_equal-returns-then-left-right g t c = λ _. lengths_differ (same_by c.args.numbers) c.args.left.now c.args.right.now c.if-left-right.true

pub are_elements_equal-returns-then-not-branch : goal.are_elements_equal-returns-then-not-branch
are_elements_equal-returns-then-not-branch g t c = λ unique.
    let i = c.loop-index.index in
    let left : i < length c.args.left.now = c.loop-index-test.true in
    let right : i < length c.args.right.now = omega (arith, left, c.if-left-right.false) in
    let reported = c.in_ok-are_equal.ensures (unique_item c.args.right.now i c.index-right-index.result unique right c.index-right-index.is) in
    one_differs (same_by c.args.numbers) c.args.left.now c.args.right.now i c.index-left-index.result c.index-right-index.result left right c.index-left-index.is c.index-right-index.is
    (c.loop-index.invariant unique) (λ e. reported.0 (c.if-not-branch.true ∙ e), λ h. sym c.if-not-branch.true ∙ reported.1 h)

pub are_elements_equal-loop-index-preserved : goal.are_elements_equal-loop-index-preserved
are_elements_equal-loop-index-preserved g t c = λ unique.
    let i = c.loop-index.index in
    let left : i < length c.args.left.now = c.loop-index-test.true in
    let right : i < length c.args.right.now = omega (arith, left, c.if-left-right.false) in
    let reported = c.in_ok-are_equal.ensures (unique_item c.args.right.now i c.index-right-index.result unique right c.index-right-index.is) in
    one_equal (same_by c.args.numbers) c.args.left.now c.args.right.now i c.index-left-index.result c.index-right-index.result left right c.index-left-index.is c.index-right-index.is
    (c.loop-index.invariant unique) (λ e. reported.0 (c.if-not-branch.false ∙ e), λ h. sym c.if-not-branch.false ∙ reported.1 h)

pub are_elements_equal-returns : goal.are_elements_equal-returns
are_elements_equal-returns g t c = λ unique.
    all_equal (same_by c.args.numbers) c.args.left.now c.args.right.now c.loop-index.index c.if-left-right.false c.loop-index-test.false (c.loop-index.invariant unique)

pub are_equal-returns-in-Null : goal.are_equal-returns-in-Null
are_equal-returns-in-Null g t c = λ _.
    null_told (same_by c.args.numbers) (plain c.args.left.now) (plain c.args.right.now) c.is_null.result (ap plain c.in-Null.is ∙ plain-Null g.row.A.Denot) c.is_null.ensures

pub are_equal-returns-in-Some : goal.are_equal-returns-in-Some
are_equal-returns-in-Some g t c = λ _.
    boolean_told (same_by c.args.numbers) (plain c.args.left.now) (plain c.args.right.now) _ c.in-Bool.left c.in-Some.right (ap plain c.in-Bool.is ∙ plain-Bool g.row.A.Denot c.in-Bool.left) c.in-Some.ensures.some
    (beq_told c.in-Bool.left c.in-Some.right)

pub are_equal-returns-in-Some-number_in : goal.are_equal-returns-in-Some-number_in
are_equal-returns-in-Some-number_in g t c =
    IfOk-weaker c.are_numbers_equal.result _ _
    (λ b d _. number_told (same_by c.args.numbers) (plain c.args.left.now) (plain c.args.right.now) b (chars_of c.in-Number.left) (chars_of c.in-Some-number_in.right.now)
    (ap plain c.in-Number.is ∙ plain-Number c.in-Number.left) c.in-Some-number_in.ensures.some d)
    c.are_numbers_equal.ensures

pub are_equal-returns-in-Some-string_in : goal.are_equal-returns-in-Some-string_in
are_equal-returns-in-Some-string_in g t c = λ _.
    string_told (same_by c.args.numbers) (plain c.args.left.now) (plain c.args.right.now) c.eq.result (chars_of c.in-String.left) (chars_of c.in-Some-string_in.right.now)
    (ap plain c.in-String.is ∙ plain-String c.in-String.left) c.in-Some-string_in.ensures.some
    (texts_told c.in-String.left c.in-Some-string_in.right.now c.as_str.result.now c.as_str-in-Some-string_in.result.now c.eq.result c.as_str.ensures.value c.as_str-in-Some-string_in.ensures.value c.eq.ensures)

pub are_equal-returns-in-Some-elements_in : goal.are_equal-returns-in-Some-elements_in
are_equal-returns-in-Some-elements_in g t c =
    let left : plain c.args.left.now ≡ array (items_plain c.as_slice.result.now) = ap plain c.in-Array.is ∙ plain-Array c.in-Array.left ∙ ap (λ vs. array (items_plain vs)) (sym c.as_slice.ensures.value) in
    IfOk-weaker c.are_elements_equal.result _ _
    (λ b d unique. array_told (same_by c.args.numbers) (plain c.args.left.now) (plain c.args.right.now) b _ _ left c.in-Some-elements_in.ensures.some
    (d (unique_in_array (rw (sym c.in-Some-elements_in.ensures.some) unique))))
    c.are_elements_equal.ensures

pub are_equal-returns-in-Some-members_in : goal.are_equal-returns-in-Some-members_in
are_equal-returns-in-Some-members_in g t c =
    let left : plain c.args.left.now ≡ object (members_plain c.as_slice-in-Some-members_in.result.now) =
    ap plain c.in-Object.is ∙ plain-Object c.in-Object.left ∙ ap (λ ps. object (members_plain ps)) (sym c.as_slice-in-Some-members_in.ensures.value) in
    IfOk-weaker c.are_members_equal.result _ _
    (λ b d unique. object_told (same_by c.args.numbers) (plain c.args.left.now) (plain c.args.right.now) b _ _ left c.in-Some-members_in.ensures.some
    (d (unique_in_object (rw (sym c.in-Some-members_in.ensures.some) unique))))
    c.are_members_equal.ensures

pub are_members_equal-returns-then-left-right : goal.are_members_equal-returns-then-left-right
are_members_equal-returns-then-left-right g t c = λ _. counts_differ (same_by c.args.numbers) c.args.left.now c.args.right.now c.if-left-right.true

pub are_members_equal-returns-in_default-place_of_name :
    goal.are_members_equal-returns-in_default-place_of_name
are_members_equal-returns-in_default-place_of_name g t c = λ unique.
    let left = c.args.left.now in
    let right = c.args.right.now in
    let keys = of_some _ c.in_ok-names.field-0 c.in-Some.names c.in-Some.is c.in_ok-names.ensures.names in
    objects_told (same_by c.args.numbers) left right _ c.if-left-right.false
    (none_named (same_by c.args.numbers) left right c.loop-member.member-index c.member-item.result c.loop-member-test.true c.member-item.is (c.loop-member.invariant unique)
    (lacks_from right c.member-item.result.0 (λ k. c.in_default-place_of_name.ensures.none (rw (keys, c.deref.ensures) k))))

pub are_members_equal-offset_bounds-right-index : goal.are_members_equal-offset_bounds-right-index
are_members_equal-offset_bounds-right-index g t c =
    let keys = of_some _ c.in_ok-names.field-0 c.in-Some.names c.in-Some.is c.in_ok-names.ensures.names in
    omega (arith, place_within c.args.right.now _ _ c.in-Some-place_of_name.index keys c.in-Some-place_of_name.ensures.some)

pub are_members_equal-bounds-right-index : goal.are_members_equal-bounds-right-index
are_members_equal-bounds-right-index g t c =
    let keys = of_some _ c.in_ok-names.field-0 c.in-Some.names c.in-Some.is c.in_ok-names.ensures.names in
    place_within c.args.right.now _ _ c.in-Some-place_of_name.index keys c.in-Some-place_of_name.ensures.some

pub are_members_equal-are_equal-requires : goal.are_members_equal-are_equal-requires
are_members_equal-are_equal-requires g t c κs within =
    (part_smaller _ _ c.loop-member.member-index c.member-item.result _ t c.decreases c.loop-member-test.true c.member-item.is (omega arith), within)

pub are_members_equal-returns-then-not-branch : goal.are_members_equal-returns-then-not-branch
are_members_equal-returns-then-not-branch g t c = λ unique.
    let left = c.args.left.now in
    let right = c.args.right.now in
    let keys = of_some _ c.in_ok-names.field-0 c.in-Some.names c.in-Some.is c.in_ok-names.ensures.names in
    let at = c.in-Some-place_of_name.ensures.some in
    let j = c.in-Some-place_of_name.index in
    let inside = place_within right _ _ j keys at in
    let q = get_or right j c.index-right-index.result in
    let is : q ≡ get_or right j q = ap (λ d. get_or right j d) c.index-right-index.is in
    let named = ap chars (place_named right _ _ j keys at q is ∙ c.deref.ensures) in
    let reported = c.in_ok-are_equal.ensures (unique_member right j q unique inside is) in
    objects_told (same_by c.args.numbers) left right _ c.if-left-right.false
    (value_differs (same_by c.args.numbers) left right c.loop-member.member-index c.member-item.result c.loop-member-test.true c.member-item.is (c.loop-member.invariant unique)
    j q inside is named unique (λ e. reported.0 (c.if-not-branch.true ∙ e), λ h. sym c.if-not-branch.true ∙ reported.1 h))

pub are_members_equal-loop-member-preserved : goal.are_members_equal-loop-member-preserved
are_members_equal-loop-member-preserved g t c = λ unique.
    let left = c.args.left.now in
    let right = c.args.right.now in
    let keys = of_some _ c.in_ok-names.field-0 c.in-Some.names c.in-Some.is c.in_ok-names.ensures.names in
    let at = c.in-Some-place_of_name.ensures.some in
    let j = c.in-Some-place_of_name.index in
    let inside = place_within right _ _ j keys at in
    let q = get_or right j c.index-right-index.result in
    let is : q ≡ get_or right j q = ap (λ d. get_or right j d) c.index-right-index.is in
    let named = ap chars (place_named right _ _ j keys at q is ∙ c.deref.ensures) in
    let reported = c.in_ok-are_equal.ensures (unique_member right j q unique inside is) in
    value_equal (same_by c.args.numbers) left right c.loop-member.member-index c.member-item.result c.loop-member-test.true c.member-item.is (c.loop-member.invariant unique)
    j q inside is named (λ e. reported.0 (c.if-not-branch.false ∙ e), λ h. sym c.if-not-branch.false ∙ reported.1 h)

pub are_members_equal-returns : goal.are_members_equal-returns
are_members_equal-returns g t c = λ unique.
    objects_told (same_by c.args.numbers) c.args.left.now c.args.right.now _ c.if-left-right.false
    (all_in (same_by c.args.numbers) c.args.left.now c.args.right.now c.loop-member.member-index c.loop-member-test.false (c.loop-member.invariant unique))
