use Rattle.std.proofs.Common.{◌∙◌, ◌∷◌, ◌++◌, [], ℕ, List, ap, arith, chars, refl, subst, sym}
use Rattle.std.proofs.lemmas.Bool.{true≢false}
use Rattle.std.proofs.lemmas.Result.{IfErr-weaker, on_ok_weaker}
use Rattle.jsonc_text.specs.Plain.{member, no_members, object}
use Rattle.jsonc_edit.specs.Writing.{IsOfNumbers}
use Rattle.jsonc_layout.specs.input.Views.{chars_of, members_plain, plain}
use Rattle.jsonc_layout.proofs.lemmas.input.ValueLevels.{plain-Object}
use Rattle.jsonc_parser.specs.patch.Found.{IsOfShown}
use Rattle.jsonc_parser.specs.patch.Merged.{MembersMergeIn}
use Rattle.jsonc_parser.specs.patch.MergeSteps.{FailsToMerge, IsTwice, MergesNamed, ReachesWhatShown}
use Rattle.jsonc_parser.specs.patch.Pointer.{tokens_of}
use Rattle.jsonc_parser.proofs.lemmas.patch.MergeChains.{failed_value, member_smaller, merged_all, merged_inside, merged_more, merged_none, merged_set, merged_value, named_null, named_other, no_object_so, object_so, one_member, set_not, stopped_inside, stopped_there, twice_not}
use Rattle.jsonc_parser.proofs.patch.merging.+merging.Goals as goal

-- a member
pub merge_named-returns-then-is_null-clause-merged : goal.merge_named-returns-then-is_null-clause-merged
merge_named-returns-then-is_null-clause-merged g t c =
    on_ok_weaker c.drop_value.result (named_null c.args.doc.now c.drop_value.new.doc (tokens_of c.args.pointer.now) (plain c.args.patch.now) (c.is_null.ensures.0 c.if-is_null.true)) c.drop_value.ensures.dropped

pub merge_named-returns-then-is_null-clause-fails : goal.merge_named-returns-then-is_null-clause-fails
merge_named-returns-then-is_null-clause-fails g t c =
    IfErr-weaker c.drop_value.result _ _ (λ cause fails. twice_not c.args.doc.now (tokens_of c.args.pointer.now) (plain c.args.patch.now) cause fails) c.drop_value.ensures.fails

pub merge_named-returns-clause-merged : goal.merge_named-returns-clause-merged
merge_named-returns-clause-merged g t c =
    on_ok_weaker c.merge_value.result
    (named_other c.args.doc.now c.merge_value.new.doc (tokens_of c.args.pointer.now) (plain c.args.patch.now) (λ none. true≢false (sym (c.is_null.ensures.1 none) ∙ c.if-is_null.false))) c.merge_value.ensures.merged

pub merge_member-returns-clause-merged : goal.merge_member-returns-clause-merged
merge_member-returns-clause-merged g t c =
    let doc = c.args.doc.now in
    let p = plain c.args.patch.now in
    let name = chars_of c.args.name.now in
    let old = tokens_of c.args.pointer.now in
    let below = c.in-Ok-push.ensures ∙ ap (λ (s : List ℕ). old ++ chars s ∷ []) c.in-Ok.ensures.cases in
    one_member doc c.merge_named.new.doc old name p
    (subst (λ (l : List (List ℕ)). ReachesWhatShown doc (λ o. IsOfNumbers o p) (MergesNamed l p) c.merge_named.new.doc) below c.in-Ok-merge_named.ensures.merged)

-- the value
pub merge_value-returns-in-Object-clause-merged : goal.merge_value-returns-in-Object-clause-merged
merge_value-returns-in-Object-clause-merged g t c =
    on_ok_weaker c.merge_object.result (λ m. m (ap plain c.in-Object.is ∙ plain-Object c.in-Object.members ∙ ap (λ ps. object (members_plain ps)) (sym c.as_slice.ensures.value))) c.merge_object.ensures.merged

pub merge_value-returns-in-Object-clause-fails : goal.merge_value-returns-in-Object-clause-fails
merge_value-returns-in-Object-clause-fails g t c =
    IfErr-weaker c.merge_object.result _ _ (λ cause f. f (ap plain c.in-Object.is ∙ plain-Object c.in-Object.members ∙ ap (λ ps. object (members_plain ps)) (sym c.as_slice.ensures.value))) c.merge_object.ensures.fails

-- where it is an object
pub merge_object-returns-in-Ok-true-clause-merged : goal.merge_object-returns-in-Ok-true-clause-merged
merge_object-returns-in-Ok-true-clause-merged g t c =
    let doc = c.args.doc.now in
    let tokens = tokens_of c.args.pointer.now in
    let ms = members_plain c.args.members.now in
    let at = object_so doc _ tokens c.tokens.ensures _ c.in-Ok-true.ensures.decided c.in-Ok-true.field-0-test in
    on_ok_weaker c.merge_members.result
    (λ m is. merged_value doc c.merge_members.new.doc tokens (plain c.args.patch.now) (object ms) is (merged_inside doc c.merge_members.new.doc tokens ms at m)) c.merge_members.ensures.merged

pub merge_object-returns-in-Ok-true-clause-fails : goal.merge_object-returns-in-Ok-true-clause-fails
merge_object-returns-in-Ok-true-clause-fails g t c =
    let doc = c.args.doc.now in
    let tokens = tokens_of c.args.pointer.now in
    let ms = members_plain c.args.members.now in
    let at = object_so doc _ tokens c.tokens.ensures _ c.in-Ok-true.ensures.decided c.in-Ok-true.field-0-test in
    IfErr-weaker c.merge_members.result _ _
    (λ cause fails is. failed_value doc c.merge_members.new.doc tokens (plain c.args.patch.now) (object ms) cause is (stopped_inside doc c.merge_members.new.doc tokens ms cause at fails)) c.merge_members.ensures.fails

pub merge_object-returns-in-Ok-false-clause-merged : goal.merge_object-returns-in-Ok-false-clause-merged
merge_object-returns-in-Ok-false-clause-merged g t c =
    let doc = c.args.doc.now in
    let tokens = tokens_of c.args.pointer.now in
    on_ok_weaker c.set_value.result
    (λ m is. merged_set doc c.set_value.new.doc tokens (plain c.args.patch.now) (no_object_so doc _ tokens c.tokens.ensures _ c.in-Ok-false.ensures.decided (plain c.args.patch.now) c.in-Ok-false.field-0-test) m) c.set_value.ensures.set

pub merge_object-returns-in-Ok-false-clause-fails : goal.merge_object-returns-in-Ok-false-clause-fails
merge_object-returns-in-Ok-false-clause-fails g t c =
    IfErr-weaker c.set_value.result _ _ (λ cause fails is. set_not c.args.doc.now (tokens_of c.args.pointer.now) (plain c.args.patch.now) cause fails) c.set_value.ensures.fails

pub merge_object-returns-in-Err-clause-fails : goal.merge_object-returns-in-Err-clause-fails
merge_object-returns-in-Err-clause-fails g t c = λ is.
    twice_not c.args.doc.now (tokens_of c.args.pointer.now) (plain c.args.patch.now) c.in-Err.cause
    (subst (λ (l : List (List ℕ)). IsOfShown c.args.doc.now (λ d. IsTwice d.value l c.in-Err.cause)) c.tokens.ensures c.in-Err.ensures.fails)

-- members
pub merge_members-loop-member-init : goal.merge_members-loop-member-init
merge_members-loop-member-init g t c = record { merged = merged_none c.args.doc.now (tokens_of c.args.pointer.now) c.args.members.now; pointer = refl }

pub merge_members-loop-member-preserved : goal.merge_members-loop-member-preserved
merge_members-loop-member-preserved g t c = record {
  merged = merged_more c.args.doc.now (tokens_of c.args.pointer.now) c.args.members.now c.loop-member.member-index c.loop-member.doc c.loop-member.invariant.merged c.member-item.result c.loop-member-test.true c.member-item.is
      c.merge_member.new.doc
      (subst
      (λ (l : List (List ℕ)). ReachesWhatShown c.loop-member.doc (λ o. IsOfNumbers o (plain c.member-item.result.1)) (MembersMergeIn l (member (chars_of c.member-item.result.0) (plain c.member-item.result.1) no_members)) c.merge_member.new.doc)
      c.loop-member.invariant.pointer c.in-Ok.ensures.merged);
  pointer = c.in-Ok.ensures.pointer ∙ c.loop-member.invariant.pointer;
}

pub merge_members-returns-in-Err-clause-fails : goal.merge_members-returns-in-Err-clause-fails
merge_members-returns-in-Err-clause-fails g t c =
    stopped_there c.args.doc.now (tokens_of c.args.pointer.now) c.args.members.now c.loop-member.member-index c.loop-member.doc c.loop-member.invariant.merged c.member-item.result c.loop-member-test.true c.member-item.is
    c.in-Err.cause
    (subst (λ (l : List (List ℕ)). FailsToMerge c.loop-member.doc (l ++ chars_of c.member-item.result.0 ∷ []) (plain c.member-item.result.1) c.in-Err.cause) c.loop-member.invariant.pointer c.in-Err.ensures.fails)

pub merge_members-returns-clause-merged : goal.merge_members-returns-clause-merged
merge_members-returns-clause-merged g t c =
    merged_all c.args.doc.now (tokens_of c.args.pointer.now) c.args.members.now c.loop-member.member-index c.loop-member.doc c.loop-member-test.false c.loop-member.invariant.merged

pub merge_members-merge_member-requires : goal.merge_members-merge_member-requires
merge_members-merge_member-requires g t c κs within =
    (member_smaller _ _ c.loop-member.member-index c.member-item.result _ t _ _ c.decreases (omega arith) c.loop-member-test.true c.member-item.is (omega arith), within)
