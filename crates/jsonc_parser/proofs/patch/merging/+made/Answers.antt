use Rattle.std.proofs.Common.{◌∙◌, ap, arith, chars, sym}
use Rattle.std.proofs.lemmas.Bool.{true≢false}
use Rattle.jsonc_text.specs.Plain.{object}
use Rattle.jsonc_layout.specs.input.Views.{members_plain, plain}
use Rattle.jsonc_layout.proofs.lemmas.input.ValueLevels.{part_smaller, plain-Object}
use Rattle.jsonc_parser.specs.patch.Merging.{made_of, members_made}
use Rattle.jsonc_parser.proofs.lemmas.patch.MergeChains.{made_less, made_more}
use Rattle.jsonc_parser.proofs.patch.merging.+made.Goals as goal

pub made_members-loop-member-preserved-then-is_null : goal.made_members-loop-member-preserved-then-is_null
made_members-loop-member-preserved-then-is_null g t c =
    made_less c.args.members.now c.loop-member.member-index c.member-item.result c.loop-member-test.true c.member-item.is c.loop-member.made.items c.loop-member.invariant (c.is_null.ensures.0 c.if-is_null.true)

pub made_members-made_value-requires : goal.made_members-made_value-requires
made_members-made_value-requires g t c κs within =
    (part_smaller _ _ c.loop-member.member-index c.member-item.result _ t c.decreases c.loop-member-test.true c.member-item.is (omega arith), within)

pub made_members-loop-member-preserved : goal.made_members-loop-member-preserved
made_members-loop-member-preserved g t c =
    made_more c.args.members.now c.loop-member.member-index c.member-item.result c.loop-member-test.true c.member-item.is c.loop-member.made.items c.push.new.self.items (c.in_ok-clone.field-0, c.in_ok-made_value.field-0)
    c.loop-member.invariant (λ none. true≢false (sym (c.is_null.ensures.1 none) ∙ c.if-is_null.false)) (ap chars c.in_ok-clone.ensures.cases) c.in_ok-made_value.ensures c.in_ok-push.ensures.items

pub made_value-returns-in_ok-made_members-in-Object :
    goal.made_value-returns-in_ok-made_members-in-Object
made_value-returns-in_ok-made_members-in-Object g t c =
    plain-Object c.in_ok-made_members-in-Object.field-0 ∙ ap object (c.in_ok-made_members-in-Object.ensures ∙ ap (λ ps. members_made (members_plain ps)) c.as_slice.ensures.value)
    ∙ ap made_of (sym (ap plain c.in-Object.is ∙ plain-Object c.in-Object.members))
