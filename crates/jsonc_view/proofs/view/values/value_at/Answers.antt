use Rattle.jsonc_text.specs.Plain.{array, boolean, number, object, string}
use Rattle.jsonc_view.proofs.Reading.{array_in, boolean_in, decoded_in, lent_in, null_in, number_in, object_in}
use Rattle.jsonc_view.specs.Shown.{Shows}
use Rattle.std.proofs.Common.{◌∙◌, ap, subst, sym}
use Rattle.jsonc_view.proofs.view.values.value_at.Goals as goal

pub text_at-requires : goal.text_at-requires
text_at-requires g c = let there = lent_in c.args.rows.now c.in-Lent.span c.requires.0 (subst (λ k. Shows c.args.rows.now k c.requires.0) c.in-Lent.is c.requires.1) in (there.0, there.1)

pub decoded_at-requires : goal.decoded_at-requires
decoded_at-requires g c = let there = decoded_in c.args.rows.now c.in-Decoded.number c.requires.0 (subst (λ k. Shows c.args.rows.now k c.requires.0) c.in-Decoded.is c.requires.1) in (there.0, there.1)

pub text_at-requires-in-Number : goal.text_at-requires-in-Number
text_at-requires-in-Number g c = let there = number_in c.args.rows.now c.in-Number.span c.requires.0 (subst (λ k. Shows c.args.rows.now k c.requires.0) c.in-Number.is c.requires.1) in (there.0, there.1)

pub object_at-requires : goal.object_at-requires
object_at-requires g c = let there = object_in c.args.rows.now c.in-Object.span c.requires.0 (subst (λ k. Shows c.args.rows.now k c.requires.0) c.in-Object.is c.requires.1) in (there.0, there.1)

pub array_at-requires : goal.array_at-requires
array_at-requires g c = let there = array_in c.args.rows.now c.in-Array.span c.requires.0 (subst (λ k. Shows c.args.rows.now k c.requires.0) c.in-Array.is c.requires.1) in (there.0, there.1)

pub returns-in-Lent : goal.returns-in-Lent
returns-in-Lent g c = λ p h.
    let there = lent_in c.args.rows.now c.in-Lent.span p (subst (λ k. Shows c.args.rows.now k p) c.in-Lent.is h) in
    ap string (c.text_at.ensures there.0 there.1) ∙ sym there.2

pub returns-in-Decoded : goal.returns-in-Decoded
returns-in-Decoded g c = λ p h.
    let there = decoded_in c.args.rows.now c.in-Decoded.number p (subst (λ k. Shows c.args.rows.now k p) c.in-Decoded.is h) in
    ap string (c.decoded_at.ensures there.0 there.1) ∙ sym there.2

pub returns-in-Number : goal.returns-in-Number
returns-in-Number g c = λ p h.
    let there = number_in c.args.rows.now c.in-Number.span p (subst (λ k. Shows c.args.rows.now k p) c.in-Number.is h) in
    ap number (c.text_at-in-Number.ensures there.0 there.1) ∙ sym there.2

pub returns-in-Object : goal.returns-in-Object
returns-in-Object g c = λ p h.
    let there = object_in c.args.rows.now c.in-Object.span p (subst (λ k. Shows c.args.rows.now k p) c.in-Object.is h) in
    ap object (c.object_at.ensures there.0 there.1) ∙ sym there.2

pub returns-in-Array : goal.returns-in-Array
returns-in-Array g c = λ p h.
    let there = array_in c.args.rows.now c.in-Array.span p (subst (λ k. Shows c.args.rows.now k p) c.in-Array.is h) in
    ap array (c.array_at.ensures there.0 there.1) ∙ sym there.2

pub returns-in-Boolean : goal.returns-in-Boolean
returns-in-Boolean g c = λ p h. boolean_in c.args.rows.now c.in-Boolean.boolean p (subst (λ k. Shows c.args.rows.now k p) c.in-Boolean.is h)

pub returns-in-Null : goal.returns-in-Null
returns-in-Null g c = λ p h. null_in c.args.rows.now p (subst (λ k. Shows c.args.rows.now k p) c.in-Null.is h)
