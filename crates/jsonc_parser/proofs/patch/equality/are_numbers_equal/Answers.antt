use Rattle.std.proofs.Common.{ℕ, IfOk, List, chars, string_bytes, subst, sym}
use Rattle.std.specs.Bool.{Decides}
use Rattle.jsonc_parser.specs.patch.Comparing.{same_by}
use Rattle.jsonc_parser.specs.patch.Numbers.{SameNumber}
use Rattle.jsonc_parser.proofs.lemmas.patch.Equality.{texts_told}
use Rattle.jsonc_parser.proofs.patch.equality.are_numbers_equal.Goals as goal

pub returns-in-ByText : goal.returns-in-ByText
returns-in-ByText g c =
    subst (λ n. Decides c.eq.result (same_by n (chars (string_bytes c.args.left.now)) (chars (string_bytes c.args.right.now)))) (sym c.in-ByText.is)
    (texts_told c.args.left.now c.args.right.now c.as_str.result.now c.as_str-in-ByText.result.now c.eq.result c.as_str.ensures.value c.as_str-in-ByText.ensures.value c.eq.ensures)

pub returns-in-ByValue : goal.returns-in-ByValue
returns-in-ByValue g c =
    let left = string_bytes c.args.left.now in
    let right = string_bytes c.args.right.now in
    let first = subst (λ (s : List ℕ). IfOk c.same_number.result (λ b. Decides b (SameNumber (chars c.deref.result.now) (chars s)))) c.deref-in-ByValue.ensures c.same_number.ensures.same in
    let both = subst (λ (s : List ℕ). IfOk c.same_number.result (λ b. Decides b (SameNumber (chars s) (chars right)))) c.deref.ensures first in
    subst (λ n. IfOk c.same_number.result (λ b. Decides b (same_by n (chars left) (chars right)))) (sym c.in-ByValue.is) both
