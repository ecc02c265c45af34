use Rattle.std.proofs.Common.{◌≡◌, ◌-◌, List, ℕ, true, false, cond, length, take, Some, None, Option, ap, sym, subst, ◌∙◌, MatchOption, option_map, Bor, nat_eq, IsCharBoundary, arith}
use Rattle.std.specs.List.{ends_with}
use Rattle.std.specs.Str.Pattern.{FindsTextSuffix, StripsSuffix}
use Rattle.std.proofs.lemmas.Str.Pattern.{ends_text}
use Rattle.jsonc_edit.specs.commenting.Above.{without_end}
use Rattle.jsonc_edit.proofs.commenting.above.without_end.Goals as goal

without_by : (last text : List ℕ) (r : Option (Bor (List ℕ))) → MatchOption r (FindsTextSuffix last text None) (λ x. StripsSuffix (FindsTextSuffix last) text x.now) → option_map (λ (s : Bor (List ℕ)). s.now) r ≡ without_end text last
without_by last text None h =
    let not : false ≡ ends_with nat_eq text last = ends_text false last text h in
    ap (λ b. cond b (Some (take (length text - length last) text)) None) not
without_by last text (Some x) h =
    let same : h.0 ≡ length last = h.1.0 in
    let is : true ≡ ends_with nat_eq text last = ends_text true last text (h.0, h.1, omega (arith, h.3), subst (λ n. IsCharBoundary text (length text - n)) (sym same) h.1.2) in
    ap Some (h.2 ∙ ap (λ n. take (length text - n) text) same) ∙ ap (λ b. cond b (Some (take (length text - length last) text)) None) is

pub returns : goal.returns
returns c = without_by c.args.last.now c.args.text.now c.strip_suffix.result c.strip_suffix.ensures.cases
