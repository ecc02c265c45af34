use Rattle.std.proofs.Common.{◌≡◌, List, ℕ, true, false, cond, length, drop, Some, None, Option, ap, sym, subst, ◌∙◌, MatchOption, option_map, Bor, nat_eq, IsCharBoundary}
use Rattle.std.specs.List.{starts_with}
use Rattle.std.specs.Str.Pattern.{FindsTextPrefix, StripsPrefix}
use Rattle.std.proofs.lemmas.Str.Pattern.{starts_text}
use Rattle.jsonc_layout.specs.lines.Indents.{without_front}
use Rattle.jsonc_layout.proofs.lines.indents.without_front.Goals as goal

without_by : (outer inner : List ℕ) (r : Option (Bor (List ℕ))) → MatchOption r (FindsTextPrefix outer inner None) (λ x. StripsPrefix (FindsTextPrefix outer) inner x.now) → option_map (λ (s : Bor (List ℕ)). s.now) r ≡ without_front outer inner
without_by outer inner None h =
    let not : false ≡ starts_with nat_eq inner outer = starts_text false outer inner h in
    ap (λ b. cond b (Some (drop (length outer) inner)) None) not
without_by outer inner (Some x) h =
    let is : true ≡ starts_with nat_eq inner outer = starts_text true outer inner (h.0, h.1, subst (IsCharBoundary inner) (sym h.1.0) h.1.2) in
    ap Some (h.2 ∙ ap (λ n. drop n inner) h.1.0) ∙ ap (λ b. cond b (Some (drop (length outer) inner)) None) is

pub returns : goal.returns
returns c = without_by c.args.outer.now c.args.inner.now c.strip_prefix.result c.strip_prefix.ensures.cases
