-- What lines next to one another tell, a line further out.
use Rattle.std.proofs.Common.{◌≡◌, sym, ap, ◌∙◌, ℕ, ◌+◌, ◌<◌, [], ◌∷◌, List, length, get_or, drop, map, Option, None, option_map, unwrap_or}
use Rattle.std.specs.Option.{option_or}
use Rattle.std.proofs.lemmas.List.{drop_more}
use Rattle.jsonc_tree.specs.Tree.{Node}
use Rattle.jsonc_layout.specs.lines.Indents.{held_after, levels_in, more_of, told_by}
use Rattle.jsonc_layout.specs.lines.Lines.{indent_at}

-- where this line tells nothing, the next one outward does, if any
pub told_on : (ns : List Node) (levels : List ℕ) (place : ℕ) (held outer : Option (List ℕ)) → place < length levels → outer ≡ indent_at ns (get_or levels place 0) → more_of held outer ≡ None
    → told_by place held (map (indent_at ns) (drop place levels)) ≡ told_by (place + 1) (held_after held outer) (map (indent_at ns) (drop (place + 1) levels))
told_on ns levels place held outer within is none =
    let rest : List (Option (List ℕ)) = map (indent_at ns) (drop (place + 1) levels) in
    ap (λ l. told_by place held (map (indent_at ns) l)) (drop_more levels place 0 within)
    ∙ ap (λ o. told_by place held (o ∷ rest)) (sym is)
    ∙ ap (λ o. option_or (option_map (levels_in (unwrap_or held []) place) o) (told_by (place + 1) (held_after held outer) rest)) none
