-- Where a space is due: where a change lets two literals without quotes stand directly beside each other that did not before.
use Rattle.std.specs.Prelude.{ℕ, ◌==◌, Bool, true, false, not, ◌&&◌, ◌||◌, List, [], ◌∷◌, ◌++◌, reverse, Option, Some, None, if◌then◌else◌}
use Rattle.std.specs.List.{find}
use Rattle.std.specs.Option.{option_and_then}
use Rattle.jsonc_text.specs.Text.{starts}
use Rattle.jsonc_tree.specs.Content.{Content, property, is_container}
use Rattle.jsonc_tree.specs.Tree.{Node, content_at, children_at, parent_at}
use Rattle.jsonc_tree.specs.Siblings.{first, siblings_after, siblings_before}
use Rattle.jsonc_sound.specs.Adjacent.{first_char, or_else}
use Rattle.jsonc_sound.specs.Spaces.{is_bare}

-- a leaf without text prints nothing
abbrev pub prints : Content → Bool
prints content = is_container content || starts (λ c. true) (first_char content)

abbrev pub prints_at : List Node → ℕ → Bool
prints_at ns n = prints (content_at ns n)

-- the first of these nodes that prints something
abbrev pub nearest : List Node → List ℕ → Option ℕ
nearest ns xs = find (prints_at ns) xs

-- what a node begins with: a property with the first of its children, any other with itself
abbrev pub beginning_in : List ℕ → ℕ → Content → Option ℕ
beginning_in children n property = first children
beginning_in children n content = Some n

abbrev pub beginning_of : List Node → ℕ → Option ℕ
beginning_of ns n = beginning_in (children_at ns n) n (content_at ns n)

-- and what it ends with
abbrev pub end_of : List Node → ℕ → Option ℕ
end_of ns n = beginning_in (reverse (children_at ns n)) n (content_at ns n)

-- a number, a name without quotes, `true`, `false` or `null` stands there
abbrev pub is_bare_at : List Node → Option ℕ → Bool
is_bare_at ns None = false
is_bare_at ns (Some n) = is_bare (content_at ns n)

-- one stands at the beginning, or at the end, of this node, if there is one
abbrev pub begins_bare : List Node → Option ℕ → Bool
begins_bare ns o = is_bare_at ns (option_and_then (beginning_of ns) o)

abbrev pub ends_bare : List Node → Option ℕ → Bool
ends_bare ns o = is_bare_at ns (option_and_then (end_of ns) o)

-- the nearest sibling before a node that prints something
abbrev pub seen_before : List Node → ℕ → Option ℕ
seen_before ns n = nearest ns (siblings_before ns n)

-- and behind it; where it is the last of a property, behind that
abbrev pub behind_property : List Node → Content → ℕ → Option ℕ
behind_property ns property p = nearest ns (siblings_after ns p)
behind_property ns content p = None

abbrev pub behind_holder : List Node → ℕ → Option ℕ
behind_holder ns n = option_and_then (λ p. behind_property ns (content_at ns p) p) (parent_at ns n)

abbrev pub seen_behind : List Node → ℕ → Option ℕ
seen_behind ns n = or_else (nearest ns (siblings_after ns n)) (behind_holder ns n)

-- a node is seen, and it is not this one
abbrev pub is_other : Option ℕ → Option ℕ → Bool
is_other None n = false
is_other (Some m) None = true
is_other (Some m) (Some n) = not (m == n)

-- something is printed by the siblings from one to another: by the last of them, or by what is seen before that and not before all of them
abbrev pub prints_within : List Node → ℕ → ℕ → Bool
prints_within ns from to = prints_at ns to || is_other (seen_before ns to) (seen_before ns from)

-- Before which node a space is due where the siblings from one to another leave: before what is seen behind them. Where these print nothing, what stands
-- before and behind them has stood together already.
abbrev pub space_needed_between : List Node → ℕ → ℕ → Option ℕ
space_needed_between ns from to =
    if prints_within ns from to && (ends_bare ns (seen_before ns from) && begins_bare ns (seen_behind ns to)) then seen_behind ns to else None

-- where a literal without quotes takes the place of a node: before that
abbrev pub space_needed_before : List Node → ℕ → Option ℕ
space_needed_before ns n = if ends_bare ns (seen_before ns n) then Some n else None

-- and before what is seen behind it
abbrev pub space_needed_after : List Node → ℕ → Option ℕ
space_needed_after ns n = if begins_bare ns (seen_behind ns n) then seen_behind ns n else None

-- the last child of a node that prints something
abbrev pub seen_last : List Node → ℕ → Option ℕ
seen_last ns n = nearest ns (reverse (children_at ns n))

-- where a literal without quotes, n, comes as the last child of c: before n
abbrev pub space_needed_last : List Node → ℕ → ℕ → Option ℕ
space_needed_last ns c n = if ends_bare ns (seen_last ns c) then Some n else None

-- and where c is a property, before what is seen behind that
abbrev pub space_needed_past : List Node → ℕ → Option ℕ
space_needed_past ns c = if begins_bare ns (nearest ns (siblings_after ns c)) then nearest ns (siblings_after ns c) else None

-- the one that there is, or none
abbrev pub listed : Option ℕ → List ℕ
listed None = []
listed (Some n) = n ∷ []

-- where a node is replaced by one of this content
abbrev pub spaces_needed_around : List Node → ℕ → Content → List ℕ
spaces_needed_around ns n content = if is_bare content then listed (space_needed_before ns n) ++ listed (space_needed_after ns n) else []
