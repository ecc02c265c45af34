-- What the rows of a text show.
use Rattle.std.specs.Prelude.{ℕ, ◌≡◌, ◌≤◌, ⊤, List, [], ◌∷◌, ◌++◌, length, Option, Some, None, option_map, slice_get, slice_range, chars, string_bytes}
use Rattle.jsonc_text.specs.Plain.{Plain, null, boolean, number, string, array, object, Items, no_items, item, Members, no_members, member}
use Rattle.jsonc_text.specs.Text.{Spans}
use Rattle.jsonc_view.specs.declared.rows.Member.{Member}
use Rattle.jsonc_view.specs.declared.rows.Name.{Name}
use Rattle.jsonc_view.specs.declared.rows.Name.TheVariants as name
use Rattle.jsonc_view.specs.declared.rows.Row.{Row}
use Rattle.jsonc_view.specs.declared.rows.Row.TheVariants.{Lent, Decoded, Number, Boolean, Object, Array, Null}
use Rattle.jsonc_view.specs.declared.rows.Rows.{Rows}
use Rattle.jsonc_view.specs.declared.rows.Span.{Span}

-- from the one place to the other are items of a list
abbrev pub IsWithin : {X : Type 0} → Span → List X → Type 0
IsWithin s xs = (s.start ≤ s.end) × (s.end ≤ length xs)

module _ {A : Type 0} where
  -- these characters stand there in the text
  abbrev pub Stands : Rows A → Span → List ℕ → Type 0
  Stands r s t = Spans r.text.now s.start s.end × (t ≡ chars (slice_range r.text.now s.start s.end))

  -- the string of this number was decoded to these characters
  abbrev pub WasDecoded : Rows A → ℕ → List ℕ → Type 0
  WasDecoded r n t = option_map (λ s. chars (string_bytes s)) (slice_get r.decoded.items n) ≡ Some t

  -- the name is of these characters
  abbrev pub ShowsName : Rows A → Name → List ℕ → Type 0
  ShowsName r (name.Lent s) t = Stands r s t
  ShowsName r (name.Decoded n) t = WasDecoded r n t

  -- the row is of this value
  abbrev mutual
    pub Shows : Rows A → Row → Plain → Type 0
    Shows r Null null = ⊤
    Shows r (Boolean b) (boolean c) = b ≡ c
    Shows r (Number s) (number t) = Stands r s t
    Shows r (Lent s) (string t) = Stands r s t
    Shows r (Decoded n) (string t) = WasDecoded r n t
    Shows r (Array s) (array vs) = IsWithin s r.elements.items × ShowsItems r (slice_range r.elements.items s.start s.end) vs
    Shows r (Object s) (object ms) = IsWithin s r.members.items × ShowsMembers r (slice_range r.members.items s.start s.end) ms
    Shows r _ _ = ⊥

    -- each is
    pub ShowsItems : Rows A → List Row → Items → Type 0
    ShowsItems r [] no_items = ⊤
    ShowsItems r (x ∷ xs) (item v vs) = Shows r x v × ShowsItems r xs vs
    ShowsItems r _ _ = ⊥

    -- and these are the names and values
    pub ShowsMembers : Rows A → List Member → Members → Type 0
    ShowsMembers r [] no_members = ⊤
    ShowsMembers r (x ∷ xs) (member n v ms) = ShowsName r x.name n × Shows r x.value v × ShowsMembers r xs ms
    ShowsMembers r _ _ = ⊥

  -- the row of the whole text, where it has a value
  abbrev pub ShowsRoot : Rows A → Option Row → Option Plain → Type 0
  ShowsRoot r None None = ⊤
  ShowsRoot r (Some x) (Some v) = Shows r x v
  ShowsRoot r _ _ = ⊥
