-- What a receiver has made of a text, where that is rows.
use Rattle.std.specs.Prelude.{◌≡◌, ℕ, ◌<◌, ◌^◌, List, [], ◌∷◌, ◌++◌, length}
use Rattle.jsonc_text.specs.OptionsOf.{parse_options}
use Rattle.jsonc_walk.specs.Located.{Located, LocatedName, value_at, items_at, members_at, LocatedMember, items_of, members_of}
use Rattle.jsonc_walk.specs.Handed.{Source}
use Rattle.jsonc_view.specs.declared.maker.ViewMaker.{ViewMaker}
use Rattle.jsonc_view.specs.declared.rows.Member.{Member}
use Rattle.jsonc_view.specs.declared.rows.Name.{Name}
use Rattle.jsonc_view.specs.declared.rows.Row.{Row}
use Rattle.jsonc_view.specs.declared.rows.Rows.{Rows}
use Rattle.jsonc_view.specs.Shown.{Shows, ShowsItems, ShowsMembers, ShowsName}

-- there are more items behind these
abbrev pub Extends : {X : Type 0} → List X → List X → Type 0
Extends {X} xs ys = (more : List X) × (ys ≡ xs ++ more)

module _ {A : Type 0} where
  abbrev pub source_in : ViewMaker A → Source
  source_in m = record { bytes = m.rows.text.now; options = parse_options m.options }

  -- rows of the same text, and more of them
  pub record IsGrown (r q : Rows A) : Type 0 where
    pub text : q.text.now ≡ r.text.now
    pub decoded : Extends r.decoded.items q.decoded.items
    pub elements : Extends r.elements.items q.elements.items
    pub members : Extends r.members.items q.members.items

  -- from s to t the same elements and members of containers that have not ended
  abbrev pub SameOpen : ViewMaker A → ViewMaker A → Type 0
  SameOpen s t = (t.elements.items ≡ s.elements.items) × (t.members.items ≡ s.members.items)

  -- from s to t the text and the open containers stay, and t shows this
  pub record Leads (s t : ViewMaker A) (is_shown : Type 0) : Type 0 where
    pub source : source_in t ≡ source_in s
    pub stacks : SameOpen s t
    pub grown : IsGrown s.rows t.rows
    pub shown : is_shown

  -- the row is of what was read
  abbrev pub IsMade : ViewMaker A → ViewMaker A → Row → Located → Type 0
  IsMade s t v x = Leads s t (Shows t.rows v (value_at x))

  abbrev pub IsNamed : ViewMaker A → ViewMaker A → Name → LocatedName → Type 0
  IsNamed s t k n = Leads s t (ShowsName t.rows k n.name)

  -- behind the elements that s has, t has those of an array that begins there
  pub record HoldsElements (s t : ViewMaker A) (start : ℕ) (xs : List Located) : Type 0 where
    pub elements : List Row
    pub begins : start ≡ length s.elements.items
    pub stacked : t.elements.items ≡ s.elements.items ++ elements
    pub same : t.members.items ≡ s.members.items
    pub source : source_in t ≡ source_in s
    pub grown : IsGrown s.rows t.rows
    pub shown : ShowsItems t.rows elements (items_at (items_of xs))

  -- behind the members that s has, t has those of an object that begins there
  pub record HoldsMembers (s t : ViewMaker A) (start : ℕ) (ms : List LocatedMember) : Type 0 where
    pub members : List Member
    pub begins : start ≡ length s.members.items
    pub stacked : t.members.items ≡ s.members.items ++ members
    pub same : t.elements.items ≡ s.elements.items
    pub source : source_in t ≡ source_in s
    pub grown : IsGrown s.rows t.rows
    pub shown : ShowsMembers t.rows members (members_at (members_of ms))
