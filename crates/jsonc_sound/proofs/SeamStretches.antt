-- A row in which a stretch is replaced by another.
use Rattle.std.proofs.Common.{◌≡◌, ◌∙◌, sym, ap, subst, refl, IsTrue}
use Rattle.jsonc_text.specs.Options.{Options}
use Rattle.jsonc_tree.specs.Content.{Content, token}
use Rattle.jsonc_tree.specs.OrderedTree.{OrderedTree, none, more, followed_by}
use Rattle.jsonc_sound.specs.Shape.{IsTrivia, token_then}
use Rattle.jsonc_sound.specs.Rows as rows
use Rattle.jsonc_sound.specs.Rows.{RowKind, closing, Last, may_end, last_after, last_behind, takes_comma}
use Rattle.jsonc_sound.specs.TreeChanges.{IsElement}
use Rattle.jsonc_sound.specs.Alone as alone
use Rattle.jsonc_sound.specs.Alone.{may_stand, may_come, PartAlone, RowAlone, StretchAlone}
use Rattle.jsonc_sound.proofs.Changed.{part_element}

-- by what a node is
trivia_last : (o : Options) (last : Last) (content : Content) → IsTrivia o content → last_after last content ≡ last
trivia_last o last (Content.whitespace s) h = refl
trivia_last o last (Content.newline k) h = refl
trivia_last o last (Content.comment s) h = refl
trivia_last o last content h = absurd h

element_last : (last : Last) (content : Content) → IsElement content → last_after last content ≡ rows.an_element
element_last last (Content.whitespace s) h = cc
element_last last (Content.newline k) h = cc
element_last last (Content.comment s) h = cc
element_last last (Content.token c) h = cc
element_last last content h = refl

trivia_come : (o : Options) (last : Last) (content : Content) (below after : OrderedTree) → IsTrivia o content → may_come o last (more content below after) ≡ may_come o last after
trivia_come o last (Content.whitespace s) below after h = refl
trivia_come o last (Content.newline k) below after h = refl
trivia_come o last (Content.comment s) below after h = refl
trivia_come o last content below after h = absurd h

element_come : (o : Options) (last : Last) (content : Content) (below after : OrderedTree) → IsElement content → may_come o last (more content below after) ≡ may_stand o last
element_come o last (Content.whitespace s) below after h = cc
element_come o last (Content.newline k) below after h = cc
element_come o last (Content.comment s) below after h = cc
element_come o last (Content.token c) below after h = cc
element_come o last content below after h = refl

bracket_come : (o : Options) (kind : RowKind) (last : Last) → may_come o last (token_then (closing kind) none) ≡ may_end o last
bracket_come o rows.of_values last = refl
bracket_come o rows.of_properties last = refl

pub followed_joined : (s t r : OrderedTree) → followed_by s (followed_by t r) ≡ followed_by (followed_by s t) r
followed_joined none t r = refl
followed_joined (more content below s) t r = ap (more content below) (followed_joined s t r)

never_none : (s : OrderedTree) (content : Content) (below after : OrderedTree) → followed_by s (more content below after) ≡ none → ⊥
never_none none content below after e = cc
never_none (more c b s) content below after e = cc

module _ (o : Options) (kind : RowKind) where
  -- the first node of a row
  data Meets (last : Last) (content : Content) (below after : OrderedTree) : Type 0 where
    the_bracket : IsTrue (may_end o last) → content ≡ token (closing kind) → after ≡ none → Meets last content below after
    a_leaf : IsTrivia o content → below ≡ none → RowAlone o kind last after → Meets last content below after
    a_part : IsTrue (may_stand o last) → PartAlone o kind content below → RowAlone o kind rows.an_element after → Meets last content below after
    the_comma : last ≡ rows.an_element → content ≡ token 0x2C → below ≡ none → RowAlone o kind rows.a_comma after → Meets last content below after

  meets_row : {last : Last} {content : Content} {below after : OrderedTree} → RowAlone o kind last (more content below after) → Meets last content below after
  meets_row (alone.closes m) = the_bracket m refl refl
  meets_row (alone.trivia h g) = a_leaf h refl g
  meets_row (alone.element m p g) = a_part m p g
  meets_row (alone.comma g) = the_comma refl refl refl g

  pub joined_row : {last mid : Last} {s r : OrderedTree} → StretchAlone o kind last s mid → RowAlone o kind mid r → RowAlone o kind last (followed_by s r)
  joined_row alone.stays g = g
  joined_row (alone.past_trivia h s) g = alone.trivia h (joined_row s g)
  joined_row (alone.past_element m p s) g = alone.element m p (joined_row s g)
  joined_row (alone.past_comma s) g = alone.comma (joined_row s g)

  past_this_comma : {last to : Last} {content : Content} {below after : OrderedTree} → last ≡ rows.an_element → content ≡ token 0x2C → below ≡ none → StretchAlone o kind rows.a_comma after to → StretchAlone o kind last (more content below after) to
  past_this_comma {to = to} {content = content} {below = below} {after = after} e p q g =
      subst (λ l. StretchAlone o kind l (more content below after) to) (sym e) (subst (λ c. StretchAlone o kind rows.an_element (more c below after) to) (sym p) (subst (λ b. StretchAlone o kind rows.an_element (more (token 0x2C) b after) to) (sym q) (alone.past_comma g)))

  pub parted_row : (s : OrderedTree) {last : Last} {content : Content} {below after : OrderedTree}
      → RowAlone o kind last (followed_by s (more content below after)) → (mid : Last) × StretchAlone o kind last s mid × RowAlone o kind mid (more content below after)
  parted_row none {last = last} g = (last, alone.stays, g)
  parted_row (more c b s) {last = last} {content = content} {below = below} {after = after} g =
      elim (meets_row g) [
        | the_bracket m k e ↦ absurd (never_none s content below after e)
        | a_leaf h e k ↦ (let d = parted_row s k in (d.0, subst (λ t. StretchAlone o kind last (more c t s) d.0) (sym e) (alone.past_trivia h d.1), d.2))
        | a_part m p k ↦ (let d = parted_row s k in (d.0, alone.past_element m p d.1, d.2))
        | the_comma e p q k ↦ (let d = parted_row s k in (d.0, past_this_comma e p q d.1, d.2))
      ]

  pub parted_stretch : (s t : OrderedTree) {last to : Last} → StretchAlone o kind last (followed_by s t) to → (mid : Last) × StretchAlone o kind last s mid × StretchAlone o kind mid t to
  parted_stretch none t {last = last} g = (last, alone.stays, g)
  parted_stretch (more c b s) t (alone.past_trivia h g) = let d = parted_stretch s t g in (d.0, alone.past_trivia h d.1, d.2)
  parted_stretch (more c b s) t (alone.past_element m p g) = let d = parted_stretch s t g in (d.0, alone.past_element m p d.1, d.2)
  parted_stretch (more c b s) t (alone.past_comma g) = let d = parted_stretch s t g in (d.0, alone.past_comma d.1, d.2)

  pub joined_stretch : {last mid to : Last} {s t : OrderedTree} → StretchAlone o kind last s mid → StretchAlone o kind mid t to → StretchAlone o kind last (followed_by s t) to
  joined_stretch alone.stays g = g
  joined_stretch (alone.past_trivia h s) g = alone.past_trivia h (joined_stretch s g)
  joined_stretch (alone.past_element m p s) g = alone.past_element m p (joined_stretch s g)
  joined_stretch (alone.past_comma s) g = alone.past_comma (joined_stretch s g)

  pub last_is : {last to : Last} {s : OrderedTree} → StretchAlone o kind last s to → to ≡ last_behind last s
  last_is alone.stays = refl
  last_is (alone.past_trivia {last = last} {content = content} {after = after} h g) = last_is g ∙ ap (λ l. last_behind l after) (sym (trivia_last o last content h))
  last_is (alone.past_element {last = last} {content = content} {after = after} m p g) = last_is g ∙ ap (λ l. last_behind l after) (sym (element_last last content (part_element o p)))
  last_is (alone.past_comma g) = last_is g

  comma_comes : (to : Last) (after : OrderedTree) → IsTrue (takes_comma to) → RowAlone o kind rows.a_comma after → RowAlone o kind to (token_then 0x2C after)
  comma_comes rows.nothing_yet after h g = cc
  comma_comes rows.an_element after h g = alone.comma g
  comma_comes rows.a_comma after h g = cc

  -- the rest of a row behind something else
  pub rest_comes : {last : Last} {row : OrderedTree} (to : Last) → RowAlone o kind last row → IsTrue (may_come o to row) → RowAlone o kind to row
  rest_comes to (alone.closes m) h = alone.closes (subst IsTrue (bracket_come o kind to) h)
  rest_comes to (alone.trivia {content = content} {after = after} t g) h = alone.trivia t (rest_comes to g (subst IsTrue (trivia_come o to content none after t) h))
  rest_comes to (alone.element {content = content} {below = below} {after = after} m p g) h = alone.element (subst IsTrue (element_come o to content below after (part_element o p)) h) p g
  rest_comes to (alone.comma {after = after} g) h = comma_comes to after h g

  -- the new row, and the rest of it
  pub record GivesWay (front now back : OrderedTree) : Type 0 where
    pub behind : Last
    pub before : StretchAlone o kind rows.nothing_yet front (last_behind rows.nothing_yet front)
    pub middle : RowAlone o kind (last_behind rows.nothing_yet front) (followed_by now back)
    pub rest : RowAlone o kind behind back
    pub new : RowAlone o kind rows.nothing_yet (followed_by front (followed_by now back))

  pub gives_way : (front was now back : OrderedTree) → RowAlone o kind rows.nothing_yet (followed_by front (followed_by was back)) → (to : Last) → StretchAlone o kind (last_behind rows.nothing_yet front) now to → IsTrue (may_come o to back)
      → GivesWay front now back
  gives_way front was now none g to k h = cc
  gives_way front was now (more content below after) g to k h =
      let whole = subst (RowAlone o kind rows.nothing_yet) (followed_joined front was (more content below after)) g in
      let rest = parted_row (followed_by front was) whole in
      let before_it = parted_stretch front was rest.1 in
      let behind = rest_comes to rest.2 h in
      let first = subst (λ l. StretchAlone o kind rows.nothing_yet front l) (last_is before_it.1) before_it.1 in
      let new = joined_row k behind in
      record { behind = to; before = first; middle = new; rest = behind; new = joined_row first new }
