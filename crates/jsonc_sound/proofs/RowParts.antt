-- The row of a container, taken apart where an element stands in it, and what may come where that has left.
use Rattle.std.proofs.Common.{ℕ, ◌≡◌, sym, ap, subst, refl, Bool, true, false, not, ◌&&◌, List, [], ◌∷◌, ◌++◌, IsTrue}
use Rattle.jsonc_text.specs.Options.{Options}
use Rattle.jsonc_tree.specs.Content.{Content, token}
use Rattle.jsonc_tree.specs.OrderedTree.{OrderedTree, none, more, followed_by}
use Rattle.jsonc_layout.specs.nodes.Kinds.{is_inline_trivia, is_newline, is_trivia}
use Rattle.jsonc_layout.specs.nodes.Kinds.{is_comma}
use Rattle.jsonc_sound.specs.Shape.{IsTrivia, token_then}
use Rattle.jsonc_sound.specs.Rows as rows
use Rattle.jsonc_sound.specs.Rows.{RowKind, closing, Last, may_end}
use Rattle.jsonc_tree.specs.OrderedTree.{Top}
use Rattle.jsonc_sound.specs.TreeChanges.{IsElement}
use Rattle.jsonc_sound.specs.TriviaChanges.{AreTrivia, leaves_then}
use Rattle.jsonc_sound.proofs.FirstNodes.{no_element, trivia_over}
use Rattle.jsonc_sound.specs.Alone as alone
use Rattle.jsonc_sound.specs.Alone.{may_stand, may_come, PartAlone, RowAlone, StretchAlone}
use Rattle.jsonc_sound.proofs.Changed.{part_element}
use Rattle.jsonc_sound.proofs.SeamStretches.{parted_row}
use Rattle.jsonc_sound.specs.Leaving.{AreInlineTrivia, IsRestOfLine, without_end, with_end, LeavesBehind, comma_alone, comma_and_line, has_no_comma, comma_comes, among}

-- leaves before a row, and rows behind it
pub beside_trivia : (ls : List Content) → AreInlineTrivia ls → AreTrivia ls
beside_trivia [] h = tt
beside_trivia (content ∷ rest) h = (by content h.0, beside_trivia rest h.1)
  where
    by : (c : Content) → IsTrue (is_inline_trivia c) → IsTrue (is_trivia c)
    by (Content.whitespace s) k = refl
    by (Content.comment s) k = refl
    by c k = cc

pub newline_trivia : (content : Content) → IsTrue (is_newline content) → IsTrue (is_trivia content)
newline_trivia (Content.newline k) h = refl
newline_trivia content h = cc

ended_trivia : (ls : List Content) (end : Content) → AreInlineTrivia ls → IsTrue (is_newline end) → AreTrivia (ls ++ end ∷ [])
ended_trivia [] end h n = (newline_trivia end n, tt)
ended_trivia (content ∷ rest) end h n = ((beside_trivia (content ∷ []) (h.0, tt)).0, ended_trivia rest end h.1 n)

pub rest_trivia : (ls : List Content) → IsRestOfLine ls → AreTrivia ls
rest_trivia ls (without_end line h) = beside_trivia line h
rest_trivia ls (with_end line end h n) = ended_trivia line end h n

pub between_trivia : {between line : List Content} → LeavesBehind between line → AreTrivia between
between_trivia (comma_alone between t) = t
between_trivia (comma_and_line between line end b h n) = beside_trivia between b

pub line_trivia : {between line : List Content} → LeavesBehind between line → AreTrivia line
line_trivia (comma_alone between t) = tt
line_trivia (comma_and_line between line end b h n) = ended_trivia line end h n

pub leaves_followed : (ls : List Content) (r s : OrderedTree) → followed_by (leaves_then ls r) s ≡ leaves_then ls (followed_by r s)
leaves_followed [] r s = refl
leaves_followed (content ∷ rest) r s = ap (more content none) (leaves_followed rest r s)

pub among_followed : (before : List Content) (top : Top) (behind : List Content) (r s : OrderedTree) → followed_by (among before top behind r) s ≡ among before top behind (followed_by r s)
among_followed before top behind r s =
    subst (λ x. followed_by (among before top behind r) s ≡ leaves_then before (more top.content top.below x)) (leaves_followed behind r s) (leaves_followed before (more top.content top.below (leaves_then behind r)) s)

-- by what a node is
element_no_trivia : (content : Content) → IsElement content → IsTrue (is_trivia content) → ⊥
element_no_trivia (Content.whitespace s) h k = cc
element_no_trivia (Content.newline n) h k = cc
element_no_trivia (Content.comment s) h k = cc
element_no_trivia content h k = cc

closing_no_comma : (kind : RowKind) → token (closing kind) ≡ token 0x2C → ⊥
closing_no_comma rows.of_values e = let wrong : false ≡ true = ap is_comma e in cc
closing_no_comma rows.of_properties e = let wrong : false ≡ true = ap is_comma e in cc

trivia_is : (o : Options) (content : Content) → IsTrivia o content → IsTrue (is_trivia content)
trivia_is o (Content.whitespace s) h = refl
trivia_is o (Content.newline n) h = refl
trivia_is o (Content.comment s) h = refl
trivia_is o content h = absurd h

comma_past : (content : Content) (below after : OrderedTree) → IsTrue (is_trivia content) → comma_comes (more content below after) ≡ comma_comes after
comma_past (Content.whitespace s) below after h = refl
comma_past (Content.newline n) below after h = refl
comma_past (Content.comment s) below after h = refl
comma_past content below after h = cc

trivia_come : (o : Options) (last : Last) (content : Content) (below after : OrderedTree) → IsTrue (is_trivia content) → may_come o last (more content below after) ≡ may_come o last after
trivia_come o last (Content.whitespace s) below after h = refl
trivia_come o last (Content.newline n) below after h = refl
trivia_come o last (Content.comment s) below after h = refl
trivia_come o last content below after h = cc

element_come : (o : Options) (last : Last) (content : Content) (below after : OrderedTree) → IsElement content → may_come o last (more content below after) ≡ may_stand o last
element_come o last (Content.whitespace s) below after h = cc
element_come o last (Content.newline n) below after h = cc
element_come o last (Content.comment s) below after h = cc
element_come o last (Content.token c) below after h = cc
element_come o last content below after h = refl

bracket_come : (o : Options) (kind : RowKind) (last : Last) → may_come o last (token_then (closing kind) none) ≡ may_end o last
bracket_come o rows.of_values last = refl
bracket_come o rows.of_properties last = refl

pub first_and : (a b : Bool) → IsTrue (a && b) → IsTrue a
first_and true b h = refl
first_and false b h = cc

pub second_and : (a b : Bool) → IsTrue (a && b) → IsTrue b
second_and true b h = h
second_and false b h = cc

-- no comma stood last
abbrev pub NoComma : Last → Type 0
NoComma rows.nothing_yet = Unit {0}
NoComma rows.an_element = Unit {0}
NoComma rows.a_comma = ⊥

module _ (o : Options) (kind : RowKind) where
  past_leaf : {last : Last} {content : Content} {below after : OrderedTree} → IsTrue (is_trivia content) → RowAlone o kind last (more content below after) → RowAlone o kind last after
  past_leaf h (alone.closes m) = cc
  past_leaf h (alone.trivia t g) = g
  past_leaf h (alone.element {content = content} m p g) = absurd (element_no_trivia content (part_element o p) h)
  past_leaf h (alone.comma g) = cc

  pub past_leaves : (ls : List Content) {last : Last} {r : OrderedTree} → AreTrivia ls → RowAlone o kind last (leaves_then ls r) → RowAlone o kind last r
  past_leaves [] h g = g
  past_leaves (content ∷ rest) h g = past_leaves rest h.1 (past_leaf h.0 g)

  -- an element may stand where it does
  record Stands (last : Last) (content : Content) (below after : OrderedTree) : Type 0 where
    may : IsTrue (may_stand o last)
    rest : RowAlone o kind rows.an_element after

  stands : {last : Last} {content : Content} {below after : OrderedTree} → IsElement content → RowAlone o kind last (more content below after) → Stands last content below after
  stands h (alone.closes m) = cc
  stands h (alone.trivia {content = content} t g) = absurd (no_element content h (trivia_over o content t))
  stands h (alone.element m p g) = record { may = m; rest = g }
  stands h (alone.comma g) = cc

  behind_comma : {last : Last} {content : Content} {below after : OrderedTree} → content ≡ token 0x2C → RowAlone o kind last (more content below after) → (last ≡ rows.an_element) × RowAlone o kind rows.a_comma after
  behind_comma e (alone.closes m) = absurd (closing_no_comma kind e)
  behind_comma e (alone.trivia t g) = absurd (subst (IsTrivia o) e t)
  behind_comma e (alone.element m p g) = let wrong : IsElement (token 0x2C) = subst IsElement e (part_element o p) in cc
  behind_comma e (alone.comma g) = (refl, g)

  pub at_comma : {last : Last} {after : OrderedTree} → RowAlone o kind last (token_then 0x2C after) → (last ≡ rows.an_element) × RowAlone o kind rows.a_comma after
  at_comma g = behind_comma refl g

  before_leaves : (front : OrderedTree) (ls : List Content) (top : Top) (after : OrderedTree) {last : Last}
      → RowAlone o kind last (followed_by front (leaves_then ls (more top.content top.below after))) → (mid : Last) × StretchAlone o kind last front mid × RowAlone o kind mid (leaves_then ls (more top.content top.below after))
  before_leaves front [] top after g = parted_row o kind front g
  before_leaves front (content ∷ rest) top after g = parted_row o kind front g

  -- what stands before an element, and behind it
  pub record Parted (last : Last) (front back : OrderedTree) : Type 0 where
    pub stood : Last
    pub before : StretchAlone o kind last front stood
    pub may : IsTrue (may_stand o stood)
    pub behind : RowAlone o kind rows.an_element back

  pub parted_at : (front : OrderedTree) (before : List Content) (top : Top) (line : List Content) (back : OrderedTree) {last : Last} → AreTrivia before → AreTrivia line → IsElement top.content
      → RowAlone o kind last (followed_by front (among before top line back)) → Parted last front back
  parted_at front before top line back h k e g =
      let parts = before_leaves front before top (leaves_then line back) g in
      let here = stands e (past_leaves before h parts.2) in
      record { stood = parts.0; before = parts.1; may = here.may; behind = past_leaves line k here.rest }

  -- what may come
  pub row_comes : {last : Last} {row : OrderedTree} → RowAlone o kind last row → IsTrue (may_come o last row)
  row_comes (alone.closes {last = last} m) = subst IsTrue (sym (bracket_come o kind last)) m
  row_comes (alone.trivia {last = last} {content = content} {after = after} h g) = subst IsTrue (sym (trivia_come o last content none after (trivia_is o content h))) (row_comes g)
  row_comes (alone.element {last = last} {content = content} {below = below} {after = after} m p g) = subst IsTrue (sym (element_come o last content below after (part_element o p))) m
  row_comes (alone.comma g) = refl

  ends_without_comma : (to : Last) → IsTrue (may_end o rows.a_comma) → IsTrue (may_end o to)
  ends_without_comma rows.nothing_yet h = refl
  ends_without_comma rows.an_element h = refl
  ends_without_comma rows.a_comma h = h

  -- what stood behind a comma may come where an element stood before it
  behind_comma_comes : {last : Last} {row : OrderedTree} (to : Last) → last ≡ rows.a_comma → IsTrue (may_stand o to) → RowAlone o kind last row → IsTrue (may_come o to row)
  behind_comma_comes to e h (alone.closes m) = subst IsTrue (sym (bracket_come o kind to)) (ends_without_comma to (subst (λ l. IsTrue (may_end o l)) e m))
  behind_comma_comes to e h (alone.trivia {content = content} {after = after} t g) = subst IsTrue (sym (trivia_come o to content none after (trivia_is o content t))) (behind_comma_comes to e h g)
  behind_comma_comes to e h (alone.element {content = content} {below = below} {after = after} m p g) = subst IsTrue (sym (element_come o to content below after (part_element o p))) h
  behind_comma_comes to e h (alone.comma g) = cc

  pub comma_gone : {row : OrderedTree} (to : Last) → IsTrue (may_stand o to) → RowAlone o kind rows.a_comma row → IsTrue (may_come o to row)
  comma_gone to h g = behind_comma_comes to refl h g

  may_close : (to : Last) → NoComma to → IsTrue (may_end o to)
  may_close rows.nothing_yet h = refl
  may_close rows.an_element h = refl
  may_close rows.a_comma h = absurd h

  -- what stood behind an element, and is no comma, may come where that stood
  pub element_gone : {last : Last} {row : OrderedTree} (to : Last) → NoComma to → IsTrue (may_stand o to) → IsTrue (not (comma_comes row)) → RowAlone o kind last row → IsTrue (may_come o to row)
  element_gone to n h k (alone.closes m) = subst IsTrue (sym (bracket_come o kind to)) (may_close to n)
  element_gone to n h k (alone.trivia {content = content} {after = after} t g) =
      let over = trivia_is o content t in
      subst IsTrue (sym (trivia_come o to content none after over)) (element_gone to n h (subst (λ b. IsTrue (not b)) (comma_past content none after over) k) g)
  element_gone to n h k (alone.element {content = content} {below = below} {after = after} m p g) = subst IsTrue (sym (element_come o to content below after (part_element o p))) h
  element_gone to n h k (alone.comma g) = cc

  -- stretches without a comma
  pub no_comma_behind : {last to : Last} {s : OrderedTree} → NoComma last → IsTrue (has_no_comma s) → StretchAlone o kind last s to → NoComma to
  no_comma_behind n h alone.stays = n
  no_comma_behind n h (alone.past_trivia {content = content} {after = after} t g) = no_comma_behind n (second_and (not (is_comma content)) (has_no_comma after) h) g
  no_comma_behind n h (alone.past_element {content = content} {after = after} m p g) = no_comma_behind tt (second_and (not (is_comma content)) (has_no_comma after) h) g
  no_comma_behind n h (alone.past_comma g) = cc

  element_last : {last to : Last} {s : OrderedTree} → last ≡ rows.an_element → IsTrue (has_no_comma s) → StretchAlone o kind last s to → to ≡ rows.an_element
  element_last e h alone.stays = e
  element_last e h (alone.past_trivia {content = content} {after = after} t g) = element_last e (second_and (not (is_comma content)) (has_no_comma after) h) g
  element_last e h (alone.past_element {content = content} {after = after} m p g) = element_last refl (second_and (not (is_comma content)) (has_no_comma after) h) g
  element_last e h (alone.past_comma g) = cc

  -- behind a comma such a stretch, behind which an element may stand, leads as well from an element to an element
  from_comma : {last to : Last} {s : OrderedTree} → last ≡ rows.a_comma → IsTrue (has_no_comma s) → IsTrue (may_stand o to) → StretchAlone o kind last s to → StretchAlone o kind rows.an_element s rows.an_element
  from_comma e h k alone.stays = alone.stays
  from_comma e h k (alone.past_trivia {content = content} {after = after} t g) = alone.past_trivia t (from_comma e (second_and (not (is_comma content)) (has_no_comma after) h) k g)
  from_comma e h k (alone.past_element {content = content} {after = after} m p g) =
      let last = element_last refl (second_and (not (is_comma content)) (has_no_comma after) h) g in
      alone.past_element (subst (λ l. IsTrue (may_stand o l)) last k) p (subst (StretchAlone o kind rows.an_element after) last g)
  from_comma e h k (alone.past_comma g) = cc

  pub leads_on : {to : Last} {s : OrderedTree} → IsTrue (has_no_comma s) → IsTrue (may_stand o to) → StretchAlone o kind rows.a_comma s to → StretchAlone o kind rows.an_element s rows.an_element
  leads_on h k g = from_comma refl h k g

  -- the last bracket
  pub before_bracket : {last : Last} {row : OrderedTree} → RowAlone o kind last row → (s : OrderedTree) × (row ≡ followed_by s (token_then (closing kind) none))
  before_bracket (alone.closes m) = (none, refl)
  before_bracket (alone.trivia {content = content} h g) = let d = before_bracket g in (more content none d.0, ap (more content none) d.1)
  before_bracket (alone.element {content = content} {below = below} m p g) = let d = before_bracket g in (more content below d.0, ap (more content below) d.1)
  before_bracket (alone.comma g) = let d = before_bracket g in (token_then 0x2C d.0, ap (token_then 0x2C) d.1)

  no_row : {last : Last} → RowAlone o kind last none → ⊥
  no_row g = elim g [ ]

  pub one_token : {last : Last} {content : Content} → (c : ℕ) → content ≡ token c → RowAlone o kind last (more content none none) → token c ≡ token (closing kind)
  one_token c e (alone.closes m) = sym e
  one_token c e (alone.trivia t g) = absurd (no_row g)
  one_token c e (alone.element m p g) = absurd (no_row g)
  one_token c e (alone.comma g) = absurd (no_row g)
