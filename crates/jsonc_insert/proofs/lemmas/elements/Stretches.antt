-- Stretches of an array's row before and behind a new element.
use Rattle.std.proofs.Common.{◌≡◌, ◌≢◌, ◌∙◌, ℕ, suc, Bool, true, false, not, List, [], ◌∷◌, Option, Some, IsTrue, refl, sym, ap, subst, arith, if◌then◌else◌}
use Rattle.jsonc_text.specs.Options.{Options}
use Rattle.jsonc_text.specs.Text.{starts}
use Rattle.jsonc_tree.specs.Content.{Content, newline, token, whitespace}
use Rattle.jsonc_tree.specs.OrderedTree.{OrderedTree, none, more, followed_by, leaves}
use Rattle.jsonc_layout.specs.nodes.Kinds.{is_trivia}
use Rattle.jsonc_sound.specs.Adjacent.{LeavesEnd, last_printed}
use Rattle.jsonc_sound.specs.Alone as alone
use Rattle.jsonc_sound.specs.Alone.{may_stand, PartAlone, StretchAlone}
use Rattle.jsonc_sound.specs.Leaving.{comma_comes, element_count}
use Rattle.jsonc_sound.specs.Rows as rows
use Rattle.jsonc_sound.specs.Rows.{RowKind, Last}
use Rattle.jsonc_sound.specs.Spaces.{is_bare_leaf, first_printed}
use Rattle.jsonc_sound.specs.TreeChanges.{IsElement}
use Rattle.jsonc_sound.specs.TriviaChanges.{AreTrivia, leaves_then}
use Rattle.jsonc_sound.proofs.Changed.{part_element}
use Rattle.jsonc_edit.proofs.LeafKinds.{trivia_is, first_not_bare}
pub use Rattle.jsonc_sound.proofs.Commas.{and_false, false_and}
use Rattle.jsonc_sound.proofs.Commas.{ends_well, first_with, trivia_not_bare}
use Rattle.jsonc_sound.proofs.FirstNodes.{no_element, trivia_over}
use Rattle.jsonc_sound.proofs.SeamStretches.{joined_stretch, parted_stretch}
use Rattle.jsonc_sound.proofs.Spaced.{space_trivia}
use Rattle.jsonc_sound.proofs.Texts.{comma_first, trivia_leaf}
use Rattle.jsonc_insert.specs.elements.Coming.{Gap, nothing, a_space, a_line, takes_element}

-- by what a node is
element_no_trivia : (content : Content) → IsElement content → IsTrue (is_trivia content) → ⊥
element_no_trivia (Content.whitespace s) h k = cc
element_no_trivia (Content.newline n) h k = cc
element_no_trivia (Content.comment s) h k = cc
element_no_trivia content h k = cc

pub comma_past : (content : Content) (below after : OrderedTree) → IsTrue (is_trivia content) → comma_comes (more content below after) ≡ comma_comes after
comma_past (Content.whitespace s) below after h = refl
comma_past (Content.newline n) below after h = refl
comma_past (Content.comment s) below after h = refl
comma_past content below after h = cc

pub count_past : (content : Content) (below after : OrderedTree) → IsTrue (is_trivia content) → element_count (more content below after) ≡ element_count after
count_past (Content.whitespace s) below after h = refl
count_past (Content.newline n) below after h = refl
count_past (Content.comment s) below after h = refl
count_past content below after h = cc

pub count_one : (content : Content) (below after : OrderedTree) → IsElement content → element_count (more content below after) ≡ suc (element_count after)
count_one content below after h = ap (λ b. if b then suc (element_count after) else element_count after) h

pub first_comma : (after : List Content) → is_bare_leaf (first_printed (token 0x2C ∷ after)) ≡ false
first_comma after = ap (λ x. is_bare_leaf (if starts (λ d. true) x then Some (token 0x2C) else first_printed after)) comma_first

-- a gap between two nodes
pub gap_first : {b : Bool} {gap : List Content} (row : OrderedTree) → Gap b gap → is_bare_leaf (first_printed (leaves row)) ≡ false → is_bare_leaf (first_printed (leaves (leaves_then gap row))) ≡ false
gap_first row nothing h = h
gap_first row a_space h = first_not_bare (whitespace (0x20 ∷ [])) (leaves row) refl h
gap_first row (a_line {k = k} {s = s} i) h = first_not_bare (newline k) (whitespace s ∷ leaves row) refl (first_not_bare (whitespace s) (leaves row) refl h)

pub gap_ends : (o : Options) {b : Bool} {gap : List Content} (row : OrderedTree) (n : Option ℕ) → Gap b gap → LeavesEnd o (leaves row) n → LeavesEnd o (leaves (leaves_then gap row)) n
gap_ends o row n nothing h = h
gap_ends o row n a_space h = (tt, h)
gap_ends o row n (a_line i) h = (tt, (tt, h))

module _ (o : Options) (kind : RowKind) where
  pub gap_stretch : {b : Bool} {gap : List Content} {last to : Last} {row : OrderedTree} → Gap b gap → StretchAlone o kind last row to → StretchAlone o kind last (leaves_then gap row) to
  gap_stretch nothing g = g
  gap_stretch a_space g = alone.past_trivia (space_trivia o) g
  gap_stretch (a_line {k = k} i) g = alone.past_trivia {content = newline k} tt (alone.past_trivia i g)

  past_one : {last to : Last} {content : Content} {below after : OrderedTree} → IsTrue (is_trivia content) → StretchAlone o kind last (more content below after) to → StretchAlone o kind last after to
  past_one h (alone.past_trivia t g) = g
  past_one h (alone.past_element {content = content} m p g) = absurd (element_no_trivia content (part_element o p) h)
  past_one h (alone.past_comma g) = cc

  -- leaves of trivia leave
  pub past_all : (ls : List Content) {last to : Last} {row : OrderedTree} → AreTrivia ls → StretchAlone o kind last (leaves_then ls row) to → StretchAlone o kind last row to
  past_all [] h g = g
  past_all (content ∷ ls) h g = past_all ls h.1 (past_one h.0 g)

  pub stretch_without : (front row : OrderedTree) (ls : List Content) {last to : Last} → AreTrivia ls → StretchAlone o kind last (followed_by front (leaves_then ls row)) to → StretchAlone o kind last (followed_by front row) to
  stretch_without front row ls h g = let p = parted_stretch o kind front (leaves_then ls row) g in joined_stretch o kind p.1 (past_all ls h p.2)

  -- leaves of trivia stand anywhere
  pub trivia_anywhere : (ls : List Content) {last to : Last} → AreTrivia ls → StretchAlone o kind last (leaves_then ls none) to → (other : Last) → StretchAlone o kind other (leaves_then ls none) other
  trivia_anywhere [] h g other = alone.stays
  trivia_anywhere (content ∷ ls) h (alone.past_trivia t g) other = alone.past_trivia t (trivia_anywhere ls h.1 g other)
  trivia_anywhere (content ∷ ls) h (alone.past_element {content = c} m p g) other = absurd (element_no_trivia c (part_element o p) h.0)
  trivia_anywhere (content ∷ ls) h (alone.past_comma g) other = cc

  -- an element that is first
  pub record FirstPart (last to : Last) (content : Content) (below after : OrderedTree) : Type 0 where
    pub may : IsTrue (may_stand o last)
    pub part : PartAlone o kind content below
    pub rest : StretchAlone o kind rows.an_element after to

  pub first_part : {last to : Last} {content : Content} {below after : OrderedTree} → IsElement content → StretchAlone o kind last (more content below after) to → FirstPart last to content below after
  first_part h (alone.past_trivia {content = content} t g) = absurd (no_element content h (trivia_over o content t))
  first_part h (alone.past_element m p g) = record { may = m; part = p; rest = g }
  first_part h (alone.past_comma g) = cc

  -- a stretch in which no comma comes before its first element goes on behind a comma
  pub behind_comma : {last to : Last} {row : OrderedTree} → StretchAlone o kind last row to → IsTrue (not (comma_comes row)) → element_count row ≢ 0 → StretchAlone o kind rows.a_comma row to
  behind_comma alone.stays c n = absurd (n refl)
  behind_comma (alone.past_trivia {content = content} {after = after} t g) c n =
      let over = trivia_is o content t in
      alone.past_trivia t (behind_comma g (subst (λ b. IsTrue (not b)) (comma_past content none after over) c) (λ e. n (count_past content none after over ∙ e)))
  behind_comma (alone.past_element m p g) c n = alone.past_element refl p g
  behind_comma (alone.past_comma g) c n = cc

  no_count : (content : Content) (below after : OrderedTree) {A : Type 0} → IsElement content → element_count (more content below after) ≡ 0 → A
  no_count content below after h e = absurd (let wrong : suc (element_count after) ≡ 0 = sym (count_one content below after h) ∙ e in omega (arith, wrong))

  -- one without elements is trivia, and stands anywhere
  pub without_elements : {last to : Last} {row : OrderedTree} → StretchAlone o kind last row to → IsTrue (not (comma_comes row)) → element_count row ≡ 0 → (other : Last) → StretchAlone o kind other row other
  without_elements alone.stays c n other = alone.stays
  without_elements (alone.past_trivia {content = content} {after = after} t g) c n other =
      let over = trivia_is o content t in
      alone.past_trivia t (without_elements g (subst (λ b. IsTrue (not b)) (comma_past content none after over) c) (sym (count_past content none after over) ∙ n) other)
  without_elements (alone.past_element {content = content} {below = below} {after = after} m p g) c n other = no_count content below after (part_element o p) n
  without_elements (alone.past_comma g) c n other = cc

  pub trivia_first : {last to : Last} {row : OrderedTree} → StretchAlone o kind last row to → IsTrue (not (comma_comes row)) → element_count row ≡ 0 → is_bare_leaf (first_printed (leaves row)) ≡ false
  trivia_first alone.stays c n = refl
  trivia_first (alone.past_trivia {content = content} {after = after} t g) c n =
      let over = trivia_is o content t in
      first_with (leaves after) (trivia_leaf o content t) (trivia_not_bare o content t) (trivia_first g (subst (λ b. IsTrue (not b)) (comma_past content none after over) c) (sym (count_past content none after over) ∙ n))
  trivia_first (alone.past_element {content = content} {below = below} {after = after} m p g) c n = no_count content below after (part_element o p) n
  trivia_first (alone.past_comma g) c n = cc

  -- where no element stood last, no comma comes
  pub none_comes_first : {last to : Last} {row : OrderedTree} → IsTrue (takes_element last) → StretchAlone o kind last row to → IsTrue (not (comma_comes row))
  none_comes_first h alone.stays = refl
  none_comes_first h (alone.past_trivia {content = content} {after = after} t g) = subst (λ b. IsTrue (not b)) (sym (comma_past content none after (trivia_is o content t))) (none_comes_first h g)
  none_comes_first h (alone.past_element {content = content} {below = below} {after = after} m p g) = by content (part_element o p)
    where
      by : (c : Content) → IsElement c → IsTrue (not (comma_comes (more c below after)))
      by (Content.whitespace s) e = cc
      by (Content.newline k) e = cc
      by (Content.comment s) e = cc
      by (Content.token k) e = cc
      by c e = refl
  none_comes_first h (alone.past_comma g) = cc

  pub ends_not_bare : {last : Last} {stretch : OrderedTree} (mid : Last) → IsTrue (takes_element mid) → StretchAlone o kind last stretch mid → is_bare_leaf (last_printed (leaves stretch)) ≡ false
  ends_not_bare rows.nothing_yet h g = (ends_well o kind g (λ h. h)).not_bare
  ends_not_bare rows.an_element h g = cc
  ends_not_bare rows.a_comma h g = (ends_well o kind g (λ h. h)).not_bare

  pub takes_stands : (last : Last) → IsTrue (takes_element last) → IsTrue (may_stand o last)
  takes_stands rows.nothing_yet h = refl
  takes_stands rows.an_element h = cc
  takes_stands rows.a_comma h = refl
