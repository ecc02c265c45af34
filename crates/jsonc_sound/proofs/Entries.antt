-- What is read of a row entry by entry, one for each element: where an element leaves, its entry goes.
use Rattle.std.proofs.Common.{ℕ, suc, ◌+◌, ◌≡◌, ap, subst, refl, Bool, true, false, not, ◌||◌, List, [], ◌∷◌, IsTrue, if◌then◌else◌, arith}
use Rattle.jsonc_tree.specs.Content.{Content, token}
use Rattle.jsonc_tree.specs.OrderedTree.{OrderedTree, none, more, followed_by}
use Rattle.jsonc_tree.specs.Values.{is_passed_over}
use Rattle.jsonc_layout.specs.nodes.Kinds.{is_trivia, is_whitespace, is_newline}
use Rattle.jsonc_tree.specs.OrderedTree.{Top}
use Rattle.jsonc_sound.specs.TreeChanges.{IsElement}
use Rattle.jsonc_sound.specs.TriviaChanges.{AreTrivia, leaves_then}
use Rattle.jsonc_sound.specs.MarkChanges.{AreBlanks}
use Rattle.jsonc_sound.specs.Leaving.{AreInlineTrivia, element_count, among, ElementRemoved, with_comma_behind, with_comma_before, with_no_comma, ClosesUp, stays, closes_up}
use Rattle.jsonc_sound.proofs.RowParts.{beside_trivia, rest_trivia, between_trivia, line_trivia}

-- what is passed over
trivia_over : (content : Content) → IsTrue (is_trivia content) → IsTrue (is_passed_over content)
trivia_over (Content.whitespace s) h = refl
trivia_over (Content.newline k) h = refl
trivia_over (Content.comment s) h = refl
trivia_over content h = cc

one_blank : (content : Content) → IsTrue (is_whitespace content || is_newline content) → IsTrue (is_trivia content)
one_blank (Content.whitespace s) h = refl
one_blank (Content.newline k) h = refl
one_blank content h = cc

pub blanks_trivia : (cs : List Content) → AreBlanks cs → AreTrivia cs
blanks_trivia [] h = tt
blanks_trivia (c ∷ cs) h = (one_blank c h.0, blanks_trivia cs h.1)

module _ {V : Type 0} (R : OrderedTree → V → Type 0) (Gone : ℕ → V → V → Type 0) where
  -- what is read of the first row is what is read of the second, but for the entry of this number
  abbrev pub Loses : ℕ → OrderedTree → OrderedTree → Type 0
  Loses i x y = (vs : V) → R x vs → (ws : V) × Gone i vs ws × R y ws

  -- a node that is passed over has no entry, an element one
  pub record Reads : Type 0 where
    pub put : {content : Content} {below after : OrderedTree} {vs : V} → IsTrue (is_passed_over content) → R after vs → R (more content below after) vs
    pub taken : {content : Content} {below after : OrderedTree} {vs : V} → IsTrue (is_passed_over content) → R (more content below after) vs → R after vs
    pub first : {content : Content} {below after : OrderedTree} {vs : V} → IsElement content → R (more content below after) vs → (ws : V) × Gone 0 vs ws × R after ws
    pub later : {content : Content} {below x y : OrderedTree} {i : ℕ} {vs : V} → IsElement content → R (more content below x) vs
        → Loses i x y → (ws : V) × Gone (suc i) vs ws × R (more content below y) ws

  leaves_taken : Reads → (cs : List Content) (back : OrderedTree) (vs : V) → AreTrivia cs → R (leaves_then cs back) vs → R back vs
  leaves_taken reads [] back vs h r = r
  leaves_taken reads (c ∷ cs) back vs h r = leaves_taken reads cs back vs h.1 (reads.taken (trivia_over c h.0) r)

  -- the element, and trivia on both sides of it
  among_gone : Reads → (top : Top) (before line : List Content) (rest back : OrderedTree) → IsElement top.content → AreInlineTrivia before → AreTrivia line → ((vs : V) → R rest vs → R back vs)
      → Loses 0 (among before top line rest) back
  among_gone reads top before line rest back h b l f = λ vs r.
      let m = reads.first h (leaves_taken reads before (more top.content top.below (leaves_then line rest)) vs (beside_trivia before b) r) in
      (m.0, m.1, f m.0 (leaves_taken reads line rest m.0 l m.2))

  token_gone : Reads → (c i : ℕ) (x y : OrderedTree) → Loses i x y → Loses i (more (token c) none x) y
  token_gone reads c i x y l = λ vs r. l vs (reads.taken refl r)

  -- nodes before it
  over_either : Reads → (content : Content) (below x y : OrderedTree) (n i : ℕ) (b : Bool) → is_passed_over content ≡ b
      → Loses (n + i) x y → Loses ((if not b then suc n else n) + i) (more content below x) (more content below y)
  over_either reads content below x y n i true h l = λ vs r. let m = l vs (reads.taken h r) in (m.0, m.1, reads.put h m.2)
  over_either reads content below x y n i false h l = λ vs r.
      let m = reads.later (ap not h) r l in
      let one : suc (n + i) ≡ suc n + i = omega arith in
      (m.0, subst (λ k. Gone k vs m.0) one m.1, m.2)

  over_front : Reads → (front x y : OrderedTree) (i : ℕ) → Loses i x y → Loses (element_count front + i) (followed_by front x) (followed_by front y)
  over_front reads none x y i l =
      let same : i ≡ 0 + i = omega arith in
      subst (λ k. Loses k x y) same l
  over_front reads (more content below front) x y i l =
      over_either reads content below (followed_by front x) (followed_by front y) (element_count front) i (is_passed_over content) refl (over_front reads front x y i l)

  first_behind : Reads → (front x y : OrderedTree) → Loses 0 x y → Loses (element_count front) (followed_by front x) (followed_by front y)
  first_behind reads front x y l =
      let same : element_count front + 0 ≡ element_count front = omega arith in
      subst (λ k. Loses k (followed_by front x) (followed_by front y)) same (over_front reads front x y 0 l)

  leaves_row : Reads → (top : Top) (i : ℕ) (row left : OrderedTree) → IsElement top.content → ElementRemoved top i row left → Loses i row left
  leaves_row reads top i row left h (with_comma_behind front back before between line e b l m) =
      first_behind reads front (among before top between (more (token 0x2C) none (leaves_then line back))) back
      (among_gone reads top before between (more (token 0x2C) none (leaves_then line back)) back h b (between_trivia l) (λ vs r. leaves_taken reads line back vs (line_trivia l) (reads.taken refl r)))
  leaves_row reads top i row left h (with_comma_before front mid back before line e c b l n m k) =
      over_front reads front (more (token 0x2C) none (followed_by mid (among before top line back))) (followed_by mid back) (element_count mid)
      (token_gone reads 0x2C (element_count mid) (followed_by mid (among before top line back)) (followed_by mid back)
      (first_behind reads mid (among before top line back) back (among_gone reads top before line back back h b (rest_trivia line l) (λ vs r. r))))
  leaves_row reads top i row left h (with_no_comma front back before line e c b l n m) =
      first_behind reads front (among before top line back) back (among_gone reads top before line back back h b (rest_trivia line l) (λ vs r. r))

  closed_row : Reads → (left new : OrderedTree) (vs : V) → ClosesUp left new → R left vs → R new vs
  closed_row reads left new vs stays r = r
  closed_row reads left new vs (closes_up blanks {c = c} h) r = leaves_taken reads blanks (more (token c) none none) vs (blanks_trivia blanks h) r

  pub entry_gone : Reads → (top : Top) (i : ℕ) (row left new : OrderedTree) → IsElement top.content → ElementRemoved top i row left → ClosesUp left new → Loses i row new
  entry_gone reads top i row left new h e c = λ vs r. let m = leaves_row reads top i row left h e vs r in (m.0, m.1, closed_row reads left new m.0 c m.2)
