-- The ends of lines that a container counts.
use Rattle.std.proofs.Common.{◌≡◌, ◌≢◌, ℕ, Bool, true, false, zero, suc, ◌+◌, ◌-◌, ◌<◌, ◌≤◌, List, [], ◌∷◌, ◌++◌, length, Option, None, Some, inl, inr, slice_get, slice_index, nat_lt, refl, sym, ap, ◌∙◌, arith, length-set}
use Rattle.std.specs.List.{list_any, splice}
use Rattle.std.proofs.lemmas.Bool.{cases_eq, cases_Bool, cases_lt, lt-ltb, le-ltb}
use Rattle.std.proofs.lemmas.List.{set-get_or}
use Rattle.std.proofs.lemmas.Option.{slice_get_within, get_or_from_slice_get}
use Rattle.jsonc_tree.specs.Content.{is_newline}
use Rattle.jsonc_tree.specs.Tree as tree
use Rattle.jsonc_tree.specs.Tree.{children_at, content_at, parent_at, is_newline_at, place_at, IsTree}
use Rattle.jsonc_tree.specs.Stored.{LinkedNode, link_at, nowhere, ahead_at, back_at, lines_set, one_if, counted_in, counted_out, line_ends}
use Rattle.jsonc_tree.proofs.AgreeingLinks.{Agrees}
use Rattle.jsonc_tree.proofs.Written.{kept, same_here, same_there}

-- one counts as one
pub one_le : (b : Bool) → one_if b ≤ 1
one_le true = omega arith
one_le false = omega arith

-- what a list of nodes says of the ends of lines in a row
module _ (ns : List tree.Node) where
  pub line_ends-append : (xs ys : List ℕ) → line_ends ns (xs ++ ys) ≡ line_ends ns xs + line_ends ns ys
  line_ends-append [] ys = omega arith
  line_ends-append (x ∷ xs) ys = omega (arith, line_ends-append xs ys)

  pub line_ends-short : (xs : List ℕ) → line_ends ns xs ≤ length xs
  line_ends-short [] = omega arith
  line_ends-short (x ∷ xs) = omega (arith, one_le (is_newline_at ns x), line_ends-short xs)

  -- a node that came into a row is counted once more
  pub line_ends-came : (x : ℕ) (xs : List ℕ) (g : ℕ) → line_ends ns (splice xs g g (x ∷ [])) ≡ line_ends ns xs + one_if (is_newline_at ns x)
  line_ends-came x [] zero = omega arith
  line_ends-came x [] (suc g) = omega arith
  line_ends-came x (y ∷ ys) zero = omega arith
  line_ends-came x (y ∷ ys) (suc g) = omega (arith, line_ends-came x ys g)

  -- and one that went out of it once less
  pub line_ends-went : (x : ℕ) (xs : List ℕ) (g : ℕ) → slice_get xs g ≡ Some x → line_ends ns (splice xs g (suc g) []) + one_if (is_newline_at ns x) ≡ line_ends ns xs
  line_ends-went x [] g e = let wrong : None ≡ Some x = e in cc
  line_ends-went x (y ∷ ys) zero e =
      let is : y ≡ x = let both : Some y ≡ Some x = e in cc in
      omega (arith, ap (λ n. one_if (is_newline_at ns n)) is)
  line_ends-went x (y ∷ ys) (suc g) e = omega (arith, line_ends-went x ys g e)

  -- whether any line ends
  pub line_ends-any : (xs : List ℕ) (n : ℕ) → n ≡ line_ends ns xs → (0 < n → list_any (is_newline_at ns) xs ≡ true) × (n ≡ 0 → list_any (is_newline_at ns) xs ≡ false)
  line_ends-any [] n e = (λ h. absurd (omega (arith, e, h)), λ z. refl)
  line_ends-any (x ∷ xs) n e =
      elim (cases_Bool (is_newline_at ns x)) [
        | inl is ↦ (λ h. rw is refl, λ z. absurd (omega (arith, e, z, ap one_if is)))
        | inr not ↦
            let rest = line_ends-any xs (line_ends ns xs) refl in
            let same : n ≡ line_ends ns xs = omega (arith, e, ap one_if not) in
            (λ h. rw not (rest.0 (omega (arith, h, same))), λ z. rw not (rest.1 (omega (arith, z, same))))
      ]

  pub any_counted : (xs : List ℕ) (n : ℕ) → n ≡ line_ends ns xs → nat_lt 0 n ≡ list_any (is_newline_at ns) xs
  any_counted xs n e =
      elim (cases_lt 0 n) [
        | inl h ↦ lt-ltb 0 n h ∙ sym ((line_ends-any xs n e).0 h)
        | inr h ↦ le-ltb 0 n h ∙ sym ((line_ends-any xs n e).1 (omega (arith, h)))
      ]

-- rows of the same members, that are the same in two lists of nodes
pub line_ends-like : (old new : List tree.Node) (xs : List ℕ) → ((k : ℕ) → k < length xs → content_at new (slice_index xs k) ≡ content_at old (slice_index xs k)) → line_ends new xs ≡ line_ends old xs
line_ends-like old new [] h = refl
line_ends-like old new (x ∷ xs) h =
    let here : is_newline_at new x ≡ is_newline_at old x = ap is_newline (h 0 (omega arith)) in
    omega (arith, ap one_if here, line_ends-like old new xs (λ k l. h (suc k) (omega arith)))

-- one node of a row that becomes another
pub line_ends-changed : (old new : List tree.Node) (x : ℕ) (xs : List ℕ) (g : ℕ) → slice_get xs g ≡ Some x → ((k : ℕ) → k < length xs → k ≢ g → content_at new (slice_index xs k) ≡ content_at old (slice_index xs k)) → line_ends new xs + one_if (is_newline_at old x) ≡ line_ends old xs + one_if (is_newline_at new x)
line_ends-changed old new x [] g e h = let wrong : None ≡ Some x = e in cc
line_ends-changed old new x (y ∷ ys) zero e h =
    let is : y ≡ x = let both : Some y ≡ Some x = e in cc in
    let rest = line_ends-like old new ys (λ k l. h (suc k) (omega arith) (λ z. omega (arith, z))) in
    omega (arith, rest, ap (λ n. one_if (is_newline_at old n)) is, ap (λ n. one_if (is_newline_at new n)) is)
line_ends-changed old new x (y ∷ ys) (suc g) e h =
    let here : is_newline_at new y ≡ is_newline_at old y = ap is_newline (h 0 (omega arith) (λ z. omega (arith, z))) in
    let rest = line_ends-changed old new x ys g e (λ k l ne. h (suc k) (omega arith) (λ z. ne (omega (arith, z)))) in
    omega (arith, rest, ap one_if here)

-- what is no end of a line is not counted
pub counted_in_none : (ls : List LinkedNode) (c : ℕ) (b : Bool) → b ≡ false → ls ≡ counted_in ls c b
counted_in_none ls c b not =
    let none : (link_at ls c).lines + 0 ≡ (link_at ls c).lines = omega arith in
    sym (ap (λ u. lines_set ls c ((link_at ls c).lines + one_if u)) not ∙ ap (lines_set ls c) none ∙ set-get_or ls c nowhere)

pub counted_out_none : (ls : List LinkedNode) (c : ℕ) (b : Bool) → b ≡ false → ls ≡ counted_out ls c b
counted_out_none ls c b not =
    let none : (link_at ls c).lines - 0 ≡ (link_at ls c).lines = omega arith in
    sym (ap (λ u. lines_set ls c ((link_at ls c).lines - one_if u)) not ∙ ap (lines_set ls c) none ∙ set-get_or ls c nowhere)

-- a container's count alone is written
module _ (ls : List LinkedNode) (c to : ℕ) where
  abbrev written : LinkedNode
  written = record (link_at ls c) { lines = to }

  pub length-lines_set : length (lines_set ls c to) ≡ length ls
  length-lines_set = length-set ls c written

  ahead_same : (d : ℕ) (o : Option ℕ) → ahead_at (lines_set ls c to) d o ≡ ahead_at ls d o
  ahead_same d None = kept (λ n. n.first) ls c d written refl
  ahead_same d (Some m) = kept (λ n. n.next) ls c m written refl

  back_same : (d : ℕ) (o : Option ℕ) → back_at (lines_set ls c to) d o ≡ back_at ls d o
  back_same d None = kept (λ n. n.last) ls c d written refl
  back_same d (Some m) = kept (λ n. n.previous) ls c m written refl

  pub lines_here : c < length ls → (link_at (lines_set ls c to) c).lines ≡ to
  lines_here h = same_here (λ n. n.lines) ls c written h

  pub lines_there : (d : ℕ) → d ≢ c → (link_at (lines_set ls c to) d).lines ≡ (link_at ls d).lines
  lines_there d ne = same_there (λ n. n.lines) ls c d written ne

  pub container_counted : (d : ℕ) → (link_at (lines_set ls c to) d).content ≡ (link_at ls d).content
  container_counted d = kept (λ n. n.content) ls c d written refl

  pub parent_counted : (d : ℕ) → (link_at (lines_set ls c to) d).parent ≡ (link_at ls d).parent
  parent_counted d = kept (λ n. n.parent) ls c d written refl

  -- the links say what they said
  pub counted_agrees : (ns : List tree.Node) → Agrees ls ns → Agrees (lines_set ls c to) ns
  counted_agrees ns same = record {
    len = length-lines_set ∙ same.len;
    content = λ n h. container_counted n ∙ same.content n h;
    parent = λ n. parent_counted n ∙ same.parent n;
    linked = record {
      ahead = λ d k h. ahead_same d _ ∙ same.linked.ahead d k h;
      back = λ d k h. back_same d _ ∙ same.linked.back d k h;
      alone = λ n said. (
        kept (λ m. m.next) ls c n written refl ∙ (same.linked.alone n said).0,
        kept (λ m. m.previous) ls c n written refl ∙ (same.linked.alone n said).1,
      );
    };
  }

-- each container counts the ends of lines in its row
abbrev pub Counts : List LinkedNode → List tree.Node → Type 0
Counts ls ns = (c : ℕ) → (link_at ls c).lines ≡ line_ends ns (children_at ns c)

module _ (ls : List LinkedNode) (old new : List tree.Node) (c g x : ℕ) (at : c < length ls) (contents : (n : ℕ) → content_at new n ≡ content_at old n) (others : (n : ℕ) → n ≢ c → children_at new n ≡ children_at old n) where
  elsewhere : (d : ℕ) → d ≢ c → line_ends new (children_at new d) ≡ line_ends old (children_at old d)
  elsewhere d ne =
      line_ends-like old new (children_at new d) (λ k h. contents _) ∙ ap (line_ends old) (others d ne)

  pub counts_came : Counts ls old → children_at new c ≡ splice (children_at old c) g g (x ∷ []) → Counts (counted_in ls c (is_newline_at old x)) new
  counts_came counts row d =
      elim (cases_eq d c) [
        | inl is ↦
            let same = line_ends-like old new (children_at new c) (λ k h. contents _) ∙ ap (line_ends old) row in
            rw is (lines_here ls c _ at ∙ omega (arith, counts c, same, line_ends-came old x (children_at old c) g))
        | inr ne ↦ lines_there ls c _ d ne ∙ counts d ∙ sym (elsewhere d ne)
      ]

  pub counts_went : Counts ls old → slice_get (children_at old c) g ≡ Some x → children_at new c ≡ splice (children_at old c) g (suc g) [] → Counts (counted_out ls c (is_newline_at old x)) new
  counts_went counts stood row d =
      elim (cases_eq d c) [
        | inl is ↦
            let same = line_ends-like old new (children_at new c) (λ k h. contents _) ∙ ap (line_ends old) row in
            rw is (lines_here ls c _ at ∙ omega (arith, counts c, same, line_ends-went old x (children_at old c) g stood))
        | inr ne ↦ lines_there ls c _ d ne ∙ counts d ∙ sym (elsewhere d ne)
      ]

-- a leaf of this container's row that becomes another: it is counted no more, then as what it is now
module _ (ls : List LinkedNode) (old new : List tree.Node) (t : IsTree old) (c g x : ℕ) (at : c < length ls) (row : (d : ℕ) → children_at new d ≡ children_at old d) (contents : (n : ℕ) → n ≢ x → content_at new n ≡ content_at old n) (counts : Counts ls old) where
  -- rows without it
  unchanged : (d : ℕ) → parent_at old x ≢ Some d → line_ends new (children_at new d) ≡ line_ends old (children_at old d)
  unchanged d ne =
      ap (line_ends new) (row d)
      ∙ line_ends-like old new (children_at old d) (λ k h. contents _ (λ e. ne (ap (parent_at old) (sym e) ∙ t.named d k h)))

  pub counts_alone : parent_at old x ≡ None → Counts ls new
  counts_alone alone d = counts d ∙ sym (unchanged d (λ e. let wrong : None ≡ Some d = sym alone ∙ e in cc))

  module _ (stood : slice_get (children_at old c) g ≡ Some x) where
    one_less : (link_at (counted_out ls c (is_newline_at old x)) c).lines ≡ (link_at ls c).lines - one_if (is_newline_at old x)
    one_less = lines_here ls c _ at

    -- it was counted
    pub counted : one_if (is_newline_at old x) ≤ (link_at ls c).lines
    counted = omega (arith, counts c, line_ends-went old x (children_at old c) g stood)

    changed : line_ends new (children_at new c) + one_if (is_newline_at old x) ≡ line_ends old (children_at old c) + one_if (is_newline_at new x)
    changed =
        let row_c : List ℕ = children_at old c in
        let inside = slice_get_within row_c g x stood in
        let same = line_ends-changed old new x row_c g stood (λ k h ne. contents _ (λ e. ne (omega (arith, t.placed c k h, t.placed c g inside, ap (place_at old) (e ∙ sym (get_or_from_slice_get row_c g x 0 stood)))))) in
        omega (arith, same, ap (line_ends new) (row c))

    pub counts_changed : Counts (counted_in (counted_out ls c (is_newline_at old x)) c (is_newline_at new x)) new
    counts_changed d =
        let out : List LinkedNode = counted_out ls c (is_newline_at old x) in
        let size = length-lines_set ls c ((link_at ls c).lines - one_if (is_newline_at old x)) in
        elim (cases_eq d c) [
          | inl is ↦ rw is (lines_here out c _ (omega (arith, at, size)) ∙ omega (arith, one_less, counted, changed, counts c))
          | inr ne ↦
              let named : parent_at old x ≡ Some c = ap (parent_at old) (sym (get_or_from_slice_get (children_at old c) g x 0 stood)) ∙ t.named c g (slice_get_within (children_at old c) g x stood) in
              lines_there out c _ d ne ∙ lines_there ls c _ d ne ∙ counts d
              ∙ sym (unchanged d (λ e. let both : Some d ≡ Some c = sym e ∙ named in ne (cc)))
        ]
