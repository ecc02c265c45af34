-- Comments that leave a row, one after another, and where they stand in it.
use Rattle.std.proofs.Common.{◌≡◌, ◌≢◌, ℕ, zero, suc, ◌+◌, ◌<◌, ◌≤◌, Bool, true, false, cond, List, [], ◌∷◌, length, drop, slice_index, length-drop, get_or-drop, eq-eqb, inl, inr, Option, Some, None, refl, sym, ap, subst, ◌∙◌, arith}
use Rattle.std.proofs.lemmas.Bool.{cases_eq, ne_eqb}
use Rattle.std.proofs.lemmas.List.{drop_all, drop_more}
use Rattle.jsonc_tree.specs.Changes.{Splices}
use Rattle.jsonc_tree.specs.Order.{with_parent}
use Rattle.jsonc_tree.specs.Siblings.{first, siblings_after, siblings_before, IsStretch}
use Rattle.jsonc_tree.specs.Tree.{Node, content_at, children_at, parent_at, place_at, IsTree}
use Rattle.jsonc_layout.specs.nodes.Kinds.{is_newline_at, is_whitespace_at}
use Rattle.jsonc_edit.specs.Comments.{space_needed_without, IsRemoved}
use Rattle.jsonc_edit.specs.remove.Removed.{is_node, IsClosedUp}
use Rattle.jsonc_edit.specs.remove.Comments.{begins_line, blanks_at, last_cleared, or_itself, line_behind, line_in, AreCleared, ClearedBy, IsCleared, none_left, not_there, one_cleared}
use Rattle.jsonc_edit.proofs.RowEnds.{before_is, before_some, previous_at}
use Rattle.jsonc_edit.proofs.lemmas.remove.SiblingSteps.{after_none, after_step}

line_step : (ns : List Node) (row : List ℕ) (p k : ℕ) (b : Bool) → p ≡ suc k → is_newline_at ns (slice_index row k) ≡ b → begins_line ns row p ≡ b
line_step ns row p k b e h = ap (begins_line ns row) e ∙ h

module _ (ns : List Node) (tree : IsTree ns) (c n : ℕ) (said : parent_at ns n ≡ Some c) where
  abbrev row : List ℕ
  row = children_at ns c

  short : place_at ns n ≤ length row
  short = omega (arith, tree.within n c said)

  module _ (k : ℕ) (e : first (siblings_before ns n) ≡ Some k) where
    before_it : (parent_at ns k ≡ Some c) × (place_at ns k + 1 ≡ place_at ns n)
    before_it = before_is ns tree c (place_at ns n) k (sym (previous_at ns tree c n said) ∙ e)

    pub line_there : (b : Bool) → is_newline_at ns k ≡ b → begins_line ns row (place_at ns n) ≡ b
    line_there b h = line_step ns row (place_at ns n) (place_at ns k) b (omega (arith, before_it.1)) (ap (is_newline_at ns) (tree.found k c before_it.0) ∙ h)

  module _ (e : first (siblings_before ns n) ≡ None) where
    none_before : (k : ℕ) → place_at ns n ≡ suc k → ⊥
    none_before k is = before_some ns tree c (place_at ns n) (omega (arith, is)) short (sym (previous_at ns tree c n said) ∙ e)

    pub no_line : begins_line ns row (place_at ns n) ≡ false
    no_line = by (place_at ns n) refl
      where
        by : (k : ℕ) → place_at ns n ≡ k → begins_line ns row (place_at ns n) ≡ false
        by zero is = ap (begins_line ns row) is
        by (suc k) is = absurd (none_before k is)

module _ (ns : List Node) (tree : IsTree ns) where
  -- the line behind a node, a step
  behind_by : (n m : ℕ) → first (siblings_after ns n) ≡ Some m → (line blank : Bool) → is_newline_at ns m ≡ line → is_whitespace_at ns m ≡ blank → line_behind ns n ≡ cond line (Some m) (cond blank (line_behind ns m) None)
  behind_by n m e line blank h g =
      ap (line_in ns) (after_step ns tree n m e) ∙ ap (λ b. cond b (Some m) (cond (is_whitespace_at ns m) (line_in ns (siblings_after ns m)) None)) h ∙ ap (λ b. cond line (Some m) (cond b (line_in ns (siblings_after ns m)) None)) g

  pub behind_newline : (n m : ℕ) → first (siblings_after ns n) ≡ Some m → is_newline_at ns m ≡ true → line_behind ns n ≡ Some m
  behind_newline n m e h = behind_by n m e true (is_whitespace_at ns m) h refl

  pub behind_stops : (n m : ℕ) → first (siblings_after ns n) ≡ Some m → is_newline_at ns m ≡ false → is_whitespace_at ns m ≡ false → line_behind ns n ≡ None
  behind_stops n m e h g = behind_by n m e false false h g

  pub behind_goes_on : (n m : ℕ) → first (siblings_after ns n) ≡ Some m → is_newline_at ns m ≡ false → is_whitespace_at ns m ≡ true → line_behind ns n ≡ line_behind ns m
  behind_goes_on n m e h g = behind_by n m e false true h g

  pub behind_over : (n : ℕ) → first (siblings_after ns n) ≡ None → line_behind ns n ≡ None
  behind_over n e = ap (line_in ns) (after_none (siblings_after ns n) e)

-- a newline that a row comes to past whitespace
pub record LineThere (ns : List Node) (xs : List ℕ) (m : ℕ) : Type 0 where
  pub at : ℕ
  pub within : at < length xs
  pub is : slice_index xs at ≡ m
  pub newline : is_newline_at ns m ≡ true
  pub blank : (k : ℕ) → k < at → is_whitespace_at ns (slice_index xs k) ≡ true

line_later : (ns : List Node) (x m : ℕ) (xs : List ℕ) → is_whitespace_at ns x ≡ true → LineThere ns xs m → LineThere ns (x ∷ xs) m
line_later ns x m xs h l = record {
  at = suc l.at;
  within = omega (arith, l.within);
  is = l.is;
  newline = l.newline;
  blank = blank;
}
  where
    blank : (k : ℕ) → k < suc l.at → is_whitespace_at ns (slice_index (x ∷ xs) k) ≡ true
    blank zero less = h
    blank (suc k) less = l.blank k (omega (arith, less))

pub line_is_there : (ns : List Node) (xs : List ℕ) (m : ℕ) → line_in ns xs ≡ Some m → LineThere ns xs m
line_is_there ns [] m e = absurd (let wrong : None ≡ Some m = e in cc)
line_is_there ns (x ∷ xs) m e = by (is_newline_at ns x) (is_whitespace_at ns x) refl refl (λ f. line_is_there ns xs m f)
  where
    told : (line blank : Bool) → is_newline_at ns x ≡ line → is_whitespace_at ns x ≡ blank → cond line (Some x) (cond blank (line_in ns xs) None) ≡ Some m
    told line blank h g =
        sym (ap (λ b. cond b (Some x) (cond (is_whitespace_at ns x) (line_in ns xs) None)) h ∙ ap (λ b. cond line (Some x) (cond b (line_in ns xs) None)) g) ∙ e

    by : (line blank : Bool) → is_newline_at ns x ≡ line → is_whitespace_at ns x ≡ blank → (line_in ns xs ≡ Some m → LineThere ns xs m) → LineThere ns (x ∷ xs) m
    by true blank h g rest =
        let both : Some x ≡ Some m = told true blank h g in
        let same : x ≡ m = cc in
        record { at = 0; within = omega arith; is = same; newline = sym (ap (is_newline_at ns) same) ∙ h; blank = λ k less. absurd (omega (arith, less)) }
    by false true h g rest = line_later ns x m xs g (rest (told false true h g))
    by false false h g rest = absurd (let wrong : None ≡ Some m = told false false h g in cc)

module _ (ns : List Node) (tree : IsTree ns) (c n : ℕ) (said : parent_at ns n ≡ Some c) where
  -- it is a child of the container that stands behind the comment
  module _ (m : ℕ) (e : line_behind ns n ≡ Some m) where
    pub line_of : LineThere ns (drop (place_at ns n + 1) (children_at ns c)) m
    line_of = line_is_there ns (drop (place_at ns n + 1) (children_at ns c)) m (sym (ap (λ o. line_in ns (drop (place_at ns n + 1) (with_parent o (children_at ns)))) said) ∙ e)

    far : place_at ns n + 1 + line_of.at < length (children_at ns c)
    far = omega (arith, line_of.within, length-drop (place_at ns n + 1) (children_at ns c))

    found : slice_index (children_at ns c) (place_at ns n + 1 + line_of.at) ≡ m
    found = sym (get_or-drop (place_at ns n + 1) (children_at ns c) line_of.at 0) ∙ line_of.is

    pub line_child : parent_at ns m ≡ Some c
    line_child = sym (ap (parent_at ns) found) ∙ tree.named c (place_at ns n + 1 + line_of.at) far

    pub line_place : place_at ns m ≡ place_at ns n + 1 + line_of.at
    line_place = sym (ap (place_at ns) found) ∙ tree.placed c (place_at ns n + 1 + line_of.at) far

  -- the last that leaves is a child too, and not before the comment
  last_by : (o : Option ℕ) → line_behind ns n ≡ o → (parent_at ns (or_itself n o) ≡ Some c) × (place_at ns n ≤ place_at ns (or_itself n o))
  last_by (Some m) e = (line_child m e, omega (arith, line_place m e))
  last_by None e = (said, omega arith)

  pub last_child : (parent_at ns (last_cleared ns n) ≡ Some c) × (place_at ns n ≤ place_at ns (last_cleared ns n))
  last_child = last_by (line_behind ns n) refl

  pub stretch_cleared : (first last : ℕ) → parent_at ns first ≡ Some c → place_at ns first ≤ place_at ns n → last ≡ last_cleared ns n → IsStretch ns c first last
  stretch_cleared first last child low e = record {
    front = child;
    back = ap (parent_at ns) e ∙ last_child.0;
    order = omega (arith, low, last_child.1, ap (place_at ns) e);
  }

  -- what has come of the comment
  module _ (new : List Node) where
    pub cleared_stretch : (first last : ℕ) → place_at ns first ≡ blanks_at ns c n → last ≡ last_cleared ns n → begins_line ns (children_at ns c) (place_at ns first) ≡ true
        → Splices ns new c (place_at ns first) (place_at ns last + 1) [] → IsCleared ns new c n
    cleared_stretch first last place e h gone =
        let parted : begins_line ns (children_at ns c) (blanks_at ns c n) ≡ true = sym (ap (begins_line ns (children_at ns c)) place) ∙ h in
        let same : Splices ns new c (blanks_at ns c n) (place_at ns (last_cleared ns n) + 1) [] =
        subst (λ p. Splices ns new c p (place_at ns (last_cleared ns n) + 1) []) place (subst (λ m. Splices ns new c (place_at ns first) (place_at ns m + 1) []) e gone) in
        subst (λ b. ClearedBy ns new c n b (space_needed_without ns c n)) (sym parted) same

    pub cleared_alone : (first : ℕ) → place_at ns first ≡ blanks_at ns c n → begins_line ns (children_at ns c) (place_at ns first) ≡ false
        → ClearedBy ns new c n false (space_needed_without ns c n) → IsCleared ns new c n
    cleared_alone first place h by =
        let parted : begins_line ns (children_at ns c) (blanks_at ns c n) ≡ false = sym (ap (begins_line ns (children_at ns c)) place) ∙ h in
        subst (λ b. ClearedBy ns new c n b (space_needed_without ns c n)) (sym parted) by

    pub alone_gone : (due : Option ℕ) → space_needed_without ns c n ≡ due → due ≡ None → IsRemoved ns new n → ClearedBy ns new c n false (space_needed_without ns c n)
    alone_gone due e none gone = subst (ClearedBy ns new c n false) (sym (e ∙ none)) gone

    pub alone_stays : (k : ℕ) → space_needed_without ns c n ≡ Some k → new ≡ ns → ClearedBy ns new c n false (space_needed_without ns c n)
    alone_stays k e same = subst (ClearedBy ns new c n false) (sym e) same

-- nodes stay as many, and of the same contents
pub record SameNodes (old new : List Node) : Type 0 where
  pub len : length new ≡ length old
  pub content : (m : ℕ) → content_at new m ≡ content_at old m

same_spliced : {old new : List Node} {c i j : ℕ} {xs : List ℕ} → Splices old new c i j xs → SameNodes old new
same_spliced s = record { len = s.len; content = s.content }

same_stays : {old new : List Node} → new ≡ old → SameNodes old new
same_stays {old} e = subst (SameNodes old) (sym e) (record { len = refl; content = λ m. refl })

same_by : (old new : List Node) (c n : ℕ) → parent_at old n ≡ Some c → (b : Bool) (o : Option ℕ) → ClearedBy old new c n b o → SameNodes old new
same_by old new c n said true o s = same_spliced s
same_by old new c n said false None r = same_spliced (r c said)
same_by old new c n said false (Some k) e = same_stays e

pub same_cleared : (old new : List Node) (c n : ℕ) → parent_at old n ≡ Some c → IsCleared old new c n → SameNodes old new
same_cleared old new c n said = same_by old new c n said (begins_line old (children_at old c) (blanks_at old c n)) (space_needed_without old c n)

-- as far as a place of these comments
pub record ClearedSoFar (old now : List Node) (c : ℕ) (all : List ℕ) (k : ℕ) : Type 0 where
  pub same : SameNodes old now
  pub chain : (new : List Node) → AreCleared now new c (drop k all) → AreCleared old new c all

pub so_far_none : (old : List Node) (c : ℕ) (all : List ℕ) → ClearedSoFar old old c all 0
so_far_none old c all = record { same = record { len = refl; content = λ m. refl }; chain = λ new a. a }

module _ (old now : List Node) (c : ℕ) (all : List ℕ) (k : ℕ) (so : ClearedSoFar old now c all k) (less : k < length all) where
  abbrev n : ℕ
  n = slice_index all k

  pub so_far_passed : parent_at now n ≢ Some c → ClearedSoFar old now c all (k + 1)
  so_far_passed away = record {
    same = so.same;
    chain = λ new a. so.chain new (subst (λ (l : List ℕ). AreCleared now new c l) (sym (drop_more all k 0 less)) (not_there away a));
  }

  pub so_far_cleared : (mid : List Node) → IsTree mid → parent_at now n ≡ Some c → IsCleared now mid c n → ClearedSoFar old mid c all (k + 1)
  so_far_cleared mid tree said cleared =
      let same = same_cleared now mid c n said cleared in
      record {
        same = record { len = same.len ∙ so.same.len; content = λ m. same.content m ∙ so.same.content m };
        chain = λ new a. so.chain new (subst (λ (l : List ℕ). AreCleared now new c l) (sym (drop_more all k 0 less)) (one_cleared mid tree said cleared a));
      }

module _ (old now new : List Node) (c : ℕ) (all : List ℕ) (k : ℕ) (so : ClearedSoFar old now c all k) (over : length all ≤ k) where
  pub all_cleared : IsClosedUp now new c → AreCleared old new c all
  all_cleared closed = so.chain new (subst (λ (l : List ℕ). AreCleared now new c l) (sym (drop_all k all over)) (none_left closed))

-- whether it is this node
pub node_is : (o : Option ℕ) (c : ℕ) → is_node o c ≡ true → o ≡ Some c
node_is None c e = let wrong : false ≡ true = e in cc
node_is (Some p) c e =
    elim (cases_eq c p) [
      | inl h ↦ ap (λ m. Some m) (sym h)
      | inr ne ↦ absurd (let wrong : false ≡ true = sym (ne_eqb c p ne) ∙ e in cc)
    ]

pub node_not : (o : Option ℕ) (c : ℕ) → is_node o c ≡ false → o ≢ Some c
node_not o c e same = absurd (let wrong : true ≡ false = sym (ap (λ x. is_node x c) same ∙ eq-eqb c c refl) ∙ e in cc)
