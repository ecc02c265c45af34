-- A row is planned node by node.
use Rattle.std.proofs.Common.{◌≡◌, ◌==◌, false, append-nil, Bool, true, ◌≢◌, ℕ, suc, ◌+◌, ◌<◌, ◌≤◌, inl, inr, List, [], ◌∷◌, ◌++◌, length, map, slice_index, Some, refl, sym, ap, subst, ◌∙◌, arith, append_assoc}
use Rattle.std.proofs.lemmas.Bool.{ne_eqb}
use Rattle.jsonc_tree.specs.Building.{Keeps}
use Rattle.jsonc_tree.specs.Content.{Content, newline, whitespace}
use Rattle.jsonc_tree.specs.Tree.{Node, content_at, parent_at, place_at, IsTree}
use Rattle.jsonc_tree.proofs.Builder.{Keeps-same, Keeps-then, Keeps-fewer}
use Rattle.jsonc_tree.proofs.Order.{parent_there}
use Rattle.jsonc_layout.specs.Building.{Gains, IsFresh}
use Rattle.jsonc_layout.proofs.lemmas.Building.{each_append, each_one, once_append}
use Rattle.jsonc_edit.specs.multiline.Slots.{Slot, stays, comes, AreFilled, no_more, stayed, came}
use Rattle.jsonc_edit.specs.multiline.Lines.{Lines, new_line, indent_if_any}
use Rattle.jsonc_edit.specs.multiline.Plans.{IsFrom, Planned, GainsChild, child_slots}

module _ (old now : List Node) where
  pub filled_append : (slots : List Slot) (row : List ℕ) (others : List Slot) (more : List ℕ) → AreFilled old now slots row → AreFilled old now others more → AreFilled old now (slots ++ others) (row ++ more)
  filled_append _ _ others more no_more g = g
  filled_append _ _ others more (stayed {slots = slots} {row = row} rest) g = stayed (filled_append slots row others more rest g)
  filled_append _ _ others more (came {slots = slots} {row = row} a b c d rest) g = came a b c d (filled_append slots row others more rest g)

  -- new leaves fill their places
  filled_new : (leaves : List ℕ) → ((k : ℕ) → k < length leaves → IsFresh old now (slice_index leaves k)) → AreFilled old now (map comes (map (content_at now) leaves)) leaves
  filled_new [] each = no_more
  filled_new (n ∷ leaves) each =
      let f = each 0 (omega arith) in
      came f.later f.in_tree refl f.alone (filled_new leaves (λ k h. each (suc k) (omega (arith, h))))

  pub filled_later : (later : List Node) → Keeps (length now) now later → (slots : List Slot) (row : List ℕ) → AreFilled old now slots row → AreFilled old later slots row
  filled_later later keeps _ _ no_more = no_more
  filled_later later keeps _ _ (stayed {slots = slots} {row = row} rest) = stayed (filled_later later keeps slots row rest)
  filled_later later keeps _ _ (came {n = n} {slots = slots} {row = row} a b c d rest) =
      came a (omega (arith, b, keeps.len)) (keeps.content n b ∙ c) (keeps.parent n b ∙ d) (filled_later later keeps slots row rest)

-- what comes from before a place does from before a later one, and when more nodes are there
from_later : (old now later : List Node) (c place next n : ℕ) → place ≤ next → Keeps (length now) now later → IsFrom old now c place n → IsFrom old later c next n
from_later old now later c place next n h keeps (inl f) = inl (f.0, f.1, omega (arith, h, f.2))
from_later old now later c place next n h keeps (inr f) = inr (f.0, omega (arith, f.1, keeps.len), keeps.parent n f.1 ∙ f.2)

module _ (old now : List Node) (c place : ℕ) (slots : List Slot) (row : List ℕ) (p : Planned old now c place slots row) where
  -- the place may be later, and more may be there
  pub planned_later : (later : List Node) (next : ℕ) → IsTree later → Keeps (length now) now later → place ≤ next → Planned old later c next slots row
  planned_later later next tree keeps h = record {
    tree = tree;
    keeps = Keeps-then (length old) old now later p.keeps (Keeps-fewer (length old) (length now) now later p.keeps.len keeps);
    filled = filled_later old now later keeps slots row p.filled;
    from = λ k l. from_later old now later c place next (slice_index row k) h keeps (p.from k l);
    once = p.once;
  }

  -- a child of c from this place on is not in the row, nor is a new node
  child_out : (n : ℕ) → n < length old → place ≤ place_at old n → (k : ℕ) → k < length row → slice_index row k ≢ n
  child_out n there h k l e = by (p.from k l)
    where
      by : IsFrom old now c place (slice_index row k) → ⊥
      by (inl f) = omega (arith, f.2, h, ap (place_at old) e)
      by (inr f) = omega (arith, f.0, there, e)

  row_there : IsTree old → (k : ℕ) → k < length row → slice_index row k < length now
  row_there tree k l = by (p.from k l)
    where
      by : IsFrom old now c place (slice_index row k) → slice_index row k < length now
      by (inl f) = omega (arith, (parent_there old tree (slice_index row k) c f.0).0, p.keeps.len)
      by (inr f) = f.1

  pub planned_child : IsTree old → (n : ℕ) → parent_at old n ≡ Some c → 0 < place_at old n → place ≤ place_at old n → Planned old now c (place_at old n + 1) (slots ++ stays n ∷ []) (row ++ n ∷ [])
  planned_child tree n said low h = record {
    tree = p.tree;
    keeps = p.keeps;
    filled = filled_append old now slots row (stays n ∷ []) (n ∷ []) p.filled (stayed no_more);
    from = each_append row (n ∷ []) (IsFrom old now c (place_at old n + 1)) (λ k l. from_later old now now c place (place_at old n + 1) (slice_index row k) (omega (arith, h)) (Keeps-same (length now) now) (p.from k l)) (each_one (IsFrom old now c (place_at old n + 1)) n (inl (said, low, omega arith)));
    once = once_append row (n ∷ []) p.once (λ a b ha hb e. omega (arith, ha, hb)) (λ a b ha hb e. child_out n (parent_there old tree n c said).0 h a ha (e ∙ each_one (λ m. m ≡ n) n refl b hb));
  }

  -- leaves that are made
  pub planned_leaves : IsTree old → (later : List Node) (next : List ℕ) (contents : List Content) → IsTree later → Gains now row later next contents → Planned old later c place (slots ++ map comes contents) next
  planned_leaves first later next contents tree g = subst (Planned old later c place (slots ++ map comes contents)) (sym g.is) (record {
    tree = tree;
    keeps = q.keeps;
    filled = filled_append old later slots row (map comes contents) g.leaves q.filled (subst (λ l. AreFilled old later (map comes l) g.leaves) g.made.are (filled_new old later g.leaves fresh));
    from = each_append row g.leaves (IsFrom old later c place) q.from (λ k h. inr ((fresh k h).later, (fresh k h).in_tree, (fresh k h).alone));
    once = once_append row g.leaves p.once g.made.fresh.once (λ a b ha hb e. omega (arith, row_there first a ha, (g.made.fresh.each b hb).later, e));
  })
    where
      q : Planned old later c place slots row
      q = planned_later later place tree g.made.keeps (omega arith)

      fresh : (k : ℕ) → k < length g.leaves → IsFresh old later (slice_index g.leaves k)
      fresh k h = let f = g.made.fresh.each k h in record { later = omega (arith, p.keeps.len, f.later); in_tree = f.in_tree; alone = f.alone }

-- nothing has been planned yet
pub planned_none : (old : List Node) (c : ℕ) → IsTree old → Planned old old c 1 [] []
planned_none old c tree = record {
  tree = tree;
  keeps = Keeps-same (length old) old;
  filled = no_more;
  from = λ k h. absurd (omega arith);
  once = λ a b h. absurd (omega arith);
}

-- the indent of the last bracket
pub no_indent : (s : List ℕ) → (length s == 0) ≡ true → [] ≡ indent_if_any s
no_indent [] e = refl
no_indent (c ∷ rest) e = absurd (let wrong : false ≡ true = sym (ne_eqb (length (c ∷ rest)) 0 (λ f. omega (arith, f))) ∙ e in cc)

pub one_indent : (s : List ℕ) → (length s == 0) ≡ false → whitespace s ∷ [] ≡ indent_if_any s
one_indent [] e = absurd (let wrong : true ≡ false = e in cc)
one_indent (c ∷ rest) e = refl

-- what a child makes of a row
module _ (old now : List Node) (c place : ℕ) (slots : List Slot) (row : List ℕ) (tree : IsTree old) (p : Planned old now c place slots row) (n : ℕ) (said : parent_at old n ≡ Some c) (low : 0 < place_at old n) (h : place ≤ place_at old n) where
  pub child_left : Planned old now c (place_at old n + 1) (slots ++ []) row
  child_left = subst (λ l. Planned old now c (place_at old n + 1) l row) (sym (append-nil slots)) (planned_later old now c place slots row p now (place_at old n + 1) p.tree (Keeps-same (length now) now) (omega (arith, h)))

-- on a new line
pub child_on_line : (lines : Lines) (a b : List Node) (r s : List ℕ) (n : ℕ) → IsTree b → Gains a r b s (newline lines.newline ∷ whitespace lines.inner ∷ []) → GainsChild a r b (s ++ n ∷ []) n (new_line lines ++ stays n ∷ [])
child_on_line lines a b r s n after g old c place slots tree p said low h =
    subst (λ l. Planned old b c (place_at old n + 1) l (s ++ n ∷ [])) (append_assoc slots (new_line lines) (stays n ∷ []))
    (planned_child old b c place (slots ++ new_line lines) s (planned_leaves old a c place slots r p tree b s (newline lines.newline ∷ whitespace lines.inner ∷ []) after g) tree n said low h)

pub child_gained : (a : List Node) (r : List ℕ) (n : ℕ) → GainsChild a r a (r ++ n ∷ []) n (stays n ∷ [])
child_gained a r n old c place slots tree p said low h = planned_child old a c place slots r p tree n said low h

line_slots : (lines : Lines) (begins blank : Bool) (n : ℕ) → begins ≡ true → blank ≡ false → new_line lines ++ stays n ∷ [] ≡ child_slots lines begins blank n
line_slots lines true false n e f = refl
line_slots lines true true n e f = cc
line_slots lines false blank n e f = cc

kept_slots : (lines : Lines) (begins blank : Bool) (n : ℕ) → begins ≡ false → stays n ∷ [] ≡ child_slots lines begins blank n
kept_slots lines true blank n e = cc
kept_slots lines false blank n e = refl

left_slots : (lines : Lines) (begins blank : Bool) (n : ℕ) → begins ≡ true → blank ≡ true → [] ≡ child_slots lines begins blank n
left_slots lines true true n e f = refl
left_slots lines true false n e f = cc
left_slots lines false blank n e f = cc

module _ (lines : Lines) (a : List Node) (r : List ℕ) (begins blank : Bool) (n : ℕ) where
  pub line_gained : (b : List Node) (s : List ℕ) → begins ≡ true → blank ≡ false → IsTree b → Gains a r b s (newline lines.newline ∷ whitespace lines.inner ∷ []) → GainsChild a r b (s ++ n ∷ []) n (child_slots lines begins blank n)
  line_gained b s e f tree g = subst (GainsChild a r b (s ++ n ∷ []) n) (line_slots lines begins blank n e f) (child_on_line lines a b r s n tree g)

  pub kept_gained : begins ≡ false → GainsChild a r a (r ++ n ∷ []) n (child_slots lines begins blank n)
  kept_gained e = subst (GainsChild a r a (r ++ n ∷ []) n) (kept_slots lines begins blank n e) (child_gained a r n)

  pub left_gained : begins ≡ true → blank ≡ true → GainsChild a r a r n (child_slots lines begins blank n)
  left_gained e f = subst (GainsChild a r a r n) (left_slots lines begins blank n e f) (λ old c place slots tree p said low h. child_left old a c place slots r tree p n said low h)
