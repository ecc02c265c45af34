-- A row is planned from its end on, node by node.
use Rattle.std.proofs.Common.{◌≡◌, ℕ, ◌<◌, Bool, true, false, not, ◌&&◌, inl, inr, List, [], ◌∷◌, ◌++◌, length, reverse, refl, sym, ap, subst, ◌∙◌, arith, append_assoc}
use Rattle.std.specs.Prelude.{if◌then◌else◌}
use Rattle.std.proofs.lemmas.Bool.{cases_eq}
use Rattle.std.proofs.lemmas.List.{reverse-append}
use Rattle.jsonc_tree.specs.Building.{Keeps}
use Rattle.jsonc_tree.specs.Changes.{Adds}
use Rattle.jsonc_tree.specs.Content.{Content, newline, token}
use Rattle.jsonc_tree.specs.Tree.{Node, content_at, IsTree}
use Rattle.jsonc_tree.specs.declared.node.CstNewlineKind.{CstNewlineKind}
use Rattle.jsonc_tree.proofs.Builder.{Keeps-same, Keeps-then, Keeps-fewer, Keeps-adds}
use Rattle.jsonc_layout.specs.nodes.Kinds.{is_newline, is_whitespace}
use Rattle.jsonc_sound.specs.Lines.{is_line_comment}
use Rattle.jsonc_edit.specs.Put.{Extends}
use Rattle.jsonc_edit.specs.multiline.Slots.{no_more, stayed, came}
use Rattle.jsonc_edit.proofs.lemmas.multiline.Planning.{filled_later}
use Rattle.jsonc_sort.specs.Slots.{Slot, stays, comes}
use Rattle.jsonc_sort.specs.Sorting.{goes_on, lines_ended}
use Rattle.jsonc_sort.specs.Plans.{GainsLeaf, GainsNode, Gains, IsReady, Planned, Stood, goes_before}
use Rattle.jsonc_sort.specs.declared.plan.Plan.{Plan}
use Rattle.jsonc_sort.proofs.Times.{times_here, times_other}

-- nothing has been planned yet
pub ready_none : (old : List Node) → IsTree old → IsReady old old [] []
ready_none old tree = record {
  tree = tree;
  keeps = Keeps-same (length old) old;
  filled = no_more;
  made = record { once = λ n h. omega arith; none = λ n h. refl };
}

module _ (old now : List Node) (slots : List Slot) (row : List ℕ) (r : IsReady old now slots row) where
  -- a child comes first
  pub ready_child : (n : ℕ) → n < length old → IsReady old now (stays n ∷ slots) (n ∷ row)
  ready_child n h = record {
    tree = r.tree;
    keeps = r.keeps;
    filled = stayed r.filled;
    made = record {
      once = λ m k. let e = times_other m n row (λ f. omega (arith, f, h, k)) in omega (arith, e, r.made.once m k);
      none = λ m k. times_other m n row (λ f. omega (arith, f, h, k, r.keeps.len)) ∙ r.made.none m k;
    };
  }

  -- or a leaf that was made now
  pub ready_leaf : (later : List Node) (content : Content) → IsTree later → Adds now later content → IsReady old later (comes content ∷ slots) (length now ∷ row)
  ready_leaf later content tree added =
      let keeps : Keeps (length now) now later = Keeps-adds now later content added in
      record {
        tree = tree;
        keeps = Keeps-then (length old) old now later r.keeps (Keeps-fewer (length old) (length now) now later r.keeps.len keeps);
        filled = came r.keeps.len (omega (arith, added.len)) added.last added.bare.0 (filled_later old now later keeps slots row r.filled);
        made = record {
          once = λ m k. elim (cases_eq m (length now)) [
            | inl e ↦ omega (arith, times_here m (length now) row e, r.made.none m (omega (arith, e)))
            | inr e ↦ omega (arith, times_other m (length now) row e, r.made.once m k)
          ];
          none = λ m k. times_other m (length now) row (λ f. omega (arith, f, k, added.len)) ∙ r.made.none m (omega (arith, k, added.len));
        };
      }

-- the last of a list comes first
turned : (xs : List ℕ) (n : ℕ) → reverse (xs ++ n ∷ []) ≡ n ∷ reverse xs
turned xs n = reverse-append xs (n ∷ [])

line_added : (old : List Node) (kind : CstNewlineKind) (n : ℕ) (slots : List Slot) → is_line_comment (content_at old n) ≡ true → goes_on (content_at old) slots ≡ true → lines_ended (content_at old) kind (stays n ∷ slots) ≡ stays n ∷ comes (newline kind) ∷ lines_ended (content_at old) kind slots
line_added old kind n slots e f = rw (e, f) refl

none_added : (old : List Node) (kind : CstNewlineKind) (n : ℕ) (slots : List Slot) → (is_line_comment (content_at old n) && goes_on (content_at old) slots) ≡ false → lines_ended (content_at old) kind (stays n ∷ slots) ≡ stays n ∷ lines_ended (content_at old) kind slots
none_added old kind n slots e = rw e refl

both_true : (a b : Bool) → (a && b) ≡ true → (a ≡ true) × (b ≡ true)
both_true true b e = (refl, e)
both_true false b e = cc

goes_same : (old now : List Node) (n : ℕ) (goes : Bool) (slots : List Slot) → content_at now n ≡ content_at old n → goes ≡ goes_on (content_at old) slots → goes_before now n goes ≡ goes_on (content_at old) (stays n ∷ slots)
goes_same old now n goes slots e f =
    ap (λ (c : Content). if is_whitespace c then goes else not (is_newline c)) e ∙ ap (λ g. if is_whitespace (content_at old n) then g else not (is_newline (content_at old n))) f

stood_first : (old : List Node) (xs ys : List Slot) → Stood old (xs ++ ys) → Stood old xs
stood_first old [] ys h = tt
stood_first old (stays n ∷ xs) ys h = (h.0, stood_first old xs ys h.1)
stood_first old (comes content ∷ xs) ys h = stood_first old xs ys h

stood_second : (old : List Node) (xs ys : List Slot) → Stood old (xs ++ ys) → Stood old ys
stood_second old [] ys h = h
stood_second old (stays n ∷ xs) ys h = stood_second old xs ys h.1
stood_second old (comes content ∷ xs) ys h = stood_second old xs ys h

module _ {A : Type 0} where
  -- a comma comes first
  pub comma_gained : (now later : List Node) (plan mid next : Plan A) → IsTree later → GainsLeaf now plan later mid (token 0x2C) → next.newline ≡ mid.newline → next.nodes.items ≡ mid.nodes.items → next.goes_on ≡ true → Gains now plan later next (comes (token 0x2C) ∷ [])
  comma_gained now later plan mid next tree g ends nodes goes old kind slots p h = record {
    newline = ends ∙ g.newline ∙ p.newline;
    goes_on = goes;
    ready = subst (IsReady old later (comes (token 0x2C) ∷ lines_ended (content_at old) kind slots)) (sym (ap reverse (nodes ∙ g.nodes) ∙ turned plan.nodes.items (length now)))
        (ready_leaf old now (lines_ended (content_at old) kind slots) (reverse plan.nodes.items) p.ready later (token 0x2C) tree g.added);
  }

  -- a child does, with no end of a line behind it
  pub node_gained : (now : List Node) (plan next : Plan A) (n : ℕ) → (is_line_comment (content_at now n) && plan.goes_on) ≡ false → GainsNode now plan next n → Gains now plan now next (stays n ∷ [])
  node_gained now plan next n off g old kind slots p h =
      let same : content_at now n ≡ content_at old n = p.ready.keeps.content n h.0 in
      let none : (is_line_comment (content_at old n) && goes_on (content_at old) slots) ≡ false = ap (λ (c : Content). is_line_comment c && goes_on (content_at old) slots) (sym same) ∙ ap (λ b. is_line_comment (content_at now n) && b) (sym p.goes_on) ∙ off in
      record {
        newline = g.newline ∙ p.newline;
        goes_on = g.goes_on ∙ goes_same old now n plan.goes_on slots same p.goes_on;
        ready = subst (λ l. IsReady old now l (reverse next.nodes.items)) (sym (none_added old kind n slots none))
            (subst (IsReady old now (stays n ∷ lines_ended (content_at old) kind slots)) (sym (ap reverse g.nodes ∙ turned plan.nodes.items n))
            (ready_child old now (lines_ended (content_at old) kind slots) (reverse plan.nodes.items) p.ready n h.0));
      }

  -- or with one
  pub line_gained : (now later : List Node) (plan mid next : Plan A) (n : ℕ) → (is_line_comment (content_at now n) && plan.goes_on) ≡ true → IsTree later → GainsLeaf now plan later mid (newline plan.newline) → GainsNode later mid next n → Gains now plan later next (stays n ∷ [])
  line_gained now later plan mid next n on tree g f old kind slots p h =
      let same : content_at now n ≡ content_at old n = p.ready.keeps.content n h.0 in
      let both = both_true (is_line_comment (content_at now n)) plan.goes_on on in
      let comment : is_line_comment (content_at old n) ≡ true = ap is_line_comment (sym same) ∙ both.0 in
      let goes : goes_on (content_at old) slots ≡ true = sym p.goes_on ∙ both.1 in
      let rest : List Slot = lines_ended (content_at old) kind slots in
      let leaf : IsReady old later (comes (newline kind) ∷ rest) (length now ∷ reverse plan.nodes.items) =
      subst (λ k. IsReady old later (comes (newline k) ∷ rest) (length now ∷ reverse plan.nodes.items)) p.newline (ready_leaf old now rest (reverse plan.nodes.items) p.ready later (newline plan.newline) tree g.added) in
      let row : reverse next.nodes.items ≡ n ∷ length now ∷ reverse plan.nodes.items =
      ap reverse f.nodes ∙ turned mid.nodes.items n ∙ ap (λ l. n ∷ l) (ap reverse g.nodes ∙ turned plan.nodes.items (length now)) in
      let there : n < length now = omega (arith, h.0, p.ready.keeps.len) in
      let kept : content_at later n ≡ content_at old n = (Keeps-adds now later (newline plan.newline) g.added).content n there ∙ same in
      record {
        newline = f.newline ∙ g.newline ∙ p.newline;
        goes_on = f.goes_on ∙ goes_same old later n mid.goes_on slots kept (g.goes_on ∙ p.goes_on);
        ready = subst (λ l. IsReady old later l (reverse next.nodes.items)) (sym (line_added old kind n slots comment goes))
            (subst (IsReady old later (stays n ∷ comes (newline kind) ∷ rest)) (sym row) (ready_child old later (comes (newline kind) ∷ rest) (length now ∷ reverse plan.nodes.items) leaf n h.0));
      }

  -- one after another
  pub gains_then : (a b d : List Node) (p q r : Plan A) (first second : List Slot) → Gains a p b q first → Gains b q d r second → Gains a p d r (second ++ first)
  gains_then a b d p q r first second f g old kind slots planned stood =
      subst (Planned old d kind r) (sym (append_assoc second first slots))
      (g old kind (first ++ slots) (f old kind slots planned (stood_second old second first stood)) (stood_first old second first stood))

pub prepared_then : (a b d : List Node) → Extends a b → Extends b d → Extends a d
prepared_then a b d p q = record { keeps = Keeps-then (length a) a b d p.keeps (Keeps-fewer (length a) (length b) b d p.keeps.len q.keeps); tree = q.tree }

pub prepared_same : (a : List Node) → IsTree a → Extends a a
prepared_same a tree = record { keeps = Keeps-same (length a) a; tree = tree }
