-- A first value: what was made ready for it, and what its coming does.
use Rattle.std.proofs.Common.{◌≡◌, ◌≢◌, ℕ, ◌<◌, ◌≤◌, Bool, cond, false, List, [], ◌∷◌, ◌++◌, length, map, slice_range, Option, Some, None, IfSome, Result, IfOk, refl, sym, ap, subst, ◌∙◌, arith}
use Rattle.std.proofs.lemmas.List.{get_or_default, nil_from_length}
use Rattle.std.proofs.lemmas.List.Edits.{length-between}
use Rattle.jsonc_text.specs.Plain.{Plain}
use Rattle.jsonc_tree.specs.Building.{Builds, Keeps}
use Rattle.jsonc_tree.specs.Changes.{CanJoin, Splices}
use Rattle.jsonc_tree.specs.Content.{Content}
use Rattle.jsonc_tree.specs.OrderedTree.{OrderedTree, ordered_tree}
use Rattle.jsonc_tree.specs.Siblings.{IsGap}
use Rattle.jsonc_tree.specs.Tree.{Node, content_at, parent_at, children_at, is_in, IsTree}
use Rattle.jsonc_tree.proofs.Builder.{Keeps-same}
use Rattle.jsonc_tree.proofs.Splicing.{out_from}
use Rattle.jsonc_layout.specs.from_input.Layout.{Layout}
use Rattle.jsonc_layout.specs.from_input.Laid.{laid}
use Rattle.jsonc_layout.specs.nodes.Kinds.{is_element_at}
use Rattle.jsonc_layout.specs.nodes.Properties.{value_at, value_by}
use Rattle.jsonc_layout.specs.lines.Breadth.{newline_kind_of}
use Rattle.jsonc_layout.proofs.lemmas.Building.{still_kept}
use Rattle.jsonc_edit.specs.Due.{listed}
use Rattle.jsonc_edit.specs.Put.{Extends}
use Rattle.jsonc_edit.specs.Changes.{top_at}
use Rattle.jsonc_edit.specs.Reading.{layout_for}
use Rattle.jsonc_edit.proofs.FittingFinds.{found_one}
use Rattle.jsonc_edit.proofs.NodesKept.{built_top, top_stays, tree_stays}
use Rattle.jsonc_edit.specs.set.RootSet.{first_place, leads_in, leads_out, line_end_if, FirstValue, IsFresh, KeepsNodes}
use Rattle.jsonc_edit.proofs.lemmas.set.FirstGap.{gap_kept}
use Rattle.jsonc_edit.proofs.lemmas.set.RootRow.{Rising, risen, around_rises, may_join}

-- the document is what it was
pub document_kept : (a b : List Node) → IsTree a → Keeps (length a) a b → IsTree b → ordered_tree b 0 ≡ ordered_tree a 0
document_kept a b tree keeps after = tree_stays a b tree keeps after

content_still : (a b : List Node) → Keeps (length a) a b → (low : ℕ) (o : Option ℕ) → IfSome o (λ x. (low ≤ x) × (x < length a) × (parent_at a x ≡ None)) → map (content_at b) (listed o) ≡ map (content_at a) (listed o)
content_still a b keeps low None fresh = refl
content_still a b keeps low (Some x) fresh = ap (λ w. w ∷ []) (keeps.content x fresh.1)

-- where new nodes come to a place of the root's row, all others stay what they are
module _ (old ready new : List Node) (keeps : Keeps (length old) old ready) (xs : List ℕ) (rising : Rising ready (length old) xs) (place : ℕ) (within : place ≤ length (children_at ready 0)) (put : Splices ready new 0 place place xs) where
  not_among : (n : ℕ) → n < length old → is_in n xs ≡ false
  not_among n h = out_from n xs (λ k l e. omega (arith, h, e, (risen ready (length old) xs rising k l).0))

  none_gone : slice_range (children_at ready 0) place place ≡ []
  none_gone = nil_from_length (slice_range (children_at ready 0) place place) (omega (arith, length-between (children_at ready 0) place place within))

  parent_same : (n : ℕ) → n < length old → parent_at new n ≡ parent_at ready n
  parent_same n h =
      put.parents n ∙ ap (λ b. cond b (Some 0) (cond (is_in n (slice_range (children_at ready 0) place place)) None (parent_at ready n))) (not_among n h)
      ∙ ap (λ l. cond (is_in n l) None (parent_at ready n)) none_gone

  pub others_stay : KeepsNodes old new
  others_stay = record {
    len = omega (arith, keeps.len, put.len);
    content = λ n h. put.content n ∙ keeps.content n h;
    parent = λ n h. parent_same n h ∙ keeps.parent n h;
    children = λ n h ne. (put.others n ne) ∙ keeps.children n h;
  }

-- A newline may have been made, then the value, then another newline.
module _ (old first made last : List Node) (tree : IsTree old) (before behind : Option ℕ) (m : ℕ) (content : Content) (below : OrderedTree)
    (p : Extends old first) (fresh : IsFresh old first before) (built : Builds first made m content below) (q : Extends made last) (also_fresh : IsFresh made last behind) (after : IsTree last) where
  from_last : Keeps (length last) last last
  from_last = Keeps-same (length last) last

  pub from_made : Keeps (length made) made last
  from_made = q.keeps

  from_first : Keeps (length first) first last
  from_first = still_kept first made last built.keeps from_made

  pub from_old : Keeps (length old) old last
  from_old = still_kept old first last p.keeps from_first

  before_free : (o : Option ℕ) → IsFresh old first o → IfSome o (λ x. (length old ≤ x) × (x < m) × (parent_at last x ≡ None))
  before_free None f = tt
  before_free (Some x) f = (f.0, omega (arith, f.1, built.later), from_first.parent x f.1 ∙ f.2)

  behind_free : (o : Option ℕ) → IsFresh made last o → IfSome o (λ x. (m < x) × (x < length last) × (parent_at last x ≡ None))
  behind_free None f = tt
  behind_free (Some x) f = (omega (arith, f.0, built.in_tree), omega (arith, f.1, from_last.len), from_last.parent x f.1 ∙ f.2)

  pub rising : Rising last (length old) (listed before ++ m ∷ listed behind)
  rising =
      around_rises last (length old) m before behind (before_free before fresh) (omega (arith, built.later, p.keeps.len)) (omega (arith, built.in_tree, from_made.len)) (from_made.parent m built.in_tree ∙ built.alone) (behind_free behind also_fresh)

  pub can_join : (i j : ℕ) → CanJoin last 0 i j (listed before ++ m ∷ listed behind)
  can_join i j = may_join last after (length old) tree.first (listed before ++ m ∷ listed behind) rising i j

  pub before_still : map (content_at last) (listed before) ≡ map (content_at first) (listed before)
  before_still = content_still first last from_first (length old) before fresh

  pub behind_still : map (content_at last) (listed behind) ≡ map (content_at last) (listed behind)
  behind_still = content_still last last from_last (length made) behind also_fresh

  within_ready : (place : ℕ) → place ≤ length (children_at old 0) → place ≤ length (children_at last 0)
  within_ready place within = omega (arith, within, ap length (from_old.children 0 tree.first))

  pub gap_still : (g : ℕ) (b a : Option ℕ) → IsGap old 0 g b a → IsGap last 0 g b a
  gap_still g b a gap = gap_kept old last tree from_old g b a gap

  pub nodes_stay : (place : ℕ) → place ≤ length (children_at old 0) → (new : List Node) → Splices last new 0 place place (listed before ++ m ∷ listed behind) → KeepsNodes old new
  nodes_stay place within new put = others_stay old last new from_old (listed before ++ m ∷ listed behind) rising place (within_ready place within) put

-- so it is with a value that is laid out as the document tells
module _ (old first made last : List Node) (tree : IsTree old) (before behind : Option ℕ) (m : ℕ) (layout : Layout) (v : Plain)
    (p : Extends old first) (fresh : IsFresh old first before) (built : Builds first made m (laid layout v).content (laid layout v).below) (q : Extends made last) (also_fresh : IsFresh made last behind) (after : IsTree last)
    (told : layout ≡ layout_for old 0 0) (b a : Bool) (wanted : map (content_at first) (listed before) ≡ line_end_if b layout.newline) (also : map (content_at last) (listed behind) ≡ line_end_if a layout.newline)
    (led : b ≡ leads_in old) (closed : a ≡ leads_out old) (new : List Node) (done : IsTree new) (put : Splices last new 0 (first_place old) (first_place old) (listed before ++ m ∷ listed behind)) where
  kind : layout.newline ≡ newline_kind_of old
  kind = ap (λ (l : Layout). l.newline) told

  top_is : top_at last m ≡ laid (layout_for old 0 0) v
  top_is = top_stays made last built.tree (from_made old first made last tree before behind m (laid layout v).content (laid layout v).below p fresh built q also_fresh after) after m built.in_tree ∙ built_top built ∙ ap (λ (l : Layout). laid l v) told

  before_is : map (content_at last) (listed before) ≡ line_end_if (leads_in old) (newline_kind_of old)
  before_is =
      before_still old first made last tree before behind m (laid layout v).content (laid layout v).below p fresh built q also_fresh after ∙ wanted ∙ ap (line_end_if b) kind
      ∙ ap (λ w. line_end_if w (newline_kind_of old)) led

  behind_is : map (content_at last) (listed behind) ≡ line_end_if (leads_out old) (newline_kind_of old)
  behind_is =
      behind_still old first made last tree before behind m (laid layout v).content (laid layout v).below p fresh built q also_fresh after ∙ also ∙ ap (line_end_if a) kind
      ∙ ap (λ w. line_end_if w (newline_kind_of old)) closed

  pub first_value : FirstValue old new v m
  first_value = record {
    ready = last;
    before = listed before;
    behind = listed behind;
    fresh = omega (arith, built.later, p.keeps.len);
    prepared = record { keeps = from_old old first made last tree before behind m (laid layout v).content (laid layout v).below p fresh built q also_fresh after; tree = after };
    is = top_is;
    leads = before_is;
    ends = behind_is;
    join = can_join old first made last tree before behind m (laid layout v).content (laid layout v).below p fresh built q also_fresh after (first_place old) (first_place old);
    put = put;
    tree = done;
  }

-- the root's value is its child
pub root_child : (ns : List Node) → IsTree ns → (n : ℕ) → value_at ns 0 ≡ Some n → parent_at ns n ≡ Some 0
root_child ns tree n e =
    (found_one (is_element_at ns) (λ k. parent_at ns k ≡ Some 0) (children_at ns 0) n (λ k d l. subst (λ j. parent_at ns j ≡ Some 0) (get_or_default (children_at ns 0) k 0 d l) (tree.named 0 k l))
    (sym (ap (λ w. value_by w ns 0) tree.root_first) ∙ e)).0

pub holds_of_found : {E : Type 0} (o : Option ℕ) (n : ℕ) (P : ℕ → ℕ → Type 0) (r : Result ℕ E) → o ≡ Some n → IfOk r (P n) → IfOk r (λ m. IfSome o (λ k. P k m))
holds_of_found o n P r e h = subst (λ x. IfOk r (λ m. IfSome x (λ k. P k m))) (sym e) h

-- what is somebody's child has a parent
pub has_parent : (o : Option ℕ) (c : ℕ) → o ≡ Some c → o ≢ None
has_parent o c e f = let wrong : None ≡ Some c = sym f ∙ e in cc
