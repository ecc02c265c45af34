-- Who the last element and its trailing comma are: children of their container.
use Rattle.std.proofs.Common.{◌≡◌, ◌∙◌, sym, ap, subst, ℕ, suc, ◌+◌, ◌<◌, Bool, true, false, cond, List, [], ◌∷◌, length, reverse, drop, Option, Some, None, IfSome, is_some, arith}
use Rattle.std.specs.List.{find, All}
use Rattle.std.specs.Option.{option_and_then}
use Rattle.std.proofs.lemmas.Bool.{true_from_ne_false}
use Rattle.std.proofs.lemmas.List.{get_or_default}
use Rattle.std.proofs.lemmas.List.Elements.{All-drop}
use Rattle.jsonc_tree.specs.Changes.{Adds, CanAppend}
use Rattle.jsonc_tree.specs.Content.{Content}
use Rattle.jsonc_tree.specs.Order.{with_parent}
use Rattle.jsonc_tree.specs.Siblings.{first, siblings_after, IsGap, TakesOut}
use Rattle.jsonc_tree.specs.Tree.{Node, children_at, parent_at, place_at, is_container_at, IsTree}
use Rattle.jsonc_tree.proofs.Appending.{CanAppend-adds, CanJoin-one}
use Rattle.jsonc_tree.proofs.Builder.{Keeps-adds, Keeps-same}
use Rattle.jsonc_tree.proofs.Moves.{CanJoin-none}
use Rattle.jsonc_tree.proofs.Order.{parent_there}
use Rattle.jsonc_layout.specs.nodes.Kinds.{is_element_at, is_comma}
use Rattle.jsonc_layout.proofs.lemmas.nodes.InTree.{All-reverse}
use Rattle.jsonc_layout.specs.lines.Siblings.{if_comma, is_no_trivia_at, trailing_comma_at}
use Rattle.jsonc_tree.specs.Tree.{content_at}
use Rattle.jsonc_edit.specs.commas.Commas.{a_comma, comma_gone, comma_wanted_behind, has_newline, if_without_comma, last_element, CommaInsertedAfter}
use Rattle.jsonc_edit.proofs.PutRows.{RowPut}
use Rattle.jsonc_edit.proofs.RowEnds.{gap_after}

-- the node is a child of c
abbrev pub IsChild : List Node → ℕ → ℕ → Type 0
IsChild ns c m = parent_at ns m ≡ Some c

if_one : (P : ℕ → Type 0) (x : ℕ) (r : Option ℕ) (b : Bool) → P x → IfSome r P → IfSome (cond b (Some x) r) P
if_one P x r true h rest = h
if_one P x r false h rest = rest

-- what is found in a row is like all in it
pub found_like : (P : ℕ → Type 0) (test : ℕ → Bool) (xs : List ℕ) → All P xs → IfSome (find test xs) P
found_like P test [] h = tt
found_like P test (x ∷ xs) h = if_one P x (find test xs) (test x) (h 0 0 (omega arith)) (found_like P test xs (λ k d l. h (suc k) d (omega arith)))

pub some_like : (P : ℕ → Type 0) (o : Option ℕ) (n : ℕ) → o ≡ Some n → IfSome o P → P n
some_like P o n e h = subst (λ r. IfSome r P) e h

module _ (ns : List Node) (tree : IsTree ns) (c : ℕ) where
  pub children_are : All (IsChild ns c) (children_at ns c)
  children_are = λ k d l. subst (IsChild ns c) (get_or_default (children_at ns c) k 0 d l) (tree.named c k l)

  pub last_child : IfSome (last_element ns c) (IsChild ns c)
  last_child = found_like (IsChild ns c) (is_element_at ns) (reverse (children_at ns c)) (All-reverse (IsChild ns c) (children_at ns c) children_are)

  pub last_is_child : (n : ℕ) → last_element ns c ≡ Some n → IsChild ns c n
  last_is_child n e = some_like (IsChild ns c) (last_element ns c) n e last_child

  pub last_there : (o : Option ℕ) → IfSome o (IsChild ns c) → IfSome o (λ n. n < length ns)
  last_there None h = tt
  last_there (Some n) h = (parent_there ns tree n c h).0

  comma_like : (o : Option ℕ) → IfSome o (IsChild ns c) → IfSome (if_comma ns o) (IsChild ns c)
  comma_like None h = tt
  comma_like (Some m) h = if_one (IsChild ns c) m None (is_comma (content_at ns m)) h tt

  pub comma_child : (n : ℕ) → IsChild ns c n → IfSome (trailing_comma_at ns n) (IsChild ns c)
  comma_child n said =
      let row : siblings_after ns n ≡ drop (place_at ns n + 1) (children_at ns c) = ap (λ o. drop (place_at ns n + 1) (with_parent o (children_at ns))) said in
      comma_like (find (is_no_trivia_at ns) (siblings_after ns n)) (found_like (IsChild ns c) (is_no_trivia_at ns) (siblings_after ns n) (subst (All (IsChild ns c)) (sym row) (All-drop (IsChild ns c) (place_at ns n + 1) (children_at ns c) children_are)))

  gone_like : (o : Option ℕ) → IfSome o (IsChild ns c) → IfSome (option_and_then (trailing_comma_at ns) o) (IsChild ns c)
  gone_like None h = tt
  gone_like (Some n) h = comma_child n h

  -- the comma that leaves is a child of its container
  pub gone_child : (k : ℕ) → comma_gone ns c ≡ Some k → IsChild ns c k
  gone_child k e = some_like (IsChild ns c) (comma_gone ns c) k e (gone_like (last_element ns c) last_child)

  without_like : (n : ℕ) (b : Bool) → IsChild ns c n → IfSome (cond b None (Some n)) (IsChild ns c)
  without_like n true h = tt
  without_like n false h = h

  wanted_like : (o : Option ℕ) → IfSome o (IsChild ns c) → IfSome (option_and_then (if_without_comma ns) o) (IsChild ns c)
  wanted_like None h = tt
  wanted_like (Some n) h = without_like n (is_some (trailing_comma_at ns n)) h

  if_several : (b : Bool) (o : Option ℕ) → IfSome o (IsChild ns c) → IfSome (cond b o None) (IsChild ns c)
  if_several true o h = h
  if_several false o h = tt

  -- and so is the node behind which one is to come
  pub wanted_child : (n : ℕ) → comma_wanted_behind ns c ≡ Some n → IsChild ns c n
  wanted_child n e = some_like (IsChild ns c) (comma_wanted_behind ns c) n e (if_several (has_newline ns c) (option_and_then (if_without_comma ns) (last_element ns c)) (wanted_like (last_element ns c) last_child))

  -- directly behind a child there is a gap
  pub gap_behind : (n : ℕ) (o : Option ℕ) → IsChild ns c n → o ≡ first (siblings_after ns n) → IsGap ns c (suc (place_at ns n)) (Some n) o
  gap_behind n o said e = let one : place_at ns n + 1 ≡ suc (place_at ns n) = omega arith in subst (λ k. IsGap ns c k (Some n) o) one (gap_after ns tree n c o said e)

  holds : (n : ℕ) → IsChild ns c n → is_container_at ns c ≡ true
  holds n said = true_from_ne_false (is_container_at ns c) (λ e. absurd (omega (arith, tree.within n c said, ap length (tree.leaf c e))))

-- where a leaf has been added, a child is still one, and the leaf may come behind it
module _ (old new : List Node) (content : Content) (tree : IsTree old) (after : IsTree new) (added : Adds old new content) (c n : ℕ) (said : parent_at old n ≡ Some c) where
  pub child_yet : parent_at new n ≡ Some c
  child_yet = ap (λ (x : Node). x.parent) (added.rest n (parent_there old tree n c said).0) ∙ said

  pub may_come : CanAppend new c (length old)
  may_come = CanAppend-adds old new content c after (parent_there old tree n c said).1 (holds old tree c n said) added

-- so a comma that comes or leaves is one change of one row
abbrev pub comma_in : (old new : List Node) (c n : ℕ) → IsTree old → IsTree new → parent_at old n ≡ Some c → CommaInsertedAfter old new c n → RowPut old new c
comma_in old new c n tree after said r =
    let may : CanAppend r.ready c (length old) = may_come old r.ready a_comma tree r.tree r.added c n said in
    record {
      ready = r.ready;
      from = suc (place_at r.ready n);
      to = suc (place_at r.ready n);
      put = length old ∷ [];
      tree = tree;
      there = (parent_there old tree n c said).1;
      prepared = record { keeps = Keeps-adds old r.ready a_comma r.added; tree = r.tree };
      join = CanJoin-one r.ready (length old) c (suc (place_at r.ready n)) (suc (place_at r.ready n)) may.node may.not_root may.alone may.not_over;
      spliced = r.put;
      after = after;
    }

abbrev pub comma_out : (old new : List Node) (c k : ℕ) → IsTree old → IsTree new → c < length old → TakesOut old new c k → RowPut old new c
comma_out old new c k tree after there s = record {
  ready = old;
  from = place_at old k;
  to = suc (place_at old k);
  put = [];
  tree = tree;
  there = there;
  prepared = record { keeps = Keeps-same (length old) old; tree = tree };
  join = CanJoin-none old c (place_at old k) (suc (place_at old k));
  spliced = s;
  after = after;
}
