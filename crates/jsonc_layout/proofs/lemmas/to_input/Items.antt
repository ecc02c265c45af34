-- The values of an array's children, one after another.
use Rattle.std.proofs.Common.{◌≡◌, ℕ, ◌+◌, ◌<◌, List, [], ◌∷◌, ◌++◌, length, get_or, take, Option, None, Some, option_map, refl, sym, ap, subst, ◌∙◌}
use Rattle.jsonc_text.specs.Plain.{Plain, Items, no_items, item, collapse, collapse_items}
use Rattle.jsonc_tree.specs.Content.{Content}
use Rattle.jsonc_tree.specs.Tree.{Node, content_at}
use Rattle.jsonc_tree.specs.OrderedTree.{OrderedTree, none, more, followed_by}
use Rattle.jsonc_layout.specs.declared.input.value.CstInputValue.{CstInputValue}
use Rattle.jsonc_layout.specs.input.Views.{plain, items_plain}
use Rattle.jsonc_layout.specs.to_input.Given.{Gives, GivesItems, no_more_items, pass_to_items, one_item}
use Rattle.jsonc_layout.specs.to_input.Taken.{AreTaken, IsTakenAt}
use Rattle.jsonc_layout.proofs.lemmas.to_input.Shown.{empty_shown, one_more_shown}

-- the values, and then one more
abbrev pub push_item : Items → Plain → Items
push_item no_items v = item v no_items
push_item (item w vs) v = item w (push_item vs v)

abbrev with_item : Items → Option Plain → Items
with_item vs None = vs
with_item vs (Some v) = push_item vs v

collapse_items-push : (vs : Items) (v : Plain) → collapse_items (push_item vs v) ≡ push_item (collapse_items vs) (collapse v)
collapse_items-push no_items v = refl
collapse_items-push (item w vs) v = ap (item (collapse w)) (collapse_items-push vs v)

item_passed : {row : OrderedTree} {vs : Items} (content : Content) (below : OrderedTree) → GivesItems row vs → Gives content below None → GivesItems (followed_by row (more content below none)) vs
item_passed content below no_more_items g = pass_to_items g no_more_items
item_passed content below (pass_to_items p r) g = pass_to_items p (item_passed content below r g)
item_passed content below (one_item p r) g = one_item p (item_passed content below r g)

item_pushed : {row : OrderedTree} {vs : Items} (content : Content) (below : OrderedTree) (v : Plain) → GivesItems row vs → Gives content below (Some v) → GivesItems (followed_by row (more content below none)) (push_item vs v)
item_pushed content below v no_more_items g = one_item g no_more_items
item_pushed content below v (pass_to_items p r) g = pass_to_items p (item_pushed content below v r g)
item_pushed content below v (one_item p r) g = one_item p (item_pushed content below v r g)

item_added : {row : OrderedTree} {vs : Items} (content : Content) (below : OrderedTree) (found : Option Plain) → GivesItems row vs → Gives content below found → GivesItems (followed_by row (more content below none)) (with_item vs found)
item_added content below None r g = item_passed content below r g
item_added content below (Some v) r g = item_pushed content below v r g

module _ {A : Type 0} where
  items_plain-push : (xs : List (CstInputValue A)) (x : CstInputValue A) → items_plain (xs ++ x ∷ []) ≡ push_item (items_plain xs) (plain x)
  items_plain-push [] x = refl
  items_plain-push (y ∷ xs) x = ap (item (plain y)) (items_plain-push xs x)

  -- at first nothing is taken
  pub none_taken : (ns : List Node) (row : List ℕ) (taken : List (CstInputValue A)) → row ≡ [] → taken ≡ [] → AreTaken ns row taken
  none_taken ns row taken e f = record {
    items = no_items;
    gives = λ tree shows. subst (λ (t : OrderedTree). GivesItems t no_items) (sym (empty_shown ns row tree e shows)) no_more_items;
    collapsed = ap items_plain f;
  }

  -- the same of one child more, if what was taken of it is put last
  more_taken : (ns : List Node) (row : List ℕ) (k : ℕ) (taken more_of : List (CstInputValue A)) (one : Option (CstInputValue A)) → k < length row → (so_far : AreTaken ns (take k row) taken) → (child : IsTakenAt ns (get_or row k 0) one)
      → items_plain more_of ≡ collapse_items (with_item so_far.items child.given) → AreTaken ns (take (k + 1) row) more_of
  more_taken ns row k taken more_of one h so_far child e = record {
    items = with_item so_far.items child.given;
    gives = λ tree shows.
        let parts = one_more_shown ns row k tree h shows in
        subst (λ (t : OrderedTree). GivesItems t (with_item so_far.items child.given)) (sym parts.2)
        (item_added (content_at ns (get_or row k 0)) parts.1 child.given (so_far.gives parts.0 parts.3) (child.gives parts.1 parts.4));
    collapsed = e;
  }

  pub nothing_more_taken : (ns : List Node) (row : List ℕ) (k : ℕ) (taken : List (CstInputValue A)) (one : Option (CstInputValue A)) → k < length row → AreTaken ns (take k row) taken → IsTakenAt ns (get_or row k 0) one → one ≡ None → AreTaken ns (take (k + 1) row) taken
  nothing_more_taken ns row k taken one h so_far child e =
      more_taken ns row k taken taken one h so_far child (so_far.collapsed ∙ ap (λ o. collapse_items (with_item so_far.items o)) (sym (nothing child.given (sym child.collapsed ∙ ap (option_map plain) e))))
    where
      nothing : (o : Option Plain) → option_map collapse o ≡ None → o ≡ None
      nothing None f = refl
      nothing (Some v) f = absurd (let wrong : Some (collapse v) ≡ None = f in cc)

  pub one_more_taken : (ns : List Node) (row : List ℕ) (k : ℕ) (taken more_of : List (CstInputValue A)) (one : Option (CstInputValue A)) (x : CstInputValue A) → k < length row → AreTaken ns (take k row) taken → IsTakenAt ns (get_or row k 0) one → one ≡ Some x → more_of ≡ taken ++ x ∷ []
      → AreTaken ns (take (k + 1) row) more_of
  one_more_taken ns row k taken more_of one x h so_far child e f =
      more_taken ns row k taken more_of one h so_far child (ap items_plain f ∙ items_plain-push taken x ∙ ap (λ vs. push_item vs (plain x)) so_far.collapsed ∙ last child.given (ap (option_map plain) (sym e) ∙ child.collapsed))
    where
      last : (o : Option Plain) → Some (plain x) ≡ option_map collapse o → push_item (collapse_items so_far.items) (plain x) ≡ collapse_items (with_item so_far.items o)
      last None g = absurd (let wrong : Some (plain x) ≡ None = g in cc)
      last (Some v) g = let same : plain x ≡ collapse v = cc in ap (push_item (collapse_items so_far.items)) same ∙ sym (collapse_items-push so_far.items v)
