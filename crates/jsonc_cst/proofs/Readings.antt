-- What a reading answers is a node of the document, and of the kind that it is answered as.
use Rattle.std.proofs.Common.{◌≡◌, ℕ, suc, ◌<◌, Bool, true, false, cond, ◌==◌, inl, inr, List, [], ◌∷◌, length, map, filter, get_or, Option, Some, None, IfSome, if◌then◌else◌, refl, ap, sym, subst, ◌∙◌, arith, tests}
use Rattle.std.specs.List.{All, find, take_while}
use Rattle.std.proofs.lemmas.Bool.{cases_lt, false≢true}
use Rattle.std.proofs.lemmas.List.{get_or-map, get_or_past, length-map}
use Rattle.std.proofs.lemmas.List.Elements.{filter_passes}
use Rattle.jsonc_tree.specs.Content as content
use Rattle.jsonc_tree.specs.Tree.{Node, nowhere, content_at, IsTree}
use Rattle.jsonc_layout.specs.nodes.Comments.{inline_comments}
use Rattle.jsonc_layout.specs.nodes.Kinds.{is_inline_trivia_at, is_comment, is_comment_at, is_property, is_comma}
use Rattle.jsonc_layout.specs.nodes.Names.{FirstNamed, none, here, later}
use Rattle.jsonc_layout.specs.nodes.Siblings.{AreThere}
use Rattle.jsonc_layout.specs.lines.Siblings.{if_comma}
use Rattle.jsonc_cst.specs.declared.cst.node.CstNode.{CstNode}
use Rattle.jsonc_cst.specs.Nodes.{typed, typed_at, IsNodeOf, root_node, object_prop_node, token_node, comment_node}
use Rattle.jsonc_cst.specs.Readings.{is_property_at, typed_all, root_under, property_under, token_under, comment_under}
use Rattle.jsonc_cst.proofs.Family.{typed_held}

-- nodes of numbers that are there
pub typed_all_held : (ns : List Node) (row : List ℕ) → AreThere ns row → All (IsNodeOf ns) (typed_all ns row)
typed_all_held ns row there k d h =
    let within : k < length row = omega (arith, h, length-map row (typed_at ns)) in
    subst (IsNodeOf ns) (sym (get_or-map (typed_at ns) row k 0 d within)) (typed_held ns (get_or row k 0) (there k 0 within))

-- what is left of children
pub rest_there : (ns : List Node) (row rest : List ℕ) (n : ℕ) → row ≡ n ∷ rest → AreThere ns row → AreThere ns rest
rest_there ns row rest n e there k d h = subst (AreThere ns) e there (suc k) d (omega (arith, h))

if_passes : (test : ℕ → Bool) (x : ℕ) (r : Option ℕ) (b : Bool) → test x ≡ b → IfSome r (λ n. test n ≡ true) → IfSome (cond b (Some x) r) (λ n. test n ≡ true)
if_passes test x r true h rest = h
if_passes test x r false h rest = rest

pub find_passes : (test : ℕ → Bool) (xs : List ℕ) → IfSome (find test xs) (λ n. test n ≡ true)
find_passes test [] = tt
find_passes test (x ∷ xs) = if_passes test x (find test xs) (test x) refl (find_passes test xs)

-- what is made of numbers that pass
pub made_of_passing : {T : Type 0} (make : ℕ → T) (P : T → Type 0) (test : ℕ → Bool) → ((n : ℕ) → test n ≡ true → P (make n)) → (xs : List ℕ) → All P (map make (filter test xs))
made_of_passing make P test each xs k d h =
    let ys : List ℕ = filter test xs in
    let within : k < length ys = omega (arith, h, length-map ys make) in
    subst P (sym (get_or-map make ys k 0 d within)) (each (get_or ys k 0) (filter_passes test xs k 0 within))

is_comment_typed : (what : content.Content) (n : ℕ) → is_comment what ≡ true → typed what n ≡ comment_node (comment_under n)
is_comment_typed content.root n h = absurd (false≢true h)
is_comment_typed content.object n h = absurd (false≢true h)
is_comment_typed content.array n h = absurd (false≢true h)
is_comment_typed content.property n h = absurd (false≢true h)
is_comment_typed (content.string s) n h = absurd (false≢true h)
is_comment_typed (content.word s) n h = absurd (false≢true h)
is_comment_typed (content.number s) n h = absurd (false≢true h)
is_comment_typed (content.boolean b) n h = absurd (false≢true h)
is_comment_typed content.null n h = absurd (false≢true h)
is_comment_typed (content.token c) n h = absurd (false≢true h)
is_comment_typed (content.whitespace s) n h = absurd (false≢true h)
is_comment_typed (content.newline k) n h = absurd (false≢true h)
is_comment_typed (content.comment s) n h = refl

is_property_typed : (what : content.Content) (n : ℕ) → is_property what ≡ true → typed what n ≡ object_prop_node (property_under n)
is_property_typed content.root n h = absurd (false≢true h)
is_property_typed content.object n h = absurd (false≢true h)
is_property_typed content.array n h = absurd (false≢true h)
is_property_typed content.property n h = refl
is_property_typed (content.string s) n h = absurd (false≢true h)
is_property_typed (content.word s) n h = absurd (false≢true h)
is_property_typed (content.number s) n h = absurd (false≢true h)
is_property_typed (content.boolean b) n h = absurd (false≢true h)
is_property_typed content.null n h = absurd (false≢true h)
is_property_typed (content.token c) n h = absurd (false≢true h)
is_property_typed (content.whitespace s) n h = absurd (false≢true h)
is_property_typed (content.newline k) n h = absurd (false≢true h)
is_property_typed (content.comment s) n h = absurd (false≢true h)

is_comma_typed : (what : content.Content) (n : ℕ) → is_comma what ≡ true → typed what n ≡ token_node (token_under n)
is_comma_typed content.root n h = absurd (false≢true h)
is_comma_typed content.object n h = absurd (false≢true h)
is_comma_typed content.array n h = absurd (false≢true h)
is_comma_typed content.property n h = absurd (false≢true h)
is_comma_typed (content.string s) n h = absurd (false≢true h)
is_comma_typed (content.word s) n h = absurd (false≢true h)
is_comma_typed (content.number s) n h = absurd (false≢true h)
is_comma_typed (content.boolean b) n h = absurd (false≢true h)
is_comma_typed content.null n h = absurd (false≢true h)
is_comma_typed (content.token c) n h = refl
is_comma_typed (content.whitespace s) n h = absurd (false≢true h)
is_comma_typed (content.newline k) n h = absurd (false≢true h)
is_comma_typed (content.comment s) n h = absurd (false≢true h)

module _ (ns : List Node) where
  -- a number whose content passes a test that null does not pass is there
  there_by : (test : content.Content → Bool) → test content.null ≡ false → (n : ℕ) → test (content_at ns n) ≡ true → n < length ns
  there_by test off n h =
      elim (cases_lt n (length ns)) [
        | inl l ↦ l
        | inr g ↦ absurd (false≢true (sym off ∙ sym (ap (λ (x : Node). test x.content) (get_or_past ns n nowhere g)) ∙ h))
      ]

  held_by : (test : content.Content → Bool) → test content.null ≡ false → (kind : ℕ → CstNode) → ((what : content.Content) (n : ℕ) → test what ≡ true → typed what n ≡ kind n) → (n : ℕ) → test (content_at ns n) ≡ true → IsNodeOf ns (kind n)
  held_by test off kind same n h = subst (IsNodeOf ns) (same (content_at ns n) n h) (typed_held ns n (there_by test off n h))

  pub comment_held : (n : ℕ) → is_comment (content_at ns n) ≡ true → IsNodeOf ns (comment_node (comment_under n))
  comment_held = held_by is_comment refl (λ n. comment_node (comment_under n)) is_comment_typed

  pub property_held : (n : ℕ) → is_property (content_at ns n) ≡ true → IsNodeOf ns (object_prop_node (property_under n))
  property_held = held_by is_property refl (λ n. object_prop_node (property_under n)) is_property_typed

  pub comma_held : (n : ℕ) → is_comma (content_at ns n) ≡ true → IsNodeOf ns (token_node (token_under n))
  comma_held = held_by is_comma refl (λ n. token_node (token_under n)) is_comma_typed

  -- a property that is found by its name
  pub named_held : (v : List ℕ) (row : List ℕ) (found : Option ℕ) → FirstNamed ns v row found → IfSome found (λ n. IsNodeOf ns (object_prop_node (property_under n)))
  named_held v _ _ none = tt
  named_held v _ _ (here {n = n} named) = property_held n (ap is_property named.0)
  named_held v _ found (later other rest) = named_held v _ found rest

  -- a root that is above a node
  pub root_held : IsTree ns → (xs : List ℕ) (n : ℕ) → Some n ≡ find (λ m. m == 0) xs → IsNodeOf ns (root_node (root_under n))
  root_held tree xs n found =
      let passes : (n == 0) ≡ true = subst (λ o. IfSome o (λ m. (m == 0) ≡ true)) (sym found) (find_passes (λ m. m == 0) xs) in
      let first : n ≡ 0 = search (passes, tests) in
      subst (λ m. IsNodeOf ns (root_node (root_under m))) (sym first) (tree.first, ap (λ what. typed what 0) tree.root_first)

  -- the first property among children
  pub first_property_held : (xs : List ℕ) (n : ℕ) → Some n ≡ find (is_property_at ns) xs → IsNodeOf ns (object_prop_node (property_under n))
  first_property_held xs n found = property_held n (subst (λ o. IfSome o (λ m. is_property_at ns m ≡ true)) (sym found) (find_passes (is_property_at ns) xs))

  comma_if_held : (m n : ℕ) (b : Bool) → is_comma (content_at ns m) ≡ b → Some n ≡ (if b then Some m else None) → IsNodeOf ns (token_node (token_under n))
  comma_if_held m n true h found =
      let same : n ≡ m = cc in
      subst (λ k. IsNodeOf ns (token_node (token_under k))) (sym same) (comma_held m h)
  comma_if_held m n false h found = absurd (let wrong : Some n ≡ None = found in cc)

  -- a comma among what may be one
  pub if_comma_held : (o : Option ℕ) (n : ℕ) → Some n ≡ if_comma ns o → IsNodeOf ns (token_node (token_under n))
  if_comma_held None n found = absurd (let wrong : Some n ≡ None = found in cc)
  if_comma_held (Some m) n found = comma_if_held m n (is_comma (content_at ns m)) refl found

  pub properties_held : (xs : List ℕ) → All (λ p. IsNodeOf ns (object_prop_node p)) (map property_under (filter (is_property_at ns) xs))
  properties_held = made_of_passing property_under (λ p. IsNodeOf ns (object_prop_node p)) (is_property_at ns) property_held

  pub comments_held : (xs : List ℕ) → All (λ c. IsNodeOf ns (comment_node c)) (map comment_under (inline_comments ns xs))
  comments_held xs = made_of_passing comment_under (λ c. IsNodeOf ns (comment_node c)) (is_comment_at ns) comment_held (take_while (is_inline_trivia_at ns) xs)

  pub comments_held_if : (b : Bool) (xs : List ℕ) → All (λ c. IsNodeOf ns (comment_node c)) (map comment_under (if b then inline_comments ns xs else []))
  comments_held_if true xs = comments_held xs
  comments_held_if false xs = λ k d h. absurd (omega (arith, h))
