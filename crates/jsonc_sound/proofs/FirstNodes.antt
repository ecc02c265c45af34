-- How the change of an element meets the first node of its row, and which nodes are no elements.
use Rattle.std.proofs.Common.{ℕ, suc, ◌≡◌, sym, ap, subst, refl, Bool, List, IsTrue}
use Rattle.jsonc_text.specs.Options.{Options}
use Rattle.jsonc_text.specs.Plain.{Plain}
use Rattle.jsonc_text.proofs.Basics.{clash}
use Rattle.jsonc_tree.specs.Content.{Content}
use Rattle.jsonc_tree.specs.OrderedTree.{OrderedTree, none, more, Top}
use Rattle.jsonc_tree.specs.Values as values
use Rattle.jsonc_tree.specs.Values.{is_passed_over, IsNameLeaf, ValueOf, HasNoValue}
use Rattle.jsonc_sound.specs.Lines.{is_line_comment, ends_line}
use Rattle.jsonc_sound.specs.Shape as shape
use Rattle.jsonc_sound.specs.Shape.{IsTrivia, IsLiteralBefore, IsNameBefore, ValueShaped}
use Rattle.jsonc_sound.proofs.ShapeTexts.{trivia_none}
use Rattle.jsonc_sound.specs.TreeChanges.{IsElement, ElementChanged, this_element, passed, later_element}

-- the first node is the one that is replaced, or it stays: it is passed over, or an element before that one
pub data Meets (was now : Top) (i : ℕ) (content : Content) (below after new : OrderedTree) : Type 0 where
  here : i ≡ 0 → content ≡ was.content → below ≡ was.below → IsElement content → new ≡ more now.content now.below after → Meets was now i content below after new
  over : {rest : OrderedTree} → IsTrue (is_passed_over content) → ElementChanged was now i after rest → new ≡ more content below rest → Meets was now i content below after new
  beyond : {j : ℕ} {rest : OrderedTree} → i ≡ suc j → IsElement content → ElementChanged was now j after rest → new ≡ more content below rest → Meets was now i content below after new

meets : {was now : Top} {i : ℕ} {row new : OrderedTree} (content : Content) (below after : OrderedTree) → ElementChanged was now i row new → row ≡ more content below after → Meets was now i content below after new
meets {was} {now} content below after (this_element {after = a} p q) e =
    let c : content ≡ was.content = cc in
    let b : below ≡ was.below = cc in
    let f : a ≡ after = cc in
    here refl c b (subst IsElement (sym c) p) (ap (more now.content now.below) f)
meets {was} {now} content below after (passed {i = i} {content = c} {below = b} {x = x} {y = y} h k) e =
    let s : c ≡ content = cc in
    let f : x ≡ after = cc in
    let g : more c b y ≡ more content below y = cc in
    over (subst (λ v. IsTrue (is_passed_over v)) s h) (subst (λ v. ElementChanged was now i v y) f k) g
meets {was} {now} content below after (later_element {i = i} {content = c} {below = b} {x = x} {y = y} h k) e =
    let s : c ≡ content = cc in
    let f : x ≡ after = cc in
    let g : more c b y ≡ more content below y = cc in
    beyond refl (subst IsElement s h) (subst (λ v. ElementChanged was now i v y) f k) g

pub meets_first : {was now : Top} {i : ℕ} {content : Content} {below after new : OrderedTree} → ElementChanged was now i (more content below after) new → Meets was now i content below after new
meets_first {content = content} {below = below} {after = after} e = meets content below after e refl

-- an empty row has no element
pub none_changed : {was now : Top} {i : ℕ} {new : OrderedTree} → ElementChanged was now i none new → ⊥
none_changed e = elim e [ ]

-- an element is not passed over
pub no_element : (content : Content) → IsElement content → IsTrue (is_passed_over content) → ⊥
no_element content h k = clash (is_passed_over content) h k

over_first : {content : Content} {below after : OrderedTree} → HasNoValue (more content below after) → IsTrue (is_passed_over content)
over_first (values.pass h g) = h

pub trivia_over : (o : Options) (content : Content) → IsTrivia o content → IsTrue (is_passed_over content)
trivia_over o content h = over_first (trivia_none o (shape.trivia h shape.nothing))

-- a value and a name are elements
pub value_of_element : {o : Options} {content : Content} {below : OrderedTree} {v : Plain} → ValueOf o content below v → IsElement content
value_of_element (values.string h) = refl
value_of_element values.number = refl
value_of_element values.boolean = refl
value_of_element values.null = refl
value_of_element (values.array h) = refl
value_of_element (values.object h) = refl

pub name_leaf_element : (o : Options) (content : Content) (name : List ℕ) → IsNameLeaf o content name → IsElement content
name_leaf_element o (Content.whitespace s) name h = cc
name_leaf_element o (Content.newline k) name h = cc
name_leaf_element o (Content.comment s) name h = cc
name_leaf_element o (Content.token c) name h = cc
name_leaf_element o content name h = refl

literal_element : (o : Options) (content : Content) (r : List ℕ) → IsLiteralBefore o content r → IsElement content
literal_element o (Content.whitespace s) r h = absurd h
literal_element o (Content.newline k) r h = absurd h
literal_element o (Content.comment s) r h = absurd h
literal_element o (Content.token c) r h = absurd h
literal_element o content r h = refl

pub name_element : (o : Options) (content : Content) (r : List ℕ) → IsNameBefore o content r → IsElement content
name_element o (Content.whitespace s) r h = absurd h
name_element o (Content.newline k) r h = absurd h
name_element o (Content.comment s) r h = absurd h
name_element o (Content.token c) r h = absurd h
name_element o content r h = refl

pub value_element : {o : Options} {content : Content} {below : OrderedTree} {r : List ℕ} → ValueShaped o content below r → IsElement content
value_element {o} {r = r} (shape.literal {content = content} h) = literal_element o content r h
value_element (shape.empty_array g) = refl
value_element (shape.array g e) = refl
value_element (shape.empty_object g) = refl
value_element (shape.object g p) = refl

-- line comments and newlines are passed over
pub line_comment_over : (content : Content) → IsTrue (is_line_comment content) → IsTrue (is_passed_over content)
line_comment_over (Content.comment s) h = refl
line_comment_over content h = cc

pub line_end_over : (at_end : Bool) (content : Content) (below after : OrderedTree) → IsTrue (ends_line at_end (more content below after)) → IsTrue (is_passed_over content)
line_end_over at_end (Content.newline k) below after h = refl
line_end_over at_end content below after h = cc

-- a line's end goes by the first node alone
pub line_end_same : (at_end : Bool) (content : Content) (below after other : OrderedTree) → ends_line at_end (more content below after) ≡ ends_line at_end (more content below other)
line_end_same at_end (Content.newline k) below after other = refl
line_end_same at_end content below after other = refl
