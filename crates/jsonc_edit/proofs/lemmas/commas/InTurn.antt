-- Commas that are set in turn, one more each time.
use Rattle.std.proofs.Common.{◌≡◌, ◌∙◌, sym, ap, subst, refl, ℕ, ◌<◌, true, cond, IsTrue, List, [], ◌∷◌, ◌++◌, length, filter, Option, Some, IfSome, arith}
use Rattle.std.specs.List.{flat_map}
use Rattle.std.proofs.lemmas.List.{append-nil, append_assoc}
use Rattle.jsonc_tree.specs.Content.{Content, is_container}
use Rattle.jsonc_tree.specs.Order.{following, in_order}
use Rattle.jsonc_tree.specs.Tree.{Node, children_at, content_at, is_container_at, IsOver, IsTree}
use Rattle.jsonc_tree.proofs.Order.{following_end, in_order_is}
use Rattle.jsonc_layout.specs.lines.Kinds.{is_array_or_object}
use Rattle.jsonc_text.specs.declared.edit.TrailingCommaMode.{TrailingCommaMode}
use Rattle.jsonc_edit.specs.commas.Commas.{CommaIsSet, WantsComma}
use Rattle.jsonc_edit.specs.commas.InTurn.{holders, holds_at, is_met, to_come, AreSetInPart, AreSetInTurn}
use Rattle.jsonc_edit.proofs.lemmas.commas.InOrder.{over_same}
use Rattle.jsonc_edit.proofs.lemmas.commas.Reach.{met_holds, met_same, set_reaches, to_come_same, KeepsReach}
use Rattle.jsonc_edit.proofs.lemmas.commas.Children.{some_like}

-- one more has been set
pub one_more_set : (mode : TrailingCommaMode) (done : List ℕ) (n : ℕ) (old now new : List Node) → AreSetInTurn mode old done now → CommaIsSet mode now new n → IsTree new → AreSetInTurn mode old (done ++ n ∷ []) new
one_more_set mode [] n old now new e s tree = (new, subst (λ ns. CommaIsSet mode ns new n) e s, tree, refl)
one_more_set mode (m ∷ done) n old now new (next, s, t, rest) last tree = (next, s, t, one_more_set mode done n next now new rest last tree)

-- those before this node have been set
pub record SetSoFar (mode : TrailingCommaMode) (old now : List Node) (c : ℕ) (next : Option ℕ) : Type 0 where
  pub done : List ℕ
  pub are : holders old c ≡ done ++ to_come now c next
  pub set : AreSetInTurn mode old done now

-- none has, where the walk begins at the first
pub none_set : (mode : TrailingCommaMode) (old : List Node) (c : ℕ) (next : Option ℕ) → holders old c ≡ to_come old c next → SetSoFar mode old old c next
none_set mode old c next e = record { done = []; are = e; set = refl }

pub set_further : (mode : TrailingCommaMode) (old now new : List Node) (c n : ℕ) (next : Option ℕ) → SetSoFar mode old now c (Some n) → to_come now c (Some n) ≡ n ∷ to_come new c next → CommaIsSet mode now new n → IsTree new → SetSoFar mode old new c next
set_further mode old now new c n next s e set tree = record {
  done = s.done ++ n ∷ [];
  are = s.are ∙ ap (λ l. s.done ++ l) e ∙ sym (append_assoc s.done (n ∷ []) (to_come new c next));
  set = one_more_set mode s.done n old now new s.set set tree;
}

-- all have been set
pub all_set : (mode : TrailingCommaMode) (old now : List Node) (c : ℕ) (next : Option ℕ) → SetSoFar mode old now c next → to_come now c next ≡ [] → AreSetInTurn mode old (holders old c) now
all_set mode old now c next s e =
    subst (λ l. AreSetInTurn mode old l now) (sym (s.are ∙ ap (λ l. s.done ++ l) e ∙ append-nil s.done)) s.set

-- one was refused
pub part_set : (mode : TrailingCommaMode) (old now : List Node) (c n : ℕ) (rest : List ℕ) → SetSoFar mode old now c (Some n) → to_come now c (Some n) ≡ n ∷ rest → WantsComma now n → AreSetInPart mode old (holders old c) now
part_set mode old now c n rest s e wants = record {
  done = s.done;
  next = n;
  left = rest;
  are = s.are ∙ ap (λ l. s.done ++ l) e;
  set = s.set;
  wants = wants;
}

-- the walk begins with all to come
pub all_to_come : (ns : List Node) → IsTree ns → (c : ℕ) → c < length ns → holders ns c ≡ to_come ns c (Some c)
all_to_come ns tree c there = sym (ap (λ l. filter (is_met ns c) (in_order ns c ++ l)) (following_end ns tree c there) ∙ ap (filter (is_met ns c)) (append-nil (in_order ns c)))

pub holder_contains : (c : Content) → IsTrue (is_array_or_object c) → is_container c ≡ true
holder_contains Content.object h = refl
holder_contains Content.array h = refl
holder_contains c h = cc

-- the walk stands at an array or object
pub record StandsAt (mode : TrailingCommaMode) (old now : List Node) (c : ℕ) (next : Option ℕ) : Type 0 where
  pub tree : IsTree now
  pub in_tree : IfSome next (λ n. n < length now)
  pub over : IfSome next (λ n. IsOver now c n)
  pub met : IfSome next (λ n. IsTrue (is_met now c n))
  pub set : SetSoFar mode old now c next

module _ (mode : TrailingCommaMode) (old now : List Node) (c : ℕ) (next : Option ℕ) (s : StandsAt mode old now c next) (n : ℕ) (is : next ≡ Some n) where
  here : n < length now
  here = some_like (λ m. m < length now) next n is s.in_tree

  over_it : IsOver now c n
  over_it = some_like (IsOver now c) next n is s.over

  met_it : IsTrue (is_met now c n)
  met_it = some_like (λ m. IsTrue (is_met now c m)) next n is s.met

  holds_it : IsTrue (holds_at now n)
  holds_it = met_holds now c n met_it

  so_far : SetSoFar mode old now c (Some n)
  so_far = subst (SetSoFar mode old now c) is s.set

  -- it is the first that is still to come
  first_to_come : (rest : List ℕ) × (to_come now c (Some n) ≡ n ∷ rest)
  first_to_come =
      let rows : List ℕ = flat_map (in_order now) (children_at now n) in
      let rest : List ℕ = filter (is_met now c) (rows ++ following now c n) in
      (rest, ap (λ l. filter (is_met now c) (l ++ following now c n)) (in_order_is now s.tree n here) ∙ ap (λ b. cond b (n ∷ rest) rest) met_it)

  pub refused_here : (new : List Node) → new ≡ now → WantsComma now n → AreSetInPart mode old (holders old c) new
  refused_here new e wants =
      let f = first_to_come in
      subst (AreSetInPart mode old (holders old c)) (sym e) (part_set mode old now c n f.0 so_far f.1 wants)

  -- it has been set
  module _ (new : List Node) (after : IsTree new) (set : CommaIsSet mode now new n) where
    contains : is_container_at now n ≡ true
    contains = holder_contains (content_at now n) holds_it

    kept : KeepsReach now new
    kept = set_reaches mode now new s.tree n holds_it set

    pub over_still : IsOver new c n
    over_still = over_same now new s.tree after kept.containers c n contains over_it

    pub met_still : IsTrue (is_met new c n)
    met_still = met_same now new s.tree after kept c n ∙ met_it

    to_come_still : to_come new c (Some n) ≡ to_come now c (Some n)
    to_come_still = to_come_same now new s.tree after kept c n contains

    pub fewer : (later : Option ℕ) → to_come new c (Some n) ≡ n ∷ to_come new c later → length (to_come new c later) < length (to_come now c next)
    fewer later come =
        let e : length (to_come now c next) ≡ length (n ∷ to_come new c later) = ap (λ o. length (to_come now c o)) is ∙ ap length (sym to_come_still ∙ come) in
        omega (arith, e)

    pub goes_on : (later : Option ℕ) → to_come new c (Some n) ≡ n ∷ to_come new c later → SetSoFar mode old new c later
    goes_on later come = set_further mode old now new c n later so_far (sym to_come_still ∙ come) set after
