-- What is taken of containers.
use Rattle.std.proofs.Common.{◌≡◌, ℕ, ◌<◌, List, length, false, Option, None, Some, Result, Ok, Err, IfOk, IsTrue, refl, sym, ap, subst, ◌∙◌, option_map}
use Rattle.std.specs.declared.string.String.{String}
use Rattle.jsonc_text.specs.Plain.{Plain, collapse}
use Rattle.jsonc_tree.specs.Content.{Content}
use Rattle.jsonc_tree.specs.Tree.{Node, IsTree, children_at, content_at}
use Rattle.jsonc_tree.specs.OrderedTree.{ordered_tree}
use Rattle.jsonc_layout.specs.declared.input.value.CstInputValue.{CstInputValue}
use Rattle.jsonc_layout.specs.input.Views.{plain, chars_of, items_plain, members_plain}
use Rattle.jsonc_layout.specs.nodes.Names.{HasName}
use Rattle.jsonc_layout.specs.nodes.Properties.{value_at}
use Rattle.jsonc_layout.specs.nodes.Kinds.{is_property}
use Rattle.jsonc_layout.specs.to_input.Given.{Gives, GivesMember, named_value, nameless, valueless, no_property, holds_value}
use Rattle.jsonc_layout.specs.to_input.Taken.{GivesAt, IsTaken, IsTakenAt, AreTaken, AreMembersTaken, IsMemberTaken}
use Rattle.jsonc_layout.proofs.lemmas.to_input.Shown.{value_gives, no_value_gives, has_name_shown, shown_has_name, tree_gives}

module _ {A : Type 0} (ns : List Node) where
  -- an array by its children
  pub array_taken : (n : ℕ) (vs : List (CstInputValue A)) (x : CstInputValue A) → Content.array ≡ content_at ns n → AreTaken ns (children_at ns n) vs → plain x ≡ Plain.array (items_plain vs) → IsTakenAt ns n (Some x)
  array_taken n vs x e taken same = record {
    given = Some (Plain.array taken.items);
    gives = λ row shows. subst (λ (c : Content). Gives c row (Some (Plain.array taken.items))) e (Gives.array (taken.gives row shows));
    collapsed = ap Some (same ∙ ap Plain.array taken.collapsed);
  }

  -- an object by its
  pub object_taken : (n : ℕ) (ps : List (String A × CstInputValue A)) (x : CstInputValue A) → Content.object ≡ content_at ns n → AreMembersTaken ns (children_at ns n) ps → plain x ≡ Plain.object (members_plain ps) → IsTakenAt ns n (Some x)
  object_taken n ps x e taken same = record {
    given = Some (Plain.object taken.members);
    gives = λ row shows. subst (λ (c : Content). Gives c row (Some (Plain.object taken.members))) e (Gives.object (taken.gives row shows));
    collapsed = ap Some (same ∙ ap Plain.object taken.collapsed);
  }

  -- the root and a property by their value
  pub held_taken : {E : Type 0} (n m : ℕ) (r : Result (Option (CstInputValue A)) E) → value_at ns n ≡ Some m → IfOk r (IsTakenAt ns m) → IfOk r (IsTakenAt ns n)
  held_taken n m (Err x) e h = tt
  held_taken n m (Ok taken) e h = record { given = h.given; gives = value_gives ns n m h.given e h.gives; collapsed = h.collapsed }

  pub nothing_held : (n : ℕ) → IsTrue (holds_value (content_at ns n)) → value_at ns n ≡ None → IsTakenAt {A = A} ns n None
  nothing_held n h e = record { given = None; gives = no_value_gives ns n h e; collapsed = refl }

  -- a property with a name and a value
  pub member_taken : (n : ℕ) (name : String A) (x : CstInputValue A) (one : Option (CstInputValue A)) → Content.property ≡ content_at ns n → HasName ns n (chars_of name) → IsTakenAt ns n one → one ≡ Some x → IsMemberTaken ns n (Some (name, x))
  member_taken n name x one e has taken f = go taken.given taken.gives (ap (option_map plain) (sym f) ∙ taken.collapsed)
    where
      go : (o : Option Plain) → GivesAt ns n o → Some (plain x) ≡ option_map collapse o → IsMemberTaken ns n (Some (name, x))
      go None gives same = absurd (let wrong : Some (plain x) ≡ None = same in cc)
      go (Some v) gives same = record {
        given = Some (chars_of name, v);
        gives = λ row shows. subst (λ (c : Content). GivesMember c row (Some (chars_of name, v))) e
            (named_value (has_name_shown ns n (chars_of name) row shows has) (subst (λ (c : Content). Gives c row (Some v)) (sym e) (gives row shows)));
        collapsed = let value : plain x ≡ collapse v = cc in ap (λ (w : Plain). Some (chars_of name, w)) value;
      }

  -- or without one of them
  pub nameless_passed : (n : ℕ) → Content.property ≡ content_at ns n → ((v : List ℕ) → HasName ns n v → ⊥) → IsMemberTaken {A = A} ns n None
  nameless_passed n e none = record {
    given = None;
    gives = λ row shows. subst (λ (c : Content). GivesMember c row None) e (nameless (λ v h. none v (shown_has_name ns n v row shows h)));
    collapsed = refl;
  }

  pub valueless_passed : (n : ℕ) (one : Option (CstInputValue A)) → Content.property ≡ content_at ns n → IsTakenAt ns n one → one ≡ None → IsMemberTaken {A = A} ns n None
  valueless_passed n one e taken f = go taken.given taken.gives (ap (option_map plain) (sym f) ∙ taken.collapsed)
    where
      go : (o : Option Plain) → GivesAt ns n o → None ≡ option_map collapse o → IsMemberTaken {A = A} ns n None
      go None gives same = record {
        given = None;
        gives = λ row shows. subst (λ (c : Content). GivesMember c row None) e (valueless (subst (λ (c : Content). Gives c row None) (sym e) (gives row shows)));
        collapsed = refl;
      }
      go (Some v) gives same = absurd (let wrong : None ≡ Some (collapse v) = same in cc)

  -- or another child
  pub other_passed : (n : ℕ) (content : Content) → content ≡ content_at ns n → is_property content ≡ false → IsMemberTaken {A = A} ns n None
  other_passed n content e h = record {
    given = None;
    gives = λ row shows. subst (λ (c : Content). GivesMember c row None) e (no_property h);
    collapsed = refl;
  }

  -- the node of a number and its tree
  pub tree_taken : {E : Type 0} (n : ℕ) (r : Result (Option (CstInputValue A)) E) → IsTree ns → n < length ns → IfOk r (IsTakenAt ns n) → IfOk r (IsTaken (ordered_tree ns n))
  tree_taken n (Err x) tree l h = tt
  tree_taken n (Ok taken) tree l h = record { given = h.given; gives = tree_gives ns tree n h.given l h.gives; collapsed = h.collapsed }

  -- the pairs of a map are those that were put into it
  pub pairs_taken : {E V : Type 0} (row : List ℕ) (entries : List (String A × CstInputValue A)) (items : V → List (String A × CstInputValue A)) (r : Result V E) → IfOk r (λ v. items v ≡ entries) → AreMembersTaken ns row entries → IfOk r (λ v. AreMembersTaken ns row (items v))
  pairs_taken row entries items (Err x) e h = tt
  pairs_taken row entries items (Ok v) e h = subst (AreMembersTaken ns row) (sym e) h
