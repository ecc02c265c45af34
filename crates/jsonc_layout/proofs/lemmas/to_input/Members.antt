-- The names and values of an object's children, one after another.
use Rattle.std.proofs.Common.{◌≡◌, ℕ, ◌+◌, ◌<◌, List, [], ◌∷◌, length, get_or, take, Bool, true, false, cond, string_bytes, Option, None, Some, option_map, refl, sym, ap, subst, ◌∙◌}
use Rattle.std.specs.Str.{bytes_eq}
use Rattle.std.specs.declared.string.String.{String}
use Rattle.std.proofs.lemmas.Str.{IsUtf8-string_bytes}
use Rattle.jsonc_text.specs.Plain.{Plain, Members, no_members, member, collapse, collapse_members}
use Rattle.jsonc_text.proofs.Collapse.{push, put, collapse_push}
use Rattle.jsonc_text.proofs.TokenTexts.{same_bytes}
use Rattle.jsonc_tree.specs.Content.{Content}
use Rattle.jsonc_tree.specs.Tree.{Node, content_at}
use Rattle.jsonc_tree.specs.OrderedTree.{OrderedTree, none, more, followed_by}
use Rattle.jsonc_layout.specs.declared.input.value.CstInputValue.{CstInputValue}
use Rattle.jsonc_layout.specs.input.Views.{plain, named, chars_of, members_plain}
use Rattle.jsonc_layout.specs.to_input.Given.{GivesMembers, GivesMember, no_more_members, pass_to_members, one_member}
use Rattle.jsonc_layout.specs.to_input.Taken.{AreMembersTaken, IsMemberTaken, collapse_member, inserted}
use Rattle.jsonc_layout.proofs.lemmas.to_input.Shown.{empty_shown, one_more_shown}

abbrev with_member : Members → Option (List ℕ × Plain) → Members
with_member ms None = ms
with_member ms (Some p) = push ms p.0 p.1

member_passed : {row : OrderedTree} {ms : Members} (content : Content) (below : OrderedTree) → GivesMembers row ms → GivesMember content below None → GivesMembers (followed_by row (more content below none)) ms
member_passed content below no_more_members g = pass_to_members g no_more_members
member_passed content below (pass_to_members p r) g = pass_to_members p (member_passed content below r g)
member_passed content below (one_member p r) g = one_member p (member_passed content below r g)

member_pushed : {row : OrderedTree} {ms : Members} (content : Content) (below : OrderedTree) (name : List ℕ) (v : Plain) → GivesMembers row ms → GivesMember content below (Some (name, v)) → GivesMembers (followed_by row (more content below none)) (push ms name v)
member_pushed content below name v no_more_members g = one_member g no_more_members
member_pushed content below name v (pass_to_members p r) g = pass_to_members p (member_pushed content below name v r g)
member_pushed content below name v (one_member p r) g = one_member p (member_pushed content below name v r g)

member_added : {row : OrderedTree} {ms : Members} (content : Content) (below : OrderedTree) (found : Option (List ℕ × Plain)) → GivesMembers row ms → GivesMember content below found → GivesMembers (followed_by row (more content below none)) (with_member ms found)
member_added content below None r g = member_passed content below r g
member_added content below (Some p) r g = member_pushed content below p.0 p.1 r g

module _ {A : Type 0} where
  -- what is inserted is put
  members_plain-inserted : (ps : List (String A × CstInputValue A)) (name : String A) (x : CstInputValue A) → members_plain (inserted ps name x) ≡ put (chars_of name) (plain x) (members_plain ps)
  members_plain-inserted [] name x = refl
  members_plain-inserted (p ∷ ps) name x =
      rw (sym (same_bytes (string_bytes name) (string_bytes p.0) (IsUtf8-string_bytes name) (IsUtf8-string_bytes p.0)))
      (go (bytes_eq (string_bytes name) (string_bytes p.0)) (members_plain-inserted ps name x))
    where
      go : (b : Bool) → members_plain (inserted ps name x) ≡ put (chars_of name) (plain x) (members_plain ps)
          → members_plain (cond b ((p.0, x) ∷ ps) (p ∷ inserted ps name x)) ≡ cond b (member (chars_of p.0) (plain x) (members_plain ps)) (member (chars_of p.0) (plain p.1) (put (chars_of name) (plain x) (members_plain ps)))
      go true e = refl
      go false e = ap (member (chars_of p.0) (plain p.1)) e

  -- at first nothing is taken
  pub no_members_taken : (ns : List Node) (row : List ℕ) (taken : List (String A × CstInputValue A)) → row ≡ [] → taken ≡ [] → AreMembersTaken ns row taken
  no_members_taken ns row taken e f = record {
    members = no_members;
    gives = λ tree shows. subst (λ (t : OrderedTree). GivesMembers t no_members) (sym (empty_shown ns row tree e shows)) no_more_members;
    collapsed = ap members_plain f;
  }

  more_members_taken : (ns : List Node) (row : List ℕ) (k : ℕ) (taken more_of : List (String A × CstInputValue A)) (one : Option (String A × CstInputValue A)) → k < length row → (so_far : AreMembersTaken ns (take k row) taken) → (child : IsMemberTaken ns (get_or row k 0) one)
      → members_plain more_of ≡ collapse_members (with_member so_far.members child.given) → AreMembersTaken ns (take (k + 1) row) more_of
  more_members_taken ns row k taken more_of one h so_far child e = record {
    members = with_member so_far.members child.given;
    gives = λ tree shows.
        let parts = one_more_shown ns row k tree h shows in
        subst (λ (t : OrderedTree). GivesMembers t (with_member so_far.members child.given)) (sym parts.2)
        (member_added (content_at ns (get_or row k 0)) parts.1 child.given (so_far.gives parts.0 parts.3) (child.gives parts.1 parts.4));
    collapsed = e;
  }

  pub nothing_more_put : (ns : List Node) (row : List ℕ) (k : ℕ) (taken : List (String A × CstInputValue A)) (one : Option (String A × CstInputValue A)) → k < length row → AreMembersTaken ns (take k row) taken → IsMemberTaken ns (get_or row k 0) one → one ≡ None
      → AreMembersTaken ns (take (k + 1) row) taken
  nothing_more_put ns row k taken one h so_far child e =
      more_members_taken ns row k taken taken one h so_far child (so_far.collapsed ∙ ap (λ o. collapse_members (with_member so_far.members o)) (sym (nothing child.given (sym child.collapsed ∙ ap (option_map named) e))))
    where
      nothing : (o : Option (List ℕ × Plain)) → option_map collapse_member o ≡ None → o ≡ None
      nothing None f = refl
      nothing (Some v) f = absurd (let wrong : Some (collapse_member v) ≡ None = f in cc)

  pub one_more_put : (ns : List Node) (row : List ℕ) (k : ℕ) (taken more_of : List (String A × CstInputValue A)) (one : Option (String A × CstInputValue A)) (name : String A) (x : CstInputValue A) → k < length row → AreMembersTaken ns (take k row) taken → IsMemberTaken ns (get_or row k 0) one
      → one ≡ Some (name, x) → more_of ≡ inserted taken name x → AreMembersTaken ns (take (k + 1) row) more_of
  one_more_put ns row k taken more_of one name x h so_far child e f =
      more_members_taken ns row k taken more_of one h so_far child (ap members_plain f ∙ members_plain-inserted taken name x ∙ ap (put (chars_of name) (plain x)) so_far.collapsed ∙ last child.given (ap (option_map named) (sym e) ∙ child.collapsed))
    where
      last : (o : Option (List ℕ × Plain)) → Some (chars_of name, plain x) ≡ option_map collapse_member o → put (chars_of name) (plain x) (collapse_members so_far.members) ≡ collapse_members (with_member so_far.members o)
      last None g = absurd (let wrong : Some (chars_of name, plain x) ≡ None = g in cc)
      last (Some p) g =
          let same : (chars_of name, plain x) ≡ (p.0, collapse p.1) = inner (chars_of name, plain x) (p.0, collapse p.1) g in
          ap (λ (q : List ℕ × Plain). put q.0 q.1 (collapse_members so_far.members)) same ∙ sym (collapse_push so_far.members p.0 p.1)
        where
          inner : (a b : List ℕ × Plain) → Some a ≡ Some b → a ≡ b
          inner a b e = cc
