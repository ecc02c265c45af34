-- Rows in which commas stand, and stretches one after another.
use Rattle.std.proofs.Common.{ℕ, ◌≡◌, ◌∙◌, sym, ap, subst, refl, Bool, true, false, ◌&&◌, List, [], ◌∷◌, ◌++◌, Option, Some, None, IsTrue, if◌then◌else◌}
use Rattle.std.proofs.lemmas.List.{append_assoc}
use Rattle.jsonc_text.specs.Options.{Options}
use Rattle.jsonc_text.specs.Text.{starts}
use Rattle.jsonc_tree.specs.Content.{Content, token}
use Rattle.jsonc_tree.specs.OrderedTree.{OrderedTree, own_leaf, leaves, followed_by}
use Rattle.jsonc_tree.proofs.OrderedTrees.{leaves-followed_by}
use Rattle.jsonc_sound.specs.Shape.{IsTrivia}
use Rattle.jsonc_sound.specs.Rows as rows
use Rattle.jsonc_sound.specs.Rows.{RowKind, closing, Last}
use Rattle.jsonc_sound.specs.Adjacent.{first_char, or_else, follower, LeavesEnd, last_printed}
use Rattle.jsonc_sound.specs.Alone as alone
use Rattle.jsonc_sound.specs.Alone.{may_stand, RowAlone, StretchAlone}
use Rattle.jsonc_sound.specs.Spaces.{is_bare, is_bare_leaf, first_printed, meet}
use Rattle.jsonc_sound.proofs.LeafByLeaf.{AllLeaves, joined_all, node_all, mark_all, trivia_one, part_leaves_all, all_begin}
use Rattle.jsonc_sound.proofs.Leaves.{joined_leaves, last_serves}
use Rattle.jsonc_sound.proofs.Spaces.{own_last, last_append, last_of, serves_unless, not_both, stretch_no_word}
use Rattle.jsonc_sound.proofs.Texts.{trivia_leaf, comma_first, closing_first}

pub trivia_not_bare : (o : Options) (content : Content) → IsTrivia o content → is_bare content ≡ false
trivia_not_bare o (Content.whitespace s) h = refl
trivia_not_bare o (Content.newline k) h = refl
trivia_not_bare o (Content.comment s) h = refl
trivia_not_bare o content h = absurd h

-- whether or not it prints
own_not_bare : (content : Content) → is_bare content ≡ false → (b : Bool) → is_bare_leaf (if b then Some content else None) ≡ false
own_not_bare content e true = e
own_not_bare content e false = refl

either_not_bare : (x y : Option Content) → is_bare_leaf x ≡ false → is_bare_leaf y ≡ false → is_bare_leaf (or_else x y) ≡ false
either_not_bare None y e f = f
either_not_bare (Some c) y e f = e

pub and_false : (a b : Bool) → b ≡ false → a && b ≡ false
and_false true b e = e
and_false false b e = refl

pub false_and : (a b : Bool) → a ≡ false → a && b ≡ false
false_and true b e = cc
false_and false b e = refl

-- a leaf that is not bare, before others
last_with : {content : Content} (after : List Content) → own_leaf content ≡ content ∷ [] → is_bare content ≡ false → is_bare_leaf (last_printed after) ≡ false → is_bare_leaf (last_printed (own_leaf content ++ after)) ≡ false
last_with {content} after e b k =
    subst (λ l. is_bare_leaf (last_printed (l ++ after)) ≡ false) (sym e) (either_not_bare (last_printed after) (own_last content) k (own_not_bare content b (starts (λ c. true) (first_char content))))

pub first_with : {content : Content} (after : List Content) → own_leaf content ≡ content ∷ [] → is_bare content ≡ false → is_bare_leaf (first_printed after) ≡ false → is_bare_leaf (first_printed (own_leaf content ++ after)) ≡ false
first_with {content} after e b k = subst (λ l. is_bare_leaf (first_printed (l ++ after)) ≡ false) (sym e) (by (starts (λ c. true) (first_char content)))
  where
    by : (p : Bool) → is_bare_leaf (if p then Some content else first_printed after) ≡ false
    by true = b
    by false = k

mark_first_printed : (c : ℕ) (ls : List Content) → first_char (token c) ≡ Some c → is_bare_leaf (first_printed (token c ∷ ls)) ≡ false
mark_first_printed c ls e = ap (λ x. is_bare_leaf (if starts (λ d. true) x then Some (token c) else first_printed ls)) e

comma_last : own_last (token 0x2C) ≡ Some (token 0x2C)
comma_last = ap (λ x. if starts (λ d. true) x then Some (token 0x2C) else None) comma_first

abbrev pub AtAnElement : Last → Type 0
AtAnElement rows.nothing_yet = ⊥
AtAnElement rows.an_element = Unit {0}
AtAnElement rows.a_comma = ⊥

-- the last that is printed is no literal without quotes, and behind an element something is printed
pub record EndsWell (last : Last) (ls : List Content) : Type 0 where
  pub not_bare : is_bare_leaf (last_printed ls) ≡ false
  pub some : AtAnElement last → (c : Content) × (last_printed ls ≡ Some c)

module _ (o : Options) (kind : RowKind) where
  -- what a stretch ends with that does not lead to an element
  pub ends_well : {last mid : Last} {stretch : OrderedTree} → StretchAlone o kind last stretch mid → (AtAnElement mid → ⊥) → EndsWell last (leaves stretch)
  ends_well alone.stays f = record { not_bare = refl; some = λ h. absurd (f h) }
  ends_well (alone.past_trivia {content = content} {after = after} h s) f =
      let rest = ends_well s f in
      record {
        not_bare = last_with (leaves after) (trivia_leaf o content h) (trivia_not_bare o content h) rest.not_bare;
        some = λ e. (let k = rest.some e in (k.0, last_append (own_leaf content) (leaves after) ∙ ap (λ x. or_else x (last_printed (own_leaf content))) k.1));
      }
  ends_well (alone.past_element {content = content} {below = below} {after = after} m p s) f =
      let rest = ends_well s f in
      let k = rest.some tt in
      let own : List Content = own_leaf content ++ leaves below in
      let joined : last_printed (own_leaf content ++ (leaves below ++ leaves after)) ≡ Some k.0 =
      ap last_printed (sym (append_assoc (own_leaf content) (leaves below) (leaves after))) ∙ last_append own (leaves after) ∙ ap (λ x. or_else x (last_printed own)) k.1 in
      record { not_bare = ap is_bare_leaf (joined ∙ sym k.1) ∙ rest.not_bare; some = λ e. (k.0, joined) }
  ends_well (alone.past_comma {after = after} s) f =
      let rest = ends_well s f in
      record {
        not_bare = either_not_bare (last_printed (leaves after)) (own_last (token 0x2C)) rest.not_bare (ap is_bare_leaf comma_last);
        some = λ e. with_comma (last_printed (leaves after));
      }
    where
      with_comma : (x : Option Content) → (c : Content) × (or_else x (own_last (token 0x2C)) ≡ Some c)
      with_comma None = (token 0x2C, comma_last)
      with_comma (Some c) = (c, refl)

  -- what the rest of a row begins with behind an element, where commas may not be missing
  begins_well : o.missing_commas ≡ false → {last : Last} {row : OrderedTree} → AtAnElement last → RowAlone o kind last row → is_bare_leaf (first_printed (leaves row)) ≡ false
  begins_well commas a (alone.closes m) = mark_first_printed (closing kind) [] (closing_first kind)
  begins_well commas a (alone.trivia {content = content} {after = after} h g) = first_with (leaves after) (trivia_leaf o content h) (trivia_not_bare o content h) (begins_well commas a g)
  begins_well commas a (alone.element {last = last} m p g) = absurd (none_begins last a m)
    where
      none_begins : (l : Last) → AtAnElement l → IsTrue (may_stand o l) → ⊥
      none_begins rows.nothing_yet b k = b
      none_begins rows.an_element b k = let wrong : false ≡ true = sym commas ∙ k in cc
      none_begins rows.a_comma b k = b
  begins_well commas a (alone.comma {after = after} g) = mark_first_printed 0x2C (leaves after) comma_first

  pub none_meet : o.missing_commas ≡ false → {last : Last} (mid : Last) (stretch rest : OrderedTree) → StretchAlone o kind last stretch mid → RowAlone o kind mid rest → meet (leaves stretch) (leaves rest) ≡ false
  none_meet commas rows.nothing_yet stretch rest s g = false_and _ (is_bare_leaf (first_printed (leaves rest))) (ends_well s (λ h. h)).not_bare
  none_meet commas rows.an_element stretch rest s g = and_false (is_bare_leaf (last_printed (leaves stretch))) _ (begins_well commas tt g)
  none_meet commas rows.a_comma stretch rest s g = false_and _ (is_bare_leaf (first_printed (leaves rest))) (ends_well s (λ h. h)).not_bare

  -- two stretches one after another
  stretch_all : {last to : Last} {stretch : OrderedTree} → StretchAlone o kind last stretch to → AllLeaves (leaves stretch)
  stretch_all alone.stays = tt
  stretch_all (alone.past_trivia {content = content} {after = after} h s) = joined_all (own_leaf content) (leaves after) (trivia_one o content h) (stretch_all s)
  stretch_all (alone.past_element {content = content} {below = below} {after = after} m p s) = node_all (own_leaf content) (leaves below) (leaves after) (part_leaves_all o p) (stretch_all s)
  stretch_all (alone.past_comma {after = after} s) = mark_all 0x2C (leaves after) comma_first refl (stretch_all s)

  pub stretches_join : {last mid other to : Last} (first second : OrderedTree) → StretchAlone o kind last first mid → StretchAlone o kind other second to → LeavesEnd o (leaves first) None → LeavesEnd o (leaves second) None
      → meet (leaves first) (leaves second) ≡ false → LeavesEnd o (leaves (followed_by first second)) None
  stretches_join first second s r e f m =
      let begins = λ (b : is_bare_leaf (last_printed (leaves first)) ≡ true). all_begin (leaves second) (stretch_all r) (not_both _ _ m b) None refl in
      let serves = serves_unless o (last_printed (leaves first)) None (follower (leaves second) None) (stretch_no_word o s) begins (last_of o (leaves first) None e) in
      subst (λ l. LeavesEnd o l None) (sym (leaves-followed_by first second)) (joined_leaves o (leaves first) (leaves second) None (last_serves o (leaves first) None (follower (leaves second) None) e serves) f)
