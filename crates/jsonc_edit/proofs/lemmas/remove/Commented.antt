-- In a sound document in which commas may not be missing no space is due where a comment leaves.
use Rattle.std.proofs.Common.{◌≡◌, ◌∙◌, sym, ap, subst, refl, ℕ, ◌+◌, ◌<◌, ◌≤◌, true, false, ◌&&◌, cond, List, [], ◌∷◌, ◌++◌, inl, inr, length, reverse, take, drop, slice_index, slice_range, Option, Some, None, IsTrue, arith}
use Rattle.std.proofs.lemmas.Bool.{cases_Bool}
use Rattle.std.proofs.lemmas.List.{drop_more, take-append-drop}
use Rattle.std.proofs.lemmas.List.Edits.{split_between}
use Rattle.std.specs.Option.{option_and_then}
use Rattle.jsonc_text.specs.Options.{Options}
use Rattle.jsonc_tree.specs.Content as content
use Rattle.jsonc_tree.specs.Content.{Content, property}
use Rattle.jsonc_tree.specs.OrderedTree.{OrderedTree, none, more, ordered_tree, Shows, shows_none, shows_more}
use Rattle.jsonc_tree.specs.Siblings.{siblings_after}
use Rattle.jsonc_tree.specs.Tree.{Node, children_at, content_at, parent_at, place_at, IsTree}
use Rattle.jsonc_tree.proofs.Order.{parent_there}
use Rattle.jsonc_layout.specs.nodes.Kinds.{is_comment, is_comment_at, is_property, is_trivia, is_trivia_at}
use Rattle.jsonc_sound.specs.Adjacent.{or_else}
use Rattle.jsonc_sound.specs.Alone as alone
use Rattle.jsonc_sound.specs.Alone.{PropertyAlone, ValueAlone}
use Rattle.jsonc_sound.specs.Shape as trivia
use Rattle.jsonc_sound.specs.Shape.{IsLiteralBefore, Trivia}
use Rattle.jsonc_sound.specs.SoundTrees.{SoundTree}
use Rattle.jsonc_edit.specs.Changes.{row_below}
use Rattle.jsonc_edit.specs.Comments.{space_needed_without, removed_from}
use Rattle.jsonc_edit.specs.Due.{begins_bare, behind_holder, behind_property, ends_bare, nearest, prints, prints_at, prints_within, seen_before, seen_behind}
use Rattle.jsonc_edit.specs.Put.{IfDue}
use Rattle.jsonc_edit.specs.remove.Laws.{CommentWantsNone}
use Rattle.jsonc_edit.proofs.Removal.{from_before, trivia_gone}
use Rattle.jsonc_edit.proofs.ChangesUpward.{Shows-row_below}
use Rattle.jsonc_edit.proofs.lemmas.commas.Holders.{value_at_path}
use Rattle.jsonc_edit.proofs.lemmas.remove.RemovedStretches.{element_no_trivia}
use Rattle.jsonc_edit.proofs.lemmas.remove.NoSpace.{in_property, in_root, in_value, none_if_second, root_apart, stands_in, value_apart, StandsIn}
use Rattle.jsonc_edit.proofs.lemmas.remove.Parted.{no_bare_both, property_parts, shown_apart, value_element, Apart}
use Rattle.jsonc_edit.proofs.lemmas.remove.Places.{after_in, before_in, row_split}
use Rattle.jsonc_edit.proofs.lemmas.remove.PrintedStretches.{part_prints}

-- the last of a row prints something, and is no trivia
abbrev Ended : OrderedTree → Type 0
Ended none = ⊥
Ended (more c below none) = (is_trivia c ≡ false) × (prints c ≡ true)
Ended (more c below (more d under after)) = Ended (more d under after)

ended_more : (c : Content) (below after : OrderedTree) → Ended after → Ended (more c below after)
ended_more c below none h = absurd h
ended_more c below (more d under after) h = h

module _ (o : Options) where
  ended_trivia : {t r : OrderedTree} → Trivia o t r → Ended r → Ended t
  ended_trivia trivia.nothing h = h
  ended_trivia (trivia.trivia {content = c} {t = t} w g) h = ended_more c none t (ended_trivia g h)

  ended_value : {c : Content} {below : OrderedTree} → ValueAlone o c below → Ended (more c below none)
  ended_value {c} {below} v = (element_no_trivia c (value_element o v), part_prints o (alone.a_value v))

  ended_property : {row : OrderedTree} → PropertyAlone o row → Ended row
  ended_property (alone.named {name = name} {after = after} {u = u} n t g v) =
      ended_more name none after (ended_trivia t (ended_more (content.token 0x3A) none u (ended_trivia g (ended_value v))))

module _ (ns : List Node) where
  abbrev EndedIn : List ℕ → Type 0
  EndedIn [] = ⊥
  EndedIn (x ∷ []) = (is_trivia_at ns x ≡ false) × (prints_at ns x ≡ true)
  EndedIn (x ∷ y ∷ rest) = EndedIn (y ∷ rest)

  shown_ended : {xs : List ℕ} {row : OrderedTree} → Shows ns xs row → Ended row → EndedIn xs
  shown_ended shows_none h = absurd h
  shown_ended (shows_more p shows_none) h = h
  shown_ended (shows_more p (shows_more q r)) h = shown_ended (shows_more q r) h

  ended_found : (x : ℕ) (ys : List ℕ) → EndedIn (x ∷ ys) → (m : ℕ) × (nearest ns (x ∷ ys) ≡ Some m)
  ended_found x [] h = (x, ap (λ b. cond b (Some x) None) h.1)
  ended_found x (y ∷ ys) h =
      elim (cases_Bool (prints_at ns x)) [
        | inl e ↦ (x, ap (λ b. cond b (Some x) (nearest ns (y ∷ ys))) e)
        | inr f ↦ let (m, found) = ended_found y ys h in (m, ap (λ b. cond b (Some x) (nearest ns (y ∷ ys))) f ∙ found)
      ]

  ended_behind : (xs ys : List ℕ) (n : ℕ) → EndedIn (xs ++ n ∷ ys) → is_trivia_at ns n ≡ true → (m : ℕ) × (nearest ns ys ≡ Some m)
  ended_behind [] [] n h t = absurd (let wrong : true ≡ false = sym t ∙ h.0 in cc)
  ended_behind [] (y ∷ ys) n h t = ended_found y ys h
  ended_behind (x ∷ []) ys n h t = ended_behind [] ys n h t
  ended_behind (x ∷ z ∷ xs) ys n h t = ended_behind (z ∷ xs) ys n h t

comment_trivia : (c : Content) → IsTrue (is_comment c) → is_trivia c ≡ true
comment_trivia (content.comment s) h = refl
comment_trivia c h = cc

none_due : (o : Option ℕ) → o ≡ None → IfDue o → ⊥
none_due None e h = h
none_due (Some n) e h = cc

no_property_behind : (ns : List Node) (c : ℕ) (w : Content) → is_property w ≡ false → behind_property ns w c ≡ None
no_property_behind ns c property e = cc
no_property_behind ns c w e = refl

or_none : (o : Option ℕ) → or_else o None ≡ o
or_none None = refl
or_none (Some x) = refl

module _ (ns : List Node) (tree : IsTree ns) (n c : ℕ) (said : parent_at ns n ≡ Some c) (comment : IsTrue (is_comment_at ns n)) where
  abbrev kids : List ℕ
  kids = children_at ns c

  abbrev place : ℕ
  place = place_at ns n

  abbrev begin : ℕ
  begin = removed_from ns c n

  abbrev from : ℕ
  from = slice_index kids begin

  abbrev back : List ℕ
  back = drop (place + 1) kids

  split : kids ≡ take place kids ++ n ∷ back
  split = row_split ns tree c n said

  afters : siblings_after ns n ≡ back
  afters = after_in ns tree c (take place kids) back n split

  holder : behind_holder ns n ≡ behind_property ns (content_at ns c) c
  holder = ap (option_and_then (λ p. behind_property ns (content_at ns p) p)) said

  low : begin ≤ place
  low = from_before ns tree c n said

  within : place < length kids
  within = tree.within n c said

  parts : kids ≡ take begin kids ++ (slice_range kids begin (place + 1) ++ back)
  parts = split_between kids begin (place + 1) (omega (arith, low))

  befores : seen_before ns from ≡ nearest ns (reverse (take begin kids))
  befores =
      let at : kids ≡ take begin kids ++ from ∷ drop (begin + 1) kids = sym (take-append-drop begin kids) ∙ ap (λ (l : List ℕ). take begin kids ++ l) (drop_more kids begin 0 (omega (arith, low, within))) in
      ap (nearest ns) (before_in ns tree c (take begin kids) (drop (begin + 1) kids) from at)

  none_without : (k : ℕ) → Apart k ns false kids → seen_behind ns n ≡ nearest ns back → space_needed_without ns c n ≡ None
  none_without k apart behind =
      let quiet : (ends_bare ns (seen_before ns from) && begins_bare ns (seen_behind ns n)) ≡ false =
      ap (λ o. ends_bare ns o && begins_bare ns (seen_behind ns n)) befores ∙ ap (λ o. ends_bare ns (nearest ns (reverse (take begin kids))) && begins_bare ns o) behind
      ∙ no_bare_both k ns false (take begin kids) (slice_range kids begin (place + 1)) back (subst (Apart k ns false) parts apart) (trivia_gone ns tree c n said comment) in
      none_if_second (prints_within ns from n) (ends_bare ns (seen_before ns from) && begins_bare ns (seen_behind ns n)) (seen_behind ns n) quiet

  -- behind it nothing is seen past its container, if that is no property
  row_behind : is_property (content_at ns c) ≡ false → seen_behind ns n ≡ nearest ns back
  row_behind e = ap (λ l. or_else (nearest ns l) (behind_holder ns n)) afters ∙ ap (or_else (nearest ns back)) (holder ∙ no_property_behind ns c (content_at ns c) e) ∙ or_none (nearest ns back)

  -- and in a property its value is
  found_behind : (m : ℕ) → nearest ns back ≡ Some m → seen_behind ns n ≡ nearest ns back
  found_behind m e = ap (λ l. or_else (nearest ns l) (behind_holder ns n)) afters ∙ ap (λ o. or_else o (behind_holder ns n)) e ∙ sym e

no_property_value : (o : Options) {c : Content} {below : OrderedTree} → ValueAlone o c below → is_property c ≡ false
no_property_value o (alone.literal {content = c} h) = by c h
  where
    by : (c : Content) → IsLiteralBefore o c [] → is_property c ≡ false
    by property h = absurd h
    by c h = refl
no_property_value o (alone.an_array g) = refl
no_property_value o (alone.an_object g) = refl

comment_in : (o : Options) (ns : List Node) (tree : IsTree ns) (sound : SoundTree o (ordered_tree ns 0)) (commas : o.missing_commas ≡ false) (n c : ℕ) → parent_at ns n ≡ Some c → IsTrue (is_comment_at ns n) → StandsIn o ns tree sound commas c → IfDue (space_needed_without ns c n) → ⊥
comment_in o ns tree sound commas n c said comment (in_root e) h =
    let other : is_property (content_at ns c) ≡ false = ap is_property (ap (content_at ns) e ∙ tree.root_first) in
    none_due (space_needed_without ns c n) (none_without ns tree n c said comment 0x2C (subst (λ k. Apart 0x2C ns false (children_at ns k)) (sym e) (root_apart o ns tree sound commas)) (row_behind ns tree n c said comment other)) h
comment_in o ns tree sound commas n c said comment (in_value path at) h =
    let other : is_property (content_at ns c) ≡ false = no_property_value o (value_at_path o ns tree sound path c at) in
    none_due (space_needed_without ns c n) (none_without ns tree n c said comment 0x2C (value_apart o ns tree sound commas path n c said at) (row_behind ns tree n c said comment other)) h
comment_in o ns tree sound commas n c said comment (in_property p is) h =
    let shows : Shows ns (children_at ns c) (row_below ns c) = Shows-row_below ns tree c (parent_there ns tree n c said).1 in
    let apart : Apart 0x3A ns false (children_at ns c) = shown_apart 0x3A ns false shows (property_parts o p) in
    let ended : EndedIn ns (children_at ns c) = shown_ended ns shows (ended_property o p) in
    let (m, found) = ended_behind ns (take (place_at ns n) (children_at ns c)) (drop (place_at ns n + 1) (children_at ns c)) n (subst (EndedIn ns) (row_split ns tree c n said) ended) (comment_trivia (content_at ns n) comment) in
    none_due (space_needed_without ns c n) (none_without ns tree n c said comment 0x3A apart (found_behind ns tree n c said comment m found)) h

pub comment_wants_none : (o : Options) (ns : List Node) (n : ℕ) → CommentWantsNone o ns n
comment_wants_none o ns n tree sound commas over comment (c, said, due) = comment_in o ns tree sound commas n c said comment (stands_in o ns tree sound commas n c over said) due
