-- The spaces that are due where an element leaves have come, and then nothing meets there.
use Rattle.std.proofs.Common.{◌≡◌, ℕ, true, ◌&&◌, cond, List, [], ◌∷◌, ◌++◌, reverse, Option, Some, None, IsTrue, refl, sym, ap, subst, ◌∙◌}
use Rattle.std.proofs.lemmas.List.Elements.{All-head, All-tail}
use Rattle.std.specs.List.{All}
use Rattle.std.specs.Option.{option_and_then}
use Rattle.jsonc_tree.specs.Content.{Content, array, object}
use Rattle.jsonc_tree.specs.Tree.{Node, content_at, children_at, IsTree}
use Rattle.jsonc_layout.specs.lines.Kinds.{is_array_or_object}
use Rattle.jsonc_layout.specs.nodes.Kinds.{is_comma}
use Rattle.jsonc_sound.specs.Leaving.{AreInlineTrivia, IsRestOfLine}
use Rattle.jsonc_sound.specs.Adjacent.{or_else}
use Rattle.jsonc_edit.specs.Due.{prints, prints_at, nearest, begins_bare, ends_bare, seen_before, seen_behind, behind_holder, behind_property, space_needed_between, prints_within}
use Rattle.jsonc_edit.specs.Put.{AreSpaced}
use Rattle.jsonc_edit.proofs.lemmas.remove.Contents.{GoesWith, GoesWithout, apart, no_commas}
use Rattle.jsonc_edit.proofs.lemmas.remove.Places.{parent_in, before_in, after_in}
use Rattle.jsonc_edit.proofs.lemmas.remove.Stretches.{contents}
use Rattle.jsonc_edit.proofs.lemmas.remove.RemovedStretches.{Going, with_behind, with_before, with_none}
use Rattle.jsonc_edit.proofs.Lists.{all_front, all_rest}

-- these nodes are what they were
abbrev pub AreSame : List Node → List Node → List ℕ → Type 0
AreSame old new xs = All (λ m. content_at new m ≡ content_at old m) xs

module _ (old new : List Node) where
  pub contents_same : (xs : List ℕ) → AreSame old new xs → contents new xs ≡ contents old xs
  contents_same [] h = refl
  contents_same (x ∷ xs) h =
      ap (λ w. w ∷ contents new xs) (All-head (λ m. content_at new m ≡ content_at old m) x xs h) ∙ ap (λ (l : List Content). content_at old x ∷ l) (contents_same xs (All-tail (λ m. content_at new m ≡ content_at old m) x xs h))

  pub nearest_same : (xs : List ℕ) → AreSame old new xs → nearest new xs ≡ nearest old xs
  nearest_same [] h = refl
  nearest_same (x ∷ xs) h =
      ap (λ w. cond (prints w) (Some x) (nearest new xs)) (All-head (λ m. content_at new m ≡ content_at old m) x xs h) ∙ ap (λ o. cond (prints_at old x) (Some x) o) (nearest_same xs (All-tail (λ m. content_at new m ≡ content_at old m) x xs h))

  pub front_same : (xs ys : List ℕ) → AreSame old new (xs ++ ys) → AreSame old new xs
  front_same xs ys h = all_front (λ m. content_at new m ≡ content_at old m) xs ys h

  pub back_same : (xs ys : List ℕ) → AreSame old new (xs ++ ys) → AreSame old new ys
  back_same xs ys h = all_rest (λ m. content_at new m ≡ content_at old m) xs ys h

  pub head_same : (x : ℕ) (xs : List ℕ) → AreSame old new (x ∷ xs) → content_at new x ≡ content_at old x
  head_same x xs h = All-head (λ m. content_at new m ≡ content_at old m) x xs h

  pub tail_same : (x : ℕ) (xs : List ℕ) → AreSame old new (x ∷ xs) → AreSame old new xs
  tail_same x xs h = All-tail (λ m. content_at new m ≡ content_at old m) x xs h

  -- an element leaves a row that is what it was as it did
  pub going_same : (c n open_with last from to : ℕ) (o : Option ℕ) → children_at new c ≡ children_at old c → AreSame old new (children_at old c) → Going old c n open_with last from to o → Going new c n open_with last from to o
  going_same c n open_with last from to _ e h (with_behind away near between line rest k row edges beside apart_away comma goes) =
      let all = subst (AreSame old new) row h in
      let at_away = tail_same open_with away (front_same (open_with ∷ away) ((near ++ n ∷ (between ++ k ∷ line)) ++ (rest ++ last ∷ [])) all) in
      let stretch = front_same (near ++ n ∷ (between ++ k ∷ line)) (rest ++ last ∷ []) (back_same (open_with ∷ away) ((near ++ n ∷ (between ++ k ∷ line)) ++ (rest ++ last ∷ [])) all) in
      let past = tail_same n (between ++ k ∷ line) (back_same near (n ∷ (between ++ k ∷ line)) stretch) in
      let at_k = back_same between (k ∷ line) past in
      with_behind away near between line rest k (e ∙ row) edges (subst AreInlineTrivia (sym (contents_same near (front_same near (n ∷ (between ++ k ∷ line)) stretch))) beside)
      (subst (λ l. IsTrue (apart l)) (sym (contents_same away at_away)) apart_away) (subst (λ w. IsTrue (is_comma w)) (sym (head_same k line at_k)) comma)
      (subst (GoesWith (contents new between) (contents new line)) (sym (contents_same (rest ++ last ∷ []) (back_same (near ++ n ∷ (between ++ k ∷ line)) (rest ++ last ∷ []) (back_same (open_with ∷ away) ((near ++ n ∷ (between ++ k ∷ line)) ++ (rest ++ last ∷ [])) all))))
      (subst (λ l. GoesWith (contents new between) l (contents old (rest ++ last ∷ []))) (sym (contents_same line (tail_same k line at_k)))
      (subst (λ l. GoesWith l (contents old line) (contents old (rest ++ last ∷ []))) (sym (contents_same between (front_same between (k ∷ line) past))) goes)))
  going_same c n open_with last from to _ e h (with_before away mid near line rest {k = k} row edges beside apart_mid none_mid comma ended first) =
      let all = subst (AreSame old new) row h in
      let ahead = back_same (open_with ∷ away) (k ∷ mid) (front_same ((open_with ∷ away) ++ k ∷ mid) ((near ++ n ∷ line) ++ (rest ++ last ∷ [])) all) in
      let behind = back_same ((open_with ∷ away) ++ k ∷ mid) ((near ++ n ∷ line) ++ (rest ++ last ∷ [])) all in
      let stretch = front_same (near ++ n ∷ line) (rest ++ last ∷ []) behind in
      let at_line = tail_same n line (back_same near (n ∷ line) stretch) in
      with_before away mid near line rest (e ∙ row) edges (subst AreInlineTrivia (sym (contents_same near (front_same near (n ∷ line) stretch))) beside)
      (subst (λ l. IsTrue (apart l)) (sym (contents_same (k ∷ mid) ahead)) apart_mid) (subst (λ l. IsTrue (no_commas l)) (sym (contents_same mid (tail_same k mid ahead))) none_mid)
      (subst (λ w. IsTrue (is_comma w)) (sym (head_same k mid ahead)) comma) (subst IsRestOfLine (sym (contents_same line at_line)) ended)
      (subst (GoesWithout (contents new line)) (sym (contents_same (rest ++ last ∷ []) (back_same (near ++ n ∷ line) (rest ++ last ∷ []) behind)))
      (subst (λ l. GoesWithout l (contents old (rest ++ last ∷ []))) (sym (contents_same line at_line)) first))
  going_same c n open_with last from to _ e h (with_none away near line rest row edges beside apart_away none_away ended first) =
      let all = subst (AreSame old new) row h in
      let at_away = tail_same open_with away (front_same (open_with ∷ away) ((near ++ n ∷ line) ++ (rest ++ last ∷ [])) all) in
      let behind = back_same (open_with ∷ away) ((near ++ n ∷ line) ++ (rest ++ last ∷ [])) all in
      let stretch = front_same (near ++ n ∷ line) (rest ++ last ∷ []) behind in
      let at_line = tail_same n line (back_same near (n ∷ line) stretch) in
      with_none away near line rest (e ∙ row) edges (subst AreInlineTrivia (sym (contents_same near (front_same near (n ∷ line) stretch))) beside)
      (subst (λ l. IsTrue (apart l)) (sym (contents_same away at_away)) apart_away) (subst (λ l. IsTrue (no_commas l)) (sym (contents_same away at_away)) none_away) (subst IsRestOfLine (sym (contents_same line at_line)) ended)
      (subst (GoesWithout (contents new line)) (sym (contents_same (rest ++ last ∷ []) (back_same (near ++ n ∷ line) (rest ++ last ∷ []) behind)))
      (subst (λ l. GoesWithout l (contents old (rest ++ last ∷ []))) (sym (contents_same line at_line)) first))

-- spaces that have come one after another
pub spaced_parts : (xs ys : List ℕ) (old new : List Node) → AreSpaced old (xs ++ ys) new → (mid : List Node) × AreSpaced old xs mid × AreSpaced mid ys new
spaced_parts [] ys old new h = (old, refl, h)
spaced_parts (x ∷ xs) ys old new (now, leaf, s, rest) = let r = spaced_parts xs ys now new rest in (r.0, (now, leaf, s, r.1), r.2)

-- where a space is due, by the parts of a row of an array or object
module _ (ns : List Node) (tree : IsTree ns) (c : ℕ) (holds : IsTrue (is_array_or_object (content_at ns c))) where
  pub no_holder : (content : Content) → IsTrue (is_array_or_object content) → behind_property ns content c ≡ None
  no_holder array h = refl
  no_holder object h = refl
  no_holder content h = cc

  pub or_none : (o : Option ℕ) → or_else o None ≡ o
  or_none None = refl
  or_none (Some x) = refl

  pub due_parts : (ahead behind others back : List ℕ) (from to : ℕ) → prints_within ns from to ≡ true → children_at ns c ≡ ahead ++ from ∷ behind → children_at ns c ≡ others ++ to ∷ back
      → space_needed_between ns from to ≡ cond (ends_bare ns (nearest ns (reverse ahead)) && begins_bare ns (nearest ns back)) (nearest ns back) None
  due_parts ahead behind others back from to shown e f =
      let before : seen_before ns from ≡ nearest ns (reverse ahead) = ap (nearest ns) (before_in ns tree c ahead behind from e) in
      let holder : behind_holder ns to ≡ None = ap (option_and_then (λ p. behind_property ns (content_at ns p) p)) (parent_in ns tree c others back to f) ∙ no_holder (content_at ns c) holds in
      let after : seen_behind ns to ≡ nearest ns back = ap (λ l. or_else (nearest ns l) (behind_holder ns to)) (after_in ns tree c others back to f) ∙ ap (or_else (nearest ns back)) holder ∙ or_none (nearest ns back) in
      ap (λ b. cond (b && (ends_bare ns (seen_before ns from) && begins_bare ns (seen_behind ns to))) (seen_behind ns to) None) shown
      ∙ ap (λ o. cond (ends_bare ns o && begins_bare ns (seen_behind ns to)) (seen_behind ns to) None) before ∙ ap (λ o. cond (ends_bare ns (nearest ns (reverse ahead)) && begins_bare ns o) o None) after
