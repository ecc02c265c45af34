-- What leaves a row with an element, in the row of a container with its brackets: a stretch, and a comma in it, before it, or none.
use Rattle.std.proofs.Common.{◌≡◌, ◌⊎◌, ℕ, ◌+◌, ◌==◌, Bool, true, false, not, ◌||◌, cond, List, [], ◌∷◌, ◌++◌, reverse, take, drop, Option, Some, None, IsTrue, if◌then◌else◌, refl, sym, ap, subst, ◌∙◌}
use Rattle.std.proofs.lemmas.List.{append_assoc, map-append, reverse-append, reverse-reverse}
use Rattle.std.proofs.lemmas.List.Folds.{find-append}
use Rattle.std.specs.List.{find}
use Rattle.std.specs.Option.{option_or}
use Rattle.jsonc_tree.specs.Content.{Content, token}
use Rattle.jsonc_tree.specs.Siblings.{first, siblings_after, siblings_before}
use Rattle.jsonc_tree.specs.Tree.{Node, content_at, parent_at, children_at, place_at, IsTree}
use Rattle.jsonc_layout.specs.nodes.Kinds.{is_inline_trivia, is_element, is_trivia, is_comma_at, is_comma}
use Rattle.jsonc_layout.specs.lines.Siblings.{is_no_trivia_at, if_comma, trailing_comma_at}
use Rattle.jsonc_sound.specs.TriviaChanges.{AreTrivia}
use Rattle.jsonc_sound.specs.Leaving.{AreInlineTrivia, IsRestOfLine, LeavesBehind, comma_alone, comma_and_line}
use Rattle.jsonc_sound.proofs.RowParts.{line_trivia, rest_trivia}
use Rattle.jsonc_edit.specs.remove.Leaving.{comma_before, comma_gone, comma_unless, ends_line_at, first_gone, last_gone, last_past, line_end_at, newline_there}
use Rattle.jsonc_layout.specs.nodes.Comments.{first_not_inline_trivia}
use Rattle.jsonc_edit.proofs.lemmas.remove.Contents.{GoesWith, GoesWithout, apart, no_commas, comma_first, comment_first, line_first, apart_behind, apart_rest, first_past, no_commas_rest}
use Rattle.jsonc_edit.specs.SeamRemovals.{EndsLine}
use Rattle.jsonc_edit.proofs.lemmas.remove.Places.{row_split, before_in, after_in, final, final_last, final_behind, up_to_final}
use Rattle.jsonc_edit.proofs.lemmas.remove.Stretches.{contents, Near, near_of, Line, no_line, WholeLine, line_of, newline_comes, Ended, ended_of, line_through, beside_between, Past, past_of, comma_past, none_past, Ahead, ahead_of, comma_ahead, none_ahead}

-- a token, but no comma: what a bracket is
abbrev pub is_end : Content → Bool
is_end (token c) = not (c == 0x2C)
is_end content = false

trivia_no_end : (c : Content) → IsTrue (is_trivia c) → is_end c ≡ false
trivia_no_end (Content.whitespace s) h = refl
trivia_no_end (Content.newline k) h = refl
trivia_no_end (Content.comment s) h = refl
trivia_no_end c h = cc

beside_no_end : (c : Content) → IsTrue (is_inline_trivia c) → is_end c ≡ false
beside_no_end (Content.whitespace s) h = refl
beside_no_end (Content.comment s) h = refl
beside_no_end c h = cc

pub comma_no_trivia : (c : Content) → IsTrue (is_comma c) → is_trivia c ≡ false
comma_no_trivia (token c) h = refl
comma_no_trivia c h = cc

pub element_no_trivia : (c : Content) → IsTrue (is_element c) → is_trivia c ≡ false
element_no_trivia (Content.whitespace s) h = absurd (let wrong : false ≡ true = h in cc)
element_no_trivia (Content.newline k) h = absurd (let wrong : false ≡ true = h in cc)
element_no_trivia (Content.comment s) h = absurd (let wrong : false ≡ true = h in cc)
element_no_trivia c h = refl

comma_no_end : (c : Content) → IsTrue (is_comma c) → is_end c ≡ false
comma_no_end (token c) h = ap not h
comma_no_end c h = cc

element_no_end : (c : Content) → IsTrue (is_element c) → is_end c ≡ false
element_no_end (token c) h = absurd (let wrong : false ≡ true = h in cc)
element_no_end c h = refl

beside_no_comma : (c : Content) → IsTrue (is_inline_trivia c) → is_comma c ≡ false
beside_no_comma (Content.whitespace s) h = refl
beside_no_comma (Content.comment s) h = refl
beside_no_comma c h = cc

true_false : {b : Bool} → b ≡ true → b ≡ false → ⊥
true_false e f = let wrong : true ≡ false = sym e ∙ f in cc

-- where a list ends in z, so does what is behind any part of it that does not
module _ (test : ℕ → Bool) where
  rest_ends : (xs rest ls : List ℕ) (last z : ℕ) → (xs ++ last ∷ []) ++ rest ≡ ls ++ z ∷ [] → test last ≡ false → test z ≡ true → (front : List ℕ) × (rest ≡ front ++ z ∷ [])
  rest_ends xs [] ls last z e f g =
      let same : last ≡ z = sym (final_last xs last) ∙ ap final (sym (append_assoc xs (last ∷ []) []) ∙ e) ∙ final_last ls z in
      absurd (true_false g (ap test (sym same) ∙ f))
  rest_ends xs (y ∷ rest) ls last z e f g =
      let r = up_to_final y rest in
      let same : final (y ∷ rest) ≡ z = sym (final_behind (xs ++ last ∷ []) y rest) ∙ ap final e ∙ final_last ls z in
      (r.0, r.1 ∙ ap (λ w. r.0 ++ w ∷ []) same)

  -- and where it begins with one of which the test holds, so does what is before any part that does not
  begins_with : (xs ys ls : List ℕ) (x first : ℕ) → xs ++ x ∷ ys ≡ first ∷ ls → test x ≡ false → test first ≡ true → (rest : List ℕ) × (xs ≡ first ∷ rest)
  begins_with [] ys ls x first e f g = let same : x ≡ first = cc in absurd (true_false g (ap test (sym same) ∙ f))
  begins_with (y ∷ xs) ys ls x first e f g = let same : y ≡ first = cc in (xs, ap (λ w. w ∷ xs) same)

-- a stretch from a first to a last
pub record Edges (stretch : List ℕ) (from to : ℕ) : Type 0 where
  pub tail : List ℕ
  pub init : List ℕ
  pub first_is : stretch ≡ from ∷ tail
  pub last_is : stretch ≡ init ++ to ∷ []

-- how an element leaves: with a comma behind it, with this comma before it, or with none
pub data Going (ns : List Node) (c n open_with last from to : ℕ) : Option ℕ → Type 0 where
  with_behind : (away near between line rest : List ℕ) (k : ℕ)
      → children_at ns c ≡ (open_with ∷ away) ++ ((near ++ n ∷ (between ++ k ∷ line)) ++ (rest ++ last ∷ []))
      → Edges (near ++ n ∷ (between ++ k ∷ line)) from to → AreInlineTrivia (contents ns near) → IsTrue (apart (contents ns away))
      → IsTrue (is_comma_at ns k) → GoesWith (contents ns between) (contents ns line) (contents ns (rest ++ last ∷ []))
      → Going ns c n open_with last from to None
  with_before : (away mid near line rest : List ℕ) {k : ℕ}
      → children_at ns c ≡ ((open_with ∷ away) ++ k ∷ mid) ++ ((near ++ n ∷ line) ++ (rest ++ last ∷ []))
      → Edges (near ++ n ∷ line) from to → AreInlineTrivia (contents ns near) → IsTrue (apart (content_at ns k ∷ contents ns mid)) → IsTrue (no_commas (contents ns mid))
      → IsTrue (is_comma_at ns k) → IsRestOfLine (contents ns line) → GoesWithout (contents ns line) (contents ns (rest ++ last ∷ []))
      → Going ns c n open_with last from to (Some k)
  with_none : (away near line rest : List ℕ)
      → children_at ns c ≡ (open_with ∷ away) ++ ((near ++ n ∷ line) ++ (rest ++ last ∷ []))
      → Edges (near ++ n ∷ line) from to → AreInlineTrivia (contents ns near) → IsTrue (apart (contents ns away)) → IsTrue (no_commas (contents ns away))
      → IsRestOfLine (contents ns line) → GoesWithout (contents ns line) (contents ns (rest ++ last ∷ []))
      → Going ns c n open_with last from to None

-- what ends a line behind a node that is no end is none
line_last : (ns : List Node) (n : ℕ) (line init : List ℕ) (to : ℕ) → n ∷ line ≡ init ++ to ∷ [] → is_end (content_at ns n) ≡ false → AreTrivia (contents ns line) → is_end (content_at ns to) ≡ false
line_last ns n [] [] to e f t = let same : n ≡ to = cc in subst (λ m. is_end (content_at ns m) ≡ false) same f
line_last ns n [] (x ∷ []) to e f t = let wrong : [] ≡ to ∷ [] = cc in cc
line_last ns n [] (x ∷ y ∷ init) to e f t = let wrong : [] ≡ y ∷ (init ++ to ∷ []) = cc in cc
line_last ns n (m ∷ line) [] to e f t = let wrong : m ∷ line ≡ [] = cc in cc
line_last ns n (m ∷ line) (x ∷ init) to e f t = let same : m ∷ line ≡ init ++ to ∷ [] = cc in line_last ns m line init to same (trivia_no_end (content_at ns m) t.0) t.1

line_past : (xs : List Content) (x : Content) (rest : List Content) → AreInlineTrivia xs → IsTrue (is_comma x) → line_first (xs ++ x ∷ rest) ≡ false
line_past [] (token c) rest h comma = refl
line_past [] x rest h comma = cc
line_past (Content.whitespace s ∷ xs) x rest h comma = line_past xs x rest h.1 comma
line_past (Content.comment s ∷ xs) x rest h comma = line_past xs x rest h.1 comma
line_past (y ∷ xs) x rest h comma = cc

none_empty : (xs : List Content) (x : Content) → xs ++ x ∷ [] ≡ [] → ⊥
none_empty [] x e = cc
none_empty (y ∷ xs) x e = cc

find_none : (ns : List Node) (xs : List ℕ) → AreInlineTrivia (contents ns xs) → find (is_comma_at ns) (reverse xs) ≡ None
find_none ns [] h = refl
find_none ns (x ∷ xs) h =
    ap (find (is_comma_at ns)) (reverse-append (x ∷ []) xs) ∙ find-append (is_comma_at ns) (reverse xs) (x ∷ []) ∙ ap (λ o. option_or o (find (is_comma_at ns) (x ∷ []))) (find_none ns xs h.1)
    ∙ ap (λ b. cond b (Some x) None) (beside_no_comma (content_at ns x) h.0)

module _ (ns : List Node) (tree : IsTree ns) (c n open_with last : ℕ) (inner : List ℕ) (row : children_at ns c ≡ open_with ∷ (inner ++ last ∷ [])) (said : parent_at ns n ≡ Some c)
    (element : IsTrue (is_element (content_at ns n))) (opens : is_end (content_at ns open_with) ≡ true) (closes : is_end (content_at ns last) ≡ true) where
  abbrev ends : ℕ → Bool
  ends m = is_end (content_at ns m)

  abbrev pre : List ℕ
  pre = take (place_at ns n) (children_at ns c)

  abbrev post : List ℕ
  post = drop (place_at ns n + 1) (children_at ns c)

  n_no_end : ends n ≡ false
  n_no_end = element_no_end (content_at ns n) element

  split : children_at ns c ≡ pre ++ n ∷ post
  split = row_split ns tree c n said

  befores : siblings_before ns n ≡ reverse pre
  befores = before_in ns tree c pre post n split

  afters : siblings_after ns n ≡ post
  afters = after_in ns tree c pre post n split

  around : Near ns pre n (first_gone ns n)
  around = subst (λ r. Near ns r n (first_gone ns n)) (ap (λ (l : List ℕ). reverse l) befores ∙ reverse-reverse pre) (near_of ns n (siblings_before ns n))

  abbrev near : List ℕ
  near = around.near

  opened : (away by rest : List ℕ) → AreInlineTrivia (contents ns by) → away ++ by ≡ open_with ∷ rest → (r : List ℕ) × (away ≡ open_with ∷ r)
  opened [] [] rest b e = absurd (let wrong : [] ≡ open_with ∷ rest = e in cc)
  opened [] (x ∷ by) rest b e = let same : x ≡ open_with = cc in absurd (true_false opens (ap ends (sym same) ∙ beside_no_end (content_at ns x) b.0))
  opened (a ∷ away) by rest b e = let same : a ≡ open_with = cc in (away, ap (λ w. w ∷ away) same)

  away_open : (r : List ℕ) × (around.away ≡ open_with ∷ r)
  away_open =
      let first = begins_with ends pre post (inner ++ last ∷ []) n open_with (sym split ∙ row) n_no_end opens in
      opened around.away near first.0 around.beside (sym around.split ∙ first.1)

  abbrev away : List ℕ
  away = away_open.0

  row_with : (behind rest : List ℕ) → post ≡ behind ++ rest → children_at ns c ≡ around.away ++ ((near ++ n ∷ behind) ++ rest)
  row_with behind rest e =
      split ∙ ap (λ (l : List ℕ). l ++ n ∷ post) around.split ∙ ap (λ (l : List ℕ). (around.away ++ near) ++ n ∷ l) e ∙ append_assoc around.away near (n ∷ (behind ++ rest))
      ∙ ap (λ (l : List ℕ). around.away ++ l) (sym (append_assoc near (n ∷ behind) rest))

  edges : (behind init : List ℕ) (to : ℕ) → n ∷ behind ≡ init ++ to ∷ [] → Edges (near ++ n ∷ behind) (first_gone ns n) to
  edges behind init to e = record {
    tail = around.tail ++ behind;
    init = near ++ init;
    first_is = sym (append_assoc near (n ∷ []) behind) ∙ ap (λ l. l ++ behind) around.first_is;
    last_is = ap (λ (l : List ℕ). near ++ l) e ∙ sym (append_assoc near init (to ∷ []));
  }

  rest_from : (behind rest init : List ℕ) (to : ℕ) → post ≡ behind ++ rest → n ∷ behind ≡ init ++ to ∷ [] → ends to ≡ false → (front : List ℕ) × (rest ≡ front ++ last ∷ [])
  rest_from behind rest init to e f g =
      let whole : children_at ns c ≡ ((pre ++ init) ++ to ∷ []) ++ rest =
      split ∙ ap (λ (l : List ℕ). pre ++ n ∷ l) e ∙ ap (λ (l : List ℕ). pre ++ (l ++ rest)) f ∙ sym (append_assoc pre (init ++ to ∷ []) rest) ∙ ap (λ (l : List ℕ). l ++ rest) (sym (append_assoc pre init (to ∷ []))) in
      rest_ends ends (pre ++ init) rest (open_with ∷ inner) to last (sym whole ∙ row) g closes

  away_apart : IsTrue (apart (contents ns away))
  away_apart = apart_rest (content_at ns open_with) (contents ns away) (subst (λ l. IsTrue (apart (contents ns l))) away_open.1 around.apart)

  abbrev Goes : ℕ → Option ℕ → Type 0
  Goes to o = Going ns c n open_with last (first_gone ns n) to o

  -- a comma stands behind
  module _ (between after : List ℕ) (k : ℕ) (is : post ≡ between ++ k ∷ after) (trivia : AreTrivia (contents ns between)) (comma : IsTrue (is_comma_at ns k)) where
    k_no_end : ends k ≡ false
    k_no_end = comma_no_end (content_at ns k) comma

    behind_k : children_at ns c ≡ (pre ++ n ∷ between) ++ k ∷ after
    behind_k = split ∙ ap (λ (l : List ℕ). pre ++ n ∷ l) is ∙ sym (append_assoc pre (n ∷ between) (k ∷ after))

    from_line : (to : ℕ) (l : Line ns after k to) → LeavesBehind (contents ns between) (contents ns l.line) → (AreInlineTrivia (contents ns between) → contents ns l.line ≡ [] → line_first (contents ns l.rest) ≡ false) → Goes to None
    from_line to l goes left =
        let behind : post ≡ (between ++ k ∷ l.line) ++ l.rest = is ∙ ap (λ (r : List ℕ). between ++ k ∷ r) l.split ∙ sym (append_assoc between (k ∷ l.line) l.rest) in
        let ended : n ∷ (between ++ k ∷ l.line) ≡ (n ∷ (between ++ l.init)) ++ to ∷ [] = ap (λ (r : List ℕ). n ∷ (between ++ r)) l.last_is ∙ ap (λ (r : List ℕ). n ∷ r) (sym (append_assoc between l.init (to ∷ []))) in
        let rest = rest_from (between ++ k ∷ l.line) l.rest (n ∷ (between ++ l.init)) to behind ended (line_last ns k l.line l.init to l.last_is k_no_end (line_trivia goes)) in
        with_behind away near between l.line rest.0 k
        (row_with (between ++ k ∷ l.line) l.rest behind ∙ ap (λ (x : List ℕ). x ++ ((near ++ n ∷ (between ++ k ∷ l.line)) ++ l.rest)) away_open.1 ∙ ap (λ (x : List ℕ). (open_with ∷ away) ++ ((near ++ n ∷ (between ++ k ∷ l.line)) ++ x)) rest.1)
        (edges (between ++ k ∷ l.line) (n ∷ (between ++ l.init)) to ended) around.beside away_apart comma
        (record { leaves = goes; none_left = λ a b. ap (λ (x : List ℕ). line_first (contents ns x)) (sym rest.1) ∙ left a b })

    -- the comma alone leaves, or the rest of its line
    comma_goes : (AreInlineTrivia (contents ns between) → line_first (contents ns after) ≡ false) → Goes k None
    comma_goes left = from_line k (no_line ns after k) (comma_alone (contents ns between) trivia) (λ a b. left a)

    afters_k : siblings_after ns k ≡ after
    afters_k = after_in ns tree c (pre ++ n ∷ between) after k behind_k

    -- on a line that has not ended before the comma the comma is first past whitespace and comments
    ended_before : ends_line_at ns n ≡ true → AreInlineTrivia (contents ns between) → ⊥
    ended_before e beside =
        let first : line_first (contents ns (between ++ k ∷ after)) ≡ true = sym (newline_comes ns (between ++ k ∷ after)) ∙ ap (λ (l : List ℕ). newline_there ns (first_not_inline_trivia ns l)) (sym (afters ∙ is)) ∙ e in
        let split_up : contents ns (between ++ k ∷ after) ≡ contents ns between ++ contents ns (k ∷ after) = map-append (content_at ns) between (k ∷ after) in
        true_false (sym (ap line_first split_up) ∙ first) (line_past (contents ns between) (content_at ns k) (contents ns after) beside comma)

    line_stays : ends_line_at ns k ≡ false → line_first (contents ns after) ≡ false
    line_stays f = sym (newline_comes ns after) ∙ ap (λ (l : List ℕ). newline_there ns (first_not_inline_trivia ns l)) (sym afters_k) ∙ f

    line_goes : ends_line_at ns n ≡ false → ends_line_at ns k ≡ true → Goes (line_end_at ns k) None
    line_goes e f =
        let near_k : AreInlineTrivia (contents ns between) = beside_between ns between after k trivia (ap (λ (l : List ℕ). newline_there ns (first_not_inline_trivia ns l)) (sym (afters ∙ is)) ∙ e) in
        let whole : Ended ns after (line_end_at ns k) = subst (λ (l : List ℕ). Ended ns l (line_end_at ns k)) afters_k (ended_of ns k (siblings_after ns k) f) in
        from_line (line_end_at ns k) (line_through ns k whole)
        (subst (LeavesBehind (contents ns between)) (sym (map-append (content_at ns) whole.line (line_end_at ns k ∷ []))) (comma_and_line (contents ns between) (contents ns whole.line) (content_at ns (line_end_at ns k)) near_k whole.beside whole.newline))
        (λ a b. absurd (none_empty (contents ns whole.line) (content_at ns (line_end_at ns k)) (sym (map-append (content_at ns) whole.line (line_end_at ns k ∷ [])) ∙ b)))

    goes_behind : Goes (last_past ns n (Some k)) None
    goes_behind = by (ends_line_at ns n) refl (ends_line_at ns k) refl
      where
        by : (a : Bool) → ends_line_at ns n ≡ a → (b : Bool) → ends_line_at ns k ≡ b → Goes (if a || not b then k else line_end_at ns k) None
        by true e b f = comma_goes (λ a. absurd (ended_before e a))
        by false e true f = line_goes e f
        by false e false f = comma_goes (λ a. line_stays f)

  -- none does
  module _ (none_behind : comma_first (contents ns post) ≡ false) where
    all_line : WholeLine ns post n (line_end_at ns n)
    all_line = subst (λ r. WholeLine ns r n (line_end_at ns n)) afters (line_of ns n (siblings_after ns n))

    line : Line ns post n (line_end_at ns n)
    line = all_line.stretch

    trivia_line : AreTrivia (contents ns line.line)
    trivia_line = rest_trivia (contents ns line.line) line.ended

    rest : (front : List ℕ) × (line.rest ≡ front ++ last ∷ [])
    rest = rest_from line.line line.rest line.init (line_end_at ns n) line.split line.last_is (line_last ns n line.line line.init (line_end_at ns n) line.last_is n_no_end trivia_line)

    none_past_line : comma_first (contents ns (rest.0 ++ last ∷ [])) ≡ false
    none_past_line =
        ap (λ l. comma_first (contents ns l)) (sym rest.1) ∙ sym (first_past (contents ns line.line) (contents ns line.rest) trivia_line) ∙ ap comma_first (sym (map-append (content_at ns) line.line line.rest))
        ∙ ap (λ l. comma_first (contents ns l)) (sym line.split) ∙ none_behind

    goes_past : GoesWithout (contents ns line.line) (contents ns (rest.0 ++ last ∷ []))
    unfolding line all_line
    goes_past = record { no_comma = none_past_line; none_left = subst (λ (l : List ℕ). EndsLine (contents ns line.line) ⊎ (comment_first (contents ns l) ≡ false)) rest.1 all_line.none_left }

    whole : children_at ns c ≡ around.away ++ ((near ++ n ∷ line.line) ++ (rest.0 ++ last ∷ []))
    whole = row_with line.line line.rest line.split ∙ ap (λ (x : List ℕ). around.away ++ ((near ++ n ∷ line.line) ++ x)) rest.1

    ahead : Ahead ns around.away (find (is_comma_at ns) (siblings_before ns n))
    ahead =
        let found : find (is_comma_at ns) (siblings_before ns n) ≡ find (is_comma_at ns) (reverse around.away) =
        ap (find (is_comma_at ns)) (befores ∙ ap (λ (l : List ℕ). reverse l) around.split ∙ reverse-append around.away near) ∙ find-append (is_comma_at ns) (reverse near) (reverse around.away)
        ∙ ap (λ o. option_or o (find (is_comma_at ns) (reverse around.away))) (find_none ns near around.beside) in
        subst (Ahead ns around.away) (sym found) (subst (λ l. Ahead ns l (find (is_comma_at ns) (reverse around.away))) (reverse-reverse around.away) (ahead_of ns (reverse around.away)))

    goes_ahead : (o : Option ℕ) → Ahead ns around.away o → Goes (line_end_at ns n) o
    goes_ahead _ (none_ahead h) =
        with_none away near line.line rest.0 (whole ∙ ap (λ (x : List ℕ). x ++ ((near ++ n ∷ line.line) ++ (rest.0 ++ last ∷ []))) away_open.1) (edges line.line line.init (line_end_at ns n) line.last_is) around.beside away_apart
        (no_commas_rest (content_at ns open_with) (contents ns away) (subst (λ l. IsTrue (no_commas (contents ns l))) away_open.1 h)) line.ended goes_past
    goes_ahead _ (comma_ahead front mid {k = k} e comma h) =
        let first_of = begins_with ends front mid away k open_with (sym e ∙ away_open.1) (comma_no_end (content_at ns k) comma) opens in
        with_before first_of.0 mid near line.line rest.0 (whole ∙ ap (λ (x : List ℕ). x ++ ((near ++ n ∷ line.line) ++ (rest.0 ++ last ∷ []))) (e ∙ ap (λ (x : List ℕ). x ++ k ∷ mid) first_of.1)) (edges line.line line.init (line_end_at ns n) line.last_is)
        around.beside (subst (λ b. IsTrue b) (ap apart (map-append (content_at ns) front (k ∷ mid)) ∙ apart_behind (contents ns front) (content_at ns k) (contents ns mid)) (subst (λ l. IsTrue (apart (contents ns l))) e around.apart)) h comma line.ended goes_past

    goes_none : Goes (last_past ns n None) (comma_unless None (comma_before ns n))
    goes_none = goes_ahead (find (is_comma_at ns) (siblings_before ns n)) ahead

  pub going : Going ns c n open_with last (first_gone ns n) (last_gone ns n) (comma_gone ns n)
  going = by (trailing_comma_at ns n) (subst (λ l. Past ns post (if_comma ns (find (is_no_trivia_at ns) l))) (sym afters) (past_of ns post)) refl
    where
      by : (o : Option ℕ) → Past ns post o → trailing_comma_at ns n ≡ o → Goes (last_gone ns n) (comma_gone ns n)
      by _ (comma_past between after {k = k} e t f) told =
          subst (λ o. Goes (last_past ns n o) (comma_unless o (comma_before ns n))) (sym told) (goes_behind between after k e t f)
      by _ (none_past e) told =
          subst (λ o. Goes (last_past ns n o) (comma_unless o (comma_before ns n))) (sym told) (goes_none e)
