-- The indents that are read from a document have only blanks that pass a test, where its leaves of whitespace do, and a space.
use Rattle.std.proofs.Common.{◌≡◌, ℕ, zero, suc, ◌+◌, ◌≤◌, ◌==◌, ◌&&◌, Bool, true, cond, List, [], ◌∷◌, ◌++◌, map, All, length, take, drop, Option, Some, None, IfSome, is_some, option_and_then, option_map, unwrap_or, nat_eq, IsUtf8, IsTrue, chars, refl, sym, ap, subst, ◌∙◌, arith, rules, length-take}
use Rattle.std.specs.Cmp.Lexicographic.{same_text}
use Rattle.std.specs.List.{flat_map, starts_with, take_while, prefix_len}
use Rattle.std.specs.Option.{option_or}
use Rattle.std.proofs.lemmas.Bool.{cond_both, false≢true}
use Rattle.std.proofs.lemmas.List.{take-append-drop}
use Rattle.std.proofs.lemmas.List.Elements.{All-nil, All-cons, All-head, All-tail, All-take, All-map}
use Rattle.std.proofs.lemmas.List.Sums.{take_while-cons}
use Rattle.std.proofs.lemmas.Str.{IsUtf8-append, IsUtf8-nil, IsUtf8-drop, IsUtf8-from_ascii, IsCharBoundary-from_take, chars-append, chars-nil, chars-IsAscii}
use Rattle.jsonc_text.specs.Text.{Many, stop, step}
use Rattle.jsonc_text.proofs.CharacterSteps.{many_append}
use Rattle.jsonc_text.proofs.UniqueWords.{many_more}
use Rattle.jsonc_tree.specs.Content.{Content, text_of}
use Rattle.jsonc_tree.specs.Order.{text_at, with_parent, line_up, upward}
use Rattle.jsonc_tree.specs.Tree.{Node, content_at, parent_at, children_at, place_at, IsTree, IsOver}
use Rattle.jsonc_sound.specs.Shape.{IsText}
use Rattle.jsonc_layout.specs.nodes.Kinds.{is_element_at, is_whitespace, is_whitespace_at, is_property}
use Rattle.jsonc_layout.specs.nodes.Properties.{element_from}
use Rattle.jsonc_layout.specs.nodes.Siblings.{is_no_newline_at, row_of, root_above, siblings_before, line_before}
use Rattle.jsonc_layout.specs.lines.Lines.{begins_line, first_blank_at, blanks, blanks_at, indent_at}
use Rattle.jsonc_layout.specs.lines.Indents.{IndentTexts, is_some_property, beyond_properties, above_properties, levels_among, levels_above, more_of, held_after, repeated, levels_in, told_by, told_at, first_indent, first_indent_in, document_indent, only_indent, single_at, indents_at}
use Rattle.jsonc_layout.proofs.lemmas.nodes.InTree.{All-reverse}
use Rattle.jsonc_edit.proofs.FittingFinds.{found_one}
use Rattle.jsonc_edit.proofs.FittingNodes.{children_over}

pub unwrap_kept : {A : Type 0} (P : A → Type 0) (r : Option A) (x : A) → IfSome r P → P x → P (unwrap_or r x)
unwrap_kept P None x a b = b
unwrap_kept P (Some y) x a b = a

module _ (p : ℕ → Bool) (space : IsTrue (p 0x20)) where
  -- characters that pass it
  abbrev IsIndent : List ℕ → Type 0
  IsIndent s = IsText (Many p) s

  -- No blanks are an indent, and so are two spaces, one indent after another, one so many times, and what one has more than another at its front.
  pub indent_empty : IsIndent []
  indent_empty = (IsUtf8-nil, subst (λ t. Many p t []) (sym chars-nil) stop)

  two_spaces : IsIndent (0x20 ∷ 0x20 ∷ [])
  two_spaces =
      (IsUtf8-from_ascii (0x20 ∷ 0x20 ∷ []) (search rules), subst (λ t. Many p t []) (sym (chars-IsAscii (0x20 ∷ 0x20 ∷ []) (search rules))) (step space (step space stop)))

  pub indent_joined : (s t : List ℕ) → IsIndent s → IsIndent t → IsIndent (s ++ t)
  indent_joined s t a b =
      (IsUtf8-append s t a.0 b.0, subst (λ l. Many p l []) (sym (chars-append s t a.0)) (many_append (many_more a.1 (chars t)) b.1))

  many_behind : {q : ℕ → Bool} (s t : List ℕ) → Many q (s ++ t) [] → Many q t []
  many_behind [] t m = m
  many_behind (c ∷ s) t (step h m) = many_behind s t m

  indent_behind : (outer inner : List ℕ) → IsIndent outer → IsIndent inner → outer ≡ take (length outer) inner → IsIndent (drop (length outer) inner)
  indent_behind outer inner a b same =
      let n : ℕ = length outer in
      let front : IsUtf8 (take n inner) = subst IsUtf8 same a.0 in
      let within : n ≤ length inner = omega (arith, ap length same, length-take n inner) in
      let parts : chars inner ≡ chars (take n inner) ++ chars (drop n inner) = ap chars (sym (take-append-drop n inner)) ∙ chars-append (take n inner) (drop n inner) front in
      (IsUtf8-drop inner n b.0 (IsCharBoundary-from_take inner n b.0 within front), many_behind (chars (take n inner)) (chars (drop n inner)) (subst (λ l. Many p l []) parts b.1))

  indent_repeated : (count : ℕ) (s : List ℕ) → IsIndent s → IsIndent (repeated count s)
  indent_repeated zero s a = indent_empty
  indent_repeated (suc count) s a = indent_joined s (repeated count s) a (indent_repeated count s a)

  -- an indent, if there is one
  abbrev pub MayIndent : Option (List ℕ) → Type 0
  MayIndent r = IfSome r IsIndent

  -- both are indents
  abbrev pub AreIndents : IndentTexts → Type 0
  AreIndents texts = IsIndent texts.current × IsIndent texts.single

  or_kept : {A : Type 0} (P : A → Type 0) (r s : Option A) → IfSome r P → IfSome s P → IfSome (option_or r s) P
  or_kept P None s a b = b
  or_kept P (Some x) s a b = a

  levels_indent : (outer single : List ℕ) (count : ℕ) → IsIndent outer → IsIndent single → AreIndents (levels_in outer count single)
  levels_indent outer single count a b = (indent_joined outer (repeated count single) a (indent_repeated count single b), b)

  more_indent : (held outer : Option (List ℕ)) → MayIndent held → MayIndent outer → MayIndent (more_of held outer)
  more_indent None outer a b = tt
  more_indent (Some inner) None a b = tt
  more_indent (Some inner) (Some outer) a b =
      cond_both (starts_with nat_eq inner outer) (Some (drop (length outer) inner)) None MayIndent (λ e. indent_behind outer inner b a (same_text outer (take (length outer) inner) (sym e))) (λ e. tt)

  held_indent : (held outer : Option (List ℕ)) → MayIndent held → MayIndent outer → MayIndent (held_after held outer)
  held_indent None outer a b = b
  held_indent (Some inner) outer a b = tt

  mapped_indents : (f : List ℕ → IndentTexts) (r : Option (List ℕ)) → MayIndent r → ((s : List ℕ) → IsIndent s → AreIndents (f s)) → IfSome (option_map f r) AreIndents
  mapped_indents f None a h = tt
  mapped_indents f (Some s) a h = h s a

  -- what indents of lines tell are indents
  told_indents : (passed : ℕ) (held : Option (List ℕ)) (lines : List (Option (List ℕ))) → MayIndent held → All MayIndent lines → IfSome (told_by passed held lines) AreIndents
  told_indents passed held [] a all = tt
  told_indents passed held (outer ∷ rest) a all =
      let b : MayIndent outer = All-head MayIndent outer rest all in
      or_kept AreIndents (option_map (levels_in (unwrap_or held []) passed) (more_of held outer)) (told_by (passed + 1) (held_after held outer) rest)
      (mapped_indents (levels_in (unwrap_or held []) passed) (more_of held outer) (more_indent held outer a b) (λ s h. levels_indent (unwrap_or held []) s passed (unwrap_kept IsIndent held [] a indent_empty) h))
      (told_indents (passed + 1) (held_after held outer) rest (held_indent held outer a b) (All-tail MayIndent outer rest all))

  module _ (ns : List Node) (tree : IsTree ns) where
    -- all of these nodes are in the document
    abbrev AreIn : List ℕ → Type 0
    AreIn xs = All (IsOver ns 0) xs

    parent_over : (n : ℕ) → IsOver ns 0 n → IfSome (parent_at ns n) (IsOver ns 0)
    parent_over _ IsOver.itself = subst (λ r. IfSome r (IsOver ns 0)) (sym tree.root_alone) tt
    parent_over n (IsOver.above {c = p} said rest) = subst (λ r. IfSome r (IsOver ns 0)) (sym said) rest

    with_parent_over : (r : Option ℕ) → IfSome r (IsOver ns 0) → AreIn (with_parent r (children_at ns))
    with_parent_over None over = All-nil (IsOver ns 0)
    with_parent_over (Some p) over = children_over ns tree p over

    line_over : (n : ℕ) → IsOver ns 0 n → AreIn (line_before ns n)
    line_over n over =
        let row : AreIn (row_of ns n) = with_parent_over (parent_at ns n) (parent_over n over) in
        let before : AreIn (siblings_before ns n) = All-reverse (IsOver ns 0) (take (place_at ns n) (row_of ns n)) (All-take (IsOver ns 0) (place_at ns n) (row_of ns n) row) in
        All-reverse (IsOver ns 0) (take_while (is_no_newline_at ns) (siblings_before ns n)) (All-take (IsOver ns 0) (prefix_len (is_no_newline_at ns) (siblings_before ns n)) (siblings_before ns n) before)

    up_over : (steps : ℕ) (r : Option ℕ) → IfSome r (IsOver ns 0) → AreIn (line_up steps ns r)
    up_over steps None over = All-nil (IsOver ns 0)
    up_over zero (Some n) over = All-nil (IsOver ns 0)
    up_over (suc steps) (Some n) over = All-cons (IsOver ns 0) n (line_up steps ns (parent_at ns n)) over (up_over steps (parent_at ns n) (parent_over n over))

    upward_over : (r : Option ℕ) → IfSome r (IsOver ns 0) → AreIn (upward ns r)
    unfolding upward
    upward_over r over = up_over (length ns) r over

    beyond_over : (xs : List ℕ) → AreIn xs → AreIn (beyond_properties ns xs)
    beyond_over [] all = all
    beyond_over (n ∷ rest) all =
        cond_both (is_property (content_at ns n)) (beyond_properties ns rest) (n ∷ rest) AreIn (λ e. beyond_over rest (All-tail (IsOver ns 0) n rest all)) (λ e. all)

    among_over : (xs : List ℕ) → AreIn xs → AreIn (levels_among ns xs)
    among_over [] all = all
    among_over (n ∷ rest) all =
        let inner : AreIn (levels_among ns rest) = among_over rest (All-tail (IsOver ns 0) n rest all) in
        cond_both (n == 0) [] (cond (is_some_property ns (parent_at ns n)) (levels_among ns rest) (n ∷ levels_among ns rest)) AreIn (λ e. All-nil (IsOver ns 0))
        (λ e. cond_both (is_some_property ns (parent_at ns n)) (levels_among ns rest) (n ∷ levels_among ns rest) AreIn (λ f. inner) (λ f. All-cons (IsOver ns 0) n (levels_among ns rest) (All-head (IsOver ns 0) n rest all) inner))

    levels_over : (n : ℕ) → IsOver ns 0 n → AreIn (levels_above ns n)
    levels_over n over = among_over (above_properties ns n) (beyond_over (upward ns (parent_at ns n)) (upward_over (parent_at ns n) (parent_over n over)))

    module _ (white : (n : ℕ) (s : List ℕ) → IsOver ns 0 n → content_at ns n ≡ Content.whitespace s → IsIndent s) where
      white_text : (n : ℕ) → IsOver ns 0 n → (w : Content) → content_at ns n ≡ w → is_whitespace w ≡ true → IsIndent (text_of w)
      white_text n over (Content.whitespace s) same e = white n s over same
      white_text n over _ same e = absurd (false≢true e)

      row_indent : (row : List ℕ) → AreIn row → IsIndent (blanks ns row)
      row_indent [] all = indent_empty
      row_indent (n ∷ rest) all =
          let text : is_whitespace_at ns n ≡ true → IsIndent (text_at ns n) = λ e. white_text n (All-head (IsOver ns 0) n rest all) (content_at ns n) refl e in
          let more : List ℕ = take_while (is_whitespace_at ns) rest in
          subst (λ l. IsIndent (flat_map (text_at ns) l)) (sym (take_while-cons (is_whitespace_at ns) n rest))
          (cond_both (is_whitespace_at ns n) (n ∷ more) [] (λ l. IsIndent (flat_map (text_at ns) l))
          (λ e. indent_joined (text_at ns n) (blanks ns rest) (text e) (row_indent rest (All-tail (IsOver ns 0) n rest all)))
          (λ e. indent_empty))

      -- the indent of a node of the document
      pub line_indent : (n : ℕ) → IsOver ns 0 n → MayIndent (indent_at ns n)
      line_indent n over =
          cond_both (begins_line ns n && is_some (first_blank_at ns n)) (Some (blanks_at ns n)) None MayIndent (λ e. row_indent (line_before ns n) (line_over n over)) (λ e. tt)

      first_indent_fits : (xs : List ℕ) → AreIn xs → MayIndent (first_indent ns xs)
      first_indent_fits [] all = tt
      first_indent_fits (n ∷ rest) all =
          or_kept IsIndent (indent_at ns n) (first_indent ns rest) (line_indent n (All-head (IsOver ns 0) n rest all)) (first_indent_fits rest (All-tail (IsOver ns 0) n rest all))

      inside_indent : (r : Option ℕ) → IfSome r (IsOver ns 0) → MayIndent (option_and_then (first_indent_in ns) r)
      inside_indent None over = tt
      inside_indent (Some v) over = first_indent_fits (children_at ns v) (children_over ns tree v over)

      found_over : (r : Option ℕ) → ((m : ℕ) → r ≡ Some m → IsOver ns 0 m) → IfSome r (IsOver ns 0)
      found_over None h = tt
      found_over (Some m) h = h m refl

      document_indent_fits : (n : ℕ) → MayIndent (document_indent ns n)
      document_indent_fits n =
          let value : IfSome (element_from ns 0 0) (IsOver ns 0) = found_over (element_from ns 0 0) (λ m e. (found_one (is_element_at ns) (IsOver ns 0) (children_at ns 0) m (children_over ns tree 0 IsOver.itself) e).0) in
          cond_both (is_some (root_above ns n)) (option_and_then (first_indent_in ns) (element_from ns 0 0)) None MayIndent (λ e. inside_indent (element_from ns 0 0) value) (λ e. tt)

      only_indent_fits : (n : ℕ) → IsOver ns 0 n → MayIndent (only_indent ns n)
      only_indent_fits n over = cond_both (length (levels_above ns n) == 1) (indent_at ns n) None MayIndent (λ e. line_indent n over) (λ e. tt)

      single_fits : (n : ℕ) → IsOver ns 0 n → IsIndent (single_at ns n)
      single_fits n over =
          unwrap_kept IsIndent (option_or (only_indent ns n) (document_indent ns n)) (0x20 ∷ 0x20 ∷ []) (or_kept IsIndent (only_indent ns n) (document_indent ns n) (only_indent_fits n over) (document_indent_fits n)) two_spaces

      told_fits : (n : ℕ) → IsOver ns 0 n → IfSome (told_at ns n (levels_above ns n)) AreIndents
      told_fits n over =
          told_indents 0 (indent_at ns n) (map (indent_at ns) (levels_above ns n)) (line_indent n over)
          (All-map MayIndent (indent_at ns) (levels_above ns n) (λ k d h. line_indent _ (levels_over n over k d h)))

      -- the indents at a node of the document are indents
      pub indents_fit : (n : ℕ) → IsOver ns 0 n → AreIndents (indents_at ns n)
      indents_fit n over =
          unwrap_kept AreIndents (told_at ns n (levels_above ns n)) (levels_in [] (length (levels_above ns n)) (single_at ns n)) (told_fits n over) (levels_indent [] (single_at ns n) (length (levels_above ns n)) indent_empty (single_fits n over))
