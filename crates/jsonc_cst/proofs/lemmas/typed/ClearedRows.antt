-- Comments of an entry are removed one after another, and then blanks that are left alone: which document each makes of the one before.
use Rattle.std.proofs.Common.{◌≡◌, ℕ, zero, suc, ◌+◌, ◌-◌, ◌<◌, ◌≤◌, ◌||◌, ◌==◌, Bool, true, false, cond, List, [], ◌∷◌, ◌++◌, drop, eq-eqb, get_or, length, map, slice_index, slice_range, take, Option, Some, None, IsTrue, inl, inr, if◌then◌else◌, refl, sym, ap, subst, ◌∙◌, arith, length-take, length-drop, get_or-take, get_or-drop}
use Rattle.std.proofs.Math.Seq.{take-add}
use Rattle.std.proofs.lemmas.Bool.{cases_Bool, cases_eq, ne_eqb}
use Rattle.std.proofs.lemmas.List.{append_assoc, drop-drop, drop_more, map-append, take_more}
use Rattle.std.proofs.lemmas.List.Elements.{All-cons, All-nil}
use Rattle.jsonc_text.specs.Options.{Options}
use Rattle.jsonc_text.specs.Plain.{Plain}
use Rattle.jsonc_tree.specs.Changes.{Splices}
use Rattle.jsonc_tree.specs.Content.{Content}
use Rattle.jsonc_tree.specs.Content as content
use Rattle.jsonc_tree.specs.declared.node.CstNewlineKind.{CstNewlineKind}
use Rattle.jsonc_tree.specs.OrderedTree.{ordered_tree}
use Rattle.jsonc_tree.specs.Tree.{Node, content_at, parent_at, children_at, is_in, place_at, IsOver, IsTree}
use Rattle.jsonc_layout.specs.nodes.Kinds.{is_comment_at, is_newline, is_newline_at, is_whitespace_at}
use Rattle.jsonc_layout.specs.nodes.Siblings.{AreThere}
use Rattle.jsonc_sound.specs.Documents.{document_of}
use Rattle.jsonc_sound.specs.Lines.{is_line_comment}
use Rattle.jsonc_sound.specs.MarkChanges.{AreBlanks}
use Rattle.jsonc_sound.specs.SoundTrees.{SoundTree}
use Rattle.jsonc_edit.specs.Comments.{blanks_from, comment_at, newline_from, removed_from, IsRemoved}
use Rattle.jsonc_edit.specs.remove.Comments.{begins_line, blanks_at, line_behind, or_itself}
use Rattle.jsonc_edit.proofs.lemmas.remove.ClearedComments.{line_of, line_place, LineThere}
use Rattle.jsonc_cst.specs.typed.Clearing.{RemovesComment}
use Rattle.jsonc_cst.proofs.lemmas.typed.ClearedTexts.{alone, comment_gone, front_ends, shares, white_blanks, AreWhite, Beside}

-- the whitespace directly before a place
blanks_low : (ns : List Node) (row : List ℕ) (place : ℕ) → blanks_from ns row place ≤ place
blanks_low ns row zero = omega arith
blanks_low ns row (suc place) =
    elim (cases_Bool (is_whitespace_at ns (slice_index row place))) [
      | inl h ↦ (let e : blanks_from ns row (suc place) ≡ blanks_from ns row place = rw h refl in omega (arith, e, blanks_low ns row place))
      | inr h ↦ (let e : blanks_from ns row (suc place) ≡ suc place = rw h refl in omega (arith, e))
    ]

blanks_are : (ns : List Node) (row : List ℕ) (place at : ℕ) → blanks_from ns row place ≤ at → at < place → is_whitespace_at ns (slice_index row at) ≡ true
blanks_are ns row zero at a b = absurd (omega (arith, b))
blanks_are ns row (suc place) at a b =
    elim (cases_Bool (is_whitespace_at ns (slice_index row place))) [
      | inr h ↦ (let e : blanks_from ns row (suc place) ≡ suc place = rw h refl in absurd (omega (arith, e, a, b)))
      | inl h ↦
          let e : blanks_from ns row (suc place) ≡ blanks_from ns row place = rw h refl in
          elim (cases_eq place at) [
            | inl same ↦ subst (λ k. is_whitespace_at ns (slice_index row k) ≡ true) same h
            | inr apart ↦ blanks_are ns row place at (omega (arith, e, a)) (omega (arith, b, apart))
          ]
    ]

are_white : (ns : List Node) (xs : List ℕ) → ((k : ℕ) → k < length xs → is_whitespace_at ns (slice_index xs k) ≡ true) → AreWhite (map (content_at ns) xs)
are_white ns [] h = tt
are_white ns (x ∷ xs) h = (h 0 (omega arith), are_white ns xs (λ k l. h (suc k) (omega (arith, l))))

newline_kind : (c : Content) → is_newline c ≡ true → (k : CstNewlineKind) × (c ≡ content.newline k)
newline_kind (content.newline k) h = (k, refl)
newline_kind c h = cc

newline_there : (ns : List Node) (row : List ℕ) (place : ℕ) → begins_line ns row place ≡ true → (l : ℕ) × (place ≡ suc l) × (is_newline_at ns (slice_index row l) ≡ true)
newline_there ns row zero h = absurd (let wrong : false ≡ true = h in cc)
newline_there ns row (suc l) h = (l, refl, h)

no_newline : (ns : List Node) (row : List ℕ) (place : ℕ) → begins_line ns row place ≡ false → newline_from ns row place ≡ place
no_newline ns row zero h = refl
no_newline ns row (suc l) h = ap (λ b. if b then l else suc l) h

module _ (old new : List Node) (tree : IsTree old) (later : IsTree new) (c n : ℕ) (said : parent_at old n ≡ Some c) (over : IsOver old 0 c) (is_one : IsTrue (is_comment_at old n)) (o : Options) (sound : SoundTree o (ordered_tree old 0))
    (still : SoundTree o (ordered_tree new 0)) (w : Option Plain) where
  abbrev row : List ℕ
  row = children_at old c

  abbrev place : ℕ
  place = place_at old n

  abbrev b : ℕ
  b = blanks_at old c n

  inn : place < length row
  inn = tree.within n c said

  -- so it is removed
  abbrev Gone : Type 0
  Gone = (k : ℕ) × (comment_at old k ≡ Some n) × RemovesComment k (document_of o (ordered_tree old 0) w) (document_of o (ordered_tree new 0) w)

  -- a stretch with the comment in it
  module _ (i e : ℕ) (low : b ≤ i) (high : i ≤ place) where
    abbrev before : List ℕ
    before = take (place - i) (drop i row)

    abbrev after : List ℕ
    after = take e (drop (place + 1) row)

    size_before : length before ≡ place - i
    size_before = length-take (place - i) (drop i row) ∙ omega (arith, length-drop i row, inn, high)

    cut : slice_range row i (place + 1 + e) ≡ before ++ n ∷ after
    cut =
        let size : place + 1 + e - i ≡ (place - i) + suc e = omega (arith, high) in
        let reach : i + (place - i) ≡ place = omega (arith, high) in
        ap (λ k. take k (drop i row)) size ∙ take-add (place - i) (suc e) (drop i row)
        ∙ ap (λ l. before ++ take (suc e) l) (drop-drop (place - i) i row ∙ ap (λ k. drop k row) reach ∙ drop_more row place 0 inn ∙ ap (λ m. m ∷ drop (place + 1) row) (tree.found n c said))

    white_before : AreWhite (map (content_at old) before)
    white_before = are_white old before (λ k l.
        let less : k < place - i = omega (arith, l, size_before) in
        let is : slice_index before k ≡ slice_index row (i + k) = get_or-take (place - i) (drop i row) k 0 less ∙ get_or-drop i row k 0 in
        subst (λ m. is_whitespace_at old m ≡ true) (sym is) (blanks_are old row place (i + k) (omega (arith, low)) (omega (arith, less, high))))

    -- after which nothing is removed with it
    pub shared : e ≡ 0 → Splices old new c i (place + 1 + e) [] → Gone
    shared none s =
        let no_more : after ≡ [] = ap (λ k. take k (drop (place + 1) row)) none in
        let split : slice_range row i (place + 1 + e) ≡ [] ++ (before ++ n ∷ []) = cut ∙ ap (λ l. before ++ n ∷ l) no_more in
        comment_gone old new tree later c n said over is_one i (place + 1 + e) (omega (arith, high)) [] before [] s split (All-nil (λ m. m < length new)) tt tt (white_blanks (map (content_at old) before) white_before) tt o sound still (shares white_before) w

    -- or that is alone on its line
    module _ (l : ℕ) (first : i ≡ suc l) (newline : is_newline_at old (slice_index row l) ≡ true) where
      abbrev x : ℕ
      x = slice_index row l

      x_in : l < length row
      x_in = omega (arith, first, high, inn)

      abbrev j : ℕ
      j = place + 1 + e

      longer : slice_range row l j ≡ x ∷ slice_range row i j
      longer =
          let size : j - l ≡ suc (j - i) = omega (arith, first, high) in
          let next : l + 1 ≡ i = omega (arith, first) in
          ap (λ k. take k (drop l row)) size ∙ ap (take (suc (j - i))) (drop_more row l 0 x_in) ∙ ap (λ k. x ∷ take (j - i) (drop k row)) next

      -- the newline before it stays in its place
      as_replaced : Splices old new c i j [] → Splices old new c l j (x ∷ [])
      as_replaced s =
          let next : i ≡ l + 1 = omega (arith, first) in
          let kids : children_at new c ≡ take l row ++ (x ∷ drop j row) = s.children ∙ ap (λ k. take k row ++ drop j row) next ∙ ap (λ f. f ++ drop j row) (take_more row l 0 x_in) ∙ append_assoc (take l row) (x ∷ []) (drop j row) in
          let at_l : slice_index (children_at new c) l ≡ x =
          ap (λ f. slice_index f l) s.children ∙ ap (λ k. slice_index (take k row ++ drop j row) l) next ∙ ap (λ f. slice_index (f ++ drop j row) l) (take_more row l 0 x_in) ∙ ap (λ f. slice_index f l) (append_assoc (take l row) (x ∷ []) (drop j row))
          ∙ at_end (take l row) (drop j row) x l (length-take l row ∙ omega (arith, x_in)) in
          let short : l < length (children_at new c) = omega (arith, ap (λ f. length f) kids, long (take l row) (drop j row) x, length-take l row, x_in) in
          record {
            len = s.len;
            content = s.content;
            children = kids;
            others = s.others;
            parents = λ m.
                elim (cases_eq m x) [
                  | inl same ↦ subst (λ k. parent_at new k ≡ cond (is_in k (x ∷ [])) (Some c) (cond (is_in k (slice_range row l j)) None (parent_at old k))) (sym same)
                      (ap (parent_at new) (sym at_l) ∙ later.named c l short ∙ sym (ap (λ h. cond (h || false) (Some c) (cond (is_in x (slice_range row l j)) None (parent_at old x))) (same_eqb x)))
                  | inr apart ↦ s.parents m ∙ sym (ap (λ h. cond (h || false) (Some c) (cond (is_in m (slice_range row l j)) None (parent_at old m))) (ne_eqb m x apart) ∙ ap (λ f. cond (is_in m f) None (parent_at old m)) longer ∙ ap (λ h. cond (h || is_in m (slice_range row i j)) None (parent_at old m)) (ne_eqb m x apart))
                ];
          }
        where
          same_eqb : (k : ℕ) → (k == k) ≡ true
          same_eqb k = eq-eqb k k refl

          at_end : (f g : List ℕ) (y k : ℕ) → length f ≡ k → slice_index (f ++ (y ∷ g)) k ≡ y
          at_end [] g y k e = ap (λ m. slice_index (y ∷ g) m) (sym e)
          at_end (z ∷ f) g y zero e = absurd (omega (arith, e))
          at_end (z ∷ f) g y (suc k) e = at_end f g y k (omega (arith, e))

          long : (f g : List ℕ) (y : ℕ) → length (f ++ (y ∷ g)) ≡ length f + suc (length g)
          long [] g y = omega arith
          long (z ∷ f) g y = omega (arith, long f g y)

      module _ (d : ℕ) (last : e ≡ d + 1) (within : d < length (drop (place + 1) row)) (ends : is_newline_at old (slice_index (drop (place + 1) row) d) ≡ true)
          (white : (k : ℕ) → k < d → is_whitespace_at old (slice_index (drop (place + 1) row) k) ≡ true) where
        abbrev rest : List ℕ
        rest = drop (place + 1) row

        abbrev m : ℕ
        m = slice_index rest d

        after_is : after ≡ take d rest ++ m ∷ []
        after_is = ap (λ k. take k rest) last ∙ take_more rest d 0 within

        white_after : AreWhite (map (content_at old) (take d rest))
        white_after = are_white old (take d rest) (λ k l. let less : k < d = omega (arith, l, length-take d rest) in subst (λ m. is_whitespace_at old m ≡ true) (sym (get_or-take d rest k 0 less)) (white k less))

        pub with_line : Splices old new c i j [] → Gone
        with_line s =
            let end = newline_kind (content_at old x) newline in
            let line = newline_kind (content_at old m) ends in
            let r = as_replaced s in
            let split : slice_range row l j ≡ (x ∷ []) ++ (before ++ n ∷ (take d rest ++ m ∷ [])) = longer ∙ ap (λ f. x ∷ f) (cut ∙ ap (λ f. before ++ n ∷ f) after_is) in
            let there : AreThere new (x ∷ []) = All-cons (λ k. k < length new) x [] (omega (arith, r.len, tree.in_tree c l x_in)) (All-nil (λ k. k < length new)) in
            let blank : (k : CstNewlineKind) (what : Content) → what ≡ content.newline k → AreBlanks (what ∷ []) = λ k what is. subst (λ h. AreBlanks (h ∷ [])) (sym is) (refl, tt) in
            let after_leaves : map (content_at old) (take d rest ++ m ∷ []) ≡ map (content_at old) (take d rest) ++ content.newline line.0 ∷ [] =
            map-append (content_at old) (take d rest) (m ∷ []) ∙ ap (λ h. map (content_at old) (take d rest) ++ h ∷ []) line.1 in
            let blank_after : AreBlanks (map (content_at old) (take d rest ++ m ∷ [])) =
            subst AreBlanks (sym after_leaves) (blanks_and (map (content_at old) (take d rest)) line.0 (white_blanks (map (content_at old) (take d rest)) white_after)) in
            let ended = front_ends old new tree later c n said over is_one l j (omega (arith, first, high)) (x ∷ []) before (take d rest ++ m ∷ []) r split there (blank end.0 (content_at old x) end.1)
            (blank end.0 (content_at new x) (r.content x ∙ end.1)) (white_blanks (map (content_at old) before) white_before) blank_after in
            comment_gone old new tree later c n said over is_one l j (omega (arith, first, high)) (x ∷ []) before (take d rest ++ m ∷ []) r split there (blank end.0 (content_at old x) end.1)
            (blank end.0 (content_at new x) (r.content x ∙ end.1)) (white_blanks (map (content_at old) before) white_before) blank_after o sound still
            (subst (Beside _ (map (content_at old) before)) (sym after_leaves) (alone ended.0 (map (content_at old) (take d rest)) end.0 line.0 (ended.1 ∙ ap (λ h. ended.0 ++ h ∷ []) end.1) white_before white_after)) w
          where
            blanks_and : (ls : List Content) (k : CstNewlineKind) → AreBlanks ls → AreBlanks (ls ++ content.newline k ∷ [])
            blanks_and [] k h = (refl, tt)
            blanks_and (y ∷ ls) k h = (h.0, blanks_and ls k h.1)

  -- where its line begins with it
  pub gone_with_line : begins_line old row b ≡ true → (p : Option ℕ) → line_behind old n ≡ p → Splices old new c b (place_at old (or_itself n p) + 1) [] → Gone
  gone_with_line h None e s = shared b 0 (omega arith) (blanks_low old row place) refl (subst (λ k. Splices old new c b k []) (omega arith) s)
  gone_with_line h (Some m) e s =
      let l : LineThere old (drop (place + 1) row) m = line_of old tree c n said m e in
      let same : place_at old m + 1 ≡ place + 1 + (l.at + 1) = omega (arith, line_place old tree c n said m e) in
      let x = newline_there old row b h in
      with_line b (l.at + 1) (omega arith) (blanks_low old row place) x.0 x.1 x.2 l.at refl l.within (ap (is_newline_at old) l.is ∙ l.newline) l.blank (subst (λ k. Splices old new c b k []) same s)

  -- and where it does not
  from_by : (h : Bool) → is_line_comment (content_at old n) ≡ h → begins_line old row b ≡ false → (b ≤ removed_from old c n) × (removed_from old c n ≤ place)
  from_by true h f = let is : removed_from old c n ≡ b = ap (λ t. if t then newline_from old row b else place) h ∙ no_newline old row b f in (omega (arith, is), omega (arith, is, blanks_low old row place))
  from_by false h f = let is : removed_from old c n ≡ place = ap (λ t. if t then newline_from old row b else place) h in (omega (arith, is, blanks_low old row place), omega (arith, is))

  pub gone_alone : begins_line old row b ≡ false → IsRemoved old new n → Gone
  gone_alone f removed =
      let from = from_by (is_line_comment (content_at old n)) refl f in
      shared (removed_from old c n) 0 from.0 from.1 refl (subst (λ k. Splices old new c (removed_from old c n) k []) (omega arith) (removed c said))
