-- The row of a sound container, node by node, in the words of texts: what stands between two of its nodes, and which commas come.
use Rattle.std.proofs.Common.{ℕ, suc, ◌≡◌, ◌∙◌, ◌⊎◌, inl, inr, sym, ap, subst, refl, true, false, not, ◌==◌, arith, List, [], ◌∷◌, ◌++◌, IsTrue}
use Rattle.jsonc_text.specs.Options.{Options}
use Rattle.jsonc_text.specs.Text.{next, no, starts}
use Rattle.jsonc_text.specs.Gaps.{Gap}
use Rattle.jsonc_text.specs.Grammar.{IsProperty, named}
use Rattle.jsonc_text.specs.Grammar as grammar
use Rattle.jsonc_text.specs.Plain.{Plain}
use Rattle.jsonc_run.specs.texts.Paths.{Kind, an_array, an_object, closing, IsEntry}
use Rattle.jsonc_text.proofs.Basics.{and_both, heads}
use Rattle.jsonc_text.proofs.Begins.{begins_item}
use Rattle.jsonc_text.proofs.UniqueGaps.{begins_gap, gap_unique}
use Rattle.jsonc_text.proofs.UniqueValues.{name_begins, not_gap, value_begins}
use Rattle.jsonc_tree.specs.Content.{Content, token}
use Rattle.jsonc_tree.specs.OrderedTree.{OrderedTree, none, more, followed_by}
use Rattle.jsonc_layout.specs.nodes.Kinds.{is_comma, is_trivia}
use Rattle.jsonc_sound.specs.Leaving.{comma_comes, element_count, has_no_comma}
use Rattle.jsonc_sound.specs.Rows as Rows
use Rattle.jsonc_insert.specs.elements.Coming.{takes_element}
use Rattle.jsonc_sound.specs.Lines.{LinesEndLoosely}
use Rattle.jsonc_sound.specs.Rows.{RowKind, of_values, of_properties, container_of}
use Rattle.jsonc_sound.specs.Shape as shape
use Rattle.jsonc_sound.specs.Shape.{IsTrivia, Trivia, Separated, Closed, ValueShaped, ElementsShaped, PropertiesShaped, token_then, printed_text}
use Rattle.jsonc_sound.specs.TreeChanges.{IsElement}
use Rattle.jsonc_sound.specs.TriviaChanges.{AreTrivia, leaves_then}
use Rattle.jsonc_sound.proofs.FirstNodes.{value_element}
use Rattle.jsonc_sound.proofs.LooseLines.{Stops, value_stops, elements_stop, properties_stop, trivia_gap}
use Rattle.jsonc_run.specs.texts.Entering.{NoCommaComes}
use Rattle.jsonc_run.specs.texts.Leaving.{Loose}
use Rattle.jsonc_run.specs.texts.Leaving as leaving
use Rattle.jsonc_sound.proofs.ShapeValues.{Mark, close_bracket_mark, close_brace_mark, closing_text, value_utf8, property_utf8, closed_some, separated_some, elements_some, properties_some, separated_stands, carries_more, node_text, value_stands, property_stands}
use Rattle.jsonc_run.proofs.lemmas.promise.Values.{ValueHere}

never_none : (s : OrderedTree) (content : Content) (below after : OrderedTree) → followed_by s (more content below after) ≡ none → ⊥
never_none none content below after e = cc
never_none (more c b s) content below after e = cc

never_ends : (s : OrderedTree) (ls : List Content) (content : Content) (below after : OrderedTree) → followed_by s (leaves_then ls (more content below after)) ≡ none → ⊥
never_ends s [] content below after e = never_none s content below after e
never_ends s (c ∷ ls) content below after e = never_none s c none (leaves_then ls (more content below after)) e

abbrev pub kind_of_row : RowKind → Kind
kind_of_row of_values = an_array
kind_of_row of_properties = an_object

no_gap_closes : (kind : Kind) → IsTrue (not (begins_gap (closing kind)))
no_gap_closes an_array = refl
no_gap_closes an_object = refl

closes_no_comma : (kind : Kind) (z u : List ℕ) → closing kind ∷ z ≡ 0x2C ∷ u → ⊥
closes_no_comma an_array z u e = let k : false ≡ true = ap (λ (n : ℕ). n == 0x2C) (heads e) in cc
closes_no_comma an_object z u e = let k : false ≡ true = ap (λ (n : ℕ). n == 0x2C) (heads e) in cc

items_no_comma : (t u : List ℕ) → t ≡ 0x2C ∷ u → IsTrue (starts begins_item (next t)) → ⊥
items_no_comma t u e h = let k : IsTrue (starts begins_item (next (0x2C ∷ u))) = subst (λ x. IsTrue (starts begins_item (next x))) e h in cc

module _ (o : Options) where
  property_begins : {name t r : List ℕ} {v : Plain} → IsProperty o t name v r → IsTrue (starts begins_item (next t))
  property_begins (named n g h v) = name_begins o n

  pub entry_starts : (kind : Kind) (t r : List ℕ) → IsEntry o kind t r → IsTrue (starts begins_item (next t))
  entry_starts an_array t r (v, h) = value_begins o h
  entry_starts an_object t r (name, v, h) = property_begins h

module _ (o : Options) (kind : Kind) (z : List ℕ) where
  -- what a node is, by what stands behind it
  pub data Read (content : Content) (below after : OrderedTree) : Type 0 where
    is_a_leaf : IsTrivia o content → below ≡ none → Read content below after
    is_entry : IsElement content → Stops (more content below after) → IsEntry o kind (printed_text (more content below after) ++ z) (printed_text after ++ z) → Read content below after
    is_a_comma : content ≡ token 0x2C → below ≡ none → Read content below after

  abbrev pub Last : Content → OrderedTree → OrderedTree → Type 0
  Last content below after = Stops (more content below after) × (printed_text (more content below after) ++ z ≡ closing kind ∷ z) × (after ≡ none) × (content ≡ token (closing kind)) × (below ≡ none)

  abbrev pub Reads : OrderedTree → Type 0
  Reads none = ⊥
  Reads (more content below after) = Last content below after ⊎ (Read content below after × Reads after)

  -- by the shape of a row
  trivia_reads : {t r : OrderedTree} → Trivia o t r → Reads r → Reads t
  trivia_reads shape.nothing k = k
  trivia_reads (shape.trivia h g) k = inr (is_a_leaf h refl, trivia_reads g k)

  comma_reads : {u : OrderedTree} → Reads u → Reads (token_then 0x2C u)
  comma_reads k = inr (is_a_comma refl refl, k)

  bracket_reads : {c : ℕ} → c ≡ closing kind → Mark c → Reads (token_then c none)
  bracket_reads e m = inl (tt, closing_text m z ∙ ap (λ x. x ∷ z) e, refl, ap token e, refl)

  closed_reads : {c : ℕ} {t : OrderedTree} → c ≡ closing kind → Mark c → Closed o c t → Reads t
  closed_reads e m (shape.plain g) = trivia_reads g (bracket_reads e m)
  closed_reads e m (shape.trailing_comma x g h) = trivia_reads g (comma_reads (trivia_reads h (bracket_reads e m)))

  separated_reads : {t r : OrderedTree} → Separated o t r → Reads r → Reads t
  separated_reads (shape.comma g h) k = trivia_reads g (comma_reads (trivia_reads h k))
  separated_reads (shape.no_comma x g) k = trivia_reads g k

  -- what stands from a node to another: entries and trivia
  pub data LooseTo (target : OrderedTree) : OrderedTree → Type 0 where
    there : {t : OrderedTree} → Trivia o t target → LooseTo target t
    past : {t : OrderedTree} {content : Content} {below after : OrderedTree} → Trivia o t (more content below after) → Stops (more content below after)
        → IsEntry o kind (printed_text (more content below after) ++ z) (printed_text after ++ z) → LooseTo target after → LooseTo target t

  pub leaf_first : {content : Content} {after target : OrderedTree} → IsTrivia o content → LooseTo target after → LooseTo target (more content none after)
  leaf_first h (there g) = there (shape.trivia h g)
  leaf_first h (past g s e k) = past (shape.trivia h g) s e k

  pub leaf_as : {content : Content} {below after target : OrderedTree} → IsTrivia o content → below ≡ none → LooseTo target after → LooseTo target (more content below after)
  leaf_as {content} {below} {after} {target} h e k = subst (λ w. LooseTo target (more content w after)) (sym e) (leaf_first h k)

  pub trivia_no_token : (content : Content) → IsTrue (is_trivia content) → content ≡ token 0x2C → ⊥
  trivia_no_token content h e = let k : IsTrue (is_trivia (token 0x2C)) = subst (λ c. IsTrue (is_trivia c)) e h in cc

  pub trivia_passes : (content : Content) → IsTrue (is_trivia content) → IsElement content → ⊥
  trivia_passes (Content.whitespace s) h k = cc
  trivia_passes (Content.newline s) h k = cc
  trivia_passes (Content.comment s) h k = cc
  trivia_passes content h k = cc

  behind_leaves : (before : List Content) (content : Content) (below rest : OrderedTree) → Reads (leaves_then before (more content below rest)) → AreTrivia before → LooseTo (more content below rest) (leaves_then before (more content below rest))
  behind_leaves [] c b r reads k = there shape.nothing
  behind_leaves (x ∷ before) c b r (inl l) k = absurd (never_ends none before c b r l.2)
  behind_leaves (x ∷ before) c b r (inr (is_a_leaf t e, reads)) k = leaf_first t (behind_leaves before c b r reads k.1)
  behind_leaves (x ∷ before) c b r (inr (is_entry p s q, reads)) k = absurd (trivia_passes x k.0 p)
  behind_leaves (x ∷ before) c b r (inr (is_a_comma e n0, reads)) k = absurd (trivia_no_token x k.0 e)

  pub loose_to : (mid : OrderedTree) (before : List Content) (content : Content) (below rest : OrderedTree) → Reads (followed_by mid (leaves_then before (more content below rest))) → IsTrue (has_no_comma mid) → AreTrivia before
      → LooseTo (more content below rest) (followed_by mid (leaves_then before (more content below rest)))
  loose_to none before c b r reads h k = behind_leaves before c b r reads k
  loose_to (more x w mid) before c b r (inl l) h k = absurd (never_ends mid before c b r l.2)
  loose_to (more x w mid) before c b r (inr (is_a_leaf t e, reads)) h k = leaf_as t e (loose_to mid before c b r reads (and_both (not (is_comma x)) (has_no_comma mid) h).1 k)
  loose_to (more x w mid) before c b r (inr (is_entry p s q, reads)) h k = past shape.nothing s q (loose_to mid before c b r reads (and_both (not (is_comma x)) (has_no_comma mid) h).1 k)
  loose_to (more x w mid) before c b r (inr (is_a_comma e n0, reads)) h k = let n : IsTrue (not (is_comma (token 0x2C))) = subst (λ y. IsTrue (not (is_comma y))) e (and_both (not (is_comma x)) (has_no_comma mid) h).0 in cc

  pub loose_text : {target t : OrderedTree} → Stops target → LinesEndLoosely true false t → LooseTo target t → Loose o (printed_text t ++ z) (printed_text target ++ z)
  loose_text s l (there g) = leaving.gap (trivia_gap o z true false (λ e. cc) s g l).0
  loose_text s l (past g st e k) = let m = trivia_gap o z true false (λ e. cc) st g l in leaving.entry kind m.0 e (loose_text s m.1.2 k)

  -- behind a stretch the row reads on, and its lines end
  pub reads_on : (s : OrderedTree) (content : Content) (below rest : OrderedTree) → Reads (followed_by s (more content below rest)) → Reads (more content below rest)
  reads_on none c b r reads = reads
  reads_on (more x w s) c b r (inl l) = absurd (never_none s c b r l.2)
  reads_on (more x w s) c b r (inr (x1, reads)) = reads_on s c b r reads

  pub reads_past : (ls : List Content) (content : Content) (below rest : OrderedTree) → Reads (leaves_then ls (more content below rest)) → Reads (more content below rest)
  reads_past [] c b r reads = reads
  reads_past (x ∷ ls) c b r (inl l) = absurd (never_ends none ls c b r l.2)
  reads_past (x ∷ ls) c b r (inr (x1, reads)) = reads_past ls c b r reads

  pub behind_entry : (content : Content) (below rest : OrderedTree) → IsElement content → Reads (more content below rest) → Reads rest
  behind_entry c b r h (inl l) = let k : IsElement (token (closing kind)) = subst IsElement l.3 h in cc
  behind_entry c b r h (inr (x1, reads)) = reads

  -- an entry, by what stands behind it
  pub entry_read : (content : Content) (below rest : OrderedTree) → IsElement content → Reads (more content below rest) → IsEntry o kind (printed_text (more content below rest) ++ z) (printed_text rest ++ z)
  entry_read c b r h (inl l) = let k : IsElement (token (closing kind)) = subst IsElement l.3 h in cc
  entry_read c b r h (inr (is_a_leaf t e, reads)) = absurd (leaf_no_entry c h t)
    where
      leaf_no_entry : (content : Content) → IsElement content → IsTrivia o content → ⊥
      leaf_no_entry (Content.whitespace s) p q = cc
      leaf_no_entry (Content.newline k) p q = cc
      leaf_no_entry (Content.comment s) p q = cc
      leaf_no_entry content p q = q
  entry_read c b r h (inr (is_entry p s q, reads)) = q
  entry_read c b r h (inr (is_a_comma e n0, reads)) = let k : IsElement (token 0x2C) = subst IsElement e h in cc

  pub behind_comma : (s : OrderedTree) (ls : List Content) (content : Content) (below rest : OrderedTree) → Reads (token_then 0x2C (followed_by s (leaves_then ls (more content below rest)))) → Reads (followed_by s (leaves_then ls (more content below rest)))
  behind_comma s ls c b r (inl l) = absurd (never_ends s ls c b r l.2)
  behind_comma s ls c b r (inr (x1, reads)) = reads

  -- where no comma comes
  record Found (row : OrderedTree) : Type 0 where
    target : OrderedTree
    trivia : Trivia o row target
    stops : Stops target
    begins : IsTrue (no begins_gap (next (printed_text target ++ z)))
    other : (u : List ℕ) → printed_text target ++ z ≡ 0x2C ∷ u → ⊥

  found_past : {content : Content} {below after : OrderedTree} → IsTrivia o content → below ≡ none → Found after → Found (more content below after)
  found_past {content} {below} {after} h e f = record { target = f.target; trivia = subst (λ w. Trivia o (more content w after) f.target) (sym e) (shape.trivia h f.trivia); stops = f.stops; begins = f.begins; other = f.other }

  leaf_trivia : (content : Content) → IsTrivia o content → IsTrue (is_trivia content)
  leaf_trivia (Content.whitespace s) h = refl
  leaf_trivia (Content.newline k) h = refl
  leaf_trivia (Content.comment s) h = refl
  leaf_trivia content h = absurd h

  comes_past : (content : Content) (below after : OrderedTree) → IsTrue (is_trivia content) → comma_comes (more content below after) ≡ comma_comes after
  comes_past content below after h = rw h refl

  find : (row : OrderedTree) → Reads row → IsTrue (not (comma_comes row)) → Found row
  find none r h = absurd r
  find (more x w after) (inl l) h = record {
    target = more x w after;
    trivia = shape.nothing;
    stops = l.0;
    begins = subst (λ t. IsTrue (no begins_gap (next t))) (sym l.1) (no_gap_closes kind);
    other = λ u e. closes_no_comma kind z u (sym l.1 ∙ e);
  }
  find (more x w after) (inr (is_a_leaf t e, reads)) h = found_past t e (find after reads (subst (λ b. IsTrue (not b)) (comes_past x w after (leaf_trivia x t)) h))
  find (more x w after) (inr (is_entry p s q, reads)) h =
      let starts_so = entry_starts o kind (printed_text (more x w after) ++ z) (printed_text after ++ z) q in
      record { target = more x w after; trivia = shape.nothing; stops = s; begins = not_gap (printed_text (more x w after) ++ z) starts_so; other = λ u e. items_no_comma (printed_text (more x w after) ++ z) u e starts_so }
  find (more x w after) (inr (is_a_comma e n0, reads)) h = let n : IsTrue (not (comma_comes (more (token 0x2C) w after))) = subst (λ y. IsTrue (not (comma_comes (more y w after)))) e h in cc

  pub none_comes : (row : OrderedTree) → Reads row → LinesEndLoosely true false row → IsTrue (not (comma_comes row)) → NoCommaComes o (printed_text row ++ z)
  none_comes row reads l h u g =
      let f = find row reads h in
      f.other u (gap_unique (trivia_gap o z true false (λ e. cc) f.stops f.trivia l).0 g f.begins refl)

-- to the last bracket, where neither a comma nor an entry comes
module _ (o : Options) (kind : Kind) (z : List ℕ) where
  record FoundLast (row : OrderedTree) : Type 0 where
    target : OrderedTree
    trivia : Trivia o row target
    stops : Stops target
    closes : printed_text target ++ z ≡ closing kind ∷ z

  found_last : {content : Content} {below after : OrderedTree} → IsTrivia o content → below ≡ none → FoundLast after → FoundLast (more content below after)
  found_last {content} {below} {after} h e f = record { target = f.target; trivia = subst (λ w. Trivia o (more content w after) f.target) (sym e) (shape.trivia h f.trivia); stops = f.stops; closes = f.closes }

  uncounted : (content : Content) (below after : OrderedTree) → IsTrivia o content → element_count (more content below after) ≡ element_count after
  uncounted (Content.whitespace s) below after h = refl
  uncounted (Content.newline k) below after h = refl
  uncounted (Content.comment s) below after h = refl
  uncounted content below after h = absurd h

  counted : (content : Content) (below after : OrderedTree) → IsElement content → element_count (more content below after) ≡ 0 → ⊥
  counted content below after h e =
      let one : element_count (more content below after) ≡ suc (element_count after) = rw h refl in
      let wrong : suc (element_count after) ≡ 0 = sym one ∙ e in
      absurd (omega (arith, wrong))

  last_found : (row : OrderedTree) → Reads o kind z row → IsTrue (not (comma_comes row)) → element_count row ≡ 0 → FoundLast row
  last_found none r h c = absurd r
  last_found (more x w after) (inl l) h c = record { target = more x w after; trivia = shape.nothing; stops = l.0; closes = l.1 }
  last_found (more x w after) (inr (is_a_leaf t e, reads)) h c =
      found_last t e (last_found after reads (subst (λ b. IsTrue (not b)) (comes_past o kind z x w after (leaf_trivia o kind z x t)) h) (sym (uncounted x w after t) ∙ c))
  last_found (more x w after) (inr (is_entry p s q, reads)) h c = absurd (counted x w after p c)
  last_found (more x w after) (inr (is_a_comma e n0, reads)) h c = let n : IsTrue (not (comma_comes (more (token 0x2C) w after))) = subst (λ y. IsTrue (not (comma_comes (more y w after)))) e h in cc

  pub closing_gap : (row : OrderedTree) → Reads o kind z row → LinesEndLoosely true false row → IsTrue (not (comma_comes row)) → element_count row ≡ 0 → Gap o (printed_text row ++ z) (closing kind ∷ z)
  closing_gap row reads l h c =
      let f = last_found row reads h c in
      subst (Gap o (printed_text row ++ z)) f.closes (trivia_gap o z true false (λ e. cc) f.stops f.trivia l).0

-- from the last comma, or from the bracket
module _ (o : Options) (kind : Kind) (z : List ℕ) (ls : List Content) (are : AreTrivia ls) (c : Content) (b r : OrderedTree) where
  abbrev Target : OrderedTree
  Target = more c b r

  abbrev Tail : OrderedTree
  Tail = leaves_then ls Target

  -- each node of the row is a leaf of trivia
  abbrev pub AreLeaves : OrderedTree → Type 0
  AreLeaves none = Unit {0}
  AreLeaves (more x w s) = IsTrivia o x × (w ≡ none) × AreLeaves s

  pub data Ended (last : Rows.Last) (s : OrderedTree) : Type 0 where
    all_trivia : IsTrue (takes_element last) → Trivia o (followed_by s Tail) Target → AreLeaves s → Ended last s
    behind_one : (s1 s2 : OrderedTree) → s ≡ followed_by s1 (token_then 0x2C s2) → Trivia o (followed_by s2 Tail) Target → AreLeaves s2 → Ended last s

  pub trivia_leaves : (l : List Content) → AreTrivia l → Reads o kind z (leaves_then l Target) → Trivia o (leaves_then l Target) Target
  trivia_leaves [] h k = shape.nothing
  trivia_leaves (x ∷ l) h (inl m) = absurd (never_ends none l c b r m.2)
  trivia_leaves (x ∷ l) h (inr (is_a_leaf t e, k)) = shape.trivia t (trivia_leaves l h.1 k)
  trivia_leaves (x ∷ l) h (inr (is_entry p s q, k)) = absurd (trivia_passes o kind z x h.0 p)
  trivia_leaves (x ∷ l) h (inr (is_a_comma e n0, k)) = absurd (trivia_no_token o kind z x h.0 e)

  same_last : (last : Rows.Last) (x : Content) → IsTrivia o x → Rows.last_after last x ≡ last
  same_last last (Content.whitespace s) h = refl
  same_last last (Content.newline k) h = refl
  same_last last (Content.comment s) h = refl
  same_last last x h = absurd h

  element_last : (last : Rows.Last) (x : Content) → IsElement x → Rows.last_after last x ≡ Rows.an_element
  element_last last (Content.whitespace s) h = cc
  element_last last (Content.newline k) h = cc
  element_last last (Content.comment s) h = cc
  element_last last (Content.token k) h = cc
  element_last last x h = refl

  past_leaf : {last : Rows.Last} (x : Content) (w s : OrderedTree) → IsTrivia o x → w ≡ none → Ended last s → Ended last (more x w s)
  past_leaf x w s t e (all_trivia h f a) = all_trivia h (subst (λ y. Trivia o (more x y (followed_by s Tail)) Target) (sym e) (shape.trivia t f)) (t, e, a)
  past_leaf {last} x w s t e (behind_one s1 s2 q f a) = behind_one (more x w s1) s2 (ap (more x w) q) f a

  past_entry : {last : Rows.Last} (x : Content) (w s : OrderedTree) → Ended Rows.an_element s → Ended last (more x w s)
  past_entry x w s (all_trivia h f a) = cc
  past_entry x w s (behind_one s1 s2 q f a) = behind_one (more x w s1) s2 (ap (more x w) q) f a

  past_comma : {last : Rows.Last} (x : Content) (w s : OrderedTree) → x ≡ token 0x2C → w ≡ none → Ended Rows.a_comma s → Ended last (more x w s)
  past_comma x w s e n0 (all_trivia h f a) = behind_one none s (ap (λ y. more y w s) e ∙ ap (λ y. more (token 0x2C) y s) n0) f a
  past_comma x w s e n0 (behind_one s1 s2 q f a) = behind_one (more x w s1) s2 (ap (more x w) q) f a

  pub ended : (s : OrderedTree) (last : Rows.Last) → Reads o kind z (followed_by s Tail) → IsTrue (takes_element (Rows.last_behind last s)) → Ended last s
  ended none last k h = all_trivia h (trivia_leaves ls are k) tt
  ended (more x w s) last (inl m) h = absurd (never_ends s ls c b r m.2)
  ended (more x w s) last (inr (is_a_leaf t e, k)) h = past_leaf x w s t e (ended s last k (subst (λ l. IsTrue (takes_element (Rows.last_behind l s))) (same_last last x t) h))
  ended (more x w s) last (inr (is_entry p st q, k)) h = past_entry x w s (ended s Rows.an_element k (subst (λ l. IsTrue (takes_element (Rows.last_behind l s))) (element_last last x p) h))
  ended (more x w s) last (inr (is_a_comma e n0, k)) h = past_comma x w s e n0 (ended s Rows.a_comma k (subst (λ y. IsTrue (takes_element (Rows.last_behind (Rows.last_after last y) s))) e h))

-- the rows of arrays and of objects
module _ (o : Options) (z : List ℕ) where
  elements_read : {row : OrderedTree} → ElementsShaped o row → LinesEndLoosely true false row → Reads o an_array z row
  elements_read (shape.last_element {content = content} {below = below} {after = after} v c) l =
      let one = value_stands o (printed_text after ++ z) (carries_more o (printed_text after) z (closed_some o close_bracket_mark c)) v l.1 in
      inr (is_entry (value_element v) (value_stops after v) (one.0, subst (λ t. grammar.IsValue o t one.0 (printed_text after ++ z)) (node_text o content below after z (value_utf8 o v)) one.1), closed_reads o an_array z refl close_bracket_mark c)
  elements_read (shape.element {content = content} {below = below} {after = after} v s g) l =
      let one = value_stands o (printed_text after ++ z) (carries_more o (printed_text after) z (separated_some o s (elements_some o g))) v l.1 in
      let gap = separated_stands o z (elements_stop g) s l.2 in
      inr (is_entry (value_element v) (value_stops after v) (one.0, subst (λ t. grammar.IsValue o t one.0 (printed_text after ++ z)) (node_text o content below after z (value_utf8 o v)) one.1), separated_reads o an_array z s (elements_read g gap.1))

  properties_read : {row : OrderedTree} → PropertiesShaped o row → LinesEndLoosely true false row → Reads o an_object z row
  properties_read (shape.last_property {below = below} {after = after} v c) l =
      let one = property_stands o (printed_text after ++ z) (carries_more o (printed_text after) z (closed_some o close_brace_mark c)) v l.1 in
      inr (is_entry refl tt (one.0, one.1, subst (λ t. IsProperty o t one.0 one.1 (printed_text after ++ z)) (node_text o Content.property below after z (property_utf8 o v)) one.2), closed_reads o an_object z refl close_brace_mark c)
  properties_read (shape.property {below = below} {after = after} v s g) l =
      let one = property_stands o (printed_text after ++ z) (carries_more o (printed_text after) z (separated_some o s (properties_some o g))) v l.1 in
      let gap = separated_stands o z (properties_stop g) s l.2 in
      inr (is_entry refl tt (one.0, one.1, subst (λ t. IsProperty o t one.0 one.1 (printed_text after ++ z)) (node_text o Content.property below after z (property_utf8 o v)) one.2), separated_reads o an_object z s (properties_read g gap.1))

  array_read : {row : OrderedTree} → ValueHere o (container_of of_values row) z → Reads o an_array z row × LinesEndLoosely true false row
  array_read here = by here.shaped here.lines
    where
      by : {row : OrderedTree} {r : List ℕ} → ValueShaped o Content.array (token_then 0x5B row) r → LinesEndLoosely true false (token_then 0x5B row) → Reads o an_array z row × LinesEndLoosely true false row
      by (shape.empty_array g) l = (trivia_reads o an_array z g (bracket_reads o an_array z refl close_bracket_mark), l.2)
      by (shape.array g es) l =
          let gap = trivia_gap o z true false (λ e. cc) (elements_stop es) g l.2 in
          (trivia_reads o an_array z g (elements_read es gap.1), l.2)

  object_read : {row : OrderedTree} → ValueHere o (container_of of_properties row) z → Reads o an_object z row × LinesEndLoosely true false row
  object_read here = by here.shaped here.lines
    where
      by : {row : OrderedTree} {r : List ℕ} → ValueShaped o Content.object (token_then 0x7B row) r → LinesEndLoosely true false (token_then 0x7B row) → Reads o an_object z row × LinesEndLoosely true false row
      by (shape.empty_object g) l = (trivia_reads o an_object z g (bracket_reads o an_object z refl close_brace_mark), l.2)
      by (shape.object g ps) l =
          let gap = trivia_gap o z true false (λ e. cc) (properties_stop ps) g l.2 in
          (trivia_reads o an_object z g (properties_read ps gap.1), l.2)

  pub row_reads : (kind : RowKind) {row : OrderedTree} → ValueHere o (container_of kind row) z → Reads o (kind_of_row kind) z row × LinesEndLoosely true false row
  row_reads of_values here = array_read here
  row_reads of_properties here = object_read here
