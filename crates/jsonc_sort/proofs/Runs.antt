-- Sorted rows of sound documents: trivia, commas, and whole elements with commas between them.
use Rattle.std.proofs.Common.{◌≡◌, ℕ, zero, suc, ◌≤◌, Bool, true, false, not, ◌||◌, List, [], ◌∷◌, ◌++◌, take, drop, Option, Some, None, IsTrue, refl, sym, ap, subst, ◌∙◌, arith, inl, inr}
use Rattle.std.proofs.lemmas.Bool.{cases_Bool}
use Rattle.jsonc_text.specs.Options.{Options}
use Rattle.jsonc_text.specs.Text.{starts}
use Rattle.jsonc_tree.specs.Content.{Content, token}
use Rattle.jsonc_tree.specs.OrderedTree.{OrderedTree, Top, none, more, leaves}
use Rattle.jsonc_layout.specs.nodes.Kinds.{is_comma}
use Rattle.jsonc_sound.specs.Shape.{IsTrivia, token_then}
use Rattle.jsonc_sound.specs.Adjacent.{first_char, last_printed, LeavesEnd}
use Rattle.jsonc_sound.specs.Alone as alone
use Rattle.jsonc_sound.specs.Alone.{may_stand, PartAlone, RowAlone, StretchAlone}
use Rattle.jsonc_sound.specs.Rows as rows
use Rattle.jsonc_sound.specs.Rows.{Last, RowKind}
use Rattle.jsonc_sound.specs.Spaces.{first_printed, is_bare, is_bare_leaf, meet}
use Rattle.jsonc_sound.proofs.Commas.{stretches_join, and_false, false_and}
use Rattle.jsonc_sound.proofs.Texts.{comma_first}
use Rattle.jsonc_edit.proofs.LeafKinds.{first_not_bare, trivia_no_comma}
use Rattle.jsonc_sort.specs.Slots.{Slot, all_stay, row_in, row_then, top_in}
use Rattle.jsonc_sort.specs.Parts.{has_comma, is_comma_at, through_comma}
use Rattle.jsonc_sort.specs.Laws.{content_of}
use Rattle.jsonc_sort.proofs.Choices.{Each, choose, each_drop, each_take}

-- by what a leaf is
quiet_ends : (o : Options) (c : Content) → IsTrivia o c → LeavesEnd o (leaves (more c none none)) None
quiet_ends o (Content.whitespace s) h = (tt, tt)
quiet_ends o (Content.newline k) h = (tt, tt)
quiet_ends o (Content.comment s) h = (tt, tt)
quiet_ends o c h = absurd h

abbrev NoneMeets : Content → Type 0
NoneMeets c = (ls : List Content) → meet (leaves (more c none none)) ls ≡ false

no_bare_last : (c : Content) → is_bare c ≡ false → is_bare_leaf (last_printed (c ∷ [])) ≡ false
no_bare_last c h = choose (λ (l : Option Content). is_bare_leaf l ≡ false) (starts (λ x. true) (first_char c)) (Some c) None h refl

quiet_meets : (o : Options) (c : Content) → IsTrivia o c → NoneMeets c
quiet_meets o (Content.whitespace s) h ls = false_and _ _ (no_bare_last (Content.whitespace s) refl)
quiet_meets o (Content.newline k) h ls = false_and _ _ (no_bare_last (Content.newline k) refl)
quiet_meets o (Content.comment s) h ls = false_and _ _ (no_bare_last (Content.comment s) refl)
quiet_meets o c h ls = absurd h

comma_meets : NoneMeets (token 0x2C)
comma_meets ls = false_and _ _ (no_bare_last (token 0x2C) refl)

quiet_first : (o : Options) (c : Content) (row : OrderedTree) → IsTrivia o c → is_bare_leaf (first_printed (leaves row)) ≡ false → is_bare_leaf (first_printed (leaves (more c none row))) ≡ false
quiet_first o (Content.whitespace s) row h k = first_not_bare (Content.whitespace s) (leaves row) refl k
quiet_first o (Content.newline n) row h k = first_not_bare (Content.newline n) (leaves row) refl k
quiet_first o (Content.comment s) row h k = first_not_bare (Content.comment s) (leaves row) refl k
quiet_first o c row h k = absurd h

comma_first_printed : (row : OrderedTree) → is_bare_leaf (first_printed (leaves (token_then 0x2C row))) ≡ false
comma_first_printed row = rw comma_first refl

over_no_element : (b : Bool) → IsTrue b → not b ≡ false
over_no_element true h = refl
over_no_element false h = cc

module _ (o : Options) (kind : RowKind) (top : ℕ → Top) where
  abbrev at : ℕ → Content
  at = content_of top

  -- trivia, a comma, an element
  pub record IsQuiet (t : Top) : Type 0 where
    pub trivia : IsTrivia o t.content
    pub bare : t.below ≡ none

  pub record IsComma (t : Top) : Type 0 where
    pub is : t.content ≡ token 0x2C
    pub bare : t.below ≡ none

  pub record IsWhole (t : Top) : Type 0 where
    pub part : PartAlone o kind t.content t.below
    pub ends : LeavesEnd o (leaves (more t.content t.below none)) None

  -- no element stands last
  abbrev pub Parted : Last → Type 0
  Parted rows.nothing_yet = Unit {0}
  Parted rows.an_element = ⊥
  Parted rows.a_comma = Unit {0}

  stands_parted : (last : Last) → Parted last → IsTrue (may_stand o last)
  stands_parted rows.nothing_yet h = refl
  stands_parted rows.an_element h = absurd h
  stands_parted rows.a_comma h = refl

  -- a stretch of a row in which a comma parts each two elements, by what stands last before it and behind it
  pub data Runs : Last → List Slot → Last → Type 0 where
    over : {last : Last} → Runs last [] last
    quiet : {last to : Last} {s : Slot} {xs : List Slot} → IsQuiet (top_in top s) → Runs last xs to → Runs last (s ∷ xs) to
    whole : {last to : Last} {s : Slot} {xs : List Slot} → Parted last → IsWhole (top_in top s) → Runs rows.an_element xs to → Runs last (s ∷ xs) to
    comma : {to : Last} {s : Slot} {xs : List Slot} → IsComma (top_in top s) → Runs rows.a_comma xs to → Runs rows.an_element (s ∷ xs) to

  pub runs_joined : {last mid to : Last} {xs ys : List Slot} → Runs last xs mid → Runs mid ys to → Runs last (xs ++ ys) to
  runs_joined Runs.over r = r
  runs_joined (Runs.quiet q h) r = Runs.quiet q (runs_joined h r)
  runs_joined (Runs.whole p w h) r = Runs.whole p w (runs_joined h r)
  runs_joined (Runs.comma c h) r = Runs.comma c (runs_joined h r)

  -- it is one node by node
  trivia_alone : {last to : Last} (t : Top) {row : OrderedTree} → IsQuiet t → StretchAlone o kind last row to → StretchAlone o kind last (more t.content t.below row) to
  trivia_alone {last} {to} t {row} q h = subst (λ b. StretchAlone o kind last (more t.content b row) to) (sym q.bare) (alone.past_trivia q.trivia h)

  comma_alone : {to : Last} (t : Top) {row : OrderedTree} → IsComma t → StretchAlone o kind rows.a_comma row to → StretchAlone o kind rows.an_element (more t.content t.below row) to
  comma_alone {to} t {row} q h =
      subst (λ c. StretchAlone o kind rows.an_element (more c t.below row) to) (sym q.is) (subst (λ b. StretchAlone o kind rows.an_element (more (token 0x2C) b row) to) (sym q.bare) (alone.past_comma h))

  pub runs_alone : {last to : Last} {xs : List Slot} → Runs last xs to → StretchAlone o kind last (row_in top xs) to
  runs_alone Runs.over = alone.stays
  runs_alone (Runs.quiet {s = s} q h) = trivia_alone (top_in top s) q (runs_alone h)
  runs_alone (Runs.whole {last = last} p w h) = alone.past_element (stands_parted last p) w.part (runs_alone h)
  runs_alone (Runs.comma {s = s} c h) = comma_alone (top_in top s) c (runs_alone h)

  -- with a row behind it
  pub runs_then : {last to : Last} {xs : List Slot} {rest : OrderedTree} → Runs last xs to → RowAlone o kind to rest → RowAlone o kind last (row_then top xs rest)
  runs_then Runs.over g = g
  runs_then {rest = rest} (Runs.quiet {last = last} {s = s} {xs = xs} q h) g = subst (λ b. RowAlone o kind last (more (top_in top s).content b (row_then top xs rest))) (sym q.bare) (alone.trivia q.trivia (runs_then h g))
  runs_then (Runs.whole {last = last} p w h) g = alone.element (stands_parted last p) w.part (runs_then h g)
  runs_then {rest = rest} (Runs.comma {s = s} {xs = xs} c h) g =
      subst (λ x. RowAlone o kind rows.an_element (more x (top_in top s).below (row_then top xs rest))) (sym c.is)
      (subst (λ b. RowAlone o kind rows.an_element (more (token 0x2C) b (row_then top xs rest))) (sym c.bare) (alone.comma (runs_then h g)))

  abbrev Behind : Last → Type 0
  Behind rows.nothing_yet = ⊥
  Behind rows.an_element = Unit {0}
  Behind rows.a_comma = ⊥

  neither : (last : Last) → Parted last → Behind last → ⊥
  neither rows.nothing_yet p b = b
  neither rows.an_element p b = p
  neither rows.a_comma p b = b

  -- behind an element what is printed first is no literal without quotes
  runs_first : {to : Last} {xs : List Slot} → Runs rows.an_element xs to → is_bare_leaf (first_printed (leaves (row_in top xs))) ≡ false
  runs_first {to} {xs} h = by h tt
    where
      by : {last to : Last} {xs : List Slot} → Runs last xs to → Behind last → is_bare_leaf (first_printed (leaves (row_in top xs))) ≡ false
      by Runs.over b = refl
      by (Runs.quiet {s = s} {xs = xs} q h) b = subst (λ below. is_bare_leaf (first_printed (leaves (more (top_in top s).content below (row_in top xs)))) ≡ false) (sym q.bare) (quiet_first o (top_in top s).content (row_in top xs) q.trivia (by h b))
      by (Runs.whole {last = last} p w h) b = absurd (neither last p b)
      by (Runs.comma {s = s} {xs = xs} c h) b =
          subst (λ (t : Content). is_bare_leaf (first_printed (leaves (more t (top_in top s).below (row_in top xs)))) ≡ false) (sym c.is)
          (subst (λ below. is_bare_leaf (first_printed (leaves (more (token 0x2C) below (row_in top xs)))) ≡ false) (sym c.bare) (comma_first_printed (row_in top xs)))

  -- and its leaves end
  pub runs_end : {last to : Last} {xs : List Slot} → Runs last xs to → LeavesEnd o (leaves (row_in top xs)) None
  runs_end Runs.over = tt
  runs_end (Runs.quiet {last = last} {s = s} {xs = xs} q h) =
      let t : Top = top_in top s in
      subst (λ below. LeavesEnd o (leaves (more t.content below (row_in top xs))) None) (sym q.bare)
      (stretches_join o kind {last = last} {mid = last} (more t.content none none) (row_in top xs) (alone.past_trivia q.trivia alone.stays) (runs_alone h) (quiet_ends o t.content q.trivia) (runs_end h) (quiet_meets o t.content q.trivia (leaves (row_in top xs))))
  runs_end (Runs.whole {last = last} {s = s} {xs = xs} p w h) =
      let t : Top = top_in top s in
      stretches_join o kind {last = last} {mid = rows.an_element} (more t.content t.below none) (row_in top xs) (alone.past_element (stands_parted last p) w.part alone.stays) (runs_alone h) w.ends (runs_end h) (and_false _ _ (runs_first h))
  runs_end (Runs.comma {s = s} {xs = xs} c h) =
      let t : Top = top_in top s in
      subst (λ (x : Content). LeavesEnd o (leaves (more x t.below (row_in top xs))) None) (sym c.is)
      (subst (λ below. LeavesEnd o (leaves (more (token 0x2C) below (row_in top xs))) None) (sym c.bare)
      (stretches_join o kind {last = rows.an_element} {mid = rows.a_comma} (token_then 0x2C none) (row_in top xs) (alone.past_comma alone.stays) (runs_alone h) (tt, tt) (runs_end h) (comma_meets (leaves (row_in top xs)))))

  -- trivia alone, and trivia with at most one comma behind an element
  abbrev pub Quiets : List ℕ → Type 0
  Quiets row = Each (λ n. IsQuiet (top n)) row

  pub data Gap : Last → List ℕ → Last → Type 0 where
    gap_over : {last : Last} → Gap last [] last
    gap_quiet : {last to : Last} {n : ℕ} {xs : List ℕ} → IsQuiet (top n) → Gap last xs to → Gap last (n ∷ xs) to
    gap_comma : {to : Last} {n : ℕ} {xs : List ℕ} → IsComma (top n) → Gap rows.a_comma xs to → Gap rows.an_element (n ∷ xs) to

  pub runs_quiets : {last : Last} (xs : List ℕ) → Quiets xs → Runs last (all_stay xs) last
  runs_quiets [] h = Runs.over
  runs_quiets (n ∷ xs) h = Runs.quiet h.0 (runs_quiets xs h.1)

  pub runs_gap : {last to : Last} {xs : List ℕ} → Gap last xs to → Runs last (all_stay xs) to
  runs_gap Gap.gap_over = Runs.over
  runs_gap (Gap.gap_quiet q g) = Runs.quiet q (runs_gap g)
  runs_gap (Gap.gap_comma c g) = Runs.comma c (runs_gap g)

  gap_quiets : {last : Last} (xs : List ℕ) → Quiets xs → Gap last xs last
  gap_quiets [] h = Gap.gap_over
  gap_quiets (n ∷ xs) h = Gap.gap_quiet h.0 (gap_quiets xs h.1)

  -- a gap where no element stands before is trivia, and so is one without a comma
  pub quiet_gap : {last to : Last} {xs : List ℕ} → Parted last → Gap last xs to → Quiets xs × (to ≡ last)
  quiet_gap p Gap.gap_over = (tt, refl)
  quiet_gap p (Gap.gap_quiet q g) = let rest = quiet_gap p g in ((q, rest.0), rest.1)
  quiet_gap p (Gap.gap_comma c g) = absurd p

  pub other_no_comma : (n : ℕ) → IsQuiet (top n) → is_comma_at at n ≡ false
  other_no_comma n q = trivia_no_comma o (at n) q.trivia

  pub comma_is : (n : ℕ) → IsComma (top n) → is_comma_at at n ≡ true
  comma_is n c = ap is_comma c.is

  or_false : (a b : Bool) → a ≡ false → a || b ≡ b
  or_false true b h = cc
  or_false false b h = refl

  or_true : (a b : Bool) → a ≡ true → a || b ≡ true
  or_true true b h = refl
  or_true false b h = cc

  pub no_comma_gap : {last to : Last} {xs : List ℕ} → Gap last xs to → has_comma at xs ≡ false → Quiets xs × (to ≡ last)
  no_comma_gap Gap.gap_over e = (tt, refl)
  no_comma_gap (Gap.gap_quiet {n = n} {xs = xs} q g) e = let rest = no_comma_gap g (sym (or_false _ _ (other_no_comma n q)) ∙ e) in ((q, rest.0), rest.1)
  no_comma_gap (Gap.gap_comma {n = n} {xs = xs} c g) e = let yes : has_comma at (n ∷ xs) ≡ true = or_true _ _ (comma_is n c) in cc

  pub comma_gap : {last to : Last} {xs : List ℕ} → Gap last xs to → has_comma at xs ≡ true → to ≡ rows.a_comma
  comma_gap Gap.gap_over e = cc
  comma_gap (Gap.gap_quiet {n = n} q g) e = comma_gap g (sym (or_false _ _ (other_no_comma n q)) ∙ e)
  comma_gap (Gap.gap_comma c g) e = (quiet_gap tt g).1

  -- cut behind its comma
  through_past : (n : ℕ) (xs : List ℕ) (k : ℕ) → is_comma_at at n ≡ false → through_comma at (n ∷ xs) ≤ suc k → through_comma at xs ≤ k
  through_past n xs k e h =
      elim (cases_Bool (has_comma at xs)) [
        | inl c ↦ omega (arith, rw (e, c) at h)
        | inr c ↦ omega (arith, none_through xs c)
      ]
    where
      none_through : (xs : List ℕ) → has_comma at xs ≡ false → through_comma at xs ≡ 0
      none_through [] c = refl
      none_through (n ∷ xs) c =
          elim (cases_Bool (is_comma_at at n)) [
            | inl e ↦ (let yes : has_comma at (n ∷ xs) ≡ true = or_true _ _ e in cc)
            | inr e ↦ rw (e, sym (or_false (is_comma_at at n) (has_comma at xs) e) ∙ c) refl
          ]

  none_before : (n : ℕ) (xs : List ℕ) → is_comma_at at n ≡ false → through_comma at (n ∷ xs) ≤ 0 → has_comma at xs ≡ false
  none_before n xs e h =
      elim (cases_Bool (has_comma at xs)) [
        | inl c ↦ absurd (omega (arith, rw (e, c) at h))
        | inr c ↦ c
      ]

  pub cut_gap : {last to : Last} (xs : List ℕ) (k : ℕ) → Gap last xs to → through_comma at xs ≤ k → Gap last (take k xs) to × Quiets (drop k xs)
  cut_gap {last} {to} xs zero g h = by g h
    where
      by : {last to : Last} {xs : List ℕ} → Gap last xs to → through_comma at xs ≤ 0 → Gap last [] to × Quiets xs
      by Gap.gap_over h = (Gap.gap_over, tt)
      by (Gap.gap_quiet {last = last} {n = n} {xs = xs} q g) h =
          let rest = no_comma_gap g (none_before n xs (other_no_comma n q) h) in (subst (Gap last []) (sym rest.1) Gap.gap_over, (q, rest.0))
      by (Gap.gap_comma {n = n} c g) h = absurd (omega (arith, rw (comma_is n c) at h))
  cut_gap xs (suc k) Gap.gap_over h = (Gap.gap_over, tt)
  cut_gap (n ∷ xs) (suc k) (Gap.gap_quiet q g) h = let rest = cut_gap xs k g (through_past n xs k (other_no_comma n q) h) in (Gap.gap_quiet q rest.0, rest.1)
  cut_gap (n ∷ xs) (suc k) (Gap.gap_comma c g) h =
      let rest = quiet_gap tt g in
      (subst (Gap rows.an_element (n ∷ take k xs)) (sym rest.1) (Gap.gap_comma c (gap_quiets (take k xs) (each_take (λ m. IsQuiet (top m)) k xs rest.0))), each_drop (λ m. IsQuiet (top m)) k xs rest.0)
