-- Where the entries of a row come in another order, they do so in the text, each with what goes with it.
use Rattle.std.proofs.Common.{◌≡◌, ℕ, ◌≤◌, Bool, true, false, ◌&&◌, ◌||◌, List, [], ◌∷◌, ◌++◌, length, take, map, IsTrue, refl, sym, ap, subst, ◌∙◌, arith, inl, inr, append-nil}
use Rattle.std.specs.Prelude.{zip}
use Rattle.std.specs.List.{prefix_len}
use Rattle.std.proofs.lemmas.Bool.{cases_Bool}
use Rattle.std.proofs.lemmas.List.{append_assoc}
use Rattle.std.proofs.lemmas.List.Folds.{length-prefix_len}
use Rattle.jsonc_text.specs.Options.{Options}
use Rattle.jsonc_text.specs.Text as many
use Rattle.jsonc_text.specs.Gaps.{IsComment}
use Rattle.jsonc_tree.specs.Content.{Content, token, newline}
use Rattle.jsonc_tree.specs.OrderedTree.{Top, none}
use Rattle.jsonc_tree.specs.declared.node.CstNewlineKind.{CstNewlineKind}
use Rattle.jsonc_sound.specs.Lines.{is_line_comment}
use Rattle.jsonc_sound.specs.Rows as rows
use Rattle.jsonc_sound.specs.Rows.{Last, RowKind}
use Rattle.jsonc_sound.specs.TreeChanges.{IsElement}
use Rattle.jsonc_sound.proofs.Changed.{part_element}
use Rattle.jsonc_sound.proofs.Pieces.{a_trivia}
use Rattle.jsonc_sort.specs.Slots.{Slot, stays, comes, all_stay, top_in}
use Rattle.jsonc_sort.specs.Laws.{content_of}
use Rattle.jsonc_sort.specs.Parts.{has_comma, is_comma_at, is_whitespace_at}
use Rattle.jsonc_sort.specs.Leads.{blank_lines, is_blank_at}
use Rattle.jsonc_sort.specs.Sorting.{Entry, goes_on, lines_ended, placed, placed_one, slot_content, tail_with, travelling, without_comma}
use Rattle.jsonc_sort.proofs.Choices.{Each, choose_by, each_take}
use Rattle.jsonc_sort.proofs.Entries.{IsEntry}
use Rattle.jsonc_sort.proofs.Runs as runs
use Rattle.jsonc_sort.proofs.Runs.{IsQuiet, Gap, Quiets, Runs, comma_is, other_no_comma}
use Rattle.jsonc_run.specs.texts.Stretches.{AreBlanks, IsLineEnd, AreSpaces}
use Rattle.jsonc_run.specs.texts.Sorting as sorting
use Rattle.jsonc_run.specs.texts.Sorting.{Arrives, LinesEnd, Placed, Punctuated}
use Rattle.jsonc_run.specs.promise.PlaceLaws.{node_chars}
use Rattle.jsonc_run.proofs.lemmas.promise.CommentTexts.{blanks_text}
use Rattle.jsonc_run.proofs.lemmas.promise.SortedEntries.{held_of}
use Rattle.jsonc_run.proofs.lemmas.promise.SortedParts.{comma_one, comment_one, each_prefix, line_end_one, one_text, said, said_joined, said_nodes, say, say_cut, slot_text, spaces_said}
use Rattle.jsonc_run.proofs.lemmas.promise.Trivia.{many_joined}

module _ (o : Options) (kind : RowKind) (top : ℕ → Top) where
  abbrev at : ℕ → Content
  at = content_of top

  abbrev AllQuiet : List ℕ → Type 0
  AllQuiet row = Quiets o kind top row

  comma_printed : node_chars (record { content = token 0x2C; below = none }) ≡ 0x2C ∷ []
  comma_printed = comma_one o kind top (record { content = token 0x2C; below = none }) (record { is = refl; bare = refl })

  -- a tail without its comma
  record Cut (tail : List ℕ) : Type 0 where
    s : List ℕ
    blanks : List ℕ
    t : List ℕ
    before : say top tail ≡ s ++ (blanks ++ 0x2C ∷ t)
    after : say top (without_comma at tail) ≡ s ++ t
    blank : AreSpaces blanks

  without_first : (n : ℕ) (xs : List ℕ) → is_comma_at at n ≡ true → without_comma at (n ∷ xs) ≡ xs
  without_first n [] e = rw e refl
  without_first n (m ∷ rest) e = rw e refl

  or_right : (a b : Bool) → a ≡ false → a || b ≡ true → b ≡ true
  or_right a b e h = ap (λ x. x || b) (sym e) ∙ h

  both_of : (a b : Bool) → a && b ≡ true → (a ≡ true) × (b ≡ true)
  both_of true b h = (refl, h)
  both_of false b h = cc

  never_nothing : (s blanks t : List ℕ) → [] ≡ s ++ (blanks ++ 0x2C ∷ t) → ⊥
  never_nothing [] [] t e = cc
  never_nothing [] (c ∷ blanks) t e = cc
  never_nothing (c ∷ s) blanks t e = cc

  cut : {to last : Last} (tail : List ℕ) → Gap o kind top last tail to → has_comma at tail ≡ true → Cut tail
  cut [] g e = cc
  cut (n ∷ xs) (runs.gap_comma c g) e =
      record {
        s = [];
        blanks = [];
        t = say top xs;
        before = ap (λ l. l ++ say top xs) (comma_one o kind top (top n) c);
        after = ap (say top) (without_first n xs (comma_is o kind top n c));
        blank = many.stop;
      }
  cut (n ∷ xs) (runs.gap_quiet q g) e = let h = or_right (is_comma_at at n) (has_comma at xs) (other_no_comma o kind top n q) e in by xs g (cut xs g h)
    where
      other : is_comma_at at n ≡ false
      other = other_no_comma o kind top n q

      past : {last to : Last} (m : ℕ) (rest : List ℕ) → Gap o kind top last (m ∷ rest) to → is_whitespace_at at n && is_comma_at at m ≡ true → Cut (n ∷ m ∷ rest)
      past m rest (runs.gap_quiet p g) b = let no = other_no_comma o kind top m p in let yes = (both_of (is_whitespace_at at n) (is_comma_at at m) b).1 in cc
      past m rest (runs.gap_comma c g) b =
          record {
            s = [];
            blanks = node_chars (top n);
            t = say top rest;
            before = ap (λ l. node_chars (top n) ++ (l ++ say top rest)) (comma_one o kind top (top m) c);
            after = rw (other, b) refl;
            blank = subst AreSpaces (append-nil (node_chars (top n))) (spaces_said o kind top (n ∷ []) (q, tt) ((both_of (is_whitespace_at at n) (is_comma_at at m) b).0, tt));
          }

      by : {last to : Last} (xs : List ℕ) → Gap o kind top last xs to → Cut xs → Cut (n ∷ xs)
      by [] g c = absurd (never_nothing c.s c.blanks c.t c.before)
      by (m ∷ rest) g c =
          elim (cases_Bool (is_whitespace_at at n && is_comma_at at m)) [
            | inl b ↦ past m rest g b
            | inr b ↦ (
                record {
                  s = node_chars (top n) ++ c.s;
                  blanks = c.blanks;
                  t = c.t;
                  before = ap (λ l. node_chars (top n) ++ l) c.before ∙ sym (append_assoc (node_chars (top n)) c.s (c.blanks ++ 0x2C ∷ c.t));
                  after = rw (other, b) (ap (λ l. node_chars (top n) ++ l) c.after ∙ sym (append_assoc (node_chars (top n)) c.s c.t));
                  blank = c.blank;
                })
          ]

  tail_said : {to : Last} (comma : Bool) (tail : List ℕ) → Gap o kind top rows.an_element tail to → Punctuated (has_comma at tail) comma (say top tail) (said top (tail_with at comma tail))
  tail_said true tail g =
      elim (cases_Bool (has_comma at tail)) [
        | inl e ↦ rw e (subst (Punctuated true true (say top tail)) (sym (said_nodes top tail)) sorting.as_it_was)
        | inr e ↦ rw e (subst (Punctuated false true (say top tail)) (sym (ap (λ l. l ++ said top (all_stay tail)) comma_printed ∙ ap (λ l. 0x2C ∷ l) (said_nodes top tail))) sorting.with_comma)
      ]
  tail_said false tail g =
      elim (cases_Bool (has_comma at tail)) [
        | inl e ↦ rw e (
            let c = cut tail g e in
            subst (λ x. Punctuated true false x (said top (all_stay (without_comma at tail)))) (sym c.before)
            (subst (Punctuated true false (c.s ++ (c.blanks ++ 0x2C ∷ c.t))) (sym (said_nodes top (without_comma at tail) ∙ c.after)) (sorting.without_comma c.s c.t c.blank)))
        | inr e ↦ rw e (subst (Punctuated false false (say top tail)) (sym (said_nodes top tail)) sorting.as_it_was)
      ]

  -- blank lines in front
  is_true : (b : Bool) → b ≡ true → IsTrue b
  is_true true e = refl
  is_true false e = cc

  blanks_said : (row : List ℕ) → AllQuiet row → Each (λ n. is_blank_at at n ≡ true) row → AreBlanks (say top row)
  blanks_said [] q h = many.stop
  blanks_said (n ∷ row) q h =
      many_joined (subst AreBlanks (sym (one_text o kind top (top n) q.0.bare)) (blanks_text o (at n ∷ []) (is_true (is_blank_at at n) h.0, tt) (a_trivia q.0.trivia, tt))) refl (blanks_said row q.1 h.1)

  travelling_said : (first : Bool) (row : List ℕ) → AllQuiet row → Arrives first (say top row) (say top (travelling at first row))
  travelling_said false row q = refl
  travelling_said true row q =
      let k : ℕ = blank_lines at row in
      let low : k ≤ prefix_len (is_blank_at at) row = omega (arith, length-prefix_len (is_blank_at at) row) in
      (say top (take k row), say_cut top k row, blanks_said (take k row) (each_take (λ m. IsQuiet o kind top (top m)) k row q) (each_prefix (is_blank_at at) row k low))

  one_said : (first comma : Bool) (p h : Entry)
      → said top (placed_one at first comma (p, h)) ≡ say top p.lead.front ++ (say top (travelling at first h.lead.travels) ++ (say top p.lead.indent ++ (node_chars (top h.element) ++ said top (tail_with at comma h.tail))))
  one_said first comma p h =
      let front : List Slot = all_stay p.lead.front in
      let travels : List Slot = all_stay (travelling at first h.lead.travels) in
      let indent : List Slot = all_stay p.lead.indent in
      let behind : List Slot = stays h.element ∷ tail_with at comma h.tail in
      said_joined top (front ++ travels ++ indent) behind
      ∙ ap (λ l. l ++ said top behind) (said_joined top (front ++ travels) indent ∙ ap (λ l. l ++ said top indent) (said_joined top front travels))
      ∙ append_assoc (said top front ++ said top travels) (said top indent) (said top behind)
      ∙ append_assoc (said top front) (said top travels) (said top indent ++ said top behind)
      ∙ ap (λ l. l ++ (said top travels ++ (said top indent ++ said top behind))) (said_nodes top p.lead.front)
      ∙ ap (λ l. say top p.lead.front ++ (l ++ (said top indent ++ said top behind))) (said_nodes top (travelling at first h.lead.travels))
      ∙ ap (λ l. say top p.lead.front ++ (say top (travelling at first h.lead.travels) ++ (l ++ said top behind))) (said_nodes top p.lead.indent)

  five : (a b c d e f : List ℕ) → (a ++ (b ++ (c ++ (d ++ e)))) ++ f ≡ a ++ (b ++ (c ++ (d ++ (e ++ f))))
  five a b c d e f = simp (append_assoc) refl

  pub placed_said : (first commas : Bool) (ps hs : List Entry) → Each (IsEntry o kind top) hs → length ps ≡ length hs
      → Placed commas first (map (held_of o kind top) ps) (map (held_of o kind top) hs) (said top (placed at first commas (zip ps hs)))
  placed_said first commas [] [] k e = sorting.none_placed
  placed_said first commas [] (h ∷ hs) k e = absurd (omega (arith, e))
  placed_said first commas (p ∷ ps) [] k e = absurd (omega (arith, e))
  placed_said first commas (p ∷ []) (h ∷ []) k e =
      subst (Placed commas first (map (held_of o kind top) (p ∷ [])) (map (held_of o kind top) (h ∷ []))) (sym (one_said first commas p h))
      (sorting.last_placed (say top (travelling at first h.lead.travels)) (said top (tail_with at commas h.tail)) (travelling_said first h.lead.travels k.0.lead.travels) (tail_said commas h.tail k.0.tail))
  placed_said first commas (p ∷ []) (h ∷ g ∷ hs) k e = absurd (omega (arith, e))
  placed_said first commas (p ∷ q ∷ ps) (h ∷ []) k e = absurd (omega (arith, e))
  placed_said first commas (p ∷ q ∷ ps) (h ∷ g ∷ hs) k e =
      let behind : List Slot = placed at false commas (zip (q ∷ ps) (g ∷ hs)) in
      subst (Placed commas first (map (held_of o kind top) (p ∷ q ∷ ps)) (map (held_of o kind top) (h ∷ g ∷ hs)))
      (sym (said_joined top (placed_one at first true (p, h)) behind ∙ ap (λ l. l ++ said top behind) (one_said first true p h)
      ∙ five (say top p.lead.front) (say top (travelling at first h.lead.travels)) (say top p.lead.indent) (node_chars (top h.element)) (said top (tail_with at true h.tail)) (said top behind)))
      (sorting.one_placed (say top (travelling at first h.lead.travels)) (said top (tail_with at true h.tail)) (travelling_said first h.lead.travels k.0.lead.travels) (tail_said true h.tail k.0.tail) (placed_said false commas (q ∷ ps) (g ∷ hs) k.1 (omega (arith, e))))

  -- lines end behind line comments
  same_before : (s : List ℕ) {x y : List ℕ} → LinesEnd x y → LinesEnd (s ++ x) (s ++ y)
  same_before [] h = h
  same_before (c ∷ s) h = sorting.goes_on (same_before s h)

  line_end_printed : (k : CstNewlineKind) → IsLineEnd (node_chars (record { content = newline k; below = none }))
  line_end_printed k = line_end_one o kind top (record { content = newline k; below = none }) (record { trivia = tt; bare = refl }) refl

  and_first : (a b : Bool) → a && b ≡ true → a ≡ true
  and_first true b h = refl
  and_first false b h = cc

  same_content : (s : Slot) → slot_content at s ≡ (top_in top s).content
  same_content (stays n) = refl
  same_content (comes c) = refl

  element_no_comment : (c : Content) → IsElement c → is_line_comment c ≡ true → ⊥
  element_no_comment (Content.comment s) h e = cc
  element_no_comment (Content.whitespace s) h e = cc
  element_no_comment (Content.newline k) h e = cc
  element_no_comment (Content.token t) h e = cc
  element_no_comment c h e = cc

  comma_no_comment : (c : Content) → c ≡ token 0x2C → is_line_comment c ≡ true → ⊥
  comma_no_comment c e h = let no : is_line_comment (token 0x2C) ≡ true = ap is_line_comment (sym e) ∙ h in cc

  -- one slot, and what is told of the others
  one_line : (k : CstNewlineKind) (s : Slot) (slots : List Slot) → (is_line_comment (top_in top s).content ≡ true → IsComment (slot_text top s) []) → LinesEnd (said top slots) (said top (lines_ended at k slots))
      → LinesEnd (said top (s ∷ slots)) (said top (lines_ended at k (s ∷ slots)))
  one_line k s slots comment rest =
      choose_by (λ l. LinesEnd (slot_text top s ++ said top slots) (said top l)) (is_line_comment (slot_content at s) && goes_on at slots) (s ∷ comes (newline k) ∷ lines_ended at k slots) (s ∷ lines_ended at k slots)
      (λ e. sorting.line_ends (comment (ap is_line_comment (sym (same_content s)) ∙ and_first (is_line_comment (slot_content at s)) (goes_on at slots) e)) (line_end_printed k) rest)
      (λ e. same_before (slot_text top s) rest)

  pub lines_said : {last to : Last} (k : CstNewlineKind) {slots : List Slot} → Runs o kind top last slots to → LinesEnd (said top slots) (said top (lines_ended at k slots))
  lines_said k runs.over = sorting.no_more
  lines_said k (runs.quiet {s = s} {xs = xs} q h) = one_line k s xs (comment_one o kind top (top_in top s) q) (lines_said k h)
  lines_said k (runs.whole {s = s} {xs = xs} p w h) = one_line k s xs (λ e. absurd (element_no_comment (top_in top s).content (part_element o w.part) e)) (lines_said k h)
  lines_said k (runs.comma {s = s} {xs = xs} c h) = one_line k s xs (λ e. absurd (comma_no_comment (top_in top s).content c.is e)) (lines_said k h)
