-- What the nodes of a row print that is parted for a sort.
use Rattle.std.proofs.Common.{◌≡◌, ℕ, zero, suc, ◌<◌, ◌≤◌, Bool, true, false, cond, not, List, [], ◌∷◌, ◌++◌, length, take, drop, IsTrue, refl, sym, ap, subst, ◌∙◌, arith, inl, inr, chars, append-nil}
use Rattle.std.specs.Prelude.{slice_index}
use Rattle.std.specs.List.{list_any, position_or_len, prefix_len}
use Rattle.std.proofs.lemmas.Bool.{cases_Bool}
use Rattle.std.proofs.lemmas.List.{append_assoc, take-append-drop}
use Rattle.std.proofs.lemmas.List.Sums.{take_while-cons}
use Rattle.jsonc_text.specs.Options.{Options}
use Rattle.jsonc_text.specs.Text as many
use Rattle.jsonc_text.specs.Gaps.{IsComment}
use Rattle.jsonc_tree.specs.Content.{Content, text_of}
use Rattle.jsonc_tree.specs.OrderedTree.{Top, none, printed}
use Rattle.jsonc_layout.specs.nodes.Kinds.{is_inline_trivia, is_newline, is_trivia, is_whitespace}
use Rattle.jsonc_sound.specs.Lines.{is_line_comment}
use Rattle.jsonc_sound.specs.Rows.{RowKind}
use Rattle.jsonc_sound.specs.Shape.{IsTrivia}
use Rattle.jsonc_sound.proofs.Pieces.{a_trivia}
use Rattle.jsonc_sound.proofs.ShapeValues.{comma_mark}
use Rattle.jsonc_edit.proofs.Lists.{suffix_passes}
use Rattle.jsonc_sort.specs.Slots.{Slot, all_stay, top_in}
use Rattle.jsonc_sort.specs.Laws.{content_of}
use Rattle.jsonc_sort.specs.Parts.{is_newline_at, is_no_newline_at, is_whitespace_at, line, up_to_spaces}
use Rattle.jsonc_sort.specs.Leads.{first_line}
use Rattle.jsonc_sort.proofs.Choices.{Each}
use Rattle.jsonc_sort.proofs.Runs.{IsQuiet, IsComma, Quiets}
use Rattle.jsonc_run.specs.texts.Stretches as documents
use Rattle.jsonc_run.specs.texts.Stretches.{IsLineEnd, Trivia, InLine, AreSpaces}
use Rattle.jsonc_run.specs.promise.PlaceLaws.{node_chars, text_of_leaves}
use Rattle.jsonc_run.proofs.lemmas.promise.Joined.{one_token}
use Rattle.jsonc_run.proofs.lemmas.promise.Trivia.{beside_text, line_end_text, many_joined, trivia_text}

-- any trivia
abbrev pub AreTrivia : List ℕ → Type 0
AreTrivia s = Trivia (λ c. true) s

-- stretches of text that are put together
pub trivia_joined : {p : ℕ → Bool} {x y : List ℕ} → Trivia p x → Trivia p y → Trivia p (x ++ y)
trivia_joined documents.nothing k = k
trivia_joined (documents.blank b h) k = documents.blank b (trivia_joined h k)
trivia_joined {p} {y = y} (documents.comment {c = c} {s = s} b h) k = subst (Trivia p) (sym (append_assoc c s y)) (documents.comment b (trivia_joined h k))

-- what holds of the members of a list by their places
each_from : (P : ℕ → Type 0) (k : ℕ) (xs : List ℕ) → ((i : ℕ) → k ≤ i → i < length xs → P (slice_index xs i)) → Each P (drop k xs)
each_from P zero [] f = tt
each_from P zero (x ∷ xs) f = (f 0 (omega arith) (omega arith), each_from P zero xs (λ i low h. f (suc i) (omega arith) (omega (arith, h))))
each_from P (suc k) [] f = tt
each_from P (suc k) (x ∷ xs) f = each_from P k xs (λ i low h. f (suc i) (omega (arith, low)) (omega (arith, h)))

-- those in front that pass
pub each_prefix : (p : ℕ → Bool) (row : List ℕ) (k : ℕ) → k ≤ prefix_len p row → Each (λ n. p n ≡ true) (take k row)
each_prefix p row zero h = tt
each_prefix p [] (suc k) h = tt
each_prefix p (n ∷ row) (suc k) h =
    elim (cases_Bool (p n)) [
      | inl e ↦ (e, each_prefix p row k (omega (arith, rw e at h)))
      | inr e ↦ absurd (omega (arith, rw e at h))
    ]

module _ (at : ℕ → Content) where
  abbrev pub Spaces : List ℕ → Type 0
  Spaces row = Each (λ n. is_whitespace_at at n ≡ true) row

  abbrev pub EndsNone : List ℕ → Type 0
  EndsNone row = Each (λ n. is_newline_at at n ≡ false) row

  pub spaces_last : (row : List ℕ) → Spaces (drop (up_to_spaces at row) row)
  spaces_last row = each_from (λ n. is_whitespace_at at n ≡ true) (up_to_spaces at row) row (suffix_passes (is_whitespace_at at) row)

  space_no_line : (c : Content) → is_whitespace c ≡ true → is_newline c ≡ false
  space_no_line (Content.whitespace s) e = refl
  space_no_line (Content.newline s) e = cc
  space_no_line c e = cc

  pub spaces_end_none : (row : List ℕ) → Spaces row → EndsNone row
  spaces_end_none [] h = tt
  spaces_end_none (n ∷ row) h = (space_no_line (at n) h.0, spaces_end_none row h.1)

  -- a row in which no line ends, or where the first one does
  pub data Lined : List ℕ → Type 0 where
    none_ends : {row : List ℕ} → EndsNone row → Lined row
    one_ends : (xs more : List ℕ) (n : ℕ) → EndsNone xs → is_newline_at at n ≡ true → Lined (xs ++ n ∷ more)

  pub lined : (row : List ℕ) → Lined row
  lined [] = none_ends tt
  lined (n ∷ row) =
      elim (cases_Bool (is_newline_at at n)) [
        | inl e ↦ one_ends [] row n tt e
        | inr e ↦ by e (lined row)
      ]
    where
      by : {row : List ℕ} → is_newline_at at n ≡ false → Lined row → Lined (n ∷ row)
      by e (none_ends h) = none_ends (e, h)
      by e (one_ends xs more m h k) = one_ends (n ∷ xs) more m (e, h) k

  pub any_none : (row : List ℕ) → EndsNone row → list_any (is_newline_at at) row ≡ false
  any_none [] h = refl
  any_none (n ∷ row) h = rw h.0 (any_none row h.1)

  pub line_none : (row : List ℕ) → EndsNone row → line at row ≡ row
  line_none [] h = refl
  line_none (n ∷ row) h = take_while-cons (is_no_newline_at at) n row ∙ ap (λ b. cond (not b) (n ∷ line at row) []) h.0 ∙ ap (λ l. n ∷ l) (line_none row h.1)

  module _ (n : ℕ) (more : List ℕ) (e : is_newline_at at n ≡ true) where
    pub any_there : (xs : List ℕ) → EndsNone xs → list_any (is_newline_at at) (xs ++ n ∷ more) ≡ true
    any_there [] h = rw e refl
    any_there (x ∷ xs) h = rw h.0 (any_there xs h.1)

    pub line_there : (xs : List ℕ) → EndsNone xs → line at (xs ++ n ∷ more) ≡ xs
    line_there [] h = take_while-cons (is_no_newline_at at) n more ∙ ap (λ b. cond (not b) (n ∷ line at more) []) e
    line_there (x ∷ xs) h = take_while-cons (is_no_newline_at at) x (xs ++ n ∷ more) ∙ ap (λ b. cond (not b) (x ∷ line at (xs ++ n ∷ more)) []) h.0 ∙ ap (λ l. x ∷ l) (line_there xs h.1)

    place_there : (xs : List ℕ) → EndsNone xs → position_or_len (is_newline_at at) (xs ++ n ∷ more) ≡ length xs
    place_there [] h = rw e refl
    place_there (x ∷ xs) h = rw h.0 (omega (arith, place_there xs h.1))

    first_is : (xs : List ℕ) → EndsNone xs → first_line at (xs ++ n ∷ more) ≡ suc (length xs)
    first_is xs h = omega (arith, place_there xs h)

    front_of : (xs : List ℕ) → take (suc (length xs)) (xs ++ n ∷ more) ≡ xs ++ n ∷ []
    front_of [] = refl
    front_of (x ∷ xs) = ap (λ l. x ∷ l) (front_of xs)

    back_of : (xs : List ℕ) → drop (suc (length xs)) (xs ++ n ∷ more) ≡ more
    back_of [] = refl
    back_of (x ∷ xs) = back_of xs

    pub first_taken : (xs : List ℕ) → EndsNone xs → take (first_line at (xs ++ n ∷ more)) (xs ++ n ∷ more) ≡ xs ++ n ∷ []
    first_taken xs h = ap (λ k. take k (xs ++ n ∷ more)) (first_is xs h) ∙ front_of xs

    pub first_dropped : (xs : List ℕ) → EndsNone xs → drop (first_line at (xs ++ n ∷ more)) (xs ++ n ∷ more) ≡ more
    first_dropped xs h = ap (λ k. drop k (xs ++ n ∷ more)) (first_is xs h) ∙ back_of xs

-- what nodes and places of a row print
module _ (top : ℕ → Top) where
  abbrev pub slot_text : Slot → List ℕ
  slot_text s = node_chars (top_in top s)

  abbrev pub said : List Slot → List ℕ
  said [] = []
  said (s ∷ slots) = slot_text s ++ said slots

  abbrev pub say : List ℕ → List ℕ
  say [] = []
  say (n ∷ row) = node_chars (top n) ++ say row

  pub said_nodes : (row : List ℕ) → said (all_stay row) ≡ say row
  said_nodes [] = refl
  said_nodes (n ∷ row) = ap (λ l. node_chars (top n) ++ l) (said_nodes row)

  pub said_joined : (x y : List Slot) → said (x ++ y) ≡ said x ++ said y
  said_joined [] y = refl
  said_joined (s ∷ x) y = ap (λ l. slot_text s ++ l) (said_joined x y) ∙ sym (append_assoc (slot_text s) (said x) (said y))

  pub say_joined : (x y : List ℕ) → say (x ++ y) ≡ say x ++ say y
  say_joined [] y = refl
  say_joined (n ∷ x) y = ap (λ l. node_chars (top n) ++ l) (say_joined x y) ∙ sym (append_assoc (node_chars (top n)) (say x) (say y))

  pub say_cut : (k : ℕ) (row : List ℕ) → say row ≡ say (take k row) ++ say (drop k row)
  say_cut k row = ap say (sym (take-append-drop k row)) ∙ say_joined (take k row) (drop k row)

module _ (o : Options) (kind : RowKind) (top : ℕ → Top) where
  abbrev at : ℕ → Content
  at = content_of top

  abbrev Quiet : Top → Type 0
  Quiet t = IsQuiet o kind top t

  abbrev AllQuiet : List ℕ → Type 0
  AllQuiet row = Quiets o kind top row

  pub one_text : (t : Top) → t.below ≡ none → node_chars t ≡ text_of_leaves (t.content ∷ [])
  one_text t e = ap (λ b. chars (text_of t.content ++ printed b)) e

  -- trivia
  pub trivia_one : (t : Top) → Quiet t → AreTrivia (node_chars t)
  trivia_one t q = subst AreTrivia (sym (one_text t q.bare)) (trivia_text o (t.content ∷ []) (is t.content q.trivia, tt) (a_trivia q.trivia, tt))
    where
      is : (c : Content) → IsTrivia o c → IsTrue (is_trivia c)
      is (Content.whitespace s) h = refl
      is (Content.newline s) h = refl
      is (Content.comment s) h = refl
      is c h = absurd h

  inline_one : (t : Top) → Quiet t → is_newline t.content ≡ false → InLine (node_chars t)
  inline_one t q e = subst InLine (sym (one_text t q.bare)) (beside_text o (t.content ∷ []) (is t.content q.trivia e, tt) (a_trivia q.trivia, tt))
    where
      is : (c : Content) → IsTrivia o c → is_newline c ≡ false → IsTrue (is_inline_trivia c)
      is (Content.whitespace s) h e = refl
      is (Content.newline s) h e = cc
      is (Content.comment s) h e = refl
      is c h e = absurd h

  pub spaces_one : (t : Top) → Quiet t → is_whitespace t.content ≡ true → AreSpaces (node_chars t)
  spaces_one t q e = subst AreSpaces (sym (one_text t q.bare)) (is t.content q.trivia e)
    where
      is : (c : Content) → IsTrivia o c → is_whitespace c ≡ true → AreSpaces (text_of_leaves (c ∷ []))
      is (Content.whitespace s) h e = subst (λ x. AreSpaces (chars x)) (sym (append-nil s)) h.1
      is (Content.newline s) h e = cc
      is (Content.comment s) h e = cc
      is c h e = absurd h

  pub line_end_one : (t : Top) → Quiet t → is_newline t.content ≡ true → IsLineEnd (node_chars t)
  line_end_one t q e = subst IsLineEnd (sym (one_text t q.bare)) (is t.content q.trivia e)
    where
      is : (c : Content) → IsTrivia o c → is_newline c ≡ true → IsLineEnd (text_of_leaves (c ∷ []))
      is (Content.whitespace s) h e = cc
      is (Content.newline k) h e = line_end_text k
      is (Content.comment s) h e = cc
      is c h e = absurd h

  pub comment_one : (t : Top) → Quiet t → is_line_comment t.content ≡ true → IsComment (node_chars t) []
  comment_one t q e = subst (λ x. IsComment x []) (sym (one_text t q.bare)) (is t.content q.trivia e)
    where
      is : (c : Content) → IsTrivia o c → is_line_comment c ≡ true → IsComment (text_of_leaves (c ∷ [])) []
      is (Content.whitespace s) h e = cc
      is (Content.newline k) h e = cc
      is (Content.comment s) h e = subst (λ x. IsComment (chars x) []) (sym (append-nil s)) h.1.1
      is c h e = absurd h

  pub comma_one : (t : Top) → IsComma o kind top t → node_chars t ≡ 0x2C ∷ []
  comma_one t q = one_text t q.bare ∙ ap (λ c. text_of_leaves (c ∷ [])) q.is ∙ one_token comma_mark

  pub trivia_said : (row : List ℕ) → AllQuiet row → AreTrivia (say top row)
  trivia_said [] h = documents.nothing
  trivia_said (n ∷ row) h = trivia_joined (trivia_one (top n) h.0) (trivia_said row h.1)

  pub inline_said : (row : List ℕ) → AllQuiet row → EndsNone at row → InLine (say top row)
  inline_said [] h e = documents.nothing
  inline_said (n ∷ row) h e = trivia_joined (inline_one (top n) h.0 e.0) (inline_said row h.1 e.1)

  pub spaces_said : (row : List ℕ) → AllQuiet row → Spaces at row → AreSpaces (say top row)
  spaces_said [] h e = many.stop
  spaces_said (n ∷ row) h e = many_joined (spaces_one (top n) h.0 e.0) refl (spaces_said row h.1 e.1)
