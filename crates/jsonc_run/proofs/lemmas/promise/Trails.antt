-- What leaves a text behind an entry, and what does not stay there.
use Rattle.std.proofs.Common.{ℕ, ◌≡◌, ◌∙◌, ◌⊎◌, inl, inr, sym, ap, subst, refl, Bool, true, false, List, [], ◌∷◌, ◌++◌, IsTrue}
use Rattle.jsonc_text.specs.Options.{Options}
use Rattle.jsonc_tree.specs.Content.{Content, token}
use Rattle.jsonc_tree.specs.declared.node.CstNewlineKind.{CstNewlineKind}
use Rattle.jsonc_layout.specs.nodes.Kinds.{is_inline_trivia, is_newline, is_trivia}
use Rattle.jsonc_sound.specs.Leaving.{AreInlineTrivia, IsRestOfLine, without_end, with_end, comma_alone, comma_and_line}
use Rattle.jsonc_sound.specs.TriviaChanges.{AreTrivia}
use Rattle.jsonc_sound.proofs.Pieces.{LinesFlat, Pieces}
use Rattle.jsonc_sound.proofs.Texts.{AllUtf8}
use Rattle.jsonc_edit.proofs.lemmas.remove.Contents.{comment_first, line_first}
use Rattle.jsonc_edit.specs.SeamRemovals.{EndsLine}
use Rattle.jsonc_run.specs.texts.Leaving as leaving
use Rattle.jsonc_run.specs.texts.Leaving.{Trail}
use Rattle.jsonc_run.specs.promise.PlaceLaws.{text_of_leaves}
use Rattle.jsonc_run.proofs.lemmas.promise.Joined.{Good}
use Rattle.jsonc_run.proofs.lemmas.promise.Leaves.{text_joined, utf8_first, utf8_second}
use Rattle.jsonc_run.proofs.lemmas.promise.NothingBehind.{no_comment_follows, no_line_ends, stops}
use Rattle.jsonc_run.proofs.lemmas.promise.RemovedTexts.{Commas, behind_it, ahead_of_it, nowhere, comma_text, comma_then}
use Rattle.jsonc_run.proofs.lemmas.promise.Stretches.{pieces_first, pieces_second}
use Rattle.jsonc_run.proofs.lemmas.promise.Trivia.{beside_text, end_text, trivia_text}

-- what does not stay behind what leaves, where these leaves stand there
abbrev pub NoneLeft : List Content → List Content → Type 0
NoneLeft line rest = EndsLine line ⊎ (comment_first rest ≡ false)

abbrev pub CommasLeft : {b : Bool} {c m trail : List Content} → Commas b c m trail → List Content → Type 0
CommasLeft (behind_it {between = between} {line = line} h) rest = AreInlineTrivia between → line ≡ [] → (line_first rest ≡ false) × (stops rest ≡ true)
CommasLeft (ahead_of_it {line = line} mid h) rest = NoneLeft line rest
CommasLeft (nowhere {line = line} h) rest = NoneLeft line rest

-- trivia are whitespace and comments, or a newline stands among them
beside_no_newline : (x : Content) → IsTrue (is_inline_trivia x) → IsTrue (is_newline x) → ⊥
beside_no_newline (Content.newline k) h e = cc
beside_no_newline x h e = cc

ends_never : (front ls : List Content) (end : Content) → AreInlineTrivia ls → IsTrue (is_newline end) → ls ≡ front ++ end ∷ [] → ⊥
ends_never [] [] end h e is = cc
ends_never [] (x ∷ ls) end h e is = let same : x ≡ end = cc in beside_no_newline x h.0 (subst (λ c. IsTrue (is_newline c)) (sym same) e)
ends_never (f ∷ front) [] end h e is = cc
ends_never (f ∷ front) (x ∷ ls) end h e is = let rest : ls ≡ front ++ end ∷ [] = cc in ends_never front ls end h.1 e rest

no_newline : (ls : List Content) → AreInlineTrivia ls → EndsLine ls → ⊥
no_newline ls h (front, end, is, e) = ends_never front ls end h e is

data InlineOr (ls : List Content) : Type 0 where
  inline : AreInlineTrivia ls → InlineOr ls
  on_lines : (front back : List Content) (k : CstNewlineKind) → ls ≡ front ++ (Content.newline k ∷ back) → AreTrivia front → AreTrivia back → InlineOr ls

more_inline : {ls : List Content} (x : Content) → IsTrue (is_inline_trivia x) → IsTrue (is_trivia x) → InlineOr ls → InlineOr (x ∷ ls)
more_inline x i t (inline g) = inline (i, g)
more_inline x i t (on_lines front back k e f g) = on_lines (x ∷ front) back k (ap (λ l. x ∷ l) e) (t, f) g

inline_or : (ls : List Content) → AreTrivia ls → InlineOr ls
inline_or [] h = inline tt
inline_or (Content.newline k ∷ ls) h = on_lines [] ls k refl tt h.1
inline_or (Content.whitespace s ∷ ls) h = more_inline (Content.whitespace s) refl refl (inline_or ls h.1)
inline_or (Content.comment s ∷ ls) h = more_inline (Content.comment s) refl refl (inline_or ls h.1)
inline_or (x ∷ ls) h = cc

module _ (o : Options) where
  module _ (rest : List Content) (flat : LinesFlat rest) (good : Good o rest) where
    abbrev Then : Bool → List ℕ → Type 0
    Then b s = Trail (text_of_leaves rest) b s

    rest_text : {line : List Content} → IsRestOfLine line → NoneLeft line rest → Pieces o line → AllUtf8 line → Then false (text_of_leaves line)
    rest_text (without_end line h) (inl e) p u = absurd (no_newline line h e)
    rest_text (without_end line h) (inr e) p u = leaving.all_comments (beside_text o line h p) (no_comment_follows o rest e good)
    rest_text (with_end line end h n) left p u =
        subst (Then false) (sym (text_joined line (end ∷ []) (utf8_first line (end ∷ []) u))) (leaving.rest_of_line (beside_text o line h (pieces_first o line (end ∷ []) p)) (end_text end n))

    alone_text : (between : List Content) → InlineOr between → (AreInlineTrivia between → (line_first rest ≡ false) × (stops rest ≡ true)) → Pieces o between → AllUtf8 between → Then true (text_of_leaves between ++ 0x2C ∷ [])
    alone_text between (inline h) left p u = let l = left h in leaving.up_to_comma (beside_text o between h p) (no_line_ends o rest l.0 l.1 flat good)
    alone_text between (on_lines front back k e f g) left p u =
        let p2 = subst (Pieces o) e p in
        let u2 = subst AllUtf8 e u in
        let behind = pieces_second o front (Content.newline k ∷ back) p2 in
        let later = utf8_second front (Content.newline k ∷ back) u2 in
        let text : text_of_leaves between ≡ text_of_leaves front ++ (text_of_leaves (Content.newline k ∷ []) ++ text_of_leaves back) =
        ap text_of_leaves e ∙ text_joined front (Content.newline k ∷ back) (utf8_first front (Content.newline k ∷ back) u2) ∙ ap (λ l. text_of_leaves front ++ l) (text_joined (Content.newline k ∷ []) back (later.0, tt)) in
        subst (λ x. Then true (x ++ 0x2C ∷ [])) (sym text)
        (leaving.past_lines (trivia_text o front f (pieces_first o front (Content.newline k ∷ back) p2)) (end_text (Content.newline k) refl) (trivia_text o back g behind.1))

  pub trail_text : (rest : List Content) → LinesFlat rest → Good o rest → {b : Bool} {c m line : List Content} (commas : Commas b c m line) → CommasLeft commas rest → Pieces o line → AllUtf8 line → Trail (text_of_leaves rest) b (text_of_leaves line)
  trail_text rest flat good (behind_it (comma_alone between t)) left p u =
      subst (Trail (text_of_leaves rest) true) (sym (text_joined between (token 0x2C ∷ []) (utf8_first between (token 0x2C ∷ []) u) ∙ ap (λ l. text_of_leaves between ++ l) comma_text))
      (alone_text rest flat good between (inline_or between t) (λ h. left h refl) (pieces_first o between (token 0x2C ∷ []) p) (utf8_first between (token 0x2C ∷ []) u))
  trail_text rest flat good (behind_it (comma_and_line between line end b h n)) left p u =
      let tail : List Content = line ++ end ∷ [] in
      let later = utf8_second between (token 0x2C ∷ tail) u in
      let text : text_of_leaves (between ++ (token 0x2C ∷ tail)) ≡ text_of_leaves between ++ (0x2C ∷ (text_of_leaves line ++ text_of_leaves (end ∷ []))) =
      text_joined between (token 0x2C ∷ tail) (utf8_first between (token 0x2C ∷ tail) u)
      ∙ ap (λ l. text_of_leaves between ++ l) (comma_then o tail later ∙ ap (λ l. 0x2C ∷ l) (text_joined line (end ∷ []) (utf8_first line (end ∷ []) later.1))) in
      let second = pieces_second o between (token 0x2C ∷ tail) p in
      subst (Trail (text_of_leaves rest) true) (sym text) (leaving.and_line (beside_text o between b (pieces_first o between (token 0x2C ∷ tail) p)) (beside_text o line h (pieces_first o line (end ∷ []) second.1)) (end_text end n))
  trail_text rest flat good (ahead_of_it mid rl) left p u = rest_text rest flat good rl left p u
  trail_text rest flat good (nowhere rl) left p u = rest_text rest flat good rl left p u
