-- The marks of a text, in the words of texts alone.
use Rattle.std.proofs.Common.{ℕ, ◌≡◌, ap, subst, refl, List, [], ◌∷◌, ◌++◌}
use Rattle.std.specs.List.{cons_option}
use Rattle.jsonc_text.specs.Options.{Options}
use Rattle.jsonc_text.specs.Lexemes.{LexemeKind, Scanned, lexeme, line_comment, block_comment}
use Rattle.jsonc_sound.specs.Marks as marks
use Rattle.jsonc_sound.specs.Documents.{all_marks, mark}
use Rattle.jsonc_text.specs.Marks as texts
use Rattle.jsonc_text.specs.Marks.{Mark, MarksTo}

one_mark : (w : Scanned) (s : List ℕ) (ms : List marks.Mark) → cons_option (texts.mark_of w s) (all_marks ms) ≡ all_marks (cons_option (marks.mark_of w s) ms)
one_mark (lexeme (LexemeKind.punctuation c)) s ms = refl
one_mark (lexeme (LexemeKind.string v)) s ms = refl
one_mark (lexeme (LexemeKind.number v)) s ms = refl
one_mark (lexeme (LexemeKind.word v)) s ms = refl
one_mark (lexeme (LexemeKind.keyword v)) s ms = refl
one_mark (line_comment c) s ms = refl
one_mark (block_comment c) s ms = refl

pub marks_to : {o : Options} {there t : List ℕ} {ms : List marks.Mark} → marks.MarksTo o there t ms → MarksTo o there t (all_marks ms)
marks_to marks.no_more = texts.no_more
marks_to (marks.blank h k) = texts.blank h (marks_to k)
marks_to {o} {there} {t} (marks.one w s {ms = ms} h e k) = subst (MarksTo o there t) (one_mark w s ms) (texts.one w s h e (marks_to k))

pub joined : (first second : List marks.Mark) → all_marks (first ++ second) ≡ all_marks first ++ all_marks second
joined [] second = refl
joined (m ∷ ms) second = ap (λ l. mark m ∷ l) (joined ms second)

pub no_comments : (ms : List marks.Mark) → marks.comments_of ms ≡ [] → texts.comments_of (all_marks ms) ≡ []
no_comments [] e = refl
no_comments (marks.literal s ∷ ms) e = no_comments ms e
no_comments (marks.comment s ∷ ms) e = cc
