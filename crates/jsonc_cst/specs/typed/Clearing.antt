-- Comments of an entry that are removed after it, as steps of one chain: which comment of which document each is, and what it makes of that.
use Rattle.std.specs.Prelude.{◌≡◌, ◌≢◌, ℕ, List, [], ◌∷◌, ◌++◌, length, Some}
use Rattle.jsonc_text.specs.Gaps.{IsComment, is_blank}
use Rattle.jsonc_text.specs.Marks.{Mark, comments_of}
use Rattle.jsonc_text.specs.Documents.{Document, IsOne}
use Rattle.jsonc_tree.specs.OrderedTree.{ordered_tree}
use Rattle.jsonc_tree.specs.Tree.{Node, parent_at}
use Rattle.jsonc_sound.specs.Documents.{Shows}
use Rattle.jsonc_edit.specs.Comments.{comment_at, WantsSpace}
use Rattle.jsonc_run.specs.texts.Stretches.{AreSpaces, IsLineEnd, Parted, Same, Without}

-- What is removed with a comment: the blanks before it on its line; and where it is alone on that, those after it too, with the line's end.
pub data WithItsLine (front before : List ℕ) : List ℕ → Type 0 where
  shares_its_line : AreSpaces before → WithItsLine front before []
  whole_line : (rest end after line : List ℕ) → front ≡ rest ++ end → IsLineEnd end → AreSpaces before → AreSpaces after → IsLineEnd line → WithItsLine front before (after ++ line)

-- The comment is removed before which there are n others in the text. All before and after it stays, to the character; so do all other marks, and the value.
abbrev pub RemovesComment : ℕ → Document → Document → Type 0
RemovesComment n d e = (front before comment after back : List ℕ) × (d.text ≡ front ++ (before ++ (comment ++ (after ++ back)))) × (e.text ≡ front ++ back)
    × WithItsLine front before after × IsComment comment [] × (e.options ≡ d.options) × (e.value ≡ d.value)
    × (ahead behind : List Mark) × (s : List ℕ) × Parted d (comment ++ (after ++ back)) (after ++ back) ahead (Mark.comment s ∷ []) behind
    × (e.marks ≡ ahead ++ behind) × (length (comments_of ahead) ≡ n)

-- blanks are removed, and nothing else
abbrev pub RemovesBlanks : Document → Document → Type 0
RemovesBlanks d e = Without is_blank d.text e.text × (e.options ≡ d.options) × Same d e

-- From the document d, which the nodes ns show, it leads to e, which the new nodes show: of these comments each that the container c has is removed, one after
-- another, and then blanks that are left alone. One in whose place a space would be needed, between two literals without quotes, stays. Each document is one of the
-- grammar.
pub data LosesComments (c : ℕ) (new : List Node) (e : Document) : List Node → Document → List ℕ → Type 0 where
  none_left : {ns : List Node} {d : Document} → IsOne d → RemovesBlanks d e → IsOne e → Shows e (ordered_tree new 0) → LosesComments c new e ns d []
  not_there : {ns : List Node} {d : Document} {n : ℕ} {rest : List ℕ} → parent_at ns n ≢ Some c → LosesComments c new e ns d rest → LosesComments c new e ns d (n ∷ rest)
  one_kept : {ns : List Node} {d : Document} {n : ℕ} {rest : List ℕ} → WantsSpace ns n → LosesComments c new e ns d rest → LosesComments c new e ns d (n ∷ rest)
  one_removed : {ns : List Node} {d : Document} {n : ℕ} {rest : List ℕ} (mid : List Node) (m : Document) (number : ℕ) → parent_at ns n ≡ Some c → comment_at ns number ≡ Some n
      → IsOne d → RemovesComment number d m → Shows m (ordered_tree mid 0) → LosesComments c new e mid m rest → LosesComments c new e ns d (n ∷ rest)
