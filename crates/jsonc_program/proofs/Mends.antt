-- What mending makes of a file's text.
use Rattle.std.proofs.Common.{◌≡◌, ◌∙◌, ◌++◌, ℕ, List, take, drop, ap, subst, sym}
use Rattle.std.proofs.lemmas.List.{take-append-drop}
use Rattle.jsonc_text.specs.Options.{Options}
use Rattle.jsonc_program.specs.Mark.{mark_length}
use Rattle.jsonc_program.specs.Mending.{IsMendedFile, IsMendedText}

module _ (A : Type 0) (o : Options) (old rest text : List ℕ) (is : rest ≡ drop (mark_length old) old) (mended : IsMendedText A o rest text) where
  pub mended_file : (new : List ℕ) → new ≡ take (mark_length old) old ++ text → IsMendedFile A o old new
  mended_file new e = (text, subst (λ r. IsMendedText A o r text) is mended, e)

  -- a text that is mended to itself stays
  pub kept_file : text ≡ rest → IsMendedFile A o old old
  kept_file e = mended_file old (sym (ap (λ t. take (mark_length old) old ++ t) (e ∙ is) ∙ take-append-drop (mark_length old) old))
