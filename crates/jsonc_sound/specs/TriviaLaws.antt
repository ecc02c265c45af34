-- Laws of changes of trivia, for all options.
use Rattle.std.specs.Prelude.{◌≡◌, false, List, [], ◌∷◌, ◌++◌, None}
use Rattle.jsonc_text.specs.Options.{Options}
use Rattle.jsonc_tree.specs.Content.{Content, whitespace}
use Rattle.jsonc_tree.specs.OrderedTree.{OrderedTree, leaves}
use Rattle.jsonc_sound.specs.Lines.{DocumentLinesEnd}
use Rattle.jsonc_sound.specs.ChangeLaws.{DiffersIn}
use Rattle.jsonc_sound.specs.Sound.{Sound}
use Rattle.jsonc_sound.specs.TriviaChanges.{AreTrivia, AreTriviaOf, StretchChanged, EndsInComment}
use Rattle.jsonc_sound.specs.Adjacent.{follower, LastEnds}
use Rattle.jsonc_sound.specs.Alone.{DocumentAlone}
use Rattle.jsonc_sound.specs.Spaces.{meet}

-- where trivia is replaced by trivia, wherever, each node stays what it is alone
abbrev pub KeepsNodes : Options → OrderedTree → Type 0
KeepsNodes o t = DocumentAlone o t → (was now : List Content) (u : OrderedTree) → StretchChanged was now t u
    → AreTrivia was → AreTriviaOf o now → DocumentAlone o u

-- so where line comments end with their lines in the new tree, and the last leaf before the stretch ends, a sound document stays sound
abbrev pub StaysSoundWithTrivia : Options → OrderedTree → Type 0
StaysSoundWithTrivia o t = Sound o t → (was now : List Content) (u : OrderedTree) → StretchChanged was now t u
    → AreTrivia was → AreTriviaOf o now → DocumentLinesEnd u
    → (d : DiffersIn was now (leaves t) (leaves u)) → LastEnds o d.front (follower (now ++ d.back) None) → Sound o u

-- where a comment leaves, alone or as a line comment with trivia before it, and no two literals without quotes meet
-- that it held apart, a sound document stays sound
abbrev pub StaysSoundWithoutComment : Options → OrderedTree → Type 0
StaysSoundWithoutComment o t = Sound o t → (was : List Content) (u : OrderedTree) → StretchChanged was [] t u → AreTrivia was → EndsInComment was
    → (d : DiffersIn was [] (leaves t) (leaves u)) → meet d.front d.back ≡ false → Sound o u

-- and where they would, it does with a space in the comment's place
abbrev pub StaysSoundWithSpaceForComment : Options → OrderedTree → Type 0
StaysSoundWithSpaceForComment o t = Sound o t → (was : List Content) (u : OrderedTree)
    → StretchChanged was (whitespace (0x20 ∷ []) ∷ []) t u → AreTrivia was → DocumentLinesEnd u → Sound o u
