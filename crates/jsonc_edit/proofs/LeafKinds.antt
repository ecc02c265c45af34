-- What a leaf of one kind is not, and what it is by its kind.
use Rattle.std.proofs.Common.{◌≡◌, Bool, true, false, List, [], ◌∷◌, Some, IsTrue, refl, ap, if◌then◌else◌}
use Rattle.jsonc_text.specs.Options.{Options}
use Rattle.jsonc_text.specs.Text.{starts}
use Rattle.jsonc_text.proofs.Basics.{test_eq}
use Rattle.jsonc_tree.specs.Content.{Content, is_container, root, token, newline}
use Rattle.jsonc_tree.specs.declared.node.CstNewlineKind.{CstNewlineKind}
use Rattle.jsonc_layout.specs.nodes.Kinds.{is_whitespace, is_newline, is_comment, is_trivia, is_comma}
use Rattle.jsonc_sound.specs.Adjacent.{first_char}
use Rattle.jsonc_sound.specs.Spaces.{first_printed, is_bare, is_bare_leaf}
use Rattle.jsonc_sound.specs.Shape.{IsTrivia, IsNameBefore}
use Rattle.jsonc_sound.specs.TreeChanges.{IsElement}
use Rattle.jsonc_edit.specs.Put.{a_space}

-- trivia
pub comment_trivia : (c : Content) → IsTrue (is_comment c) → IsTrue (is_trivia c)
comment_trivia (Content.comment s) h = refl
comment_trivia c h = cc

pub trivia_is : (o : Options) (content : Content) → IsTrivia o content → IsTrue (is_trivia content)
trivia_is o (Content.whitespace s) h = refl
trivia_is o (Content.newline k) h = refl
trivia_is o (Content.comment s) h = refl
trivia_is o content h = absurd h

pub trivia_leaf : (c : Content) → IsTrue (is_trivia c) → is_container c ≡ false
trivia_leaf (Content.whitespace s) h = refl
trivia_leaf (Content.newline k) h = refl
trivia_leaf (Content.comment s) h = refl
trivia_leaf c h = cc

pub blank_leaf : (content : Content) → is_whitespace content ≡ true → is_container content ≡ false
blank_leaf (Content.whitespace s) e = refl
blank_leaf content e = cc

pub trivia_no_comma : (o : Options) (c : Content) → IsTrivia o c → is_comma c ≡ false
trivia_no_comma o (Content.whitespace s) h = refl
trivia_no_comma o (Content.newline n) h = refl
trivia_no_comma o (Content.comment s) h = refl
trivia_no_comma o c h = absurd h

-- an element
pub element_no_comma : (content : Content) → IsElement content → is_comma content ≡ false
element_no_comma (Content.token c) e = cc
element_no_comma content e = refl

pub no_space : (content : Content) → IsElement content → content ≡ a_space → ⊥
no_space (Content.whitespace s) e f = cc
no_space content e f = cc

-- a space
pub no_root : (content : Content) → content ≡ a_space → content ≡ root → ⊥
no_root content e f = cc

-- a name
pub name_leaf : (o : Options) (content : Content) → IsNameBefore o content [] → is_container content ≡ false
name_leaf o (Content.string s) h = refl
name_leaf o (Content.word s) h = refl
name_leaf o content h = absurd h

-- a comma is this token, and a newline one of its kinds
pub comma_is : (content : Content) → is_comma content ≡ true → content ≡ token 0x2C
comma_is (Content.token c) h = ap Content.token (test_eq c 0x2C h)
comma_is content h = cc

pub newline_is : (content : Content) → is_newline content ≡ true → (k : CstNewlineKind) × (content ≡ newline k)
newline_is (Content.newline k) h = (k, refl)
newline_is content h = cc

-- a leaf that is no literal without quotes
pub first_not_bare : (content : Content) (rest : List Content) → is_bare content ≡ false → is_bare_leaf (first_printed rest) ≡ false → is_bare_leaf (first_printed (content ∷ rest)) ≡ false
first_not_bare content rest e f = by (starts (λ c. true) (first_char content))
  where
    by : (b : Bool) → is_bare_leaf (if b then Some content else first_printed rest) ≡ false
    by true = e
    by false = f
