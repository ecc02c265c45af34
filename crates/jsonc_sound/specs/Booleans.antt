-- Where `true` is replaced by `false` in its place: all that ended before the one ends before the other, but for a hexadecimal number before `false`.
use Rattle.std.specs.Prelude.{◌≡◌, ℕ, Bool, false, ◌&&◌, ◌||◌, ◌==◌, List, [], ◌∷◌, Option, Some, None, chars}
use Rattle.jsonc_text.specs.Options.{Options}
use Rattle.jsonc_text.specs.Numbers.{is_x, is_sign}
use Rattle.jsonc_tree.specs.Content.{Content}
use Rattle.jsonc_tree.specs.OrderedTree.{OrderedTree, none, leaves, Top}
use Rattle.jsonc_sound.specs.ChangeLaws.{DiffersIn}
use Rattle.jsonc_sound.specs.Sound.{Sound}
use Rattle.jsonc_sound.specs.TreeChanges.{leaves_of, DocumentChanged}
use Rattle.jsonc_sound.specs.Adjacent.{last_printed}

-- `0x` or `0X` stands first
abbrev pub begins_hex : List ℕ → Bool
begins_hex [] = false
begins_hex (c ∷ []) = false
begins_hex (c ∷ d ∷ s) = c == 0x30 && is_x d

-- or behind a sign
abbrev pub is_hexadecimal : List ℕ → Bool
is_hexadecimal [] = false
is_hexadecimal (c ∷ s) = begins_hex (c ∷ s) || (is_sign c && begins_hex s)

abbrev pub is_hex_leaf : Option Content → Bool
is_hex_leaf None = false
is_hex_leaf (Some (Content.number s)) = is_hexadecimal (chars s)
is_hex_leaf (Some (Content.word s)) = is_hexadecimal (chars s)
is_hex_leaf (Some content) = false

abbrev pub boolean_leaf : Bool → Top
boolean_leaf b = record { content = Content.boolean b; below = none }

-- a sound document stays sound
abbrev pub StaysSoundWithBoolean : Options → OrderedTree → Type 0
StaysSoundWithBoolean o t = Sound o t → (was now : Bool) (path : List ℕ) (u : OrderedTree) → DocumentChanged (boolean_leaf was) (boolean_leaf now) path t u
    → (d : DiffersIn (leaves_of (boolean_leaf was)) (leaves_of (boolean_leaf now)) (leaves t) (leaves u))
    → (now ≡ false → is_hex_leaf (last_printed d.front) ≡ false) → Sound o u
