-- Which texts are JSON, with their values (RFC 8259). A text is a list of its characters, and its bytes are UTF-8 (8.1).
-- A part may end anywhere: what the rules let stand behind it decides.
use Rattle.std.specs.Prelude.{ℕ, ◌≡◌, Bool, not, ◌&&◌, ◌||◌, ◌==◌, List, [], ◌∷◌, ◌++◌, IsTrue, nat_lt}
use Rattle.std.specs.Int.{is_in_range}
use Rattle.jsonc_text.specs.Numbers.{is_e, is_sign}
use Rattle.jsonc_text.specs.Plain.{Plain, Items, no_items, item, Members, no_members, member}
use Rattle.jsonc_text.specs.Strings.{AreHex4, gives, hex4, is_high_surrogate, is_low_surrogate, is_surrogate, meaning, pair_char}
use Rattle.jsonc_text.specs.Text.{Many, is_digit}
use Rattle.jsonc_text.specs.Words.{Keyword, keyword_text}

-- ws (2): space, tab, LF and CR
abbrev pub is_ws : ℕ → Bool
is_ws c = c == 0x20 || c == 0x09 || c == 0x0A || c == 0x0D

-- minus (6), or none
pub data Minus : List ℕ → List ℕ → Type 0 where
  none : {r : List ℕ} → Minus r r
  minus : {r : List ℕ} → Minus (0x2D ∷ r) r

-- int (6): `0`, or a digit 1 to 9 and any digits
pub data Int : List ℕ → List ℕ → Type 0 where
  zero : {r : List ℕ} → Int (0x30 ∷ r) r
  digits : {c : ℕ} {t r : List ℕ} → IsTrue (is_in_range 0x31 0x39 c) → Many is_digit t r → Int (c ∷ t) r

-- one digit or more
pub data Digits : List ℕ → List ℕ → Type 0 where
  digits : {c : ℕ} {t r : List ℕ} → IsTrue (is_digit c) → Many is_digit t r → Digits (c ∷ t) r

-- frac (6), or none
pub data Frac : List ℕ → List ℕ → Type 0 where
  none : {r : List ℕ} → Frac r r
  frac : {t r : List ℕ} → Digits t r → Frac (0x2E ∷ t) r

-- exp (6), or none
pub data Exp : List ℕ → List ℕ → Type 0 where
  none : {r : List ℕ} → Exp r r
  exp : {e : ℕ} {t r : List ℕ} → IsTrue (is_e e) → Digits t r → Exp (e ∷ t) r
  signed : {e s : ℕ} {t r : List ℕ} → IsTrue (is_e e) → IsTrue (is_sign s) → Digits t r → Exp (e ∷ s ∷ t) r

-- number (6)
pub data Number : List ℕ → List ℕ → Type 0 where
  number : {t u v w r : List ℕ} → Minus t u → Int u v → Frac v w → Exp w r → Number t r

-- unescaped (7): no quotation mark, no reverse solidus, and none of U+0000 to U+001F
abbrev pub is_unescaped : ℕ → Bool
is_unescaped c = nat_lt 0x1F c && not (c == 0x22 || c == 0x5C)

-- char (7), with the character that it stands for; between double quotes a backslash before `"`, `\`, `/`, b, f, n, r and t alone gives one at once
pub data Character : List ℕ → ℕ → List ℕ → Type 0 where
  unescaped : {c : ℕ} {r : List ℕ} → IsTrue (is_unescaped c) → Character (c ∷ r) c r
  escaped : {c d : ℕ} {r : List ℕ} → meaning 0x22 c ≡ gives d → Character (0x5C ∷ c ∷ r) d r
  unit : {a b c d : ℕ} {r : List ℕ} → AreHex4 a b c d → IsTrue (not (is_surrogate (hex4 a b c d)))
      → Character (0x5C ∷ 0x75 ∷ a ∷ b ∷ c ∷ d ∷ r) (hex4 a b c d) r
  pair : {a b c d e f g h : ℕ} {r : List ℕ} → AreHex4 a b c d → IsTrue (is_high_surrogate (hex4 a b c d))
      → AreHex4 e f g h → IsTrue (is_low_surrogate (hex4 e f g h))
      → Character (0x5C ∷ 0x75 ∷ a ∷ b ∷ c ∷ d ∷ 0x5C ∷ 0x75 ∷ e ∷ f ∷ g ∷ h ∷ r) (pair_char (hex4 a b c d) (hex4 e f g h)) r

pub data Characters : List ℕ → List ℕ → List ℕ → Type 0 where
  none : {r : List ℕ} → Characters r [] r
  char : {c : ℕ} {t u v r : List ℕ} → Character t c u → Characters u v r → Characters t (c ∷ v) r

-- string (7)
pub data Quoted : List ℕ → List ℕ → List ℕ → Type 0 where
  quoted : {t v r : List ℕ} → Characters t v (0x22 ∷ r) → Quoted (0x22 ∷ t) v r

-- false, null and true (3)
abbrev pub keyword_value : Keyword → Plain
keyword_value (Keyword.boolean b) = Plain.boolean b
keyword_value Keyword.null = Plain.null

mutual
  -- value (3); around each of the six structural characters may stand ws (2)
  pub data Value : List ℕ → Plain → List ℕ → Type 0 where
    literal : (k : Keyword) {t r : List ℕ} → t ≡ keyword_text k ++ r → Value t (keyword_value k) r
    number : {s t r : List ℕ} → t ≡ s ++ r → Number t r → Value t (Plain.number s) r
    string : {t v r : List ℕ} → Quoted t v r → Value t (Plain.string v) r
    empty_array : {t r : List ℕ} → Many is_ws t (0x5D ∷ r) → Value (0x5B ∷ t) (Plain.array no_items) r
    array : {vs : Items} {t u r : List ℕ} → Many is_ws t u → Elements u vs r → Value (0x5B ∷ t) (Plain.array vs) r
    empty_object : {t r : List ℕ} → Many is_ws t (0x7D ∷ r) → Value (0x7B ∷ t) (Plain.object no_members) r
    object : {ms : Members} {t u r : List ℕ} → Many is_ws t u → Properties u ms r → Value (0x7B ∷ t) (Plain.object ms) r

  -- the values of an array (5), with a comma between two, and the `]`
  pub data Elements : List ℕ → Items → List ℕ → Type 0 where
    last : {v : Plain} {t u r : List ℕ} → Value t v u → Many is_ws u (0x5D ∷ r) → Elements t (item v no_items) r
    element : {v : Plain} {vs : Items} {t u w x r : List ℕ} → Value t v u → Many is_ws u (0x2C ∷ w) → Many is_ws w x
        → Elements x vs r → Elements t (item v vs) r

  -- the members of an object (4), with a comma between two, and the `}`
  pub data Properties : List ℕ → Members → List ℕ → Type 0 where
    last_property : {name : List ℕ} {v : Plain} {t u r : List ℕ} → Member t name v u → Many is_ws u (0x7D ∷ r)
        → Properties t (member name v no_members) r
    property : {name : List ℕ} {v : Plain} {ms : Members} {t u w x r : List ℕ} → Member t name v u → Many is_ws u (0x2C ∷ w)
        → Many is_ws w x → Properties x ms r → Properties t (member name v ms) r

  -- member (4)
  pub data Member : List ℕ → List ℕ → Plain → List ℕ → Type 0 where
    named : {name : List ℕ} {v : Plain} {t u w x r : List ℕ} → Quoted t name u → Many is_ws u (0x3A ∷ w) → Many is_ws w x
        → Value x v r → Member t name v r

-- JSON-text (2): ws, a value and ws
abbrev pub IsJson : List ℕ → Plain → Type 0
IsJson t v = (u r : List ℕ) × Many is_ws t u × Value u v r × Many is_ws r []
