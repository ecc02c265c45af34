-- Where reading a text comes to, and what is due there.
-- A place of a text is the text from there on.
use Rattle.std.specs.Prelude.{ℕ, suc, ◌≡◌, Bool, true, false, ◌&&◌, ◌||◌, ◌==◌, ◌≤◌, List, [], ◌∷◌, length, Option, Some, None, IsTrue, nat_lt}
use Rattle.jsonc_text.specs.Gaps.{Gap}
use Rattle.jsonc_text.specs.Grammar.{IsName, literal_value}
use Rattle.jsonc_text.specs.Lexemes.{LexemeKind, Lexeme, punctuation}
use Rattle.jsonc_text.specs.Options.{Options}
use Rattle.jsonc_text.specs.Plain.{Plain, around, depth}
use Rattle.jsonc_walk.specs.declared.container.Container.{Container}
use Rattle.jsonc_walk.specs.declared.container.Container.TheVariants.{Array, Object}
use Rattle.jsonc_walk.specs.Containers.{opening, closing}

-- what is open: a container or a property, which begins there
pub data Opened : Type 0 where
  container : Container → List ℕ → Opened
  property : List ℕ → Opened

pub data Due : Type 0 where
  -- the text's value, or its end
  document : Due
  -- the end of the text
  end : Due
  -- the first element or property, or the closing bracket
  first : Container → Due
  -- a further one, after the comma that stands there
  further : Container → List ℕ → Due
  -- a comma or the closing bracket, after the one that ends there
  comma : Container → List ℕ → Due
  -- a colon, after a name
  colon : Due
  -- the value of a property
  value : Due

-- what is open, the innermost first, what is due, and the text from there on
pub data Place : Type 0 where
  at : List Opened → Due → List ℕ → Place

-- an element or a property of a container may begin
pub data ItemMayCome (o : Options) (k : Container) : Due → Type 0 where
  first_item : ItemMayCome o k (first k)
  further_item : {c : List ℕ} → ItemMayCome o k (further k c)
  without_comma : {e : List ℕ} → IsTrue o.missing_commas → ItemMayCome o k (comma k e)

-- a value may begin: the text's, an element, or that of a property
pub data ValueMayCome (o : Options) : Due → Type 0 where
  of_text : ValueMayCome o document
  of_array : {d : Due} → ItemMayCome o Array d → ValueMayCome o d
  of_property : ValueMayCome o value

-- the bracket may come that closes the container
pub data CloseMayCome (o : Options) (k : Container) : Due → Type 0 where
  empty : CloseMayCome o k (first k)
  after_item : {e : List ℕ} → CloseMayCome o k (comma k e)
  after_comma : {c : List ℕ} → IsTrue o.trailing_commas → CloseMayCome o k (further k c)

-- how many containers are open
abbrev pub containers : List Opened → ℕ
containers [] = 0
containers (container k a ∷ q) = suc (containers q)
containers (property a ∷ q) = containers q

-- how many of what is open counts towards the depth: containers and properties, or containers alone
abbrev pub count : Bool → List Opened → ℕ
count true q = length q
count false q = containers q

-- how many of these a value needs: those around a value in it, or the containers that nest in it
abbrev pub size : Bool → Plain → ℕ
size true v = around v
size false v = depth v

-- the value, if there is one, needs at most 512
abbrev pub FitsIn : Bool → Option Plain → Type 0
FitsIn whole None = Unit {0}
FitsIn whole (Some v) = size whole v ≤ 512

-- how much a property counts beside its value
abbrev pub per_property : Bool → ℕ
per_property true = 1
per_property false = 0

-- how many an empty container needs
abbrev pub least : Bool → ℕ
least true = 0
least false = 1

-- `[` or `{`
abbrev pub is_opening : LexemeKind → Bool
is_opening (punctuation c) = c == 0x5B || c == 0x7B
is_opening _ = false

-- a value that begins with the lexeme is too deep: more than 512 containers and properties are open; or, where containers alone count, it is one and 512 are
abbrev pub is_deep : Bool → List Opened → LexemeKind → Bool
is_deep true q l = nat_lt 512 (length q)
is_deep false q l = is_opening l && nat_lt 511 (containers q)

-- after a value that ends before r
abbrev pub after_value : List Opened → List ℕ → Place
after_value [] r = at [] end r
after_value (container k a ∷ q) r = at (container k a ∷ q) (comma k r) r
after_value (property a ∷ q) r = at q (comma Object r) r

-- past a gap and a lexeme reading comes from one place to the next; whole: containers and properties count towards the depth, and else containers alone
pub data Step (o : Options) (whole : Bool) : Place → Place → Type 0 where
  takes_literal : {q : List Opened} {d : Due} {v : Plain} {t u : List ℕ} (l : LexemeKind) (r : List ℕ)
      → ValueMayCome o d → is_deep whole q l ≡ false → Gap o t u → Lexeme o l u r → literal_value l ≡ Some v
      → Step o whole (at q d t) (after_value q r)
  opens : {q : List Opened} {d : Due} {t r : List ℕ} (k : Container) → ValueMayCome o d
      → is_deep whole q (punctuation (opening k)) ≡ false → Gap o t (opening k ∷ r)
      → Step o whole (at q d t) (at (container k (opening k ∷ r) ∷ q) (first k) r)
  closes : {q : List Opened} {d : Due} {a t r : List ℕ} (k : Container) → CloseMayCome o k d → Gap o t (closing k ∷ r)
      → Step o whole (at (container k a ∷ q) d t) (after_value q r)
  takes_comma : {q : List Opened} {e t r : List ℕ} (k : Container) → Gap o t (0x2C ∷ r) → Step o whole (at q (comma k e) t) (at q (further k (0x2C ∷ r)) r)
  takes_name : {q : List Opened} {d : Due} {n t u r : List ℕ} → ItemMayCome o Object d → Gap o t u → IsName o u n r
      → Step o whole (at q d t) (at (property u ∷ q) colon r)
  takes_colon : {q : List Opened} {t r : List ℕ} → Gap o t (0x3A ∷ r) → Step o whole (at q colon t) (at q value r)

-- from the one place reading comes to the other, by any number of steps
pub data ComesTo (o : Options) (whole : Bool) : Place → Place → Type 0 where
  here : {p : Place} → ComesTo o whole p p
  on : {p q r : Place} → Step o whole p q → ComesTo o whole q r → ComesTo o whole p r

-- reading the text s comes to the place
abbrev pub Reached : Options → Bool → List ℕ → Place → Type 0
Reached o whole s p = ComesTo o whole (at [] document s) p
