-- What string leaves stand for, and the names of properties.
use Rattle.std.specs.Prelude.{◌≡◌, ◌≢◌, ℕ, Bool, true, false, List, [], ◌∷◌, Option, Some, None, chars, String, string_bytes}
use Rattle.std.specs.declared.borrow.CowStr.{CowStr}
use Rattle.std.specs.Cow.{cow_str_bytes}
use Rattle.std.specs.List.{Contains}
use Rattle.jsonc_text.specs.Options.{all_on}
use Rattle.jsonc_text.specs.Strings.{IsString}
use Rattle.jsonc_text.specs.Text.{rest}
use Rattle.jsonc_text.specs.declared.errors.ParseStringErrorKind.{ParseStringErrorKind}
use Rattle.jsonc_text.specs.declared.errors.ParseStringErrorKind.TheVariants.{OutOfMemory}
use Rattle.jsonc_text.specs.string.Escapes.{StringHoldsBackslash}
use Rattle.jsonc_text.specs.string.Faults.{StringErrorAt}
use Rattle.jsonc_tree.specs.Content.{Content, property, string, word}
use Rattle.jsonc_tree.specs.Order.{text_at}
use Rattle.jsonc_tree.specs.Tree.{Node, children_at, content_at}
use Rattle.jsonc_layout.specs.nodes.Properties.{name_at}

-- a string stands at the front of the text, and stands for these characters, whatever follows it
abbrev pub StandsFor : List ℕ → List ℕ → Type 0
StandsFor bytes v = (r : List ℕ) × IsString all_on (chars bytes) v r

-- one stands there
abbrev pub HoldsString : List ℕ → Type 0
HoldsString bytes = (v : List ℕ) × StandsFor bytes v

-- no string stands at the front of the text, and the kind of fault is true of it
pub record IsNoString (bytes : List ℕ) (kind : ParseStringErrorKind) : Type 0 where
  pub none : (v : List ℕ) → StandsFor bytes v → ⊥
  pub error : (i : ℕ) × StringErrorAt true kind (rest bytes 0) (rest bytes i)

-- the leaf's text begins with a string that stands for these bytes
abbrev pub LeafStandsFor : List Node → ℕ → List ℕ → Type 0
LeafStandsFor ns n bytes = StandsFor (text_at ns n) (chars bytes)

-- memory aside, the leaf's text begins with no string, and the kind of fault is true of it
abbrev pub LeafIsNoString : List Node → ℕ → ParseStringErrorKind → Type 0
LeafIsNoString ns n kind = kind ≢ OutOfMemory → IsNoString (text_at ns n) kind

-- a leaf of this content is this name: a string by what it stands for, a word by its text
abbrev pub Names : Content → List ℕ → Type 0
Names (string s) v = StandsFor s v
Names (word s) v = v ≡ chars s
Names _ v = ⊥

-- the property has this name
abbrev pub HasName : List Node → ℕ → List ℕ → Type 0
HasName ns n v = (m : ℕ) × (name_at ns n ≡ Some m) × Names (content_at ns m) v

-- the node is a property that has this name
abbrev pub IsNamed : List Node → List ℕ → ℕ → Type 0
IsNamed ns v n = (content_at ns n ≡ property) × HasName ns n v

-- memory is wanted to read the name that a leaf is: it is a string with a backslash
abbrev pub IsEscaped : Content → Type 0
IsEscaped (string s) = StringHoldsBackslash s 0
IsEscaped _ = ⊥

-- the name of a property is such a string
abbrev pub NameIsEscaped : List Node → ℕ → Type 0
NameIsEscaped ns n = (m : ℕ) × (name_at ns n ≡ Some m) × IsEscaped (content_at ns m)

-- the node is a property with such a name
abbrev pub HasEscapedName : List Node → ℕ → Type 0
HasEscapedName ns n = (content_at ns n ≡ property) × NameIsEscaped ns n

-- one of an object's properties has
abbrev pub HoldsEscapedName : List Node → ℕ → Type 0
HoldsEscapedName ns object = (n : ℕ) × Contains (children_at ns object) n × HasEscapedName ns n

-- the first of these nodes that is a property of this name, if there is one
pub data FirstNamed (ns : List Node) (v : List ℕ) : List ℕ → Option ℕ → Type 0 where
  none : FirstNamed ns v [] None
  here : {n : ℕ} {rest : List ℕ} → IsNamed ns v n → FirstNamed ns v (n ∷ rest) (Some n)
  later : {n : ℕ} {rest : List ℕ} {found : Option ℕ} → (IsNamed ns v n → ⊥) → FirstNamed ns v rest found → FirstNamed ns v (n ∷ rest) found

-- the first property of this name in an object, if there is one
abbrev pub FirstInObject : List Node → ℕ → List ℕ → Option ℕ → Type 0
FirstInObject ns object v found = FirstNamed ns v (children_at ns object) found

-- what R says of the characters of a text that was read, or none where R holds of no characters
abbrev pub ReadsAs : {A : Type 0} → (List ℕ → Type 0) → Option (CowStr A) → Type 0
ReadsAs R None = (v : List ℕ) → R v → ⊥
ReadsAs R (Some s) = R (chars (cow_str_bytes s))

-- the same of a text of its own
abbrev pub NameReads : {A : Type 0} → (List ℕ → Type 0) → Option (String A) → Type 0
NameReads R None = (v : List ℕ) → R v → ⊥
NameReads R (Some s) = R (chars (string_bytes s))

-- the text of a string leaf
abbrev pub string_text : Content → Option (List ℕ)
string_text (string s) = Some s
string_text content = None

abbrev pub is_string : Content → Bool
is_string (string s) = true
is_string _ = false

-- the text of a word
abbrev pub word_text : Content → Option (List ℕ)
word_text (word s) = Some s
word_text content = None
