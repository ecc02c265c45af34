-- Names of leaves and of properties.
use Rattle.std.proofs.Common.{◌≡◌, [], ◌∷◌, ℕ, Bool, false, List, Option, None, Some, Result, Ok, Err, OnErr, refl, sym, ap, subst, ◌∙◌, chars, arith}
use Rattle.std.specs.Bool.{Decides}
use Rattle.std.proofs.lemmas.Bool.{false≢true}
use Rattle.std.proofs.lemmas.Slice.Eq.{bytes_eq-Decides}
use Rattle.std.proofs.lemmas.Str.{encodes-chars}
use Rattle.std.specs.List.{Contains}
use Rattle.std.proofs.lemmas.List.Elements.{Contains-append_right}
use Rattle.std.specs.Str.{IsUtf8, bytes_eq}
use lib.Utf8.{encodes}
use Rattle.jsonc_text.proofs.UniqueStrings.{string_unique}
use Rattle.jsonc_tree.specs.Tree.{Node, content_at}
use Rattle.jsonc_tree.specs.Content.{Content, root, object, array, property, string, word, number, boolean, null, token, whitespace, newline, comment}
use Rattle.jsonc_layout.specs.nodes.Names.{FirstNamed, none, here, later, HasEscapedName, HasName, IsNamed, Names, string_text, word_text}

Some_same : (s t : List ℕ) → Some s ≡ Some t → s ≡ t
Some_same s t e = cc

not_Some : {X : Type 0} (s : List ℕ) → None ≡ Some s → X
not_Some s e = absurd (let wrong : None ≡ Some s = e in cc)

-- only a string has the text of one
pub string_from_text : (content : Content) (s : List ℕ) → string_text content ≡ Some s → content ≡ string s
string_from_text root s e = not_Some s e
string_from_text object s e = not_Some s e
string_from_text array s e = not_Some s e
string_from_text property s e = not_Some s e
string_from_text (string t) s e = ap string (Some_same t s e)
string_from_text (word t) s e = not_Some s e
string_from_text (number t) s e = not_Some s e
string_from_text (boolean b) s e = not_Some s e
string_from_text null s e = not_Some s e
string_from_text (token c) s e = not_Some s e
string_from_text (whitespace t) s e = not_Some s e
string_from_text (newline k) s e = not_Some s e
string_from_text (comment t) s e = not_Some s e

-- only a word has the text of one
pub word_from_text : (content : Content) (s : List ℕ) → word_text content ≡ Some s → content ≡ word s
word_from_text root s e = not_Some s e
word_from_text object s e = not_Some s e
word_from_text array s e = not_Some s e
word_from_text property s e = not_Some s e
word_from_text (string t) s e = not_Some s e
word_from_text (word t) s e = ap word (Some_same t s e)
word_from_text (number t) s e = not_Some s e
word_from_text (boolean b) s e = not_Some s e
word_from_text null s e = not_Some s e
word_from_text (token c) s e = not_Some s e
word_from_text (whitespace t) s e = not_Some s e
word_from_text (newline k) s e = not_Some s e
word_from_text (comment t) s e = not_Some s e

not_None : (s : List ℕ) → Some s ≡ None → ⊥
not_None s e = cc

-- what is neither is no name
pub no_name : (content : Content) → string_text content ≡ None → word_text content ≡ None → (v : List ℕ) → Names content v → ⊥
no_name (string s) e f v h = not_None s e
no_name (word s) e f v h = not_None s f
no_name root e f v h = h
no_name object e f v h = h
no_name array e f v h = h
no_name property e f v h = h
no_name (number s) e f v h = h
no_name (boolean b) e f v h = h
no_name null e f v h = h
no_name (token c) e f v h = h
no_name (whitespace s) e f v h = h
no_name (newline k) e f v h = h
no_name (comment s) e f v h = h

-- a leaf is at most one name
pub names_once : (content : Content) (v w : List ℕ) → Names content v → Names content w → v ≡ w
names_once (string s) v w h k = (string_unique h.1 k.1).0
names_once (word s) v w h k = h ∙ sym k
names_once root v w h k = absurd h
names_once object v w h k = absurd h
names_once array v w h k = absurd h
names_once property v w h k = absurd h
names_once (number s) v w h k = absurd h
names_once (boolean b) v w h k = absurd h
names_once null v w h k = absurd h
names_once (token c) v w h k = absurd h
names_once (whitespace s) v w h k = absurd h
names_once (newline e) v w h k = absurd h
names_once (comment s) v w h k = absurd h

Some_number : (m n : ℕ) → Some m ≡ Some n → m ≡ n
Some_number m n e = cc

-- a property has at most one name
pub has_name_once : (ns : List Node) (n : ℕ) (v w : List ℕ) → HasName ns n v → HasName ns n w → v ≡ w
has_name_once ns n v w (m, e, h) (l, f, k) =
    let same : l ≡ m = Some_number l m (sym f ∙ e) in
    names_once (content_at ns m) v w h (subst (λ i. Names (content_at ns i) w) same k)

pub same_text : (s t : List ℕ) → IsUtf8 s → IsUtf8 t → chars s ≡ chars t → s ≡ t
same_text s t u w e = sym (encodes-chars s u) ∙ ap encodes e ∙ encodes-chars t w

-- a text that stands for the one name that R allows, compared with another
pub name_compared : (R : List ℕ → Type 0) (s t : List ℕ) (b : Bool) → ((v w : List ℕ) → R v → R w → v ≡ w) → IsUtf8 s → IsUtf8 t → R (chars s) → b ≡ bytes_eq s t → Decides b (R (chars t))
name_compared R s t b once u w h is =
    let same = bytes_eq-Decides s t in
    (λ e. subst (λ z. R (chars z)) (same.0 (sym is ∙ e)) h, λ k. is ∙ same.1 (same_text s t u w (once (chars s) (chars t) h k)))

-- where no name is allowed, none is this one
pub name_missing : (R : List ℕ → Type 0) (v : List ℕ) → ((w : List ℕ) → R w → ⊥) → Decides false (R v)
name_missing R v nobody = (λ e. absurd (false≢true e), λ h. absurd (nobody v h))

-- in a row stands a property whose name takes memory to read
abbrev pub AnyEscaped : List Node → List ℕ → Type 0
AnyEscaped ns row = (n : ℕ) × Contains row n × HasEscapedName ns n

module _ (ns : List Node) (v row : List ℕ) (n : ℕ) (rest : List ℕ) (e : row ≡ n ∷ rest) where
  pub first_here : IsNamed ns v n → FirstNamed ns v row (Some n)
  first_here named = subst (λ l. FirstNamed ns v l (Some n)) (sym e) (here named)

  pub first_later : (IsNamed ns v n → ⊥) → (found : Option ℕ) → FirstNamed ns v rest found → FirstNamed ns v row found
  first_later other found later_on = subst (λ l. FirstNamed ns v l found) (sym e) (later other later_on)

  escaped_here : HasEscapedName ns n → AnyEscaped ns row
  escaped_here h = (n, subst (λ l. Contains l n) (sym e) (0, omega arith, refl), h)

  pub escaped_refused : {T E : Type 0} (all : List ℕ) (r : Result T E) → HasEscapedName ns n → (AnyEscaped ns row → AnyEscaped ns all) → OnErr r (AnyEscaped ns all)
  escaped_refused all (Ok x) h further = tt
  escaped_refused all (Err x) h further = further (escaped_here h)

  pub escaped_later : AnyEscaped ns rest → AnyEscaped ns row
  escaped_later (k, in_rest, h) = (k, subst (λ l. Contains l k) (sym e) (Contains-append_right (n ∷ []) rest k in_rest), h)

pub first_none : (ns : List Node) (v row : List ℕ) → row ≡ [] → FirstNamed ns v row None
first_none ns v row e = subst (λ l. FirstNamed ns v l None) (sym e) none
