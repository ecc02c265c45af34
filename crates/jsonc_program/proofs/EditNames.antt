-- The names of a command's path.
use Rattle.std.proofs.Common.{◌≡◌, ◌++◌, ◌+◌, ◌<◌, ◌≤◌, ◌∙◌, ℕ, List, [], ◌∷◌, Option, Some, None, append-nil, chars, drop, get_or, length, map, option_map, Result, Ok, Err, IfOk, IfErr, refl, sym, ap, subst}
use Rattle.std.proofs.lemmas.List.{drop_all, drop_more}
use Rattle.std.specs.Cow.{cow_str_bytes}
use Rattle.std.specs.declared.string.String.{String}
use Rattle.std.specs.declared.vec.Vec.{Vec}
use Rattle.jsonc_text.specs.Grammar.{IsDocument}
use Rattle.jsonc_text.specs.Options.{Options, all_on}
use Rattle.jsonc_text.specs.Plain as plains
use Rattle.jsonc_text.specs.Plain.{Plain, Items, no_items, item}
use Rattle.jsonc_walk.specs.Located.{items_at, value_at}
use Rattle.jsonc_ast.specs.Views.{items_located, plain}
use Rattle.jsonc_ast.specs.declared.ast.Array.{Array}
use Rattle.jsonc_ast.specs.declared.ast.BooleanLit.{BooleanLit}
use Rattle.jsonc_ast.specs.declared.ast.NullKeyword.{NullKeyword}
use Rattle.jsonc_ast.specs.declared.ast.NumberLit.{NumberLit}
use Rattle.jsonc_ast.specs.declared.ast.Object.{Object}
use Rattle.jsonc_walk.specs.declared.name.StringLit.{StringLit}
use Rattle.jsonc_ast.specs.declared.ast.Value.{Value}
use Rattle.jsonc_ast.specs.declared.ast.Value as values
use Rattle.jsonc_program.proofs.EditValues.{view-Array, view-BooleanLit, view-NullKeyword, view-NumberLit, view-Object, view-StringLit}
use Rattle.jsonc_layout.specs.input.Views.{chars_of, items_of}
use Rattle.jsonc_parser.specs.paths.Found.{names_of}
use Rattle.jsonc_engine.specs.Argument.{AreNames, AreNoNames, IsFaultOfNames, IsFaultOfPath, IsPath, items_in, strings, text_in}
use Rattle.jsonc_engine.specs.Parser.{OutOfMemory}
use Rattle.jsonc_engine.specs.declared.fault.Fault.{Fault}
use Rattle.jsonc_engine.specs.declared.fault.Fault.TheVariants.{Edit, NotNames}

-- a value that has a text is that string, and one that has none is no string; so of elements and arrays
string_from : (p : Plain) (t : List ℕ) → text_in p ≡ Some t → p ≡ plains.string t
string_from (plains.string s) t e = let same : s ≡ t = cc in ap plains.string same
string_from _ t e = cc

no_string : (p : Plain) → text_in p ≡ None → (t : List ℕ) → p ≡ plains.string t → ⊥
no_string p none t is = let wrong : None ≡ Some t = sym none ∙ ap text_in is in cc

array_from : (p : Plain) (vs : Items) → items_in p ≡ Some vs → p ≡ plains.array vs
array_from (plains.array ws) vs e = let same : ws ≡ vs = cc in ap plains.array same
array_from _ vs e = cc

no_array : (p : Plain) → items_in p ≡ None → (names : List (List ℕ)) → p ≡ strings names → ⊥
no_array p none names is = let wrong : None ≡ Some (items_of (map plains.string names)) = sym none ∙ ap items_in is in cc

-- what is told of an optional text that is seen through f
pub some_text : {X : Type 0} (f : X → List ℕ) (o : Option X) (x : X) (p : Plain) → option_map f o ≡ text_in p → o ≡ Some x → text_in p ≡ Some (f x)
some_text f o x p e is = sym e ∙ ap (option_map f) is

pub no_text : {X : Type 0} (f : X → List ℕ) (o : Option X) (p : Plain) → option_map f o ≡ text_in p → ((x : X) → o ≡ Some x → ⊥) → text_in p ≡ None
no_text f None p e other = sym e
no_text f (Some x) p e other = absurd (other x refl)

-- a value among others that is no string
among : (done names : List (List ℕ)) (v : Plain) (rest : List Plain) → map plains.string done ++ v ∷ rest ≡ map plains.string names → (t : List ℕ) × (v ≡ plains.string t)
among [] [] v rest e = cc
among [] (n ∷ ns) v rest e = let same : v ≡ plains.string n = cc in (n, same)
among (d ∷ ds) [] v rest e = cc
among (d ∷ ds) (n ∷ ns) v rest e =
    let later : map plains.string ds ++ v ∷ rest ≡ map plains.string ns = cc in
    among ds ns v rest later

listed : (vs ws : List Plain) → items_of vs ≡ items_of ws → vs ≡ ws
listed [] [] e = refl
listed [] (w ∷ ws) e = cc
listed (v ∷ vs) [] e = cc
listed (v ∷ vs) (w ∷ ws) e =
    let head : v ≡ w = cc in
    let rest : items_of vs ≡ items_of ws = cc in
    ap (λ (x : Plain). x ∷ vs) head ∙ ap (λ (l : List Plain). w ∷ l) (listed vs ws rest)

-- a string behind others
behind_one : (names : List (List ℕ)) (s : List ℕ) (rest : List Plain) → map plains.string names ++ plains.string s ∷ rest ≡ map plains.string (names ++ s ∷ []) ++ rest
behind_one [] s rest = refl
behind_one (n ∷ names) s rest = ap (λ (l : List Plain). plains.string n ∷ l) (behind_one names s rest)

module _ {A : Type 0} where
  -- what a value stands for, variant by variant
  items_plain : (vs : List (Value A)) → items_at (items_located vs) ≡ items_of (map plain vs)
  items_plain [] = refl
  items_plain (v ∷ vs) = ap (item (plain v)) (items_plain vs)

  pub text_of_string : (v : Value A) (s : StringLit A) → v ≡ values.StringLit s → text_in (plain v) ≡ Some (chars (cow_str_bytes s.value))
  text_of_string v s is = ap (λ (x : Value A). text_in (plain x)) is ∙ ap (λ x. text_in (value_at x)) (view-StringLit s)

  pub text_of_number : (v : Value A) (n : NumberLit) → v ≡ values.NumberLit n → text_in (plain v) ≡ None
  text_of_number v n is = ap (λ (x : Value A). text_in (plain x)) is ∙ ap (λ x. text_in (value_at x)) (view-NumberLit A n)

  pub text_of_boolean : (v : Value A) (b : BooleanLit) → v ≡ values.BooleanLit b → text_in (plain v) ≡ None
  text_of_boolean v b is = ap (λ (x : Value A). text_in (plain x)) is ∙ ap (λ x. text_in (value_at x)) (view-BooleanLit A b)

  pub text_of_object : (v : Value A) (o : Object A) → v ≡ values.Object o → text_in (plain v) ≡ None
  text_of_object v o is = ap (λ (x : Value A). text_in (plain x)) is ∙ ap (λ x. text_in (value_at x)) (view-Object o)

  pub text_of_array : (v : Value A) (a : Array A) → v ≡ values.Array a → text_in (plain v) ≡ None
  text_of_array v a is = ap (λ (x : Value A). text_in (plain x)) is ∙ ap (λ x. text_in (value_at x)) (view-Array a)

  pub text_of_null : (v : Value A) (n : NullKeyword) → v ≡ values.NullKeyword n → text_in (plain v) ≡ None
  text_of_null v n is = ap (λ (x : Value A). text_in (plain x)) is ∙ ap (λ x. text_in (value_at x)) (view-NullKeyword A n)

  pub items_of_string : (v : Value A) (s : StringLit A) → v ≡ values.StringLit s → items_in (plain v) ≡ None
  items_of_string v s is = ap (λ (x : Value A). items_in (plain x)) is ∙ ap (λ x. items_in (value_at x)) (view-StringLit s)

  pub items_of_number : (v : Value A) (n : NumberLit) → v ≡ values.NumberLit n → items_in (plain v) ≡ None
  items_of_number v n is = ap (λ (x : Value A). items_in (plain x)) is ∙ ap (λ x. items_in (value_at x)) (view-NumberLit A n)

  pub items_of_boolean : (v : Value A) (b : BooleanLit) → v ≡ values.BooleanLit b → items_in (plain v) ≡ None
  items_of_boolean v b is = ap (λ (x : Value A). items_in (plain x)) is ∙ ap (λ x. items_in (value_at x)) (view-BooleanLit A b)

  pub items_of_object : (v : Value A) (o : Object A) → v ≡ values.Object o → items_in (plain v) ≡ None
  items_of_object v o is = ap (λ (x : Value A). items_in (plain x)) is ∙ ap (λ x. items_in (value_at x)) (view-Object o)

  pub items_of_array : (v : Value A) (a : Array A) → v ≡ values.Array a → items_in (plain v) ≡ Some (items_of (map plain a.elements.items))
  items_of_array v a is = ap (λ (x : Value A). items_in (plain x)) is ∙ ap (λ x. items_in (value_at x)) (view-Array a) ∙ ap Some (items_plain a.elements.items)

  pub items_of_null : (v : Value A) (n : NullKeyword) → v ≡ values.NullKeyword n → items_in (plain v) ≡ None
  items_of_null v n is = ap (λ (x : Value A). items_in (plain x)) is ∙ ap (λ x. items_in (value_at x)) (view-NullKeyword A n)

  one_no_string : (all : List (Value A)) (done : List (List ℕ)) (v : Value A) (rest : List (Value A))
      → map plain all ≡ map plains.string done ++ map plain (v ∷ rest) → text_in (plain v) ≡ None → AreNoNames (Some (plains.array (items_of (map plain all))))
  one_no_string all done v rest split other names e =
      let same : items_of (map plain all) ≡ items_of (map plains.string names) = cc in
      let found = among done names (plain v) (map plain rest) (sym split ∙ listed (map plain all) (map plains.string names) same) in
      no_string (plain v) other found.0 found.1

  -- the values before the rest are strings
  abbrev pub StringsBefore : List (Value A) → List (Value A) → Type 0
  StringsBefore all rest = (names : List (List ℕ)) × (map plain all ≡ map plains.string names ++ map plain rest)

  next_string : (all : List (Value A)) (names : List (List ℕ)) (k : ℕ) (v : Value A) (t : List ℕ) → k < length all → v ≡ get_or all k v → text_in (plain v) ≡ Some t
      → map plain all ≡ map plains.string names ++ map plain (drop k all) → map plain all ≡ map plains.string (names ++ t ∷ []) ++ map plain (drop (k + 1) all)
  next_string all names k v t inside there is so_far =
      so_far
      ∙ ap (λ (l : List (Value A)). map plains.string names ++ map plain l) (drop_more all k v inside ∙ ap (λ (x : Value A). x ∷ drop (k + 1) all) (sym there))
      ∙ ap (λ (p : Plain). map plains.string names ++ p ∷ map plain (drop (k + 1) all)) (string_from (plain v) t is)
      ∙ behind_one names t (map plain (drop (k + 1) all))

  pub one_seen : (all : List (Value A)) (k : ℕ) (v : Value A) (t : List ℕ) → k < length all → v ≡ get_or all k v → text_in (plain v) ≡ Some t → StringsBefore all (drop k all)
      → StringsBefore all (drop (k + 1) all)
  one_seen all k v t inside there is (names, so_far) = (names ++ t ∷ [], next_string all names k v t inside there is so_far)

  all_seen_by : (all rest : List (Value A)) → rest ≡ [] → StringsBefore all rest → AreNames (Some (plains.array (items_of (map plain all))))
  all_seen_by all rest none (names, so_far) =
      let whole : map plain all ≡ map plains.string names = so_far ∙ ap (λ (l : List (Value A)). map plains.string names ++ map plain l) none ∙ append-nil (map plains.string names) in
      (names, ap (λ (l : List Plain). Some (plains.array (items_of l))) whole)

  pub all_seen : (all : List (Value A)) (k : ℕ) → length all ≤ k → StringsBefore all (drop k all) → AreNames (Some (plains.array (items_of (map plain all))))
  all_seen all k end so_far = all_seen_by all (drop k all) (drop_all k all end) so_far

  pub other_seen : (all : List (Value A)) (k : ℕ) (v : Value A) → k < length all → v ≡ get_or all k v → StringsBefore all (drop k all) → text_in (plain v) ≡ None
      → AreNoNames (Some (plains.array (items_of (map plain all))))
  other_seen all k v inside there (names, so_far) other =
      one_no_string all names v (drop (k + 1) all)
      (so_far ∙ ap (λ (l : List (Value A)). map plains.string names ++ map plain l) (drop_more all k v inside ∙ ap (λ (x : Value A). x ∷ drop (k + 1) all) (sym there))) other

  -- the names so far, and the values that are left
  abbrev pub NamedBefore : List (Value A) → List (String A) → List (Value A) → Type 0
  NamedBefore all names rest = map plain all ≡ map plains.string (names_of names) ++ map plain rest

  names_grown : (names : List (String A)) (s : String A) → names_of (names ++ s ∷ []) ≡ names_of names ++ chars_of s ∷ []
  names_grown [] s = refl
  names_grown (n ∷ names) s = ap (λ (l : List (List ℕ)). chars_of n ∷ l) (names_grown names s)

  pub one_more : (all : List (Value A)) (names more : List (String A)) (s : String A) (k : ℕ) (v : Value A) (t : List ℕ) → k < length all → v ≡ get_or all k v → text_in (plain v) ≡ Some t
      → chars_of s ≡ t → more ≡ names ++ s ∷ [] → NamedBefore all names (drop k all) → NamedBefore all more (drop (k + 1) all)
  one_more all names more s k v t inside there is same grown so_far =
      next_string all (names_of names) k v t inside there is so_far
      ∙ ap (λ (l : List (List ℕ)). map plains.string l ++ map plain (drop (k + 1) all))
      (sym (ap names_of grown ∙ names_grown names s ∙ ap (λ (c : List ℕ). names_of names ++ c ∷ []) same))

  all_named_by : (all rest : List (Value A)) (names : List (String A)) → rest ≡ [] → NamedBefore all names rest → plains.array (items_of (map plain all)) ≡ strings (names_of names)
  all_named_by all rest names none so_far =
      ap (λ (l : List Plain). plains.array (items_of l))
      (so_far ∙ ap (λ (l : List (Value A)). map plains.string (names_of names) ++ map plain l) none ∙ append-nil (map plains.string (names_of names)))

  pub all_named : (all : List (Value A)) (names : List (String A)) (k : ℕ) → length all ≤ k → NamedBefore all names (drop k all) → plains.array (items_of (map plain all)) ≡ strings (names_of names)
  all_named all names k end so_far = all_named_by all (drop k all) names (drop_all k all end) so_far

  pub not_all : (all : List (Value A)) (names : List (String A)) (k : ℕ) (v : Value A) → k < length all → v ≡ get_or all k v → text_in (plain v) ≡ None → NamedBefore all names (drop k all)
      → AreNoNames (Some (plains.array (items_of (map plain all))))
  not_all all names k v inside there other so_far = other_seen all k v inside there (names_of names, so_far) other

  -- a value that is no array is no list of names, and one that is has its elements
  pub another_value : (w : Option (Value A)) (v : Value A) → w ≡ Some v → items_in (plain v) ≡ None → AreNoNames (option_map plain w)
  another_value w v is other names e =
      let same : Some (plain v) ≡ Some (strings names) = sym (ap (option_map plain) is) ∙ e in
      let inner : plain v ≡ strings names = cc in
      no_array (plain v) other names inner

  pub no_value : (w : Option (Value A)) → w ≡ None → AreNoNames (option_map plain w)
  no_value w is names e = let wrong : None ≡ Some (strings names) = sym (ap (option_map plain) is) ∙ e in cc

  pub stands_for : (w : Option (Value A)) (v : Value A) (vs : Items) → w ≡ Some v → items_in (plain v) ≡ Some vs → option_map plain w ≡ Some (plains.array vs)
  stands_for w v vs is has = ap (option_map plain) is ∙ ap Some (array_from (plain v) vs has)

  pub names_of_value : (w : Option Plain) (vs : Items) (r : Result (Vec (String A) A) (Fault A)) → w ≡ Some (plains.array vs) → IfOk r (λ names. plains.array vs ≡ strings (names_of names.items))
      → IfOk r (λ names. w ≡ Some (strings (names_of names.items)))
  names_of_value w vs (Ok names) is h = is ∙ ap Some h
  names_of_value w vs (Err fault) is h = tt

  pub fault_of_value : (w : Option Plain) (vs : Items) (r : Result (Vec (String A) A) (Fault A)) → w ≡ Some (plains.array vs) → IfErr r (IsFaultOfNames (Some (plains.array vs))) → IfErr r (IsFaultOfNames w)
  fault_of_value w vs (Ok names) is h = tt
  fault_of_value w vs (Err fault) is h = subst (λ (x : Option Plain). IsFaultOfNames x fault) (sym is) h

-- what the text of a path tells of its value
module _ (path : List ℕ) (o : Options) (all : o ≡ all_on) (w : Option Plain) (d : IsDocument o (chars path) w) where
  document : IsDocument all_on (chars path) w
  document = subst (λ (p : Options). IsDocument p (chars path) w) all d

  path_by : (names : List (List ℕ)) → w ≡ Some (strings names) → IsPath path names
  path_by names is = subst (λ (x : Option Plain). IsDocument all_on (chars path) x) is document

  path_fault : {A : Type 0} (f : Fault A) → IsFaultOfNames w f → IsFaultOfPath path f
  path_fault NotNames h = (w, document, h)
  path_fault (Edit OutOfMemory) h = (h.0, path_by h.0 h.1)
  path_fault _ h = absurd h

  pub names_read : {A : Type 0} (r : Result (Vec (String A) A) (Fault A)) → IfOk r (λ names. w ≡ Some (strings (names_of names.items))) → IfOk r (λ names. IsPath path (names_of names.items))
  names_read (Ok names) h = path_by (names_of names.items) h
  names_read (Err fault) h = tt

  pub names_refused : {A : Type 0} (r : Result (Vec (String A) A) (Fault A)) → IfErr r (IsFaultOfNames w) → IfErr r (IsFaultOfPath path)
  names_refused (Ok names) h = tt
  names_refused (Err fault) h = path_fault fault h
