-- How the members of an operation are read.
use Rattle.std.proofs.Common.{◌≡◌, ◌≢◌, ◌∙◌, inl, inr, ℕ, zero, suc, ◌+◌, ◌<◌, ◌++◌, List, [], ◌∷◌, length, get_or, take, map, chars, codes, Contains, Option, Some, None, option_map, refl, sym, ap, subst, arith, rules, IsUtf8}
use Rattle.std.proofs.lemmas.List.{map_push, take_more}
use Rattle.std.proofs.lemmas.List.Elements.{All-cons, All-nil}
use Rattle.std.proofs.lemmas.Str.{IsUtf8-from_ascii, chars-IsAscii}
use Rattle.std.specs.List.{All}
use Rattle.std.specs.Str.{IsAscii}
use Rattle.jsonc_layout.proofs.lemmas.nodes.NodeNames.{same_text}
use Rattle.jsonc_text.specs.Plain.{Plain, string, array, object, Items, item, no_items, Members}
use Rattle.jsonc_text.specs.Grammar.{IsDocument}
use Rattle.jsonc_text.specs.Options.{Options}
use Rattle.jsonc_walk.specs.Located.{items_at}
use Rattle.jsonc_ast.specs.Views.{items_located}
use Rattle.jsonc_ast.specs.Views as ast
use Rattle.jsonc_ast.specs.declared.ast.Value.{Value}
use Rattle.jsonc_edit.specs.Writing.{AreNamedOfNumbers, AreOfNumbers, IsOfNumbers}
use Rattle.jsonc_parser.specs.patch.Asked.{asked, FitsIn}
use Rattle.jsonc_parser.specs.patch.Equality.{HasMember, later_has, this_has}
use Rattle.jsonc_parser.specs.patch.Operations as value
use Rattle.jsonc_parser.specs.patch.PatchFaults.{member_name, with_source, with_value, IsFaultOfItems, IsFaultOfMembers, IsFaultOfNames, IsFaultOfOperation, IsFaultOfPatch, IsFaultOfValue, IsFirstFault, IsForText, IsWrong, Needs, of_members, this_fault, later_fault}
use Rattle.jsonc_parser.specs.patch.PatchReading.{IsNoKind}
use Rattle.jsonc_parser.specs.patch.PatchTexts.{AreOperations, no_operations, one_operation, IsNamed, IsOperation, Says}
use Rattle.jsonc_parser.specs.declared.patch.operation.Member.{Member}
use Rattle.jsonc_parser.specs.declared.patch.operation.Member.TheVariants as m
use Rattle.jsonc_parser.specs.declared.patch.operation.Operation.{Operation}
use Rattle.jsonc_parser.specs.declared.patch.operation.Operation.TheVariants as operation
use Rattle.jsonc_parser.specs.declared.patch.operation.OperationFault.{OperationFault}
use Rattle.jsonc_parser.specs.declared.patch.operation.OperationFault.TheVariants as fault
use Rattle.jsonc_parser.specs.declared.patch.reading.Kind.TheVariants as kind
use Rattle.jsonc_parser.specs.declared.patch.reading.PatchError.{PatchError}
use Rattle.jsonc_parser.specs.declared.patch.reading.PatchError.TheVariants as error

-- the names of members are their characters
pub ascii_name : (member : Member) → chars (member_name member) ≡ member_name member
ascii_name m.Op = chars-IsAscii (codes "op") (search rules)
ascii_name m.Path = chars-IsAscii (codes "path") (search rules)
ascii_name m.From = chars-IsAscii (codes "from") (search rules)
ascii_name m.Value = chars-IsAscii (codes "value") (search rules)

-- a text whose characters are these is these
ascii_text : (s t : List ℕ) → IsUtf8 s → IsAscii t → chars s ≡ t → s ≡ t
ascii_text s t u a e = same_text s t u (IsUtf8-from_ascii t a) (e ∙ sym (chars-IsAscii t a))

pub text_is : (s t : List ℕ) → s ≡ t → IsAscii t → chars s ≡ t
text_is s t e a = ap chars e ∙ chars-IsAscii t a

pub no_kind : (s : List ℕ) → IsUtf8 s → s ≢ codes "add" → s ≢ codes "remove" → s ≢ codes "replace" → s ≢ codes "move" → s ≢ codes "copy" → s ≢ codes "test" → IsNoKind (chars s)
no_kind s u a r p m c t kind.Add e = a (ascii_text s (codes "add") u (search rules) e)
no_kind s u a r p m c t kind.Remove e = r (ascii_text s (codes "remove") u (search rules) e)
no_kind s u a r p m c t kind.Replace e = p (ascii_text s (codes "replace") u (search rules) e)
no_kind s u a r p m c t kind.Move e = m (ascii_text s (codes "move") u (search rules) e)
no_kind s u a r p m c t kind.Copy e = c (ascii_text s (codes "copy") u (search rules) e)
no_kind s u a r p m c t kind.Test e = t (ascii_text s (codes "test") u (search rules) e)

-- what is no string is wrong for a member that is one
pub wrong_kind : (member : Member) (v : Plain) → IsForText member → ((s : List ℕ) → v ≢ string s) → IsWrong member v
wrong_kind m.Op v t h = λ name e among. h name e
wrong_kind m.Path v t h = h
wrong_kind m.From v t h = h
wrong_kind m.Value v t h = absurd t

-- the names of kinds
no_kind_in : (name : List ℕ) → IsNoKind name → Contains (codes "remove" ∷ with_value ++ with_source) name → ⊥
no_kind_in name h (zero, l, e) = h kind.Remove (sym e)
no_kind_in name h (suc zero, l, e) = h kind.Add (sym e)
no_kind_in name h (suc (suc zero), l, e) = h kind.Replace (sym e)
no_kind_in name h (suc (suc (suc zero)), l, e) = h kind.Test (sym e)
no_kind_in name h (suc (suc (suc (suc zero))), l, e) = h kind.Move (sym e)
no_kind_in name h (suc (suc (suc (suc (suc zero)))), l, e) = h kind.Copy (sym e)
no_kind_in name h (suc (suc (suc (suc (suc (suc k))))), l, e) = absurd (omega (arith, l))

pub no_operation : (name : List ℕ) → IsNoKind name → IsWrong m.Op (string name)
no_operation name h = λ other e among. (let same : name ≡ other = cc in no_kind_in name h (subst (Contains (codes "remove" ∷ with_value ++ with_source)) (sym same) among))

module _ (ms : Members) where
  -- what operations of a name need
  pub needs_value : (i : ℕ) (name : List ℕ) → i < 3 → get_or with_value i name ≡ name → IsNamed name ms → Needs m.Value ms
  needs_value i name l e h = (name, (i, l, e), h)

  pub needs_source : (i : ℕ) (name : List ℕ) → i < 2 → get_or with_source i name ≡ name → IsNamed name ms → Needs m.From ms
  needs_source i name l e h = (name, (i, l, e), h)

module _ {A : Type 0} (ms : Members) where
  -- a value's fault is one of the members
  pub fault_of_operand : (v : Plain) (e : OperationFault A) → Needs m.Value ms → HasMember (codes "value") v ms → IsFaultOfValue v e → IsFaultOfMembers ms e
  fault_of_operand v (fault.RepeatedName name) needs has h = inr (v, (needs, has), h)
  fault_of_operand v fault.OutOfMemory needs has h = tt
  fault_of_operand v fault.NotAnObject needs has h = absurd h
  fault_of_operand v (fault.Missing m) needs has h = absurd h
  fault_of_operand v (fault.Wrong m) needs has h = absurd h
  fault_of_operand v (fault.Pointer m e) needs has h = absurd h

  -- and so is that of names
  pub fault_of_members : (e : OperationFault A) → IsFaultOfNames ms e → IsFaultOfMembers ms e
  fault_of_members (fault.RepeatedName name) h = inl h
  fault_of_members fault.OutOfMemory h = tt
  fault_of_members fault.NotAnObject h = absurd h
  fault_of_members (fault.Missing m) h = absurd h
  fault_of_members (fault.Wrong m) h = absurd h
  fault_of_members (fault.Pointer m e) h = absurd h

module _ {A : Type 0} where
  abbrev items : List (Value A) → Items
  items vs = items_at (items_located vs)

  -- one more operation
  pub one_more : (vs : List (Value A)) (os : List value.Operation) (v : Value A) (o : value.Operation) → AreOperations (items vs) os → IsOperation (ast.plain v) o → AreOperations (items (vs ++ v ∷ [])) (os ++ o ∷ [])
  one_more [] [] v o no_operations h = one_operation h no_operations
  one_more [] (p ∷ os) v o k h = elim k [ ]
  one_more (w ∷ vs) [] v o k h = elim k [ ]
  one_more (w ∷ vs) (p ∷ os) v o (one_operation is rest) h = one_operation is (one_more vs os v o rest h)

  -- after operations the first follows that is none
  pub first_fault : (vs : List (Value A)) (os : List value.Operation) (i : ℕ) (v : Value A) (e : OperationFault A) → i < length vs → v ≡ get_or vs i v → AreOperations (items (take i vs)) os → IsFaultOfOperation (ast.plain v) e
      → IsFirstFault e i (items vs)
  first_fault [] os i v e l is h k = absurd (omega (arith, l))
  first_fault (w ∷ vs) os zero v e l is h k = this_fault (subst (λ x. IsFaultOfOperation (ast.plain x) e) is k)
  first_fault (w ∷ vs) [] (suc i) v e l is h k = elim h [ ]
  first_fault (w ∷ vs) (o ∷ os) (suc i) v e l is (one_operation one rest) k = later_fault one (first_fault vs os i v e (omega (arith, l)) is rest k)

  -- no memory for what is an operation
  pub no_room : (w : Plain) (o : value.Operation) → IsOperation w o → IsFaultOfOperation {A = A} w fault.OutOfMemory
  no_room w o h = subst (λ v. IsFaultOfOperation {A = A} v fault.OutOfMemory) (sym h.is) (of_members tt)

  pub fault_of_object : (w : Plain) (ms : Members) (e : OperationFault A) → w ≡ object ms → IsFaultOfMembers ms e → IsFaultOfOperation w e
  fault_of_object w ms e is h = subst (λ v. IsFaultOfOperation v e) (sym is) (of_members h)

  -- a fault of values in an array is one of the text
  pub fault_of_text : (o : Options) (bytes : List ℕ) (vs : Items) (e : PatchError A) → IsDocument o (chars bytes) (Some (array vs)) → IsFaultOfItems vs e → IsFaultOfPatch o bytes e
  fault_of_text o bytes vs (error.Operation i f) d h = (vs, d, h)
  fault_of_text o bytes vs (error.Parse f) d h = absurd h
  fault_of_text o bytes vs error.NotAnArray d h = absurd h

-- the text's value is that of its tree
pub document_is : {A : Type 0} (o : Options) (text : List ℕ) (read : Option (Value A)) (v : Value A) (p : Plain) → read ≡ Some v → ast.plain v ≡ p → IsDocument o text (option_map ast.plain read) → IsDocument o text (Some p)
document_is o text read v p e is d = subst (λ w. IsDocument o text (Some w)) is (subst (λ r. IsDocument o text (option_map ast.plain r)) e d)

-- a text whose value is no array, or that has none
pub no_value : {A : Type 0} (read : Option (Value A)) → ((v : Value A) → read ≡ Some v → ⊥) → (o : Options) (text : List ℕ) → IsDocument o text (option_map ast.plain read)
    → (w : Option Plain) × IsDocument o text w × ((vs : Items) → w ≢ Some (array vs))
no_value None h o text d = (None, d, λ vs e. cc)
no_value (Some v) h o text d = absurd (h v refl)

pub no_array : {A : Type 0} (read : Option (Value A)) (v : Value A) → read ≡ Some v → ((vs : Items) → ast.plain v ≢ array vs) → (o : Options) (text : List ℕ) → IsDocument o text (option_map ast.plain read)
    → (w : Option Plain) × IsDocument o text w × ((vs : Items) → w ≢ Some (array vs))
no_array read v e h o text d = (Some (ast.plain v), subst (λ r. IsDocument o text (option_map ast.plain r)) e d, λ vs f. (let same : ast.plain v ≡ array vs = cc in h vs same))

-- operations, one value further
pub operations_so_far : {A X : Type 0} (f : X → value.Operation) (vs : List (Value A)) (done new : List X) (i : ℕ) (v : Value A) (x : X) → i < length vs → v ≡ get_or vs i v
    → AreOperations (items_at (items_located (take i vs))) (map f done) → IsOperation (ast.plain v) (f x) → new ≡ done ++ x ∷ [] → AreOperations (items_at (items_located (take (i + 1) vs))) (map f new)
operations_so_far f vs done new i v x l is h one pushed =
    subst (λ ws. AreOperations (items_at (items_located ws)) (map f new)) (sym (take_more vs i v l ∙ ap (λ w. take i vs ++ w ∷ []) (sym is)))
    (subst (AreOperations (items_at (items_located (take i vs ++ v ∷ [])))) (sym (ap (map f) pushed ∙ map_push f done x)) (one_more (take i vs) (map f done) v (f x) h one))

-- the numbers of a text's values are those of its options
module _ (o : Options) where
  member_numbers : {name : List ℕ} {v : Plain} {ms : Members} → HasMember name v ms → AreNamedOfNumbers o ms → IsOfNumbers o v
  member_numbers this_has h = h.0
  member_numbers (later_has k) h = member_numbers k h.1

  members_numbers : (w : Plain) (ms : Members) → w ≡ object ms → IsOfNumbers o w → AreNamedOfNumbers o ms
  members_numbers w ms is h = subst (IsOfNumbers o) is h

  module _ {A : Type 0} where
    said_numbers : (p : Operation A) (ms : Members) → Says ms (asked p) → AreNamedOfNumbers o ms → FitsIn o p
    said_numbers (operation.Add path v) ms h k = member_numbers h.2.0 k
    said_numbers (operation.Remove path) ms h k = tt
    said_numbers (operation.Replace path v) ms h k = member_numbers h.2.0 k
    said_numbers (operation.Move from path) ms h k = tt
    said_numbers (operation.Copy from path) ms h k = tt
    said_numbers (operation.Test path v) ms h k = tt

    pub operations_fit : (vs : Items) (ps : List (Operation A)) → AreOperations vs (map asked ps) → AreOfNumbers o vs → All (FitsIn o) ps
    operations_fit vs [] h k = All-nil (FitsIn o)
    operations_fit no_items (p ∷ ps) h k = elim h [ ]
    operations_fit (item w vs) (p ∷ ps) (one_operation is rest) k =
        All-cons (FitsIn o) p ps (said_numbers p is.members is.says (members_numbers w is.members is.is k.0)) (operations_fit vs ps rest k.1)
