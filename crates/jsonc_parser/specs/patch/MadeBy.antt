-- By which edits of a document an operation of a patch is made.
use Rattle.std.specs.Prelude.{ℕ, List, [], ◌∷◌, ◌++◌, Option}
use Rattle.jsonc_text.specs.Plain.{Plain, array, object, Items, Members}
use Rattle.jsonc_run.specs.Edits as edit
use Rattle.jsonc_run.specs.Edits.{PlainEdit}
use Rattle.jsonc_parser.specs.patch.Operations.{add, remove, replace, move, copy, test, Operation, IsWithinObject, LeadsElsewhere, RefersAlong, Removes}
use Rattle.jsonc_parser.specs.patch.References.{IsIndex, RefersTo, ReferToNothing}

-- The one edit that adds v where the tokens lead in a document of the value w, at the positions that they lead over. It becomes the document's value; or in the array that the
-- tokens before the last refer to it is inserted, or with `-` appended; or it is appended to the object as a property, where none has the name; or it takes the place of the
-- value of the property that has it.
pub data IsAddedBy (w : Option Plain) (v : Plain) : List (List ℕ) → PlainEdit → Type 0 where
  as_root : IsAddedBy w v [] (edit.set_root v)
  at_index : {tokens : List (List ℕ)} {token path : List ℕ} {i : ℕ} {vs : Items} → RefersAlong w tokens path (array vs) → IsIndex token i
      → IsAddedBy w v (tokens ++ token ∷ []) (edit.insert_element path i v)
  at_end : {tokens : List (List ℕ)} {path : List ℕ} {vs : Items} → RefersAlong w tokens path (array vs) → IsAddedBy w v (tokens ++ (0x2D ∷ []) ∷ []) (edit.append_element path v)
  as_property : {tokens : List (List ℕ)} {path : List ℕ} {ms : Members} (name : List ℕ) → RefersAlong w tokens path (object ms) → ReferToNothing w (tokens ++ name ∷ [])
      → IsAddedBy w v (tokens ++ name ∷ []) (edit.append_property path name v)
  as_value : {tokens : List (List ℕ)} {path : List ℕ} {ms : Members} {x : Plain} (name : List ℕ) → RefersTo w tokens (object ms) → RefersAlong w (tokens ++ name ∷ []) path x
      → IsAddedBy w v (tokens ++ name ∷ []) (edit.replace path v)

-- The edits that make the operation in a document of the value w. A test has none, and what is removed, replaced, added or copied has one. What is moved to its own place is not
-- touched, and what is moved within its object to a name that no other has gets this name. Else it is removed, and added to what is left.
pub data IsMadeBy (w : Option Plain) : Operation → List PlainEdit → Type 0 where
  tests : {tokens : List (List ℕ)} {v : Plain} → IsMadeBy w (test tokens v) []
  removes : {tokens : List (List ℕ)} {path : List ℕ} {x : Plain} → RefersAlong w tokens path x → IsMadeBy w (remove tokens) (edit.remove path ∷ [])
  replaces : {tokens : List (List ℕ)} {path : List ℕ} {x v : Plain} → RefersAlong w tokens path x → IsMadeBy w (replace tokens v) (edit.replace path v ∷ [])
  adds : {tokens : List (List ℕ)} {v : Plain} {e : PlainEdit} → IsAddedBy w v tokens e → IsMadeBy w (add tokens v) (e ∷ [])
  copies : {from to : List (List ℕ)} {x : Plain} {e : PlainEdit} → RefersTo w from x → IsAddedBy w x to e → IsMadeBy w (copy from to) (e ∷ [])
  stays : {tokens : List (List ℕ)} → IsMadeBy w (move tokens tokens) []
  renames : {from to : List (List ℕ)} {path : List ℕ} {x : Plain} (beside : IsWithinObject from to w) → RefersAlong w from path x
      → IsMadeBy w (move from to) (edit.rename_property path beside.name ∷ [])
  moves : {from to : List (List ℕ)} {path : List ℕ} {x : Plain} {u : Option Plain} {e : PlainEdit} → LeadsElsewhere from to → ¬ (IsWithinObject from to w) → RefersAlong w from path x
      → Removes from w u → IsAddedBy u x to e → IsMadeBy w (move from to) (edit.remove path ∷ e ∷ [])
