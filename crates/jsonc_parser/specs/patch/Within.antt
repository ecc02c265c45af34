-- What a patch makes of a document whose text is to have at most so many bytes.
use Rattle.std.specs.Prelude.{◌≡◌, ◌<◌, ◌≤◌, ◌∷◌, [], ℕ, List, length, take, Some}
use Rattle.std.specs.List.{slice_get}
use Rattle.jsonc_cst.specs.declared.cst.CstRootNode.{CstRootNode}
use Rattle.jsonc_cst.specs.Document.{printed_of}
use Rattle.jsonc_parser.specs.patch.Applied.{FailsWhatShown, MakesWhatShown}
use Rattle.jsonc_parser.specs.patch.Asked.{asked, FitsIn}
use Rattle.jsonc_parser.specs.patch.Found.{IsOfShown}
use Rattle.jsonc_parser.specs.declared.patch.apply.PatchFault.{PatchFault}
use Rattle.jsonc_parser.specs.declared.patch.making.PatchCause.{PatchCause}
use Rattle.jsonc_parser.specs.declared.patch.making.PatchCause.TheVariants as causes
use Rattle.jsonc_parser.specs.declared.patch.operation.Operation.{Operation}

module _ {A : Type 0} where
  -- the operation leads from the one document to the other
  abbrev pub LeadsTo : CstRootNode A → Operation A → CstRootNode A → Type 0
  LeadsTo old operation new = MakesWhatShown old (asked operation) (λ o. FitsIn o operation) new

  -- the operations lead from the one document to the other, each to a document whose text has at most so many bytes
  pub data StaysWithin (bytes : ℕ) : CstRootNode A → List (Operation A) → CstRootNode A → Type 0 where
    none_made : {doc : CstRootNode A} → StaysWithin bytes doc [] doc
    one_made : {old mid new : CstRootNode A} {operation : Operation A} {rest : List (Operation A)} → LeadsTo old operation mid → length (printed_of mid) ≤ bytes → StaysWithin bytes mid rest new
        → StaysWithin bytes old (operation ∷ rest) new

  -- the operation leads to a document whose text has more bytes, or is not made, for the same causes as without a bound
  abbrev pub FailsWithin : ℕ → CstRootNode A → Operation A → PatchCause A → Type 0
  FailsWithin bytes old operation causes.TooLarge = IsOfShown old (λ d. (new : CstRootNode A) × LeadsTo old operation new × (bytes < length (printed_of new)))
  FailsWithin bytes old operation cause = FailsWhatShown old (asked operation) cause

  -- The operations before the one of this number lead to a document, each to one of at most so many bytes, and there it was not made for this cause.
  pub record StopsWithin (bytes : ℕ) (old : CstRootNode A) (operations : List (Operation A)) (fault : PatchFault A) : Type 0 where
    pub next : Operation A
    pub is_next : slice_get operations fault.operation ≡ Some next
    pub reached : CstRootNode A
    pub before : StaysWithin bytes old (take fault.operation operations) reached
    pub cause : FailsWithin bytes reached next fault.cause
