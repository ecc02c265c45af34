-- What follows from which edits operations are made by.
use Rattle.std.proofs.Common.{◌≡◌, ◌∙◌, ℕ, refl, List, [], ◌∷◌, map, Option}
use Rattle.jsonc_text.specs.Documents.{Document}
use Rattle.jsonc_text.specs.Plain.{Plain}
use Rattle.jsonc_run.specs.Edits.{PlainEdit}
use Rattle.jsonc_run.specs.promise.Chains.{none_named, one_named, NamedRun}
use Rattle.jsonc_run.specs.texts.Edits.{Operation}
use Rattle.jsonc_parser.specs.patch.Applied.{IsMade}
use Rattle.jsonc_parser.specs.patch.Asked.{asked}
use Rattle.jsonc_parser.specs.patch.Laws.{AreTests}
use Rattle.jsonc_parser.specs.patch.MadeBy.{tests, IsMadeBy}
use Rattle.jsonc_parser.specs.patch.Operations as value
use Rattle.jsonc_parser.specs.patch.Operations.{none_made, one_made, LeadInOrder}
use Rattle.jsonc_parser.specs.declared.patch.operation.Operation as patch
use Rattle.jsonc_parser.specs.declared.patch.operation.Operation.TheVariants.{Add, Remove, Replace, Move, Copy, Test}

-- a test is made by no edit
by_none : {w : Option Plain} {tokens : List (List ℕ)} {v : Plain} {es : List PlainEdit} → IsMadeBy w (value.test tokens v) es → es ≡ []
by_none tests = refl

-- a chain of no edits leads nowhere
nowhere : {d e : Document} {es : List PlainEdit} {ops : List Operation} → NamedRun d es ops e → es ≡ [] → e ≡ d
nowhere (none_named one) is = refl
nowhere (one_named named asks run rest) is = cc

test_stays : {d e : Document} {tokens : List (List ℕ)} {v : Plain} → IsMade (value.test tokens v) d e → e ≡ d
test_stays made = nowhere made.edited (by_none made.own)

pub tests_stay : {A : Type 0} {d e : Document} (operations : List (patch.Operation A)) → AreTests operations → LeadInOrder IsMade (map asked operations) d e → e ≡ d
tests_stay [] are none_made = refl
tests_stay (Test path v ∷ operations) are (one_made made rest) = tests_stay operations are rest ∙ test_stays made
tests_stay (Add path v ∷ operations) are steps = absurd are
tests_stay (Remove path ∷ operations) are steps = absurd are
tests_stay (Replace path v ∷ operations) are steps = absurd are
tests_stay (Move from path ∷ operations) are steps = absurd are
tests_stay (Copy from path ∷ operations) are steps = absurd are
