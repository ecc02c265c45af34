-- What a crash may leave at any moment of a call, and after it.
use Rattle.std.specs.Prelude.{◌≡◌, ◌⊎◌, ℕ, List, [], ◌∷◌, IfSome}
use Rattle.jsonc_files.specs.Calls.{Event}
use Rattle.jsonc_files.specs.System.{start, state, text_now, MayLeave}

-- what a crash may leave before the first of these calls, in or after one of them, or now
abbrev pub MayHaveLeft : List ℕ → List Event → List ℕ → Type 0
MayHaveLeft before [] c = MayLeave before start c
MayHaveLeft before (call ∷ earlier) c = MayLeave before (state (call ∷ earlier)) c ⊎ MayHaveLeft before earlier c

-- the text from before the calls is the one that was read, where one was
abbrev pub AgreesWithRead : List ℕ → List Event → Type 0
AgreesWithRead before calls = IfSome (state calls).read (λ bytes. bytes ≡ before)

-- the name has this text, and a crash leaves nothing else
pub record Has (before : List ℕ) (calls : List Event) (text : List ℕ) : Type 0 where
  pub now : text_now before (state calls) ≡ text
  pub crash : (c : List ℕ) → MayLeave before (state calls) c → c ≡ text
