-- Laws of reading: what is said of each text.
use Rattle.std.specs.Prelude.{ℕ, ◌≡◌, Bool, List, [], Option, None}
use Rattle.jsonc_text.specs.Gaps.{Gap}
use Rattle.jsonc_text.specs.Grammar.{IsDocument}
use Rattle.jsonc_text.specs.Plain.{Plain}
use Rattle.jsonc_text.specs.Lexemes.{LexemeKind, Lexeme}
use Rattle.jsonc_text.specs.Options.{Options}
use Rattle.jsonc_walk.specs.Reached.{Opened, Due, at, Reached, FitsIn}
use Rattle.jsonc_walk.specs.Faults.{Fault, wrong_end, HasFault}

-- s is lexemes, with a gap before each, and then t
pub data Lexemes (o : Options) (s : List ℕ) : List ℕ → Type 0 where
  none : Lexemes o s s
  more : {t u r : List ℕ} (l : LexemeKind) → Lexemes o s t → Gap o t u → Lexeme o l u r → Lexemes o s r

-- reading comes to the ends of lexemes alone
abbrev pub ReachesEndsOfLexemes : Options → Bool → List ℕ → Type 0
ReachesEndsOfLexemes o whole s = (q : List Opened) (d : Due) (t : List ℕ) → Reached o whole s (at q d t) → Lexemes o s t

-- at a place at most one stack is open, and one thing due
abbrev pub HasOneWay : Options → Bool → List ℕ → Type 0
HasOneWay o whole s = (q p : List Opened) (d e : Due) (t : List ℕ) → Reached o whole s (at q d t) → Reached o whole s (at p e t) → (q ≡ p) × (d ≡ e)

-- at most one fault is told of a text
abbrev pub HasOneFault : Options → Bool → List ℕ → Type 0
HasOneFault o whole s = (f g : Fault) → HasFault o whole s f → HasFault o whole s g → f ≡ g

-- where a fault is told, the text has no value that is small enough
abbrev pub FaultMeansNoDocument : Options → Bool → List ℕ → Type 0
FaultMeansNoDocument o whole s = (f : Fault) (v : Option Plain) → HasFault o whole s f → IsDocument o s v → FitsIn whole v → ⊥

-- the text has a value that is small enough, or none
abbrev pub HasValue : Options → Bool → List ℕ → Type 0
HasValue o whole s = (v : Option Plain) × IsDocument o s v × FitsIn whole v

-- where reading has come to the end of the text and nothing is wrong there, it is the document of such a value
abbrev pub ReadsToDocument : Options → Bool → List ℕ → Type 0
ReadsToDocument o whole s = (q : List Opened) (d : Due) (t : List ℕ) → Reached o whole s (at q d t) → Gap o t []
    → wrong_end whole q d ≡ None → HasValue o whole s

-- the only fault that is told
abbrev pub IsOnlyFault : Options → Bool → List ℕ → Fault → Type 0
IsOnlyFault o whole s f = HasFault o whole s f × ((g : Fault) → HasFault o whole s g → g ≡ f)
