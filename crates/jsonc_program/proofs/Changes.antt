-- A command as a change of a file's text.
use Rattle.std.proofs.Common.{◌≡◌, List, drop, inl, subst, ℕ}
use Rattle.jsonc_text.specs.Options.{Options}
use Rattle.jsonc_engine.specs.Command.{Request}
use Rattle.jsonc_engine.specs.Fault.{IsCause}
use Rattle.jsonc_engine.specs.declared.fault.Fault.{Fault}
use Rattle.jsonc_program.specs.Mark.{mark_length}
use Rattle.jsonc_program.specs.Replacing.{IsRefused}

-- a file's text is refused as what follows its mark is
pub refused_behind : {A : Type 0} (o : Options) (request : Request) (old rest : List ℕ) → rest ≡ drop (mark_length old) old
    → (fault : Fault A) → IsCause o request rest fault → IsRefused o request old fault
refused_behind o request old rest is fault h = inl (subst (λ (r : List ℕ). IsCause o request r fault) is h)
