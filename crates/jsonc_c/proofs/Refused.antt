-- Why a call did not do what was asked.
use Rattle.std.proofs.Common.{◌≡◌, ◌≤◌, ◌⊎◌, ℕ, List, arith, inl, inr, subst}
use Rattle.std.specs.declared.alloc.Global.{Global}
use Rattle.jsonc_text.specs.Options.{Options}
use Rattle.jsonc_engine.specs.Command.{Request}
use Rattle.jsonc_engine.specs.Fault.{IsCause}
use Rattle.jsonc_engine.specs.declared.fault.Fault.{Fault}
use Rattle.jsonc_c.specs.Commands.{IsRefused}
use Rattle.jsonc_c.specs.Told.{IsTold}
use Rattle.jsonc_c.specs.declared.fault.JsoncFault.{JsoncFault}

-- a fault of the engine was told, under the options and of the words that were read
pub refused_so : (o p : Options) (asked want : Request) (text : List ℕ) (told : Fault Global) (status : ℕ) (f : JsoncFault) → o ≡ p → asked ≡ want → IsCause o asked text told → (status ≡ 1) ⊎ IsTold told status f → 2 ≤ status → IsRefused p want text status f
refused_so o p asked want text told status f same read cause (inl one) some = absurd (omega (arith, one, some))
refused_so o p asked want text told status f same read cause (inr is) some =
    (told, subst (λ (r : Request). IsCause p r text told) read (subst (λ (q : Options). IsCause q asked text told) same cause), is)
