-- Which copies of values take memory.
use Rattle.std.specs.Prelude.{◌≢◌, []}
use Rattle.jsonc_layout.specs.declared.input.value.CstInputValue.{CstInputValue, out-CstInputValue}
use Rattle.jsonc_layout.specs.declared.input.value.CstInputValue.TheOpen.{CstInputValue-F}

module _ {A : Type 0} where
  abbrev level_takes_memory : CstInputValue-F A (CstInputValue A) → Type 0
  level_takes_memory (CstInputValue-F.Number s) = Unit {0}
  level_takes_memory (CstInputValue-F.String s) = Unit {0}
  level_takes_memory (CstInputValue-F.Array vs) = vs.items ≢ []
  level_takes_memory (CstInputValue-F.Object ps) = ps.items ≢ []
  level_takes_memory _ = ⊥

  -- a copy of the value takes memory: it is a number, a string, or an array or object with something in it
  abbrev pub TakesMemory : CstInputValue A → Type 0
  TakesMemory v = level_takes_memory (out-CstInputValue A v)
