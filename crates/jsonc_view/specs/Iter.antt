-- What an iterator over a view has left.
use Rattle.std.specs.Prelude.{ℕ, List, chars}
use Rattle.std.specs.Borrow.{Bor}
use Rattle.jsonc_text.specs.Plain.{Plain}
use Rattle.jsonc_view.specs.declared.view.ViewValue.{ViewValue}
use Rattle.jsonc_view.specs.declared.view.iter.ViewElements.{ViewElements}
use Rattle.jsonc_view.specs.declared.view.iter.ViewProperties.{ViewProperties}
use Rattle.jsonc_view.specs.Lists.{list_of, pairs_of}
use Rattle.jsonc_view.specs.Views.{plain}

module _ {A : Type 0} where
  abbrev pub elements_left : ViewElements A → List Plain
  elements_left it = list_of it.shown.0

  abbrev pub properties_left : ViewProperties A → List (List ℕ × Plain)
  properties_left it = pairs_of it.shown.0

  -- the name and the plain value of a property
  abbrev pub named : Bor (List ℕ) × ViewValue A → List ℕ × Plain
  named p = (chars p.0.now, plain p.1)
