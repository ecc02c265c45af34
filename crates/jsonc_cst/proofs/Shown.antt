-- A parsed tree shows the document of its text.
use Rattle.std.proofs.Common.{◌≡◌, ℕ, List, Option, ap, chars, refl}
use Rattle.jsonc_text.specs.Options.{Options}
use Rattle.jsonc_text.specs.Plain.{Plain}
use Rattle.jsonc_tree.specs.OrderedTree.{OrderedTree, printed}
use Rattle.jsonc_tree.specs.Values.{DocumentValueOf}
use Rattle.jsonc_sound.specs.Lines.{DocumentLinesEnd}
use Rattle.jsonc_sound.specs.Shape.{DocumentShaped}
use Rattle.jsonc_sound.proofs.LooseLines.{document_loosens}
use Rattle.jsonc_sound.specs.Documents.{document_of, ShowsText}

pub shows_parsed : (o : Options) (text : List ℕ) (w : Option Plain) {t : OrderedTree} → printed t ≡ text → DocumentShaped o t → DocumentLinesEnd t → DocumentValueOf o t w → ShowsText o (chars text) t
shows_parsed o text w {t = t} same shaped lines value =
    (document_of o t w, refl, ap chars same, record { sound = record { shaped = shaped; lines = document_loosens lines }; value = value; is = refl })
