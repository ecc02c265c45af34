-- What is inserted into an object, or what is ensured in it, is one step, of the edit that the call is.
use Rattle.std.proofs.Common.{◌≡◌, ℕ, List, length, Option, ap}
use Rattle.jsonc_text.specs.Plain.{Plain}
use Rattle.jsonc_tree.specs.Content as content
use Rattle.jsonc_tree.specs.Tree.{Node, content_at, IsTree}
use Rattle.jsonc_layout.specs.nodes.Siblings.{elements_at}
use Rattle.jsonc_layout.specs.from_input.Texts.{IsCharacters, IsOfTexts}
use Rattle.jsonc_edit.specs.Paths.{IsAt}
use Rattle.jsonc_insert.specs.members.Inserted.{PropertyPut}
use Rattle.jsonc_text.specs.declared.edit.Over.{Over}
use Rattle.jsonc_text.specs.declared.edit.Shape.{Shape}
use Rattle.jsonc_insert.specs.named.Named.{NamedEnsured}
use Rattle.jsonc_layout.specs.lines.Kinds.{is_array_or_object}
use Rattle.jsonc_run.specs.Edits.{insert_property, append_property, ensure_property}
use Rattle.jsonc_edit.proofs.lemmas.commas.Holders.{holder_path}
use Rattle.jsonc_run.proofs.lemmas.promise.NodePlaces.{made_step}
use Rattle.jsonc_cst.specs.objects.Members.{IsAppendingNamed, IsInsertingNamed}
use Rattle.jsonc_cst.specs.objects.Named.{IsEnsuringNamed}

module _ (old new : List Node) (tree : IsTree old) (after : IsTree new) (c : ℕ) (name : List ℕ) (named : IsCharacters name) (is : content_at old c ≡ content.object) where
  pub inserted_step : (i m : ℕ) (v : Plain) → IsOfTexts v → PropertyPut old new c i name v m → IsInsertingNamed old new c i name v
  inserted_step i m v texts put =
      made_step old new tree after IsAt (λ path. insert_property path i name v) c (λ path. (named, texts)) (λ o sound over. holder_path o old tree sound c over (ap is_array_or_object is)) (λ path over at. (c, (at, is), (m, put)))

  pub appended_step : (m : ℕ) (v : Plain) → IsOfTexts v → PropertyPut old new c (length (elements_at old c)) name v m → IsAppendingNamed old new c name v
  appended_step m v texts put =
      made_step old new tree after IsAt (λ path. append_property path name v) c (λ path. (named, texts)) (λ o sound over. holder_path o old tree sound c over (ap is_array_or_object is)) (λ path over at. (c, (at, is), (m, put)))

  pub ensured_step : (shape : Shape) (how : Over) (answer : Option ℕ) → NamedEnsured shape how old new c name answer → IsEnsuringNamed old new c name shape how
  ensured_step shape how answer ensured =
      made_step old new tree after IsAt (λ path. ensure_property path name shape how) c (λ path. named) (λ o sound over. holder_path o old tree sound c over (ap is_array_or_object is)) (λ path over at. (c, (at, is), (answer, ensured)))
