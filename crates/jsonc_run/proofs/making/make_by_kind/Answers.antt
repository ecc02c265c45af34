use Rattle.std.proofs.Common.{◌≡◌, List, ℕ, true, false, ap, chars, sym, subst}
use Rattle.jsonc_layout.specs.input.Views.{plain}
use Rattle.jsonc_run.specs.Edits.{is_sort, operation_of, unsorted, append_property, ensure_property, insert_comment, insert_property, rename_property, set_value}
use Rattle.jsonc_run.specs.Refusals.{IsAnswer}
use Rattle.jsonc_run.proofs.EditsMade.{made_with}
use Rattle.jsonc_run.proofs.making.make_by_kind.Goals as goal

pub returns-in-SetValue : goal.returns-in-SetValue
returns-in-SetValue g c =
    let Made : List ℕ → Type 0 = λ path. IsAnswer c.args.tree.now.nodes c.set_value_at.new.tree.nodes (set_value path (plain c.in-SetValue.value)) c.set_value_at.result in
    let given : Made c.in-SetValue.path.items = subst Made c.deref-in-SetValue.ensures.value c.set_value_at.ensures in
    subst (λ e. IsAnswer c.args.tree.now.nodes c.set_value_at.new.tree.nodes (operation_of unsorted e) c.set_value_at.result) (sym c.in-SetValue.is) given

pub returns-in-InsertProperty : goal.returns-in-InsertProperty
returns-in-InsertProperty g c =
    made_with (λ path text. insert_property path c.in-InsertProperty.index (chars text) (plain c.in-InsertProperty.value)) _ _ _ c.deref-in-InsertProperty.ensures.value c.deref-in-InsertProperty-2.ensures (ap (operation_of unsorted) c.in-InsertProperty.is) c.insert_property_at.ensures

pub returns-in-AppendProperty : goal.returns-in-AppendProperty
returns-in-AppendProperty g c =
    made_with (λ path text. append_property path (chars text) (plain c.in-AppendProperty.value)) _ _ _ c.deref-in-AppendProperty.ensures.value c.deref-in-AppendProperty-2.ensures (ap (operation_of unsorted) c.in-AppendProperty.is) c.append_property_at.ensures

pub returns-in-EnsureProperty : goal.returns-in-EnsureProperty
returns-in-EnsureProperty g c =
    made_with (λ path text. ensure_property path (chars text) c.in-EnsureProperty.shape c.in-EnsureProperty.over) _ _ _ c.deref-in-EnsureProperty.ensures.value c.deref-in-EnsureProperty-2.ensures (ap (operation_of unsorted) c.in-EnsureProperty.is) c.ensure_property_at.ensures

pub returns-in-RenameProperty : goal.returns-in-RenameProperty
returns-in-RenameProperty g c =
    made_with (λ path text. rename_property path (chars text)) _ _ _ c.deref-in-RenameProperty.ensures.value c.deref-in-RenameProperty-2.ensures (ap (operation_of unsorted) c.in-RenameProperty.is) c.rename_at.ensures

pub returns-in-InsertComment : goal.returns-in-InsertComment
returns-in-InsertComment g c =
    made_with (λ path text. insert_comment path c.in-InsertComment.place text) _ _ _ c.deref-in-InsertComment.ensures.value c.deref-in-InsertComment-2.ensures (ap (operation_of unsorted) c.in-InsertComment.is) c.insert_comment_at.ensures

pub unreachable-requires : goal.unreachable-requires
unreachable-requires g c =
    let wrong : true ≡ false = subst (λ e. is_sort e ≡ false) c.in-Sort.is c.requires.unsorted in
    cc
